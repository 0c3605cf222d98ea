-- How often a write asks the store.
use Rattle.std.specs.Prelude.{ℕ, ◌+◌, ◌*◌, List, [], ◌∷◌}
use Rattle.pq_content.specs.Pairs.{Change}
use Rattle.pq_schema.specs.declared.table.Table.{Table}
use Rattle.pq_index_keep.specs.Bounds.{counted}
use Rattle.pq_index_keep.specs.declared.write.Write.{Write}
use Rattle.pq_index_keep.specs.declared.write.Write.TheVariants as write

-- tests are asked for at once; behind pending changes so many of them may each be asked by itself, between two rounds
abbrev pub test_rounds : List Change → ℕ → ℕ
test_rounds [] alone = 1
test_rounds (change ∷ changes) alone = 1 + 2 * alone

-- an INSERT asks for its tests, an UPDATE or a DELETE first for its row
abbrev pub write_rounds : List Change → List Table → Write → ℕ
write_rounds changes tables (write.Insert t row) = test_rounds changes (counted tables (write.Insert t row))
write_rounds changes tables (write.Update t key sets conds) =
    1 + test_rounds changes (counted tables (write.Update t key sets conds))
write_rounds changes tables (write.Delete t key conds) =
    1 + test_rounds changes (counted tables (write.Delete t key conds))

-- where nothing is pending
abbrev pub alone_rounds : Write → ℕ
alone_rounds (write.Insert t row) = 1
alone_rounds (write.Update t key sets conds) = 2
alone_rounds (write.Delete t key conds) = 2
