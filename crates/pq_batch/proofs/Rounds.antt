-- How often the store is asked for the writes of a batch.
use Rattle.std.proofs.Common.{◌≡◌, ◌≤◌, ℕ, ◌+◌, ◌*◌, List, [], ◌∷◌, ap, ◌∙◌, arith}
use Rattle.std.proofs.lemmas.List.Sums.{sum_by-cons}
use Rattle.pq_schema.specs.Schema.{Schema}
use Rattle.pq_content.specs.Pairs.{Change}
use Rattle.pq_index_keep.specs.Bounds.{counted}
use Rattle.pq_index_keep.specs.Rounds.{test_rounds}
use Rattle.pq_index_keep.specs.declared.write.Write.{Write}
use Rattle.pq_index_keep.specs.declared.write.Write.TheVariants as write
use Rattle.pq_counters.specs.Whole.{whole_rounds}
use Rattle.pq_batch.specs.Batches.{batch_rounds, rounds_behind}

tests_behind : (pending : List Change) (n : ℕ) → test_rounds pending n ≤ 1 + 2 * n
tests_behind [] n = omega arith
tests_behind (change ∷ changes) n = omega arith

-- whatever is pending
pub write_behind : (pending : List Change) (schema : Schema) (w : Write) → whole_rounds pending schema w ≤ rounds_behind schema w
write_behind pending schema (write.Insert t row) =
    let few = tests_behind pending (counted schema.tables (write.Insert t row)) in
    omega (arith, few)
write_behind pending schema (write.Update t key sets conds) =
    let few = tests_behind pending (counted schema.tables (write.Update t key sets conds)) in
    omega (arith, few)
write_behind pending schema (write.Delete t key conds) =
    let few = tests_behind pending (counted schema.tables (write.Delete t key conds)) in
    omega (arith, few)

-- the first write's rounds, and those of the others
pub rounds_first : (schema : Schema) (all : List Write) (w : Write) (writes : List Write) → all ≡ w ∷ writes → batch_rounds schema all ≡ rounds_behind schema w + batch_rounds schema writes
rounds_first schema all w writes cut = ap (batch_rounds schema) cut ∙ sum_by-cons (rounds_behind schema) w writes
