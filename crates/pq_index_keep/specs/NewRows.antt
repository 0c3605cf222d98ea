-- The tests of a row that is to stand in its table, and the refusals that they tell.
use Rattle.std.specs.Prelude.{◌≡◌, ℕ, List, Option, None, position, IfSome, IfNone}
use Rattle.pq_base.specs.Answers.{or_else}
use Rattle.pq_base.specs.declared.refusal.Refusal.{Refusal}
use Rattle.pq_base.specs.declared.value.Value.{Value}
use Rattle.pq_content.specs.Pairs.{Pair, HoldsRows}
use Rattle.pq_content.specs.Tables.{Rows}
use Rattle.pq_schema.specs.Tables.{table_at}
use Rattle.pq_schema.specs.declared.table.Table.{Table}
use Rattle.pq_store.specs.Content.{Content}
use Rattle.pq_store.specs.Rounds.{is_held}
use Rattle.pq_store.specs.declared.store.Test.{Test}
use Rattle.pq_index_keep.specs.Asking.{own_refusal, row_tests}
use Rattle.pq_index_keep.specs.Checking.{long_refusal}
use Rattle.pq_index_keep.specs.Effects.{parent_refusal, room_refusal}
use Rattle.pq_index_keep.specs.Promises.{IsTested}
use Rattle.pq_index_keep.specs.declared.write.NewRow.{NewRow}

-- its tests, without that of its own key
abbrev pub tests_of : NewRow → List Test
tests_of new = row_tests new.scope.now new.old.now new.number new.table.now new.row.now

-- the first refusal by a foreign key, or else by a limit
abbrev pub refusal_of : NewRow → List Table → Rows → Option Refusal
refusal_of new tables rows =
    or_else (parent_refusal tables rows new.scope.now new.table.now new.row.now)
    (room_refusal rows new.scope.now new.old.now new.number new.table.now new.row.now)

-- behind that of its own key, where this is asked for
abbrev pub refusal_behind : List Test → NewRow → List Table → Rows → Option Refusal
refusal_behind own new tables rows =
    or_else (own_refusal tables rows new.number new.table.now new.row.now own) (refusal_of new tables rows)

-- behind that of a code that is too long
abbrev pub update_refusal_of : NewRow → List Table → Rows → Option Refusal
update_refusal_of new tables rows = or_else (long_refusal new.table.now new.row.now) (refusal_of new tables rows)

-- what isn't refused passes these tests in what the store tells
abbrev pub NoneHolds : Option Content → List Test → Option Refusal → Type 0
NoneHolds told tests found = IfNone found (IfSome told (λ c. position (is_held c) tests ≡ None))

-- over all rows that the content stands for, whose table it is and by which the row can be tested, this is found
abbrev pub IsRefusedAs : Option Content → ℕ → Table → List Value → (List Table → Rows → Option Refusal) → Option Refusal
    → Type 0
IsRefusedAs told t table row refusal found = (tables : List Table) (rows : Rows) (others : List Pair)
    → HoldsRows told tables rows others → table ≡ table_at tables t → IsTested tables table row
    → found ≡ refusal tables rows
