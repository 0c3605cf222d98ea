-- The tests that a write asks for at once, and the refusal of each.
use Rattle.std.specs.Prelude.{◌≡◌, ℕ, ◌+◌, ◌-◌, ◌==◌, Bool, not, ◌&&◌, nat_lt, if◌then◌else◌, List, [], ◌∷◌, ◌++◌, filter, map, Option, None, is_some}
use Rattle.pq_base.specs.declared.refusal.Refusal.{Refusal}
use Rattle.pq_base.specs.declared.refusal.Refusal.TheVariants as refusal
use Rattle.pq_base.specs.declared.value.Value.{Value}
use Rattle.pq_base.specs.Values.{has_null}
use Rattle.pq_key_code.specs.KeyCode.{row_key, past_code}
use Rattle.pq_schema.specs.Definitions.{refused_if}
use Rattle.pq_schema.specs.declared.table.Foreign.{Foreign}
use Rattle.pq_schema.specs.declared.table.Limit.{Limit}
use Rattle.pq_schema.specs.declared.table.Table.{Table}
use Rattle.pq_content.specs.Tables.{Rows, cells, key_of, row_at}
use Rattle.pq_store.specs.declared.store.Ends.{Ends}
use Rattle.pq_store.specs.declared.store.Test.{Test}
use Rattle.pq_store.specs.declared.store.Test.TheVariants.{Has, Lacks, Full}
use Rattle.pq_row_keys.specs.Groups.{group_key}
use Rattle.pq_pending.specs.Tests.{place_among}
use Rattle.pq_index_keep.specs.declared.write.Scope.{Scope}
use Rattle.pq_index_keep.specs.Bounds.{refers}
use Rattle.pq_index_keep.specs.Effects.{stays, no_parent, no_room, referenced_refusal}
use Rattle.pq_index_keep.specs.Tested.{touches}

-- the range of the keys under which the rows of a group stand
abbrev pub group_ends : ℕ → Table → List ℕ → List Value → Ends
group_ends t table cols values =
    record { low = group_key t table cols values; high = past_code (group_key t table cols values) }

-- ---- the row's own key

-- whether it is taken is asked for at most once
abbrev pub IsOwn : ℕ → Table → List Value → List Test → Type 0
IsOwn t table row [] = Unit {0}
IsOwn t table row (test ∷ tests) = (test ≡ Has (row_key t (key_of table row))) × (tests ≡ [])

-- the refusal of a row whose key is asked for and taken
abbrev pub own_refusal : List Table → Rows → ℕ → Table → List Value → List Test → Option Refusal
own_refusal tables rows t table row [] = None
own_refusal tables rows t table row (test ∷ tests) =
    refused_if (is_some (row_at tables rows t (key_of table row))) (refusal.DuplicateKey table.name)

-- ---- foreign keys

-- it is touched and has no NULL in the row
abbrev pub asks_parent : Scope → List Value → Foreign → Bool
asks_parent of row foreign = touches of foreign.cols && not (has_null (cells foreign.cols row))

-- its row isn't there
abbrev pub parent_test : List Value → Foreign → Test
parent_test row foreign = Lacks (row_key foreign.table (cells foreign.cols row))

abbrev pub parent_tests : Scope → List Value → List Foreign → List Test
parent_tests of row foreign = map (parent_test row) (filter (asks_parent of row) foreign)

-- ---- limits

-- it is touched, and at its columns the values change and none is NULL
abbrev pub asks_room : Scope → Option (List Value) → List Value → Limit → Bool
asks_room of old row limit =
    touches of limit.cols && (not (stays old row limit.cols) && not (has_null (cells limit.cols row)))

-- n rows are in the group
abbrev pub room_test : ℕ → Table → List Value → Limit → Test
room_test t table row limit = Full (group_ends t table limit.cols (cells limit.cols row)) limit.n

abbrev pub room_tests : Scope → Option (List Value) → ℕ → Table → List Value → List Limit → List Test
room_tests of old t table row limits = map (room_test t table row) (filter (asks_room of old row) limits)

-- ---- all of a row

abbrev pub row_tests : Scope → Option (List Value) → ℕ → Table → List Value → List Test
row_tests of old t table row =
    parent_tests of row table.foreign ++ room_tests of old t table row table.limits

-- the refusal of the test at a place: of so many of the row's own key, of those of foreign keys up to another place, and
-- of those of limits
abbrev pub test_refusal : ℕ → ℕ → Scope → Option (List Value) → Table → List Value → ℕ → Refusal
test_refusal own parents of old table row at =
    if nat_lt at own then refusal.DuplicateKey table.name
    else (if nat_lt at parents then no_parent table (place_among (asks_parent of row) table.foreign (at - own))
    else no_room table (place_among (asks_room of old row) table.limits (at - parents)))

-- ---- foreign keys to a table

abbrev pub refers_to : ℕ → Foreign → Bool
refers_to t foreign = foreign.table == t

-- some row names the key by it
abbrev pub child_test : ℕ → Table → List Value → Foreign → Test
child_test u table key foreign = Full (group_ends u table foreign.cols key) 1

-- of a table that is numbered u
abbrev pub naming_tests : ℕ → List Value → ℕ → Table → List Test
naming_tests t key u table = map (child_test u table key) (filter (refers_to t) table.foreign)

-- of tables that are numbered from u
abbrev pub child_tests : ℕ → List Value → ℕ → List Table → List Test
child_tests t key u [] = []
child_tests t key u (table ∷ tables) = naming_tests t key u table ++ child_tests t key (u + 1) tables

-- the refusal of the test at a place
abbrev pub child_refusal_at : ℕ → List Table → ℕ → Refusal
child_refusal_at t [] at = refusal.NoRow []
child_refusal_at t (table ∷ tables) at =
    if nat_lt at (refers t table) then referenced_refusal table (place_among (refers_to t) table.foreign at)
    else child_refusal_at t tables (at - refers t table)
