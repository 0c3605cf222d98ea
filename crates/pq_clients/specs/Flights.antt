-- A write at hand, and what its steps take: the keys of its pairs, the tests, and the refusals.
use Rattle.std.specs.Prelude.{◌≡◌, ℕ, ◌+◌, Bool, true, false, not, ◌&&◌, ◌==◌, List, [], ◌∷◌, ◌++◌, map, filter, Option, Some, None, if◌then◌else◌, option_map, option_and_then, IfSome}
use Rattle.std.specs.List.{list_any}
use Rattle.std.specs.Ordering.{eq_by_cmp}
use Rattle.pq_base.specs.declared.refusal.Refusal.{Refusal}
use Rattle.pq_base.specs.declared.value.Value.{Value}
use Rattle.pq_base.specs.Values.{has_null}
use Rattle.pq_key_code.specs.KeyCode.{row_key}
use Rattle.pq_schema.specs.declared.table.Foreign.{Foreign}
use Rattle.pq_schema.specs.declared.table.Limit.{Limit}
use Rattle.pq_schema.specs.declared.table.Table.{Table}
use Rattle.pq_schema.specs.Tables.{table_at}
use Rattle.pq_content.specs.Pairs.{entries_from}
use Rattle.pq_content.specs.Tables.{cells, key_of, stored_code}
use Rattle.pq_store.specs.Content.{key_cmp}
use Rattle.pq_index_keep.specs.declared.write.Cond.{Cond}
use Rattle.pq_index_keep.specs.declared.write.SetCol.{SetCol}
use Rattle.pq_index_keep.specs.declared.write.Write.{Write}
use Rattle.pq_index_keep.specs.declared.write.Write.TheVariants as write
use Rattle.pq_index_keep.specs.Effects.{stays, no_parent, referenced_refusal, no_room, limit_at, held_refusal}
use Rattle.pq_row_keys.specs.Groups.{group_key}
use Rattle.pq_index_keep.specs.Tested.{touches, scope_of, with_sets}
use Rattle.pq_clients.specs.Held.{decoded_row}

-- ---- writes

-- the number of the write's table
abbrev pub table_number : Write → ℕ
table_number (write.Insert t row) = t
table_number (write.Update t key sets conds) = t
table_number (write.Delete t key conds) = t

abbrev pub table_of : List Table → Write → Table
table_of tables w = table_at tables (table_number w)

-- the key of the row that it writes
abbrev pub key_written : List Table → Write → List Value
key_written tables (write.Insert t row) = key_of (table_at tables t) row
key_written tables (write.Update t key sets conds) = key
key_written tables (write.Delete t key conds) = key

-- the key of this row's pair
unfoldable pub pair_key : List Table → Write → List ℕ
pair_key tables w = row_key (table_number w) (key_written tables w)

-- the row that it makes of the one that it found, or none
abbrev pub row_made : Write → Option (List Value) → Option (List Value)
row_made (write.Insert t row) old = Some row
row_made (write.Update t key sets conds) old = option_map (with_sets sets) old
row_made (write.Delete t key conds) old = None

-- the columns that it sets, and the conditions that it has
abbrev pub sets_of : Write → List SetCol
sets_of (write.Insert t row) = []
sets_of (write.Update t key sets conds) = sets
sets_of (write.Delete t key conds) = []

abbrev pub conds_of : Write → List Cond
conds_of (write.Insert t row) = []
conds_of (write.Update t key sets conds) = conds
conds_of (write.Delete t key conds) = conds

-- why the row that is there refuses it: by the first condition that doesn't hold, or else by the first ADD without a sum
abbrev pub row_refusal : List Table → Write → List Value → Option Refusal
row_refusal tables w row = held_refusal (table_of tables w) (sets_of w) (conds_of w) row

-- whether it gives one of the columns a value
abbrev pub gives : Write → List ℕ → Bool
gives (write.Insert t row) cols = true
gives (write.Update t key sets conds) cols = touches (scope_of sets) cols
gives (write.Delete t key conds) cols = false

-- whether it tests what the row that it makes has at some columns: it gives one of them a value, and none is NULL
abbrev pub is_tested : Write → List Value → List ℕ → Bool
is_tested w row cols = gives w cols && not (has_null (cells cols row))

-- ---- a write at hand

-- the write and what its read answered: the code of the row present then, or none
pub record Flight : Type 0 where
  pub write : Write
  pub read : Option (List ℕ)

abbrev pub flight_table : List Table → Flight → Table
flight_table tables f = table_of tables f.write

abbrev pub flight_key : List Table → Flight → List ℕ
flight_key tables f = pair_key tables f.write

-- the row that was read, and the row that is to be put
unfoldable pub old_row : List Table → Flight → Option (List Value)
old_row tables f = option_and_then (decoded_row (flight_table tables f)) f.read

unfoldable pub new_row : List Table → Flight → Option (List Value)
new_row tables f = row_made f.write (old_row tables f)

-- the row that was read, where there is one, doesn't refuse the write
abbrev pub IsGranted : List Table → Flight → Type 0
IsGranted tables f = IfSome (old_row tables f) (λ row. row_refusal tables f.write row ≡ None)

-- the code of the row that is to be put
unfoldable pub new_code : List Table → Flight → Option (List ℕ)
new_code tables f = option_map (stored_code (flight_table tables f)) (new_row tables f)

-- ---- entries

-- the keys of a row's entries
unfoldable pub entry_keys : ℕ → Table → List Value → List (List ℕ)
entry_keys t table row = map (λ pair. pair.0) (entries_from t 1 table table.indexes row)

abbrev pub keys_of_row : ℕ → Table → Option (List Value) → List (List ℕ)
keys_of_row t table None = []
keys_of_row t table (Some row) = entry_keys t table row

unfoldable pub old_entries : List Table → Flight → List (List ℕ)
old_entries tables f = keys_of_row (table_number f.write) (flight_table tables f) (old_row tables f)

unfoldable pub new_entries : List Table → Flight → List (List ℕ)
new_entries tables f = keys_of_row (table_number f.write) (flight_table tables f) (new_row tables f)

-- whether a key is among some keys
abbrev pub has_entry : List ℕ → List (List ℕ) → Bool
has_entry q keys = list_any (eq_by_cmp key_cmp q) keys

-- those of the keys that are not among the others
abbrev pub left_out : List (List ℕ) → List (List ℕ) → List (List ℕ)
left_out keys others = filter (λ q. not (has_entry q others)) keys

-- the entries that the new row has and the old one has not, and the other way round
abbrev pub fresh_entries : List Table → Flight → List (List ℕ)
fresh_entries tables f = left_out (new_entries tables f) (old_entries tables f)

abbrev pub stale_entries : List Table → Flight → List (List ℕ)
stale_entries tables f = left_out (old_entries tables f) (new_entries tables f)

-- ---- parents and children

-- a row that a foreign key names, by the place of the key, the row's table and the key of its pair; or the rows of a
-- table that name the row by a foreign key, by the table's number, the place of the key and the beginning of their keys
pub data Check : Type 0 where
  Parent : (place table : ℕ) (at : List ℕ) → Check
  Child : (table place : ℕ) (front : List ℕ) → Check

abbrev pub parent_checks : Write → List Value → ℕ → List Foreign → List Check
parent_checks w row place [] = []
parent_checks w row place (foreign ∷ rest) =
    if is_tested w row foreign.cols
    then Parent place foreign.table (row_key foreign.table (cells foreign.cols row))
    ∷ parent_checks w row (place + 1) rest
    else parent_checks w row (place + 1) rest

abbrev pub child_checks_of : ℕ → List Value → ℕ → Table → ℕ → List Foreign → List Check
child_checks_of t key u table place [] = []
child_checks_of t key u table place (foreign ∷ rest) =
    if foreign.table == t then Child u place (group_key u table foreign.cols key)
    ∷ child_checks_of t key u table (place + 1) rest
    else child_checks_of t key u table (place + 1) rest

-- of the tables, which are numbered from u, in order, and of their foreign keys in order
abbrev pub child_checks : ℕ → List Value → ℕ → List Table → List Check
child_checks t key u [] = []
child_checks t key u (table ∷ rest) =
    child_checks_of t key u table 0 table.foreign ++ child_checks t key (u + 1) rest

abbrev pub checks_of : List Table → Write → Option (List Value) → List Check
checks_of tables w (Some row) = parent_checks w row 0 (table_of tables w).foreign
checks_of tables w None = child_checks (table_number w) (key_written tables w) 1 tables

unfoldable pub flight_checks : List Table → Flight → List Check
flight_checks tables f = checks_of tables f.write (new_row tables f)

-- why a write is refused that doesn't pass
abbrev pub check_refusal : List Table → Flight → Check → Refusal
check_refusal tables f (Parent place u at) = no_parent (flight_table tables f) place
check_refusal tables f (Child u place front) = referenced_refusal (table_at tables u) place

-- ---- limits

-- the places of the limits that are tested: those with a column that is written, at whose columns the values change
abbrev pub limit_tests : Write → Option (List Value) → List Value → ℕ → List Limit → List ℕ
limit_tests w old row place [] = []
limit_tests w old row place (limit ∷ rest) =
    if is_tested w row limit.cols && not (stays old row limit.cols)
    then place ∷ limit_tests w old row (place + 1) rest
    else limit_tests w old row (place + 1) rest

abbrev pub tests_of : List Table → Flight → Option (List Value) → List ℕ
tests_of tables f None = []
tests_of tables f (Some row) =
    limit_tests f.write (old_row tables f) row 0 (flight_table tables f).limits

unfoldable pub flight_tests : List Table → Flight → List ℕ
flight_tests tables f = tests_of tables f (new_row tables f)

-- the group of a limit that a row is in: the beginning of its keys
unfoldable pub group_front : List Table → ℕ → ℕ → List Value → List ℕ
group_front tables t place row =
    group_key t (table_at tables t) (limit_at (table_at tables t) place).cols
    (cells (limit_at (table_at tables t) place).cols row)

abbrev pub front_of : List Table → ℕ → ℕ → Option (List Value) → List ℕ
front_of tables t place None = []
front_of tables t place (Some row) = group_front tables t place row

-- the beginning of the keys of the group that the new row comes into
unfoldable pub tested_front : List Table → Flight → ℕ → List ℕ
tested_front tables f place = front_of tables (table_number f.write) place (new_row tables f)

abbrev pub tested_limit : List Table → Flight → ℕ → Limit
tested_limit tables f place = limit_at (flight_table tables f) place

abbrev pub test_refusal : List Table → Flight → ℕ → Refusal
test_refusal tables f place = no_room (flight_table tables f) place
