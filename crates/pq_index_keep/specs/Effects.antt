-- What a write makes of the rows, or the first refusal, each tested on the rows as a list.
use Rattle.std.specs.Prelude.{ℕ, ◌+◌, Bool, false, not, ◌&&◌, ◌==◌, nat_le, nat_lt, List, [], ◌∷◌, length, slice_index_or, position, option_map, Option, Some, None, is_some, is_none, Result, Err}
use Rattle.pq_base.specs.Answers.{or_else}
use Rattle.pq_base.specs.declared.refusal.Refusal.{Refusal}
use Rattle.pq_base.specs.declared.refusal.Refusal.TheVariants as refusal
use Rattle.pq_base.specs.declared.value.Value.{Value}
use Rattle.pq_base.specs.Values.{has_null}
use Rattle.std.specs.List.{find}
use Rattle.pq_schema.specs.ColumnNames.{names_of}
use Rattle.pq_schema.specs.Definitions.{refused_if, or_ok}
use Rattle.pq_schema.specs.declared.table.Foreign.{Foreign}
use Rattle.pq_schema.specs.declared.table.Limit.{Limit}
use Rattle.pq_schema.specs.declared.table.Table.{Table}
use Rattle.pq_schema.specs.Tables.{table_at}
use Rattle.pq_content.specs.Pairs.{Change, puts, removals, pairs_of_row, update_changes}
use Rattle.pq_content.specs.Tables.{Rows, cells, key_of, same_values, row_at, rows_without, group_of, stored_code}
use Rattle.pq_index_keep.specs.declared.write.Scope.{Scope}
use Rattle.pq_index_keep.specs.declared.write.Scope.TheVariants as scope
use Rattle.pq_index_keep.specs.declared.write.Cond.{Cond}
use Rattle.pq_index_keep.specs.declared.write.SetCol.{SetCol}
use Rattle.pq_index_keep.specs.declared.write.Write.{Write}
use Rattle.pq_index_keep.specs.declared.write.Write.TheVariants as write
use Rattle.pq_index_keep.specs.Tested.{touches, scope_of, set_value, with_sets, holds_of}
use Rattle.pq_schema.specs.Candidates.{no_limit}

-- ---- foreign keys of the table

-- the row that the foreign key names is not there
abbrev pub is_missing : List Table → Rows → List Value → Foreign → Bool
is_missing tables rows row foreign = is_none (row_at tables rows foreign.table (cells foreign.cols row))

abbrev pub lacks_parent : List Table → Rows → Scope → List Value → Foreign → Bool
lacks_parent tables rows of row foreign =
    touches of foreign.cols && (not (has_null (cells foreign.cols row)) && is_missing tables rows row foreign)

abbrev pub no_parent : Table → ℕ → Refusal
no_parent table place = refusal.NoParent table.name (place + 1)

-- the first foreign key that is touched, has no NULL in the row, and whose row is not there
abbrev pub parent_refusal : List Table → Rows → Scope → Table → List Value → Option Refusal
parent_refusal tables rows of table row =
    option_map (no_parent table) (position (lacks_parent tables rows of row) table.foreign)

-- ---- limits

-- the row had these values at the columns before
abbrev pub stays : Option (List Value) → List Value → List ℕ → Bool
stays None row cols = false
stays (Some old) row cols = same_values (cells cols old) (cells cols row)

-- n rows agree with the row at the limit's columns
abbrev pub is_full : Rows → ℕ → List Value → Limit → Bool
is_full rows t row limit = nat_le limit.n (length (group_of t limit.cols (cells limit.cols row) rows))

abbrev pub lacks_room : Rows → Scope → Option (List Value) → ℕ → List Value → Limit → Bool
lacks_room rows of old t row limit =
    touches of limit.cols && not (stays old row limit.cols)
    && (not (has_null (cells limit.cols row)) && is_full rows t row limit)

abbrev pub limit_at : Table → ℕ → Limit
limit_at table place = slice_index_or table.limits place no_limit

abbrev pub no_room : Table → ℕ → Refusal
no_room table place = refusal.Cardinality table.name (place + 1) (limit_at table place).n

-- the first limit that is touched, at whose columns the values change and none is NULL, and whose group has n rows
-- already
abbrev pub room_refusal : Rows → Scope → Option (List Value) → ℕ → Table → List Value → Option Refusal
room_refusal rows of old t table row = option_map (no_room table) (position (lacks_room rows of old t row) table.limits)

-- ---- foreign keys to the table

-- it refers to the table, and some row of its own table u names the key by it
abbrev pub names_key : Rows → ℕ → List Value → ℕ → Foreign → Bool
names_key rows t key u foreign = foreign.table == t && nat_lt 0 (length (group_of u foreign.cols key rows))

abbrev pub referenced_refusal : Table → ℕ → Refusal
referenced_refusal table place = refusal.Referenced table.name (place + 1)

-- the first of the tables, which are numbered from u, and the first of its foreign keys by which some row names the key
abbrev pub child_refusal : Rows → ℕ → List Value → ℕ → List Table → Option Refusal
child_refusal rows t key u [] = None
child_refusal rows t key u (table ∷ tables) =
    or_else (option_map (referenced_refusal table) (position (names_key rows t key u) table.foreign))
    (child_refusal rows t key (u + 1) tables)

-- ---- the writes

abbrev pub insert_refusal : List Table → Rows → ℕ → List Value → Option Refusal
insert_refusal tables rows t row =
    or_else (refused_if (is_some (row_at tables rows t (key_of (table_at tables t) row)))
    (refusal.DuplicateKey (table_at tables t).name))
    (or_else (parent_refusal tables rows scope.All (table_at tables t) row)
    (room_refusal rows scope.All None t (table_at tables t) row))

abbrev pub update_refusal : List Table → Rows → Scope → ℕ → List Value → List Value → Option Refusal
update_refusal tables rows of t old new =
    or_else (refused_if (nat_lt 4096 (length (stored_code (table_at tables t) new)))
    (refusal.RowLong (table_at tables t).name (length (stored_code (table_at tables t) new))))
    (or_else (parent_refusal tables rows of (table_at tables t) new)
    (room_refusal rows of (Some old) t (table_at tables t) new))

abbrev pub no_row : List Table → ℕ → Refusal
no_row tables t = refusal.NoRow (table_at tables t).name

-- ---- conditions and sums, of the row that is there

-- conditions are numbered from 1
abbrev pub unmet : Table → ℕ → Refusal
unmet table place = refusal.Condition table.name (place + 1)

-- the first condition that doesn't hold of the row
abbrev pub condition_refusal : Table → List Cond → List Value → Option Refusal
condition_refusal table conds row = option_map (unmet table) (position (λ cond. not (holds_of row cond)) conds)

abbrev pub no_sum : Table → SetCol → Refusal
no_sum table set = refusal.Sum table.name (slice_index_or (names_of table.columns) set.col [])

-- the first column whose ADD has no sum
abbrev pub sum_refusal : Table → List SetCol → List Value → Option Refusal
sum_refusal table sets row = option_map (no_sum table) (find (λ set. is_none (set_value row set)) sets)

-- the conditions, and then the sums
abbrev pub held_refusal : Table → List SetCol → List Cond → List Value → Option Refusal
held_refusal table sets conds row = or_else (condition_refusal table conds row) (sum_refusal table sets row)

abbrev pub updated_rows : List Table → Rows → ℕ → List Value → List SetCol → List Cond → Option (List Value)
    → Result Rows Refusal
updated_rows tables rows t key sets conds None = Err (no_row tables t)
updated_rows tables rows t key sets conds (Some old) =
    or_ok (or_else (held_refusal (table_at tables t) sets conds old)
    (update_refusal tables rows (scope_of sets) t old (with_sets sets old)))
    ((t, with_sets sets old) ∷ rows_without tables t key rows)

abbrev pub deleted_rows : List Table → Rows → ℕ → List Value → List Cond → Option (List Value) → Result Rows Refusal
deleted_rows tables rows t key conds None = Err (no_row tables t)
deleted_rows tables rows t key conds (Some old) =
    or_ok (or_else (condition_refusal (table_at tables t) conds old) (child_refusal rows t key 1 tables))
    (rows_without tables t key rows)

-- the rows after the write, or its first refusal
unfoldable pub effect : List Table → Rows → Write → Result Rows Refusal
effect tables rows (write.Insert t row) = or_ok (insert_refusal tables rows t row) ((t, row) ∷ rows)
effect tables rows (write.Update t key sets conds) =
    updated_rows tables rows t key sets conds (row_at tables rows t key)
effect tables rows (write.Delete t key conds) = deleted_rows tables rows t key conds (row_at tables rows t key)

-- ---- the changes of the pairs

abbrev pub update_of : Table → ℕ → List SetCol → Option (List Value) → List Change
update_of table t sets None = []
update_of table t sets (Some old) = update_changes t table old (with_sets sets old)

abbrev pub removal_of : Table → ℕ → Option (List Value) → List Change
removal_of table t None = []
removal_of table t (Some old) = removals (pairs_of_row t table old)

-- the changes that a write makes where nothing refuses it
unfoldable pub changes_of : List Table → Rows → Write → List Change
changes_of tables rows (write.Insert t row) = puts (pairs_of_row t (table_at tables t) row)
changes_of tables rows (write.Update t key sets conds) =
    update_of (table_at tables t) t sets (row_at tables rows t key)
changes_of tables rows (write.Delete t key conds) = removal_of (table_at tables t) t (row_at tables rows t key)
