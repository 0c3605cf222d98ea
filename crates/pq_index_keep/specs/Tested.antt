-- Which foreign keys, limits and indexes a write touches, and the row that an UPDATE makes.
use Rattle.std.specs.Prelude.{ℕ, Bool, true, List, [], ◌∷◌, map, slice_get, slice_index_or, slice_set, Option, Some, unwrap_or}
use Rattle.std.specs.List.{list_any}
use Rattle.pq_base.specs.Columns.{has_col, set_of}
use Rattle.pq_base.specs.Comparing.{compares}
use Rattle.pq_base.specs.Sums.{sum_of}
use Rattle.pq_base.specs.declared.value.Value.{Value}
use Rattle.pq_schema.specs.declared.table.Index.{Index}
use Rattle.pq_schema.specs.declared.table.Table.{Table}
use Rattle.pq_schema.specs.Rows.{no_value}
use Rattle.pq_schema.specs.Sequences.{columns_of, index_sequence}
use Rattle.pq_def_read.specs.declared.write.Setting.{Setting}
use Rattle.pq_def_read.specs.declared.write.Setting.TheVariants as setting
use Rattle.pq_index_keep.specs.declared.write.Cond.{Cond}
use Rattle.pq_index_keep.specs.declared.write.SetCol.{SetCol}
use Rattle.pq_index_keep.specs.declared.write.Scope.{Scope}
use Rattle.pq_index_keep.specs.declared.write.Scope.TheVariants as scope

-- an INSERT gives each column a value, an UPDATE those of a set: whether some of these columns are among them
abbrev pub touches : Scope → List ℕ → Bool
touches scope.All cols = true
touches (scope.Columns set) cols = list_any (has_col set) cols

-- whether the sequence of an index holds such a column
abbrev pub touches_index : Scope → Table → Index → Bool
touches_index of table index = touches of (columns_of (index_sequence table index))

-- the columns that an UPDATE sets
abbrev pub set_columns : List SetCol → List ℕ
set_columns sets = map (λ set. set.col) sets

abbrev pub scope_of : List SetCol → Scope
scope_of sets = scope.Columns (set_of (set_columns sets))

-- what a column that has this value is set to; none where an ADD has no sum
abbrev pub setting_value : Setting → Value → Option Value
setting_value (setting.Is value) held = Some value
setting_value (setting.Add number) held = sum_of held number

-- what the column gets, of the row that is there
abbrev pub set_value : List Value → SetCol → Option Value
set_value old set = setting_value set.to (slice_index_or old set.col no_value)

-- the row with each column set to what it gets, of the row that is there
abbrev pub set_from : List Value → List SetCol → List Value → List Value
set_from old [] row = row
set_from old (set ∷ sets) row = set_from old sets (slice_set row set.col (unwrap_or (set_value old set) no_value))

-- the row with the columns that are set
abbrev pub with_sets : List SetCol → List Value → List Value
with_sets sets row = set_from row sets row

-- whether the condition holds of the row
abbrev pub holds_of : List Value → Cond → Bool
holds_of row cond = compares cond.op (slice_get row cond.col) (Some cond.value)
