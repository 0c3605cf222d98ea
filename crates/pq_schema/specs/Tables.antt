-- Tables by their numbers, and limits and the data bound of one table.
use Rattle.std.specs.Prelude.{ℕ, ◌+◌, ◌-◌, min, Bool, ◌==◌, ◌&&◌, if◌then◌else◌, List, [], ◌∷◌, ◌++◌, map, filter, position, slice_index_or, not, Option, Some, None, option_map, option_and_then, true, false}
use Rattle.std.specs.Option.{option_map_or}
use Rattle.std.specs.List.{list_all}
use Rattle.pq_base.specs.Columns.{is_column_within, set_of}
use Rattle.pq_base.specs.declared.value.ColType.{ColType}
use Rattle.pq_base.specs.declared.value.ColType.TheVariants as type
use Rattle.pq_base.specs.Values.{same_kind, is_nullable}
use Rattle.pq_schema.specs.declared.table.Column.{Column}
use Rattle.pq_schema.specs.declared.table.Foreign.{Foreign}
use Rattle.pq_schema.specs.declared.table.Referring.{Referring}
use Rattle.pq_schema.specs.declared.table.Table.{Table}
use Rattle.pq_schema.specs.declared.table.Limit.{Limit}
use Rattle.pq_schema.specs.Sequences.{primary_sequence, begins_with}

-- what stands at a number that no table has
abbrev pub no_table : Table
no_table = record { name = []; columns = []; fillers = []; key = []; limits = []; foreign = []; indexes = [] }

-- the table of this number, from 1
abbrev pub table_at : List Table → ℕ → Table
table_at tables number = slice_index_or tables (number - 1) no_table

-- a relation of the table is a lookup where its key lies in the fixed columns
abbrev pub is_lookup : Table → ℕ → Bool
is_lookup table fixed = is_column_within (set_of table.key) fixed

-- the columns of the limit lie in the fixed ones
abbrev pub applies : ℕ → Limit → Bool
applies fixed limit = is_column_within (set_of limit.cols) fixed

-- the least of some numbers
abbrev pub least_of : List ℕ → Option ℕ
least_of [] = None
least_of (n ∷ ns) = Some (option_map_or (λ m. min n m) (least_of ns) n)

-- the least n among the limits whose columns lie in the fixed ones
abbrev pub least_limit : Table → ℕ → Option ℕ
least_limit table fixed = least_of (map (λ limit. limit.n) (filter (applies fixed) table.limits))

-- d(i)
abbrev pub data_bound : Table → ℕ → Option ℕ
data_bound table fixed = if is_lookup table fixed then Some 1 else least_limit table fixed

-- the limit has this n, and its columns lie in the fixed ones
abbrev pub is_least : ℕ → ℕ → Limit → Bool
is_least n fixed limit = limit.n == n && applies fixed limit

-- the primary sequence begins with the columns of the limit
abbrev pub is_primary : Table → Limit → Bool
is_primary table limit = begins_with (primary_sequence table) (set_of limit.cols)

-- the first of the limits with this n that the primary sequence begins with, else the first of them
abbrev pub first_limit : Table → ℕ → ℕ → Option ℕ
first_limit table fixed n =
    option_map_or (λ place. Some place) (position
    (λ limit. is_least n fixed limit && is_primary table limit) table.limits)
    (position (is_least n fixed) table.limits)

-- the limit taken, by its place from 0
abbrev pub limit_place : Table → ℕ → Option ℕ
limit_place table fixed = if is_lookup table fixed then None
    else option_and_then (first_limit table fixed) (least_limit table fixed)

-- and by its number from 1
abbrev pub limit_of : Table → ℕ → Option ℕ
limit_of table fixed = option_map (λ place. place + 1) (limit_place table fixed)

-- the type of a column
abbrev pub type_at : List Column → ℕ → ColType
type_at columns col = slice_index_or (map (λ column. column.ty) columns) col type.Bool

abbrev pub types_at : List Column → List ℕ → List ColType
types_at columns cols = map (type_at columns) cols

-- none of the columns is nullable
abbrev pub have_no_null : List Column → List ℕ → Bool
have_no_null columns cols = list_all (λ col. not (is_nullable (type_at columns col))) cols

-- as many types as types, of the same kinds place by place
abbrev pub same_kinds : List ColType → List ColType → Bool
same_kinds [] [] = true
same_kinds (t ∷ ts) (u ∷ us) = same_kind t u && same_kinds ts us
same_kinds _ _ = false

-- those of a table's foreign keys, from this number on, that name the other table
abbrev pub foreign_to : ℕ → ℕ → ℕ → List Foreign → List Referring
foreign_to parent table number [] = []
foreign_to parent table number (foreign ∷ rest) =
    if foreign.table == parent then record { table = table; foreign = number }
    ∷ foreign_to parent table (number + 1) rest
    else foreign_to parent table (number + 1) rest

-- the same for the tables from this number on
abbrev pub referring_from : ℕ → ℕ → List Table → List Referring
referring_from parent number [] = []
referring_from parent number (table ∷ tables) =
    foreign_to parent number 1 table.foreign ++ referring_from parent (number + 1) tables

-- the foreign keys to the table, in order of tables, then of declaration
abbrev pub referring_limits : List Table → ℕ → List Referring
referring_limits tables parent = referring_from parent 1 tables
