-- The write of a statement, or the first refusal that is found by reading.
use Rattle.std.specs.Prelude.{ℕ, ◌+◌, Bool, not, ◌||◌, ◌==◌, nat_lt, position, option_map, List, [], ◌∷◌, map, length, slice_index_or, Option, Some, None, is_some, unwrap_or, if◌then◌else◌, Result, Err}
use Rattle.std.specs.List.{find, list_all, list_any, range_with_len}
use Rattle.pq_base.specs.Answers.{or_else}
use Rattle.pq_base.specs.Comparing.{is_null_test}
use Rattle.pq_base.specs.Values.{fits_type, is_kind, is_null, kind_of_type}
use Rattle.pq_base.specs.declared.count_word.TheConstants.{PREDICATES}
use Rattle.pq_base.specs.declared.op.Op.{Op}
use Rattle.pq_base.specs.declared.value.ColType.{ColType}
use Rattle.pq_base.specs.declared.value.DataKind.TheVariants as kind
use Rattle.pq_base.specs.declared.refusal.Refusal.{Refusal}
use Rattle.pq_base.specs.declared.refusal.Refusal.TheVariants as refusal
use Rattle.pq_base.specs.declared.value.Value.{Value}
use Rattle.pq_schema.specs.ColumnNames.{names_of, place_of, places_of, unknown_refusal, repeated_refusal, names_refusal}
use Rattle.pq_schema.specs.Definitions.{refused_if, or_ok}
use Rattle.pq_schema.specs.Resolved.{param_type}
use Rattle.pq_schema.specs.Rows.{no_value}
use Rattle.pq_schema.specs.Schema.{Schema, find_table}
use Rattle.pq_schema.specs.Tables.{table_at}
use Rattle.pq_schema.specs.declared.table.Table.{Table}
use Rattle.pq_content.specs.Tables.{type_at, stored_code}
use Rattle.pq_def_read.specs.declared.write.Assign.{Assign}
use Rattle.pq_def_read.specs.declared.write.CondDef.{CondDef}
use Rattle.pq_def_read.specs.declared.write.SetDef.{SetDef}
use Rattle.pq_def_read.specs.declared.write.Setting.{Setting}
use Rattle.pq_def_read.specs.declared.write.Setting.TheVariants as setting
use Rattle.pq_def_read.specs.declared.write.WriteDef.{WriteDef}
use Rattle.pq_def_read.specs.declared.write.WriteDef.TheVariants as def
use Rattle.pq_index_keep.specs.Sound.{is_among}
use Rattle.pq_schema.specs.Keys.{given_value}
use Rattle.pq_index_keep.specs.declared.write.Cond.{Cond}
use Rattle.pq_index_keep.specs.declared.write.SetCol.{SetCol}
use Rattle.pq_index_keep.specs.declared.write.Write.{Write}
use Rattle.pq_index_keep.specs.declared.write.Write.TheVariants as write

abbrev pub assign_name : Assign → List ℕ
assign_name assign = assign.col

abbrev pub names_in : List Assign → List (List ℕ)
names_in assigns = map assign_name assigns

abbrev pub values_in : List Assign → List Value
values_in assigns = map (λ assign. assign.value) assigns

-- ---- values at columns

-- each of some columns is among others
abbrev pub are_among : List ℕ → List ℕ → Bool
are_among cols others = list_all (is_among others) cols

-- the first value that doesn't fit its column, by the column's name
abbrev pub misfit_refusal : Table → List (List ℕ) → List ℕ → List Value → Option Refusal
misfit_refusal table (n ∷ ns) (c ∷ cs) (x ∷ xs) =
    if fits_type (type_at table.columns c) x then misfit_refusal table ns cs xs
    else Some (refusal.ValueKind table.name n)
misfit_refusal table _ _ _ = None

-- ---- INSERT

abbrev pub all_columns : Table → List ℕ
all_columns table = range_with_len 0 (length table.columns)

-- the columns of the values: those of the list, or all of them in order
abbrev pub insert_places : Table → Option (List (List ℕ)) → List ℕ
insert_places table None = all_columns table
insert_places table (Some names) = places_of table.columns names

abbrev pub insert_names : Table → Option (List (List ℕ)) → List (List ℕ)
insert_names table None = names_of table.columns
insert_names table (Some names) = names

abbrev pub insert_names_refusal : Table → Option (List (List ℕ)) → Option Refusal
insert_names_refusal table None = None
insert_names_refusal table (Some names) = names_refusal table.columns names

-- the default of an added column; a column of the table's definition has none
abbrev pub default_at : Table → ℕ → Option Value
default_at table col = slice_index_or table.fillers col None

-- the column may be left out, since it has a default, or it is one of those that are given
abbrev pub has_value : Table → List ℕ → ℕ → Bool
has_value table places col = is_some (default_at table col) || is_among places col

-- a column that was not added is not given, or the number of values is another
abbrev pub is_insert_wrong : Table → List ℕ → List Value → Bool
is_insert_wrong table places values =
    not (list_all (has_value table places) (all_columns table)) || not (length values == length places)

-- the value that a column is given, or else its default
abbrev pub inserted_value : Table → List ℕ → List Value → ℕ → Value
inserted_value table places values col =
    if is_among places col then given_value places values col else unwrap_or (default_at table col) no_value

abbrev pub insert_row : Table → List ℕ → List Value → List Value
insert_row table places values = map (inserted_value table places values) (all_columns table)

abbrev pub long_refusal : Table → List Value → Option Refusal
long_refusal table row = refused_if (nat_lt 4096 (length (stored_code table row)))
    (refusal.RowLong table.name (length (stored_code table row)))

abbrev pub insert_values_refusal : Table → List (List ℕ) → List ℕ → List Value → Option Refusal
insert_values_refusal table names places values =
    or_else (refused_if (is_insert_wrong table places values) (refusal.WrongColumns table.name))
    (or_else (misfit_refusal table names places values)
    (long_refusal table (insert_row table places values)))

abbrev pub insert_checked : Table → ℕ → Option (List (List ℕ)) → List Value → Result Write Refusal
insert_checked table t names values =
    or_ok (or_else (insert_names_refusal table names)
    (insert_values_refusal table (insert_names table names) (insert_places table names) values))
    (write.Insert t (insert_row table (insert_places table names) values))

-- ---- UPDATE and DELETE

abbrev pub set_names : List SetDef → List (List ℕ)
set_names sets = map (λ set. set.col) sets

abbrev pub cond_names : List CondDef → List (List ℕ)
cond_names conds = map (λ cond. cond.col) conds

-- all unknown columns first, SET before WHERE before IF, and then the repeated ones of SET and those of WHERE
abbrev pub keyed_names_refusal : Table → List (List ℕ) → List (List ℕ) → List (List ℕ) → Option Refusal
keyed_names_refusal table sets key conds =
    or_else (unknown_refusal table.columns sets) (or_else (unknown_refusal table.columns key)
    (or_else (unknown_refusal table.columns conds)
    (or_else (repeated_refusal sets) (repeated_refusal key))))

-- a set column is of the key, or the WHERE columns aren't exactly the key
abbrev pub is_keyed_wrong : Table → List ℕ → List ℕ → Bool
is_keyed_wrong table sets key =
    list_any (is_among table.key) sets || not (are_among table.key key) || not (are_among key table.key)

-- the type of the column that has the name
abbrev pub named_type : Table → List ℕ → ColType
named_type table name = type_at table.columns (place_of table.columns name)

-- the value fits the type; the column of an ADD is of numbers
abbrev pub fits_setting : ColType → Setting → Bool
fits_setting ty (setting.Is value) = fits_type ty value
fits_setting ty (setting.Add number) = is_kind (kind_of_type ty) kind.Int

abbrev pub is_set_misfit : Table → SetDef → Bool
is_set_misfit table set = not (fits_setting (named_type table set.col) set.to)

-- the first column that is set to what doesn't fit it
abbrev pub set_misfit : Table → List SetDef → Option Refusal
set_misfit table sets = option_map (λ set. refusal.ValueKind table.name set.col) (find (is_set_misfit table) sets)

abbrev pub assigned_misfit : Table → List Assign → Option Refusal
assigned_misfit table assigns = misfit_refusal table (names_in assigns) (places_of table.columns (names_in assigns))
    (values_in assigns)

-- NULL behind IS NULL, and else a value of the type
abbrev pub is_constant : Op → ColType → Value → Bool
is_constant op ty constant = if is_null_test op then is_null constant else fits_type ty constant

-- a constant of another kind than the column, or a text of more than 1,000 bytes
abbrev pub is_cond_misfit : Table → CondDef → Bool
is_cond_misfit table cond = not (is_constant cond.op (param_type (named_type table cond.col)) cond.value)

-- conditions are numbered from 1
abbrev pub cond_misfit : Table → List CondDef → Option Refusal
cond_misfit table conds =
    option_map (λ place. refusal.OperandKind (place + 1)) (position (is_cond_misfit table) conds)

abbrev pub columns_refusal : Table → List SetDef → List Assign → Option Refusal
columns_refusal table sets key =
    refused_if (is_keyed_wrong table (places_of table.columns (set_names sets))
    (places_of table.columns (names_in key))) (refusal.WrongColumns table.name)

abbrev pub keyed_values_refusal : Table → List SetDef → List Assign → List CondDef → Option Refusal
keyed_values_refusal table sets key conds =
    or_else (columns_refusal table sets key)
    (or_else (set_misfit table sets) (or_else (assigned_misfit table key) (cond_misfit table conds)))

abbrev pub keyed_refusal : Table → List SetDef → List Assign → List CondDef → Option Refusal
keyed_refusal table sets key conds =
    or_else (keyed_names_refusal table (set_names sets) (names_in key) (cond_names conds))
    (keyed_values_refusal table sets key conds)

abbrev pub set_of_def : Table → SetDef → SetCol
set_of_def table set = record { col = place_of table.columns set.col; to = set.to }

abbrev pub cond_of_def : Table → CondDef → Cond
cond_of_def table cond = record { col = place_of table.columns cond.col; op = cond.op; value = cond.value }

-- the values of the key in its order
abbrev pub key_given : Table → List Assign → List Value
key_given table key = map (given_value (places_of table.columns (names_in key)) (values_in key)) table.key

abbrev pub update_checked : Table → ℕ → List SetDef → List Assign → List CondDef → Result Write Refusal
update_checked table t sets key conds =
    or_ok (keyed_refusal table sets key conds)
    (write.Update t (key_given table key) (map (set_of_def table) sets) (map (cond_of_def table) conds))

abbrev pub delete_checked : Table → ℕ → List Assign → List CondDef → Result Write Refusal
delete_checked table t key conds =
    or_ok (keyed_refusal table [] key conds) (write.Delete t (key_given table key) (map (cond_of_def table) conds))

-- ---- a write

abbrev pub in_table : List ℕ → Option ℕ → (ℕ → Result Write Refusal) → Result Write Refusal
in_table name None f = Err (refusal.NoTable name)
in_table name (Some t) f = f t

-- at most 16 conditions
abbrev pub unless_many : List CondDef → Result Write Refusal → Result Write Refusal
unless_many conds checked = if nat_lt 16 (length conds) then Err (refusal.Count PREDICATES) else checked

-- the write, or the first refusal found by reading
unfoldable pub checked_write : Schema → WriteDef → Result Write Refusal
checked_write schema (def.Insert name cols values) =
    in_table name (find_table schema name) (λ t. insert_checked (table_at schema.tables t) t cols values)
checked_write schema (def.Update name sets key conds) =
    unless_many conds (in_table name (find_table schema name)
    (λ t. update_checked (table_at schema.tables t) t sets key conds))
checked_write schema (def.Delete name key conds) =
    unless_many conds (in_table name (find_table schema name)
    (λ t. delete_checked (table_at schema.tables t) t key conds))
