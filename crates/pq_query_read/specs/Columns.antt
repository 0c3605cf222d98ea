-- Columns by name, among the relations of a query.
use Rattle.std.specs.Prelude.{ℕ, ◌+◌, ◌-◌, ◌<◌, ◌≤◌, All, Bool, List, [], ◌∷◌, map, flat_map, filter_map, length, position, slice_index_or, option_map, Option, Some, None, Result, Ok}
use Rattle.std.specs.List.{range_with_len}
use Rattle.std.specs.Str.{bytes_eq}
use Rattle.pq_base.specs.declared.refusal.Refusal.{Refusal}
use Rattle.pq_base.specs.declared.refusal.Refusal.TheVariants as refusal
use Rattle.pq_base.specs.declared.value.ColType.{ColType}
use Rattle.pq_schema.specs.ColumnNames.{no_column}
use Rattle.pq_schema.specs.Relations.{no_relation}
use Rattle.pq_schema.specs.Schema.{find_column}
use Rattle.pq_schema.specs.Tables.{table_at, type_at}
use Rattle.pq_schema.specs.declared.query.ColRef.{ColRef}
use Rattle.pq_schema.specs.declared.query.Relation.{Relation}
use Rattle.pq_schema.specs.declared.table.Column.{Column}
use Rattle.pq_schema.specs.declared.table.Table.{Table}
use Rattle.pq_query_read.specs.Trying.{◌>>=◌, or_refused, each_after}
use Rattle.pq_query_read.specs.declared.select.RefDef.{RefDef}
use Rattle.pq_query_read.specs.declared.select.Selected.{Selected}
use Rattle.pq_query_read.specs.declared.select.Selected.TheVariants as selected

-- the relation's table is there
pub record HasTable (tables : List Table) (relation : Relation) : Type 0 where
  pub from_one : 1 ≤ relation.table
  pub there : relation.table ≤ length tables

-- at most six relations, whose tables are there
pub record AreRelations (tables : List Table) (relations : List Relation) : Type 0 where
  pub few : length relations ≤ 6
  pub each : All (HasTable tables) relations

abbrev pub has_alias : List ℕ → Relation → Bool
has_alias name relation = bytes_eq relation.alias name

-- the column of a list that has just one
abbrev pub only : List ColRef → Option ColRef
only [] = None
only (ref ∷ []) = Some ref
only (ref ∷ other ∷ refs) = None

-- the columns of the relation's table
abbrev pub relation_columns : List Table → Relation → List Column
relation_columns tables relation = (table_at tables relation.table).columns

-- the column of this name in the relation, which has this number
abbrev pub column_named : List Table → List ℕ → ℕ → Relation → Option ColRef
column_named tables name rel relation =
    option_map (λ col. record { rel = rel; col = col }) (find_column (relation_columns tables relation) name)

module _ (tables : List Table) (relations : List Relation) where
  -- the relation of this number, from 1
  abbrev pub relation_at : ℕ → Relation
  relation_at rel = slice_index_or relations (rel - 1) no_relation

  abbrev pub columns_at : ℕ → List Column
  columns_at rel = relation_columns tables (relation_at rel)

  -- a column of one of the relations
  pub record IsIn (ref : ColRef) : Type 0 where
    pub from_one : 1 ≤ ref.rel
    pub there : ref.rel ≤ length relations
    pub inside : ref.col < length (columns_at ref.rel)

  abbrev pub numbers : List ℕ
  numbers = range_with_len 1 (length relations)

  -- the column of this name in the relation of this number
  abbrev pub named_in : List ℕ → ℕ → Option ColRef
  named_in name rel = column_named tables name rel (relation_at rel)

  -- the column of this name in the one relation that has it
  abbrev pub unqualified : List ℕ → Result ColRef Refusal
  unqualified name = or_refused (no_column name) (only (filter_map (named_in name) numbers))

  -- the column of this name in the relation with this alias
  abbrev pub qualified : List ℕ → List ℕ → Result ColRef Refusal
  qualified alias name =
      or_refused (refusal.Alias alias) (position (has_alias alias) relations) >>= λ place.
      or_refused (no_column name) (named_in name (place + 1))

  abbrev pub ref_by : List ℕ → Option (List ℕ) → Result ColRef Refusal
  ref_by name None = unqualified name
  ref_by alias (Some name) = qualified alias name

  abbrev pub ref_of : RefDef → Result ColRef Refusal
  ref_of def = ref_by def.first def.second

  abbrev pub type_of : ColRef → ColType
  type_of ref = type_at (columns_at ref.rel) ref.col

  -- all columns of the relation of this number
  abbrev pub all_of : ℕ → List ColRef
  all_of rel = map (λ col. record { rel = rel; col = col }) (range_with_len 0 (length (columns_at rel)))

  abbrev pub refs_of : List RefDef → Result (List ColRef) Refusal
  refs_of defs = each_after (λ before def. ref_of def) [] defs

  -- all columns of all relations, or the named ones
  abbrev pub selected_of : Selected → Result (List ColRef) Refusal
  selected_of selected.Star = Ok (flat_map all_of numbers)
  selected_of (selected.Refs defs) = refs_of defs
