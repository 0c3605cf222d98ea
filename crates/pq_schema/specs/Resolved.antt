-- The queries that reading gives over tables.
use Rattle.std.specs.Prelude.{◌≡◌, ℕ, ◌-◌, ◌<◌, ◌≤◌, Bool, true, false, ◌==◌, ◌&&◌, All, IfSome, List, map, length, slice_index_or}
use Rattle.std.specs.Str.{bytes_eq}
use Rattle.std.specs.List.{IsDistinct, list_any}
use Rattle.pq_base.specs.Values.{FitsType, kind_of_type}
use Rattle.pq_base.specs.declared.value.DataKind.{DataKind}
use Rattle.pq_base.specs.declared.value.DataKind.TheVariants as kind
use Rattle.pq_base.specs.declared.value.Value.{Value}
use Rattle.pq_base.specs.declared.value.Value.TheVariants as value
use Rattle.pq_base.specs.declared.value.ColType.{ColType}
use Rattle.pq_base.specs.declared.value.ColType.TheVariants as type
use Rattle.pq_schema.specs.declared.table.Table.{Table}
use Rattle.pq_schema.specs.declared.query.ColRef.{ColRef}
use Rattle.pq_base.specs.declared.op.Op.{Op}
use Rattle.pq_base.specs.declared.op.Op.TheVariants as op
use Rattle.pq_schema.specs.declared.query.Operand.{Operand}
use Rattle.pq_schema.specs.declared.query.Operand.TheVariants as operand
use Rattle.pq_schema.specs.declared.query.Pred.{Pred}
use Rattle.pq_schema.specs.declared.query.Relation.{Relation}
use Rattle.pq_schema.specs.declared.query.Query.{Query}
use Rattle.pq_schema.specs.Names.{IsName}
use Rattle.pq_base.specs.Values.{same_kind}
use Rattle.pq_schema.specs.Tables.{type_at}
use Rattle.pq_base.specs.Comparing.{is_null_test}
use Rattle.pq_schema.specs.Relations.{table_of}
use Rattle.pq_schema.specs.Candidates.{stop_size}

-- a table that is there, under a name
pub record IsRelation (tables : List Table) (relation : Relation) : Type 0 where
  pub from_one : 1 ≤ relation.table
  pub there : relation.table ≤ length tables
  pub alias : IsName relation.alias

-- a column of a relation's table
pub record IsColumnOf (tables : List Table) (query : Query) (col : ColRef) : Type 0 where
  pub from_one : 1 ≤ col.rel
  pub there : col.rel ≤ length query.relations
  pub inside : col.col < length (table_of tables query col.rel).columns

abbrev pub same_ref : ColRef → ColRef → Bool
same_ref a b = a.rel == b.rel && a.col == b.col

-- the type of the column
abbrev pub ref_type : List Table → Query → ColRef → ColType
ref_type tables query col = type_at (table_of tables query col.rel).columns col.col

-- the type of what is compared with values of this kind: texts have at most 1,000 bytes
abbrev pub param_of : DataKind → ColType
param_of kind.Int = type.Int
param_of kind.Bool = type.Bool
param_of kind.Text = type.Text 1000

-- and with a column of this type, nullable or not
abbrev pub param_type : ColType → ColType
param_type t = param_of (kind_of_type t)

-- a parameter, by its number from 1, of this type
pub record IsParam (types : List ColType) (number : ℕ) (ty : ColType) : Type 0 where
  pub from_one : 1 ≤ number
  pub there : number ≤ length types
  pub is_type : slice_index_or types (number - 1) type.Bool ≡ ty

-- the later relation stands left, and both columns are of one kind
pub record IsJoined (tables : List Table) (query : Query) (pred : Pred) (col : ColRef) : Type 0 where
  pub equal : pred.op ≡ op.Eq
  pub column : IsColumnOf tables query col
  pub earlier : col.rel < pred.left.rel
  pub kind : same_kind (ref_type tables query pred.left) (ref_type tables query col) ≡ true

-- NULL exactly behind IS NULL
abbrev pub IsConstant : Op → ColType → Value → Type 0
IsConstant op ty constant = (is_null_test op ≡ false → FitsType ty constant)
    × (is_null_test op ≡ true → constant ≡ value.Null)

-- a constant or a parameter of the column's kind, or a column of an earlier relation
abbrev pub IsOperand : List Table → Query → Pred → Operand → Type 0
IsOperand tables query pred (operand.Const value) =
    IsConstant pred.op (param_type (ref_type tables query pred.left)) value
IsOperand tables query pred (operand.Param number) =
    (is_null_test pred.op ≡ false) × IsParam query.params number (param_type (ref_type tables query pred.left))
IsOperand tables query pred (operand.Col col) = IsJoined tables query pred col

pub record IsPredicate (tables : List Table) (query : Query) (pred : Pred) : Type 0 where
  pub left : IsColumnOf tables query pred.left
  pub right : IsOperand tables query pred pred.right

-- the operand is the parameter of this number
abbrev pub is_param : ℕ → Operand → Bool
is_param number (operand.Const value) = false
is_param number (operand.Param other) = other == number
is_param number (operand.Col col) = false

-- some predicate uses the parameter
abbrev pub is_used : List Pred → ℕ → Bool
is_used preds number = list_any (λ pred. is_param number pred.right) preds

pub record IsResolved (tables : List Table) (query : Query) : Type 0 where
  pub some_relations : 1 ≤ length query.relations
  pub few_relations : length query.relations ≤ 6
  pub relations : All (IsRelation tables) query.relations
  pub aliases : IsDistinct bytes_eq (map (λ relation. relation.alias) query.relations)
  pub some_selected : 1 ≤ length query.select
  pub few_selected : length query.select ≤ 192
  pub select : All (IsColumnOf tables query) query.select
  pub few_preds : length query.preds ≤ 16
  pub preds : All (IsPredicate tables query) query.preds
  pub few_order : length query.order ≤ 4
  pub order : All (λ item. IsColumnOf tables query item.col) query.order
  pub once : IsDistinct same_ref (map (λ item. item.col) query.order)
  pub stop : IfSome (stop_size query.stop) (λ k. (1 ≤ k) × (k ≤ 1000))
  pub params : (number : ℕ) → 1 ≤ number → number ≤ length query.params → is_used query.preds number ≡ true
