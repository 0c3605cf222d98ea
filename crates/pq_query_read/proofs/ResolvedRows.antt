-- Queries that are refused, two causes at a time, and queries that are not, as the definition computes them.
use Rattle.std.proofs.Common.{◌≡◌, ℕ, pos, zero, suc, List, [], ◌∷◌, Some, None, Result, Ok, Err, refl}
use Rattle.std.specs.Prelude.{codes}
use Rattle.pq_base.specs.declared.count_word.TheConstants as count_word
use Rattle.pq_base.specs.declared.refusal.Refusal.{Refusal}
use Rattle.pq_base.specs.declared.refusal.Refusal.TheVariants as refusal
use Rattle.pq_base.specs.declared.value.ColType.{ColType}
use Rattle.pq_base.specs.declared.value.ColType.TheVariants as type
use Rattle.pq_base.specs.declared.value.Dir.TheVariants as dir
use Rattle.pq_base.specs.declared.value.Value.TheVariants as value
use Rattle.pq_schema.specs.Definitions.{no_fillers}
use Rattle.pq_schema.specs.Schema.{Schema}
use Rattle.pq_base.specs.declared.op.Op.TheVariants as op
use Rattle.pq_schema.specs.declared.query.Operand.TheVariants as operand
use Rattle.pq_schema.specs.declared.query.Pred.{Pred}
use Rattle.pq_schema.specs.declared.query.Query.{Query}
use Rattle.pq_schema.specs.declared.table.Column.{Column}
use Rattle.pq_schema.specs.declared.table.Table.{Table}
use Rattle.pq_query_read.specs.Resolving.{resolved_select}
use Rattle.pq_query_read.specs.Trying.{◌>>=◌}
use Rattle.pq_query_read.specs.declared.select.ItemDef.{ItemDef}
use Rattle.pq_query_read.specs.declared.select.OperandDef.{OperandDef}
use Rattle.pq_query_read.specs.declared.select.OperandDef.TheVariants as operand_def
use Rattle.pq_query_read.specs.declared.select.PredDef.{PredDef}
use Rattle.pq_query_read.specs.declared.select.RefDef.{RefDef}
use Rattle.pq_query_read.specs.declared.select.RelationDef.{RelationDef}
use Rattle.pq_query_read.specs.declared.select.SelectDef.{SelectDef}
use Rattle.pq_query_read.specs.declared.select.Selected.TheVariants as selected
use Rattle.pq_query_read.specs.declared.select.StopDef.TheVariants as stop_def

-- ---- two tables: m (id INT, v INT) and users (name TEXT(16), city TEXT(16))

abbrev with_type : List ℕ → ColType → Column
with_type name ty = record { name = name; ty = ty }

abbrev table_of : List ℕ → List Column → Table
table_of name columns = record { name = name; columns = columns; fillers = no_fillers columns; key = 0 ∷ []; limits = []; foreign = []; indexes = [] }

abbrev site : Schema
site = record {
  tables = table_of (codes "m") (with_type (codes "id") type.Int ∷ with_type (codes "v") type.Int ∷ [])
      ∷ table_of (codes "users") (with_type (codes "name") (type.Text 16) ∷ with_type (codes "city") (type.Text 16) ∷ []) ∷ [];
  definitions = [];
}

-- ---- parts of texts

abbrev col : List ℕ → RefDef
col name = record { first = name; second = None }

abbrev of : List ℕ → List ℕ → RefDef
of alias name = record { first = alias; second = Some name }

abbrev from : List ℕ → RelationDef
from table = record { table = table; alias = None }

abbrev under : List ℕ → List ℕ → RelationDef
under table alias = record { table = table; alias = Some alias }

abbrev equals : RefDef → OperandDef → PredDef
equals left right = record { left = left; op = op.Eq; right = right }

abbrev number : ℕ → OperandDef
number n = operand_def.Const (value.Int (pos n))

abbrev param : ℕ → OperandDef
param n = operand_def.Param (pos n)

abbrev by : List ℕ → ItemDef
by name = record { col = col name; dir = dir.Asc }

abbrev times : {X : Type 0} → ℕ → X → List X
times zero x = []
times (suc n) x = x ∷ times n x

-- SELECT id FROM m
abbrev base : SelectDef
base = record { selected = selected.Refs (col (codes "id") ∷ []); relations = from (codes "m") ∷ []; preds = []; order = []; stop = stop_def.All }

abbrev answer : SelectDef → Result Query Refusal
answer def = resolved_select site (codes "q") def

-- ---- counts

relations_first : answer (record base { relations = times 7 (from (codes "nil")); preds = times 17 (equals (col (codes "zz")) (number 1)) }) ≡ Err (refusal.Count count_word.RELATIONS)
unfolding resolved_select
relations_first = refl

then_predicates : answer (record base { preds = times 17 (equals (col (codes "zz")) (number 1)); order = times 5 (by (codes "v")) }) ≡ Err (refusal.Count count_word.PREDICATES)
unfolding resolved_select
then_predicates = refl

then_order : answer (record base { order = times 5 (by (codes "v")); selected = selected.Refs (times 193 (col (codes "id"))) }) ≡ Err (refusal.Count count_word.ORDER)
unfolding resolved_select
then_order = refl

then_selected : answer (record base { selected = selected.Refs (times 193 (col (codes "id"))); relations = from (codes "nil") ∷ [] }) ≡ Err (refusal.Count count_word.SELECTED)
unfolding resolved_select
then_selected = refl

-- ---- FROM, item by item

table_before_alias : answer (record base { relations = under (codes "m") (codes "x") ∷ under (codes "nil") (codes "x") ∷ [] }) ≡ Err (refusal.NoTable (codes "nil"))
unfolding resolved_select
table_before_alias = refl

alias_before_next : answer (record base { relations = under (codes "m") (codes "x") ∷ under (codes "m") (codes "x") ∷ from (codes "nil") ∷ [] }) ≡ Err (refusal.Alias (codes "x"))
unfolding resolved_select
alias_before_next = refl

alias_before_column : answer (record base { relations = from (codes "m") ∷ from (codes "m") ∷ []; selected = selected.Refs (col (codes "zz") ∷ []) }) ≡ Err (refusal.Alias (codes "m"))
unfolding resolved_select
alias_before_column = refl

-- ---- columns

first_column_told : answer (record base { selected = selected.Refs (of (codes "z") (codes "id") ∷ col (codes "zz") ∷ []) }) ≡ Err (refusal.Alias (codes "z"))
unfolding resolved_select
first_column_told = refl

several_have_it : answer (record base { relations = under (codes "m") (codes "a") ∷ under (codes "m") (codes "b") ∷ []; preds = equals (col (codes "zz")) (number 1) ∷ [] }) ≡ Err (refusal.NoColumn (codes "id"))
unfolding resolved_select
several_have_it = refl

-- ---- predicates

left_before_right : answer (record base { preds = equals (col (codes "zz")) (operand_def.Ref (col (codes "yy"))) ∷ [] }) ≡ Err (refusal.NoColumn (codes "zz"))
unfolding resolved_select
left_before_right = refl

right_before_kind : answer (record base { preds = equals (col (codes "id")) (operand_def.Ref (col (codes "yy"))) ∷ [] }) ≡ Err (refusal.NoColumn (codes "yy"))
unfolding resolved_select
right_before_kind = refl

kind_before_next : answer (record base { preds = equals (col (codes "id")) (operand_def.Const (value.Text (codes "a"))) ∷ equals (col (codes "zz")) (number 1) ∷ [] }) ≡ Err (refusal.OperandKind 1)
unfolding resolved_select
kind_before_next = refl

same_relation_before_order : answer (record base { preds = equals (col (codes "id")) (operand_def.Ref (col (codes "v"))) ∷ []; order = by (codes "zz") ∷ [] }) ≡ Err (refusal.OperandKind 1)
unfolding resolved_select
same_relation_before_order = refl

-- ---- ORDER BY, item by item, and the stop

repeated_before_next : answer (record base { order = by (codes "v") ∷ by (codes "v") ∷ by (codes "zz") ∷ [] }) ≡ Err (refusal.Repeated (codes "v"))
unfolding resolved_select
repeated_before_next = refl

unknown_before_repeated : answer (record base { order = by (codes "zz") ∷ by (codes "v") ∷ by (codes "v") ∷ [] }) ≡ Err (refusal.NoColumn (codes "zz"))
unfolding resolved_select
unknown_before_repeated = refl

repeated_before_stop : answer (record base { order = by (codes "v") ∷ record { col = of (codes "m") (codes "v"); dir = dir.Desc } ∷ []; stop = stop_def.Limit (pos 0) }) ≡ Err (refusal.Repeated (codes "v"))
unfolding resolved_select
repeated_before_stop = refl

stop_before_params : answer (record base { preds = equals (col (codes "id")) (param 2) ∷ []; stop = stop_def.Paginate (pos 1001) }) ≡ Err (refusal.Count count_word.STOP)
unfolding resolved_select
stop_before_params = refl

-- ---- parameters

gap : answer (record base { preds = equals (col (codes "id")) (param 1) ∷ equals (col (codes "v")) (param 3) ∷ [] }) ≡ Err refusal.Params
unfolding resolved_select
gap = refl

too_large : answer (record base { preds = equals (col (codes "id")) (param 1) ∷ equals (col (codes "v")) (param 257) ∷ [] }) ≡ Err refusal.Params
unfolding resolved_select
too_large = refl

two_kinds : answer (record base { relations = from (codes "m") ∷ from (codes "users") ∷ []; preds = equals (col (codes "id")) (param 1) ∷ equals (col (codes "name")) (param 1) ∷ [] }) ≡ Err refusal.Params
unfolding resolved_select
two_kinds = refl

-- ---- what is kept

abbrev params_in : Result Query Refusal → Result (List ColType) Refusal
params_in r = r >>= λ query. Ok query.params

abbrev preds_in : Result Query Refusal → Result (List Pred) Refusal
preds_in r = r >>= λ query. Ok query.preds

types_of_params : params_in (answer (record base { relations = from (codes "m") ∷ from (codes "users") ∷ []; preds = equals (col (codes "name")) (param 2) ∷ equals (col (codes "id")) (param 1) ∷ [] })) ≡ Ok (type.Int ∷ type.Text 1000 ∷ [])
unfolding resolved_select
types_of_params = refl

later_relation_left :
    preds_in (answer (record base { relations = under (codes "m") (codes "a") ∷ under (codes "m") (codes "b") ∷ []; selected = selected.Star; preds = equals (of (codes "a") (codes "v")) (operand_def.Ref (of (codes "b") (codes "id"))) ∷ [] }))
    ≡ Ok (record { left = record { rel = 2; col = 0 }; op = op.Eq; right = operand.Col (record { rel = 1; col = 1 }) } ∷ [])
unfolding resolved_select
later_relation_left = refl
