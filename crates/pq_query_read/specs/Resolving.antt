-- What a query's text stands for over a schema, or the first refusal in the written order.
use Rattle.std.specs.Prelude.{ℕ, ℤ, pos, negsuc, ◌+◌, Bool, true, false, not, nat_le, nat_lt, ◌==◌, ◌&&◌, ◌||◌, if◌then◌else◌, List, [], length, unwrap_or, Option, Some, None, Result, Ok}
use Rattle.std.specs.List.{list_any}
use Rattle.pq_base.specs.Answers.{or_else}
use Rattle.pq_base.specs.Values.{fits_type}
use Rattle.pq_base.specs.declared.count_word.TheConstants as count_word
use Rattle.pq_base.specs.declared.refusal.Refusal.{Refusal}
use Rattle.pq_base.specs.declared.refusal.Refusal.TheVariants as refusal
use Rattle.pq_schema.specs.declared.query.ColRef.{ColRef}
use Rattle.pq_base.specs.declared.op.Op.{Op}
use Rattle.pq_schema.specs.declared.query.Operand.{Operand}
use Rattle.pq_schema.specs.declared.query.Operand.TheVariants as operand
use Rattle.pq_schema.specs.declared.query.OrderItem.{OrderItem}
use Rattle.pq_schema.specs.declared.query.Pred.{Pred}
use Rattle.pq_schema.specs.declared.query.Query.{Query}
use Rattle.pq_schema.specs.declared.query.Relation.{Relation}
use Rattle.pq_schema.specs.declared.query.Stop.{Stop}
use Rattle.pq_schema.specs.declared.query.Stop.TheVariants as stop
use Rattle.pq_schema.specs.declared.table.Table.{Table}
use Rattle.pq_schema.specs.ColumnNames.{repeated_name}
use Rattle.pq_schema.specs.Definitions.{is_outside, refused_if}
use Rattle.pq_schema.specs.Resolved.{same_ref, param_type}
use Rattle.pq_schema.specs.Schema.{Schema, find_table}
use Rattle.pq_base.specs.Comparing.{is_null_test}
use Rattle.pq_base.specs.Values.{same_kind}
use Rattle.pq_query_read.specs.Columns.{has_alias, ref_of, type_of, selected_of}
use Rattle.pq_query_read.specs.Parameters.{param_number, uses, params_of}
use Rattle.pq_query_read.specs.Trying.{◌>>=◌, or_refused, passed_unless, each_after}
use Rattle.pq_query_read.specs.declared.select.ItemDef.{ItemDef}
use Rattle.pq_query_read.specs.declared.select.OperandDef.{OperandDef}
use Rattle.pq_query_read.specs.declared.select.OperandDef.TheVariants as operand_def
use Rattle.pq_query_read.specs.declared.select.PredDef.{PredDef}
use Rattle.pq_query_read.specs.declared.select.RelationDef.{RelationDef}
use Rattle.pq_query_read.specs.declared.select.SelectDef.{SelectDef}
use Rattle.pq_query_read.specs.declared.select.Selected.{Selected}
use Rattle.pq_query_read.specs.declared.select.Selected.TheVariants as selected
use Rattle.pq_query_read.specs.declared.select.StopDef.{StopDef}
use Rattle.pq_query_read.specs.declared.select.StopDef.TheVariants as stop_def

-- ---- how many there are

-- `*` is not counted: six relations have at most 192 columns
abbrev pub is_outside_selected : Selected → Bool
is_outside_selected selected.Star = false
is_outside_selected (selected.Refs refs) = is_outside (length refs) 192

-- relations, predicates, order, selected
abbrev pub clause_counts_refusal : SelectDef → Option Refusal
clause_counts_refusal def =
    or_else (refused_if (is_outside (length def.relations) 6) (refusal.Count count_word.RELATIONS))
    (or_else (refused_if (nat_lt 16 (length def.preds)) (refusal.Count count_word.PREDICATES))
    (or_else (refused_if (nat_lt 4 (length def.order)) (refusal.Count count_word.ORDER))
    (refused_if (is_outside_selected def.selected) (refusal.Count count_word.SELECTED))))

-- ---- FROM

-- an alias that is left out is the table's name
abbrev pub alias_of : RelationDef → List ℕ
alias_of def = unwrap_or def.alias def.table

-- a table that is there, under an alias that no relation before it has
abbrev pub relation_of : Schema → List Relation → RelationDef → Result Relation Refusal
relation_of schema before def =
    or_refused (refusal.NoTable def.table) (find_table schema def.table) >>= λ table.
    passed_unless (refused_if (list_any (has_alias (alias_of def)) before) (refusal.Alias (alias_of def))) >>= λ free.
    Ok (record { table = table; alias = alias_of def })

abbrev pub relations_of : Schema → List RelationDef → Result (List Relation) Refusal
relations_of schema defs = each_after (relation_of schema) [] defs

-- ---- WHERE

-- a column equality has the later relation on the left
abbrev pub pred_with : ColRef → Op → Operand → Pred
pred_with left op (operand.Const value) = record { left = left; op = op; right = operand.Const value }
pred_with left op (operand.Param number) = record { left = left; op = op; right = operand.Param number }
pred_with left op (operand.Col right) =
    if nat_lt left.rel right.rel then record { left = right; op = op; right = operand.Col left }
    else record { left = left; op = op; right = operand.Col right }

module _ (tables : List Table) (relations : List Relation) where
  abbrev pub operand_of : OperandDef → Result Operand Refusal
  operand_of (operand_def.Const value) = Ok (operand.Const value)
  operand_of (operand_def.Param number) = Ok (operand.Param (param_number number))
  operand_of (operand_def.Ref def) = ref_of tables relations def >>= λ ref. Ok (operand.Col ref)

  -- NULL behind IS NULL; a constant of the column's kind, a text of at most 1,000 bytes; any parameter; a column of
  -- its kind and of another relation
  abbrev pub is_comparable : Op → ColRef → Operand → Bool
  is_comparable op left (operand.Const value) =
      is_null_test op || fits_type (param_type (type_of tables relations left)) value
  is_comparable op left (operand.Param number) = true
  is_comparable op left (operand.Col right) =
      not (right.rel == left.rel) && same_kind (type_of tables relations left) (type_of tables relations right)

  -- the predicate of this number, where its sides may be compared
  abbrev pub pred_between : ℕ → ColRef → Op → Operand → Result Pred Refusal
  pred_between number left op right =
      passed_unless (refused_if (not (is_comparable op left right)) (refusal.OperandKind number)) >>= λ comparable.
      Ok (pred_with left op right)

  -- the predicate behind these; predicates are numbered from 1
  abbrev pub pred_of : List Pred → PredDef → Result Pred Refusal
  pred_of before def =
      ref_of tables relations def.left >>= λ left.
      operand_of def.right >>= λ right.
      pred_between (length before + 1) left def.op right

  abbrev pub preds_of : List PredDef → Result (List Pred) Refusal
  preds_of defs = each_after pred_of [] defs

-- ---- ORDER BY

abbrev pub has_ref : ColRef → OrderItem → Bool
has_ref ref item = same_ref item.col ref

-- the name behind the point, or the name alone
abbrev pub ref_name : List ℕ → Option (List ℕ) → List ℕ
ref_name name None = name
ref_name alias (Some name) = name

module _ (tables : List Table) (relations : List Relation) where
  -- a column that is not among those before it
  abbrev pub item_of : List OrderItem → ItemDef → Result OrderItem Refusal
  item_of before def =
      ref_of tables relations def.col >>= λ ref.
      passed_unless (refused_if (list_any (has_ref ref) before)
      (repeated_name (ref_name def.col.first def.col.second))) >>= λ new.
      Ok (record { col = ref; dir = def.dir })

  abbrev pub items_of : List ItemDef → Result (List OrderItem) Refusal
  items_of defs = each_after item_of [] defs

-- ---- LIMIT and PAGINATE

-- k from 1 to 1,000
abbrev pub limit_size : ℤ → Option ℕ
limit_size (pos k) = if nat_le 1 k && nat_le k 1000 then Some k else None
limit_size (negsuc k) = None

abbrev pub stop_of : StopDef → Result Stop Refusal
stop_of stop_def.All = Ok stop.All
stop_of (stop_def.Limit number) = or_refused (refusal.Count count_word.STOP) (limit_size number) >>=
    λ k. Ok (stop.Limit k)
stop_of (stop_def.Paginate number) = or_refused (refusal.Count count_word.STOP) (limit_size number) >>=
    λ k. Ok (stop.Paginate k)

-- ---- the query

-- the query of this name, or the first refusal
unfoldable pub resolved_select : Schema → List ℕ → SelectDef → Result Query Refusal
resolved_select schema name def =
    passed_unless (clause_counts_refusal def) >>= λ counted.
    relations_of schema def.relations >>= λ relations.
    selected_of schema.tables relations def.selected >>= λ select.
    preds_of schema.tables relations def.preds >>= λ preds.
    items_of schema.tables relations def.order >>= λ order.
    stop_of def.stop >>= λ stop.
    params_of (uses schema.tables relations preds) >>= λ params.
    Ok (record {
      name = name;
      relations = relations;
      select = select;
      preds = preds;
      order = order;
      stop = stop;
      params = params;
    })
