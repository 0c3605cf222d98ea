-- The grammar: how each part of a query is spelled, and the query.
use Rattle.std.specs.Prelude.{◌≡◌, ℕ, ℤ, false, List, [], Option, ◌⊎◌}
use Rattle.pq_base.specs.declared.value.Value.TheVariants as value
use Rattle.pq_base.specs.declared.value.Dir.{Dir}
use Rattle.pq_base.specs.declared.value.Dir.TheVariants as dir
use Rattle.pq_grammar.specs.Language.{◌⋅◌, nothing, optional, separated_by, made_from}
use Rattle.pq_base.specs.Comparing.{is_null_test}
use Rattle.pq_base.specs.declared.op.Op.{Op}
use Rattle.pq_base.specs.declared.op.Op.TheVariants as op
use Rattle.pq_shape.specs.Operators.{operator}
use Rattle.pq_shape.specs.Parts.{word, mark, comma, name, number, soft, a_constant}
use Rattle.pq_shape.specs.declared.keyword.TheConstants.{AND, AS, ASC, BY, DESC, FROM, JOIN, LIMIT, ORDER, PAGINATE, SELECT, WHERE}
use Rattle.pq_shape.specs.declared.mark.TheConstants.{CLOSE_SQUARE, COLON, EQUAL, OPEN_SQUARE, POINT, SEMICOLON, STAR}
use Rattle.pq_shape.specs.declared.soft.Soft.TheVariants as soft_word
use Rattle.pq_shape.specs.Shape.{Shape}
use Rattle.pq_query_read.specs.declared.select.ItemDef.{ItemDef}
use Rattle.pq_query_read.specs.declared.select.OperandDef.{OperandDef}
use Rattle.pq_query_read.specs.declared.select.OperandDef.TheVariants as operand
use Rattle.pq_query_read.specs.declared.select.PredDef.{PredDef}
use Rattle.pq_query_read.specs.declared.select.RefDef.{RefDef}
use Rattle.pq_query_read.specs.declared.select.RelationDef.{RelationDef}
use Rattle.pq_query_read.specs.declared.select.SelectDef.{SelectDef}
use Rattle.pq_query_read.specs.declared.select.Selected.{Selected}
use Rattle.pq_query_read.specs.declared.select.Selected.TheVariants as selected
use Rattle.pq_query_read.specs.declared.select.StopDef.{StopDef}
use Rattle.pq_query_read.specs.declared.select.StopDef.TheVariants as stop

-- name [ "." name ]
abbrev pub ref : RefDef → List Shape → Type 0
ref r = name r.first ⋅ optional (λ n. mark POINT ⋅ name n) r.second

-- [ AS ] name
abbrev pub alias : List ℕ → List Shape → Type 0
alias n w = (word AS ⋅ name n) w ⊎ name n w

-- name [ [ AS ] name ]
abbrev pub relation : RelationDef → List Shape → Type 0
relation r = name r.table ⋅ optional alias r.alias

-- "," | JOIN
abbrev pub comma_or_join : List Shape → Type 0
comma_or_join w = comma w ⊎ word JOIN w

-- "[" number [ ":" name ] "]": the name is for the reader alone
abbrev pub param : ℤ → List Shape → Type 0
param z w = (label : Option (List ℕ))
    × (mark OPEN_SQUARE ⋅ (number z ⋅ optional (λ n. mark COLON ⋅ name n) label) ⋅ mark CLOSE_SQUARE) w

-- op ( const | param ) | "=" ref
abbrev pub compare : Op → OperandDef → List Shape → Type 0
compare o (operand.Const v) = mark (operator o) ⋅ a_constant v
compare o (operand.Param z) = mark (operator o) ⋅ param z
compare op.Eq (operand.Ref r) = mark EQUAL ⋅ ref r
compare op.Ne (operand.Ref r) = λ w. ⊥
compare op.Lt (operand.Ref r) = λ w. ⊥
compare op.Le (operand.Ref r) = λ w. ⊥
compare op.Gt (operand.Ref r) = λ w. ⊥
compare op.Ge (operand.Ref r) = λ w. ⊥
compare op.IsNull (operand.Ref r) = λ w. ⊥

-- IS NULL
abbrev pub null_test : Op × OperandDef → List Shape → Type 0
null_test = made_from (λ (u : Unit {0}). (op.IsNull, operand.Const value.Null))
    (λ u. soft soft_word.Is ⋅ soft soft_word.Null)

-- a comparison by an operator with a mark, or IS NULL
abbrev pub comparison : Op × OperandDef → List Shape → Type 0
comparison y w = ((is_null_test y.0 ≡ false) × compare y.0 y.1 w) ⊎ null_test y w

-- ref op ( const | param ) | ref "=" ref | ref IS NULL
abbrev pub pred : PredDef → List Shape → Type 0
pred p = ref p.left ⋅ comparison (p.op, p.right)

-- [ ASC | DESC ]
abbrev pub direction : Dir → List Shape → Type 0
direction dir.Asc w = word ASC w ⊎ nothing w
direction dir.Desc w = word DESC w

-- ref [ ASC | DESC ]
abbrev pub item : ItemDef → List Shape → Type 0
item i = ref i.col ⋅ direction i.dir

-- [ ( LIMIT | PAGINATE ) number ]
abbrev pub stop_tokens : StopDef → List Shape → Type 0
stop_tokens stop.All = nothing
stop_tokens (stop.Limit z) = word LIMIT ⋅ number z
stop_tokens (stop.Paginate z) = word PAGINATE ⋅ number z

-- "*" | ref { "," ref }
abbrev pub selected_tokens : Selected → List Shape → Type 0
selected_tokens selected.Star = mark STAR
selected_tokens (selected.Refs rs) = separated_by comma ref rs

-- [ WHERE pred { AND pred } ]
abbrev pub conditions : List PredDef → List Shape → Type 0
conditions ps w = ((ps ≡ []) × nothing w) ⊎ (word WHERE ⋅ separated_by (word AND) pred ps) w

-- [ ORDER BY item { "," item } ]
abbrev pub order_tokens : List ItemDef → List Shape → Type 0
order_tokens is w = ((is ≡ []) × nothing w) ⊎ (word ORDER ⋅ word BY ⋅ separated_by comma item is) w

-- SELECT ( "*" | ref { "," ref } ) FROM relation { ( "," | JOIN ) relation } [ WHERE .. ] [ ORDER BY .. ] [ (
-- LIMIT | PAGINATE ) number ] ";"
abbrev pub SpellsSelect : SelectDef → List Shape → Type 0
SpellsSelect s = word SELECT ⋅ selected_tokens s.selected ⋅ word FROM ⋅ separated_by comma_or_join relation s.relations
    ⋅ conditions s.preds ⋅ order_tokens s.order ⋅ stop_tokens s.stop ⋅ mark SEMICOLON
