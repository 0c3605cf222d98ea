-- Reading a query from left to right.
use Rattle.std.specs.Prelude.{ℕ, Bool, true, List, Option, Result, if◌then◌else◌, drop}
use Rattle.pq_base.specs.declared.value.Dir.{Dir}
use Rattle.pq_base.specs.declared.value.Dir.TheVariants as dir
use Rattle.pq_grammar.specs.Reader.{Reader, pair_at, skip_at, close_at, map_at, choice_at, option_at, nothing_at, separated_at, option_items, all_at}
use Rattle.pq_base.specs.declared.op.Op.{Op}
use Rattle.pq_base.specs.declared.op.Op.TheVariants as op
use Rattle.pq_text.specs.declared.token.Token.{Token}
use Rattle.pq_shape.specs.Front.{is_word_shape, is_mark_shape, is_name_shape, is_soft_shape, soft_at, is_between, word_at, mark_at, between_at, name_at, number_at, constant_shape_at}
use Rattle.pq_shape.specs.Operators.{op_at}
use Rattle.pq_shape.specs.Shapes.{shapes_of}
use Rattle.pq_shape.specs.declared.between.Between.TheVariants as between
use Rattle.pq_shape.specs.declared.keyword.TheConstants.{AND, AS, ASC, BY, DESC, FROM, LIMIT, ORDER, PAGINATE, SELECT, WHERE}
use Rattle.pq_shape.specs.declared.mark.TheConstants.{CLOSE_SQUARE, COLON, COMMA, EQUAL, OPEN_SQUARE, POINT, SEMICOLON, STAR}
use Rattle.pq_base.specs.declared.value.Value.TheVariants as value
use Rattle.pq_shape.specs.declared.soft.Soft.TheVariants as soft_word
use Rattle.pq_shape.specs.Shape.{Shape}
use Rattle.pq_query_read.specs.declared.select.ItemDef.{ItemDef}
use Rattle.pq_query_read.specs.declared.select.OperandDef.{OperandDef}
use Rattle.pq_query_read.specs.declared.select.OperandDef.TheVariants as operand
use Rattle.pq_query_read.specs.declared.select.PredDef.{PredDef}
use Rattle.pq_query_read.specs.declared.select.RefDef.{RefDef}
use Rattle.pq_query_read.specs.declared.select.RelationDef.{RelationDef}
use Rattle.pq_query_read.specs.declared.select.SelectDef.{SelectDef}
use Rattle.pq_query_read.specs.declared.select.Selected.{Selected}
use Rattle.pq_query_read.specs.declared.select.Selected.TheVariants as selected
use Rattle.pq_query_read.specs.declared.select.StopDef.{StopDef}
use Rattle.pq_query_read.specs.declared.select.StopDef.TheVariants as stop

-- ---- columns and relations

-- a point and a name
unfoldable pub part_at : Reader Shape (Option (List ℕ))
part_at = option_at (is_mark_shape POINT) (skip_at (mark_at POINT) name_at)

unfoldable pub ref_at : Reader Shape RefDef
ref_at = map_at (λ x. record { first = x.0; second = x.1 }) (pair_at name_at part_at)

-- one of two tests
abbrev pub is_alias : Shape → Bool
is_alias t = if is_word_shape AS t then true else is_name_shape t

unfoldable pub alias_at : Reader Shape (Option (List ℕ))
alias_at = option_at is_alias (choice_at (is_word_shape AS) (skip_at (word_at AS) name_at) name_at)

unfoldable pub relation_clause_at : Reader Shape RelationDef
relation_clause_at = map_at (λ x. record { table = x.0; alias = x.1 }) (pair_at name_at alias_at)

-- ---- predicates

-- a colon and a name, which is for the reader alone
unfoldable pub label_at : Reader Shape (Option (List ℕ))
label_at = option_at (is_mark_shape COLON) (skip_at (mark_at COLON) name_at)

unfoldable pub param_at : Reader Shape OperandDef
param_at = map_at (λ x. operand.Param x.0) (skip_at (mark_at OPEN_SQUARE)
    (close_at (pair_at number_at label_at) (mark_at CLOSE_SQUARE)))

-- a constant or a parameter
unfoldable pub plain_at : Reader Shape OperandDef
plain_at = choice_at (is_mark_shape OPEN_SQUARE) param_at (map_at (λ v. operand.Const v) constant_shape_at)

-- a constant, a parameter or a column
unfoldable pub operand_at : Reader Shape OperandDef
operand_at = choice_at is_name_shape (map_at (λ r. operand.Ref r) ref_at) plain_at

unfoldable pub equality_at : Reader Shape (Op × OperandDef)
equality_at = map_at (λ o. (op.Eq, o)) (skip_at (mark_at EQUAL) operand_at)

unfoldable pub compare_at : Reader Shape (Op × OperandDef)
compare_at = choice_at (is_mark_shape EQUAL) equality_at (pair_at op_at plain_at)

unfoldable pub null_test_at : Reader Shape (Op × OperandDef)
null_test_at = map_at (λ u. (op.IsNull, operand.Const value.Null))
    (skip_at (soft_at soft_word.Is) (soft_at soft_word.Null))

-- a comparison, or IS NULL
unfoldable pub comparison_at : Reader Shape (Op × OperandDef)
comparison_at = choice_at (is_soft_shape soft_word.Is) null_test_at compare_at

unfoldable pub pred_at : Reader Shape PredDef
pred_at = map_at (λ x. record { left = x.0; op = x.1.0; right = x.1.1 }) (pair_at ref_at comparison_at)

-- ---- the order and the stop

unfoldable pub dir_at : Reader Shape Dir
dir_at =
    choice_at (is_word_shape DESC) (map_at (λ u. dir.Desc) (word_at DESC))
    (choice_at (is_word_shape ASC) (map_at (λ u. dir.Asc) (word_at ASC)) (map_at (λ u. dir.Asc) nothing_at))

unfoldable pub item_at : Reader Shape ItemDef
item_at = map_at (λ x. record { col = x.0; dir = x.1 }) (pair_at ref_at dir_at)

unfoldable pub stop_clause_at : Reader Shape StopDef
stop_clause_at =
    choice_at (is_word_shape LIMIT) (map_at (λ n. stop.Limit n) (skip_at (word_at LIMIT) number_at))
    (choice_at (is_word_shape PAGINATE) (map_at (λ n. stop.Paginate n) (skip_at (word_at PAGINATE) number_at)) (map_at
    (λ u. stop.All) nothing_at))

-- ---- lists

unfoldable pub refs_at : Reader Shape (List RefDef)
refs_at = separated_at (is_mark_shape COMMA) (mark_at COMMA) ref_at

unfoldable pub relations_at : Reader Shape (List RelationDef)
relations_at = separated_at (is_between between.CommaOrJoin) (between_at between.CommaOrJoin) relation_clause_at

unfoldable pub preds_at : Reader Shape (List PredDef)
preds_at = separated_at (is_word_shape AND) (word_at AND) pred_at

unfoldable pub items_at : Reader Shape (List ItemDef)
items_at = separated_at (is_mark_shape COMMA) (mark_at COMMA) item_at

unfoldable pub where_at : Reader Shape (List PredDef)
where_at = map_at option_items (option_at (is_word_shape WHERE) (skip_at (word_at WHERE) preds_at))

unfoldable pub order_at : Reader Shape (List ItemDef)
order_at = map_at option_items (option_at (is_word_shape ORDER)
    (skip_at (word_at ORDER) (skip_at (word_at BY) items_at)))

-- ---- the query

unfoldable pub selected_at : Reader Shape Selected
selected_at = choice_at (is_mark_shape STAR) (map_at (λ u. selected.Star) (mark_at STAR)) (map_at
    (λ rs. selected.Refs rs) refs_at)

unfoldable pub select_at : Reader Shape SelectDef
select_at =
    map_at (λ x. record { selected = x.0; relations = x.1.0; preds = x.1.1.0; order = x.1.1.1.0; stop = x.1.1.1.1 })
    (skip_at (word_at SELECT) (pair_at selected_at
    (skip_at (word_at FROM) (pair_at relations_at
    (pair_at where_at (pair_at order_at (close_at stop_clause_at (mark_at SEMICOLON))))))))

unfoldable pub select_read_at : List Shape → Result SelectDef ℕ
select_read_at = all_at select_at

-- the query of the tokens of a text from a place on, or how many tokens are left where none goes on
abbrev pub select_of : List ℕ → List Token → ℕ → Result SelectDef ℕ
select_of text ts from = select_read_at (drop from (shapes_of text ts))
