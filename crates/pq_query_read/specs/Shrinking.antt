-- What takes a token at least.
use Rattle.std.proofs.Common.{ℕ}
use Rattle.pq_base.specs.declared.value.Dir.TheVariants as dir
use Rattle.pq_grammar.specs.Reader.{pair_at, skip_at, close_at, nothing_at, test_of}
use Rattle.pq_grammar.specs.Shrinking.{Shrinks, Keeps, token_shrinks, shrinks_keeps, nothing_keeps, pair_shrinks, pair_keeps, close_shrinks, skip_shrinks, map_shrinks, map_keeps, option_keeps, choice_keeps}
use Rattle.pq_base.specs.declared.op.Op.TheVariants as op
use Rattle.pq_shape.specs.Front.{is_word_shape, is_mark_shape, is_name_shape, is_soft_shape, soft_at, word_at, mark_at, name_of, name_at, number_in, number_at, constant_in, constant_shape_at}
use Rattle.pq_shape.specs.Operators.{op_at, op_keeps}
use Rattle.pq_base.specs.declared.value.Value.TheVariants as value
use Rattle.pq_shape.specs.declared.soft.Soft.{Soft}
use Rattle.pq_shape.specs.declared.soft.Soft.TheVariants as soft_word
use Rattle.pq_shape.specs.declared.keyword.TheConstants.{AS, ASC, DESC}
use Rattle.pq_shape.specs.declared.mark.TheConstants.{CLOSE_SQUARE, COLON, EQUAL, OPEN_SQUARE, POINT}
use Rattle.pq_query_read.specs.Reading.{part_at, ref_at, is_alias, alias_at, relation_clause_at, label_at, param_at, plain_at, operand_at, equality_at, compare_at, null_test_at, comparison_at, pred_at, dir_at, item_at}
use Rattle.pq_query_read.specs.declared.select.OperandDef.TheVariants as operand

word_shrinks : (k : ℕ) → Shrinks (word_at k)
word_shrinks k = token_shrinks (test_of (is_word_shape k))

mark_shrinks : (k : ℕ) → Shrinks (mark_at k)
mark_shrinks k = token_shrinks (test_of (is_mark_shape k))

name_keeps : Keeps name_at
name_keeps = shrinks_keeps name_at (token_shrinks name_of)

pub ref_shrinks : Shrinks ref_at
unfolding ref_at part_at
ref_shrinks =
    map_shrinks _ (pair_at name_at part_at)
    (pair_shrinks name_at part_at (token_shrinks name_of)
    (option_keeps (is_mark_shape POINT) (skip_at (mark_at POINT) name_at)
    (shrinks_keeps _ (skip_shrinks (mark_at POINT) name_at (mark_shrinks POINT) name_keeps))))

pub relation_shrinks : Shrinks relation_clause_at
unfolding relation_clause_at alias_at
relation_shrinks =
    map_shrinks _ (pair_at name_at alias_at)
    (pair_shrinks name_at alias_at (token_shrinks name_of)
    (option_keeps is_alias _ (choice_keeps (is_word_shape AS) (skip_at (word_at AS) name_at) name_at
    (shrinks_keeps _ (skip_shrinks (word_at AS) name_at (word_shrinks AS) name_keeps)) name_keeps)))

param_keeps : Keeps param_at
unfolding param_at label_at
param_keeps =
    map_keeps _ (skip_at (mark_at OPEN_SQUARE) (close_at (pair_at number_at label_at) (mark_at CLOSE_SQUARE)))
    (shrinks_keeps _ (skip_shrinks (mark_at OPEN_SQUARE)
    (close_at (pair_at number_at label_at) (mark_at CLOSE_SQUARE)) (mark_shrinks OPEN_SQUARE)
    (shrinks_keeps _ (close_shrinks (pair_at number_at label_at) (mark_at CLOSE_SQUARE)
    (pair_shrinks number_at label_at (token_shrinks number_in)
    (option_keeps (is_mark_shape COLON) (skip_at (mark_at COLON) name_at)
    (shrinks_keeps _ (skip_shrinks (mark_at COLON) name_at (mark_shrinks COLON) name_keeps))))
    (shrinks_keeps _ (mark_shrinks CLOSE_SQUARE))))))

plain_keeps : Keeps plain_at
unfolding plain_at
plain_keeps = choice_keeps (is_mark_shape OPEN_SQUARE) param_at _ param_keeps (map_keeps
    (λ v. operand.Const v) constant_shape_at (shrinks_keeps constant_shape_at (token_shrinks constant_in)))

operand_keeps : Keeps operand_at
unfolding operand_at
operand_keeps = choice_keeps is_name_shape _ plain_at (map_keeps
    (λ r. operand.Ref r) ref_at (shrinks_keeps ref_at ref_shrinks)) plain_keeps

compare_keeps : Keeps compare_at
unfolding compare_at equality_at
compare_keeps =
    choice_keeps (is_mark_shape EQUAL) equality_at (pair_at op_at plain_at)
    (map_keeps (λ o. (op.Eq, o)) (skip_at (mark_at EQUAL) operand_at)
    (shrinks_keeps _ (skip_shrinks (mark_at EQUAL) operand_at (mark_shrinks EQUAL) operand_keeps)))
    (pair_keeps op_at plain_at op_keeps plain_keeps)

soft_shrinks : (s : Soft) → Shrinks (soft_at s)
soft_shrinks s = token_shrinks (test_of (is_soft_shape s))

comparison_keeps : Keeps comparison_at
unfolding comparison_at null_test_at
comparison_keeps =
    choice_keeps (is_soft_shape soft_word.Is) null_test_at compare_at
    (map_keeps (λ u. (op.IsNull, operand.Const value.Null)) (skip_at (soft_at soft_word.Is) (soft_at soft_word.Null))
    (shrinks_keeps _ (skip_shrinks (soft_at soft_word.Is) (soft_at soft_word.Null) (soft_shrinks soft_word.Is)
    (shrinks_keeps _ (soft_shrinks soft_word.Null))))) compare_keeps

pub pred_shrinks : Shrinks pred_at
unfolding pred_at
pred_shrinks = map_shrinks _ (pair_at ref_at comparison_at)
    (pair_shrinks ref_at comparison_at ref_shrinks comparison_keeps)

dir_keeps : Keeps dir_at
unfolding dir_at
dir_keeps =
    choice_keeps (is_word_shape DESC) _ _ (map_keeps
    (λ u. dir.Desc) (word_at DESC) (shrinks_keeps _ (word_shrinks DESC)))
    (choice_keeps (is_word_shape ASC) _ _ (map_keeps
    (λ u. dir.Asc) (word_at ASC) (shrinks_keeps _ (word_shrinks ASC))) (map_keeps
    (λ u. dir.Asc) nothing_at nothing_keeps))

pub item_shrinks : Shrinks item_at
unfolding item_at
item_shrinks = map_shrinks _ (pair_at ref_at dir_at) (pair_shrinks ref_at dir_at ref_shrinks dir_keeps)
