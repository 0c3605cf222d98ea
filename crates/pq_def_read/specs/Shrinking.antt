-- What is set, an assignment, a condition and a write take a token at least.
use Rattle.std.specs.Prelude.{ℕ}
use Rattle.pq_base.specs.declared.op.Op.TheVariants as op
use Rattle.pq_base.specs.declared.value.Value.TheVariants as value
use Rattle.pq_grammar.specs.Reader.{Reader, pair_at, skip_at, close_at, option_at, option_items, test_of}
use Rattle.pq_grammar.specs.Shrinking.{Shrinks, Keeps, token_shrinks, shrinks_keeps, pair_shrinks, pair_keeps, skip_shrinks, close_shrinks, map_shrinks, map_keeps, option_keeps, choice_shrinks, choice_keeps, separated_shrinks}
use Rattle.pq_shape.specs.Front.{is_word_shape, is_mark_shape, is_soft_shape, word_at, mark_at, soft_at, name_of, name_at, number_in, number_at, constant_in, constant_shape_at, value_in, value_shape_at}
use Rattle.pq_shape.specs.Operators.{op_at, op_keeps}
use Rattle.pq_shape.specs.declared.keyword.TheConstants.{AND, DELETE, FROM, INSERT, INTO, SET, UPDATE, VALUES, WHERE}
use Rattle.pq_shape.specs.declared.mark.TheConstants.{CLOSE, COMMA, EQUAL, OPEN}
use Rattle.pq_shape.specs.Shape.{Shape}
use Rattle.pq_shape.specs.declared.soft.Soft.{Soft}
use Rattle.pq_shape.specs.declared.soft.Soft.TheVariants as soft_word
use Rattle.pq_def_read.specs.Definitions.{names_at, cols_at}
use Rattle.pq_def_read.specs.Writes.{values_clause_at, setting_at, set_at, sets_at, assign_at, key_clause_at, any_operator_at, compare_at, null_test_at, comparison_at, cond_at, conds_at, conditions_at, insert_at, update_at, delete_at, write_at}
use Rattle.pq_def_read.specs.declared.write.Setting.TheVariants as setting

pub word_shrinks : (k : ℕ) → Shrinks (word_at k)
word_shrinks k = token_shrinks (test_of (is_word_shape k))

pub mark_shrinks : (k : ℕ) → Shrinks (mark_at k)
mark_shrinks k = token_shrinks (test_of (is_mark_shape k))

soft_shrinks : (s : Soft) → Shrinks (soft_at s)
soft_shrinks s = token_shrinks (test_of (is_soft_shape s))

-- "=" and a value
equal_keeps : Keeps (skip_at (mark_at EQUAL) value_shape_at)
equal_keeps = shrinks_keeps (skip_at (mark_at EQUAL) value_shape_at)
    (skip_shrinks (mark_at EQUAL) value_shape_at (mark_shrinks EQUAL)
    (shrinks_keeps value_shape_at (token_shrinks value_in)))

setting_keeps : Keeps setting_at
unfolding setting_at
setting_keeps = choice_keeps (is_soft_shape soft_word.Add) _ _
    (map_keeps (λ z. setting.Add z) (skip_at (soft_at soft_word.Add) number_at)
    (shrinks_keeps _ (skip_shrinks (soft_at soft_word.Add) number_at (soft_shrinks soft_word.Add)
    (shrinks_keeps number_at (token_shrinks number_in)))))
    (map_keeps (λ v. setting.Is v) (skip_at (mark_at EQUAL) value_shape_at) equal_keeps)

pub set_shrinks : Shrinks set_at
unfolding set_at
set_shrinks = map_shrinks _ (pair_at name_at setting_at)
    (pair_shrinks name_at setting_at (token_shrinks name_of) setting_keeps)

pub assign_shrinks : Shrinks assign_at
assign_shrinks = map_shrinks _ (pair_at name_at (skip_at (mark_at EQUAL) value_shape_at))
    (pair_shrinks name_at (skip_at (mark_at EQUAL) value_shape_at) (token_shrinks name_of) equal_keeps)

compare_keeps : Keeps compare_at
unfolding compare_at any_operator_at
compare_keeps = pair_keeps any_operator_at constant_shape_at
    (choice_keeps (is_mark_shape EQUAL) _ op_at
    (map_keeps (λ u. op.Eq) (mark_at EQUAL) (shrinks_keeps _ (mark_shrinks EQUAL))) op_keeps)
    (shrinks_keeps constant_shape_at (token_shrinks constant_in))

comparison_keeps : Keeps comparison_at
unfolding comparison_at null_test_at
comparison_keeps =
    choice_keeps (is_soft_shape soft_word.Is) null_test_at compare_at
    (map_keeps (λ u. (op.IsNull, value.Null)) (skip_at (soft_at soft_word.Is) (soft_at soft_word.Null))
    (shrinks_keeps _ (skip_shrinks (soft_at soft_word.Is) (soft_at soft_word.Null) (soft_shrinks soft_word.Is)
    (shrinks_keeps _ (soft_shrinks soft_word.Null))))) compare_keeps

pub cond_shrinks : Shrinks cond_at
unfolding cond_at
cond_shrinks = map_shrinks _ (pair_at name_at comparison_at)
    (pair_shrinks name_at comparison_at (token_shrinks name_of) comparison_keeps)

-- ---- a write

word_keeps : {X : Type 0} (k : ℕ) (r : Reader Shape X) → Keeps r → Keeps (skip_at (word_at k) r)
word_keeps k r h = shrinks_keeps (skip_at (word_at k) r) (skip_shrinks (word_at k) r (word_shrinks k) h)

name_keeps : {X : Type 0} (r : Reader Shape X) → Keeps r → Keeps (pair_at name_at r)
name_keeps r h = pair_keeps name_at r (shrinks_keeps name_at (token_shrinks name_of)) h

pub cols_shrinks : Shrinks cols_at
unfolding cols_at names_at
cols_shrinks =
    skip_shrinks (mark_at OPEN) _ (mark_shrinks OPEN)
    (shrinks_keeps _ (close_shrinks _ (mark_at CLOSE)
    (separated_shrinks (is_mark_shape COMMA) (mark_at COMMA) name_at (token_shrinks name_of) (mark_shrinks COMMA))
    (shrinks_keeps _ (mark_shrinks CLOSE))))

values_shrinks : Shrinks values_clause_at
unfolding values_clause_at
values_shrinks =
    separated_shrinks (is_mark_shape COMMA) (mark_at COMMA) value_shape_at (token_shrinks value_in) (mark_shrinks COMMA)

-- values between parentheses
row_keeps : Keeps (skip_at (mark_at OPEN) (close_at values_clause_at (mark_at CLOSE)))
row_keeps =
    shrinks_keeps _ (skip_shrinks (mark_at OPEN) _ (mark_shrinks OPEN)
    (shrinks_keeps _ (close_shrinks values_clause_at (mark_at CLOSE) values_shrinks
    (shrinks_keeps _ (mark_shrinks CLOSE)))))

insert_shrinks : Shrinks insert_at
unfolding insert_at
insert_shrinks =
    map_shrinks _ (skip_at (word_at INSERT) _) (skip_shrinks (word_at INSERT) _ (word_shrinks INSERT)
    (word_keeps INTO _ (name_keeps _ (pair_keeps (option_at (is_mark_shape OPEN) cols_at) _
    (option_keeps (is_mark_shape OPEN) cols_at (shrinks_keeps cols_at cols_shrinks))
    (word_keeps VALUES _ row_keeps)))))

sets_keeps : Keeps sets_at
unfolding sets_at
sets_keeps = shrinks_keeps _ (separated_shrinks (is_mark_shape COMMA) (mark_at COMMA) set_at set_shrinks
    (mark_shrinks COMMA))

key_keeps : Keeps key_clause_at
unfolding key_clause_at
key_keeps = shrinks_keeps _ (separated_shrinks (is_word_shape AND) (word_at AND) assign_at assign_shrinks
    (word_shrinks AND))

conds_keeps : Keeps conds_at
unfolding conds_at
conds_keeps = shrinks_keeps _ (separated_shrinks (is_word_shape AND) (word_at AND) cond_at cond_shrinks
    (word_shrinks AND))

conditions_keeps : Keeps conditions_at
unfolding conditions_at
conditions_keeps =
    map_keeps option_items _ (option_keeps (is_soft_shape soft_word.If) (skip_at (soft_at soft_word.If) conds_at)
    (shrinks_keeps _ (skip_shrinks (soft_at soft_word.If) conds_at (soft_shrinks soft_word.If) conds_keeps)))

-- WHERE, the key and the conditions
where_keeps : Keeps (skip_at (word_at WHERE) (pair_at key_clause_at conditions_at))
where_keeps = word_keeps WHERE _ (pair_keeps key_clause_at conditions_at key_keeps conditions_keeps)

update_shrinks : Shrinks update_at
unfolding update_at
update_shrinks =
    map_shrinks _ (skip_at (word_at UPDATE) _) (skip_shrinks (word_at UPDATE) _ (word_shrinks UPDATE)
    (name_keeps _ (word_keeps SET _ (pair_keeps sets_at _ sets_keeps where_keeps))))

delete_shrinks : Shrinks delete_at
unfolding delete_at
delete_shrinks =
    map_shrinks _ (skip_at (word_at DELETE) _) (skip_shrinks (word_at DELETE) _ (word_shrinks DELETE)
    (word_keeps FROM _ (name_keeps _ where_keeps)))

pub write_shrinks : Shrinks write_at
unfolding write_at
write_shrinks = choice_shrinks (is_word_shape INSERT) insert_at _ insert_shrinks
    (choice_shrinks (is_word_shape UPDATE) update_at delete_at update_shrinks delete_shrinks)
