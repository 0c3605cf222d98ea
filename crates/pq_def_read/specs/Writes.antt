-- Reading a write from left to right.
use Rattle.std.specs.Prelude.{List}
use Rattle.pq_base.specs.declared.op.Op.{Op}
use Rattle.pq_base.specs.declared.op.Op.TheVariants as op
use Rattle.pq_base.specs.declared.value.Value.{Value}
use Rattle.pq_base.specs.declared.value.Value.TheVariants as value
use Rattle.pq_grammar.specs.Reader.{Reader, pair_at, skip_at, close_at, map_at, choice_at, option_at, separated_at, option_items}
use Rattle.pq_shape.specs.Front.{is_word_shape, is_mark_shape, is_soft_shape, word_at, soft_at, mark_at, name_at, number_at, constant_shape_at, value_shape_at}
use Rattle.pq_shape.specs.Operators.{op_at}
use Rattle.pq_shape.specs.declared.keyword.TheConstants.{AND, DELETE, FROM, INSERT, INTO, SET, UPDATE, VALUES, WHERE}
use Rattle.pq_shape.specs.declared.mark.TheConstants.{CLOSE, COMMA, EQUAL, OPEN}
use Rattle.pq_shape.specs.declared.soft.Soft.TheVariants as soft_word
use Rattle.pq_shape.specs.Shape.{Shape}
use Rattle.pq_def_read.specs.Definitions.{cols_at}
use Rattle.pq_def_read.specs.declared.write.Assign.{Assign}
use Rattle.pq_def_read.specs.declared.write.CondDef.{CondDef}
use Rattle.pq_def_read.specs.declared.write.SetDef.{SetDef}
use Rattle.pq_def_read.specs.declared.write.Setting.{Setting}
use Rattle.pq_def_read.specs.declared.write.Setting.TheVariants as setting
use Rattle.pq_def_read.specs.declared.write.WriteDef.{WriteDef}
use Rattle.pq_def_read.specs.declared.write.WriteDef.TheVariants.{Insert, Update, Delete}

unfoldable pub values_clause_at : Reader Shape (List Value)
values_clause_at = separated_at (is_mark_shape COMMA) (mark_at COMMA) value_shape_at

-- ---- what is set, and the key

unfoldable pub setting_at : Reader Shape Setting
setting_at = choice_at (is_soft_shape soft_word.Add)
    (map_at (λ z. setting.Add z) (skip_at (soft_at soft_word.Add) number_at))
    (map_at (λ v. setting.Is v) (skip_at (mark_at EQUAL) value_shape_at))

unfoldable pub set_at : Reader Shape SetDef
set_at = map_at (λ x. record { col = x.0; to = x.1 }) (pair_at name_at setting_at)

unfoldable pub sets_at : Reader Shape (List SetDef)
sets_at = separated_at (is_mark_shape COMMA) (mark_at COMMA) set_at

abbrev pub assign_at : Reader Shape Assign
assign_at = map_at (λ x. record { col = x.0; value = x.1 }) (pair_at name_at (skip_at (mark_at EQUAL) value_shape_at))

unfoldable pub key_clause_at : Reader Shape (List Assign)
key_clause_at = separated_at (is_word_shape AND) (word_at AND) assign_at

-- ---- conditions

unfoldable pub any_operator_at : Reader Shape Op
any_operator_at = choice_at (is_mark_shape EQUAL) (map_at (λ u. op.Eq) (mark_at EQUAL)) op_at

unfoldable pub compare_at : Reader Shape (Op × Value)
compare_at = pair_at any_operator_at constant_shape_at

unfoldable pub null_test_at : Reader Shape (Op × Value)
null_test_at = map_at (λ u. (op.IsNull, value.Null)) (skip_at (soft_at soft_word.Is) (soft_at soft_word.Null))

-- an operator and a constant, or IS NULL
unfoldable pub comparison_at : Reader Shape (Op × Value)
comparison_at = choice_at (is_soft_shape soft_word.Is) null_test_at compare_at

unfoldable pub cond_at : Reader Shape CondDef
cond_at = map_at (λ x. record { col = x.0; op = x.1.0; value = x.1.1 }) (pair_at name_at comparison_at)

unfoldable pub conds_at : Reader Shape (List CondDef)
conds_at = separated_at (is_word_shape AND) (word_at AND) cond_at

unfoldable pub conditions_at : Reader Shape (List CondDef)
conditions_at = map_at option_items (option_at (is_soft_shape soft_word.If) (skip_at (soft_at soft_word.If) conds_at))

-- ---- the write

unfoldable pub insert_at : Reader Shape WriteDef
insert_at =
    map_at (λ x. Insert x.0 x.1.0 x.1.1)
    (skip_at (word_at INSERT) (skip_at (word_at INTO)
    (pair_at name_at (pair_at (option_at (is_mark_shape OPEN) cols_at)
    (skip_at (word_at VALUES) (skip_at (mark_at OPEN) (close_at values_clause_at (mark_at CLOSE))))))))

unfoldable pub update_at : Reader Shape WriteDef
update_at =
    map_at (λ x. Update x.0 x.1.0 x.1.1.0 x.1.1.1)
    (skip_at (word_at UPDATE) (pair_at name_at
    (skip_at (word_at SET) (pair_at sets_at
    (skip_at (word_at WHERE) (pair_at key_clause_at conditions_at))))))

unfoldable pub delete_at : Reader Shape WriteDef
delete_at = map_at (λ x. Delete x.0 x.1.0 x.1.1) (skip_at (word_at DELETE)
    (skip_at (word_at FROM) (pair_at name_at (skip_at (word_at WHERE) (pair_at key_clause_at conditions_at)))))

-- without a mark behind it
unfoldable pub write_at : Reader Shape WriteDef
write_at = choice_at (is_word_shape INSERT) insert_at (choice_at (is_word_shape UPDATE) update_at delete_at)

-- the writes of a batch
unfoldable pub writes_at : Reader Shape (List WriteDef)
writes_at = separated_at (is_mark_shape COMMA) (mark_at COMMA) write_at
