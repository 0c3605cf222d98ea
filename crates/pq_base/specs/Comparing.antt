-- Whether a comparison of two values holds.
use Rattle.std.specs.Prelude.{Bool, true, false, not, ◌&&◌, ◌||◌, Option, Some, None}
use Rattle.std.specs.declared.cmp.Ordering.{Ordering}
use Rattle.std.specs.Ordering.{is_eq, is_lt, is_gt}
use Rattle.pq_base.specs.declared.op.Op.{Op}
use Rattle.pq_base.specs.declared.op.Op.TheVariants as op
use Rattle.pq_base.specs.declared.value.Value.{Value}
use Rattle.pq_base.specs.Order.{value_cmp}
use Rattle.pq_base.specs.Values.{is_null}

-- IS NULL
abbrev pub is_null_test : Op → Bool
is_null_test op.Eq = false
is_null_test op.Ne = false
is_null_test op.Lt = false
is_null_test op.Le = false
is_null_test op.Gt = false
is_null_test op.Ge = false
is_null_test op.IsNull = true

abbrev pub meets : Op → Ordering → Bool
meets op.Eq order = is_eq order
meets op.Ne order = not (is_eq order)
meets op.Lt order = is_lt order
meets op.Le order = not (is_gt order)
meets op.Gt order = is_gt order
meets op.Ge order = not (is_lt order)
meets op.IsNull order = is_eq order

-- neither value is NULL, or it is asked whether one is
abbrev pub may_hold : Op → Value → Value → Bool
may_hold op left right = is_null_test op || not (is_null left || is_null right)

-- both values are there, neither is NULL but behind IS NULL, and their order meets the operator
abbrev pub compares : Op → Option Value → Option Value → Bool
compares op (Some left) (Some right) = may_hold op left right && meets op (value_cmp left right)
compares op (Some left) None = false
compares op None right = false
