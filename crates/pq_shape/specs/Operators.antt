-- The operators of comparisons: the mark of each, and how those other than "=" are read.
use Rattle.std.specs.Prelude.{ℕ}
use Rattle.pq_base.specs.declared.op.Op.{Op}
use Rattle.pq_base.specs.declared.op.Op.TheVariants as op
use Rattle.pq_grammar.specs.Reader.{Reader, map_at, choice_at, test_of}
use Rattle.pq_grammar.specs.Shrinking.{Keeps, token_shrinks, shrinks_keeps, map_keeps, choice_keeps}
use Rattle.pq_shape.specs.Front.{is_mark_shape, mark_at}
use Rattle.pq_shape.specs.declared.mark.TheConstants.{EQUAL, GREATER, GREATER_EQUAL, LESS, LESS_EQUAL, UNEQUAL}
use Rattle.pq_shape.specs.Shape.{Shape}

-- the mark of a comparison; IS NULL has none, and no mark is 0
abbrev pub operator : Op → ℕ
operator op.Eq = EQUAL
operator op.Ne = UNEQUAL
operator op.Lt = LESS
operator op.Le = LESS_EQUAL
operator op.Gt = GREATER
operator op.Ge = GREATER_EQUAL
operator op.IsNull = 0

-- an operator other than "="
unfoldable pub op_at : Reader Shape Op
op_at =
    choice_at (is_mark_shape UNEQUAL) (map_at (λ u. op.Ne) (mark_at UNEQUAL))
    (choice_at (is_mark_shape LESS) (map_at (λ u. op.Lt) (mark_at LESS))
    (choice_at (is_mark_shape LESS_EQUAL) (map_at (λ u. op.Le) (mark_at LESS_EQUAL))
    (choice_at (is_mark_shape GREATER) (map_at (λ u. op.Gt) (mark_at GREATER)) (map_at
    (λ u. op.Ge) (mark_at GREATER_EQUAL)))))

mark_keeps : (o : Op) (k : ℕ) → Keeps (map_at (λ u. o) (mark_at k))
mark_keeps o k = map_keeps (λ u. o) (mark_at k) (shrinks_keeps _ (token_shrinks (test_of (is_mark_shape k))))

pub op_keeps : Keeps op_at
unfolding op_at
op_keeps =
    choice_keeps (is_mark_shape UNEQUAL) _ _ (mark_keeps op.Ne UNEQUAL)
    (choice_keeps (is_mark_shape LESS) _ _ (mark_keeps op.Lt LESS)
    (choice_keeps (is_mark_shape LESS_EQUAL) _ _ (mark_keeps op.Le LESS_EQUAL)
    (choice_keeps (is_mark_shape GREATER) _ _ (mark_keeps op.Gt GREATER) (mark_keeps op.Ge GREATER_EQUAL))))
