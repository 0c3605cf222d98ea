-- Combinations that stand in the order of their positions.
use Rattle.std.specs.Prelude.{Bool, true, ◌&&◌, List, [], ◌∷◌}
use Rattle.std.specs.Ordering.{is_le}
use Rattle.pq_base.specs.Order.{position_cmp}
use Rattle.pq_base.specs.declared.value.Dir.{Dir}
use Rattle.pq_base.specs.declared.value.Value.{Value}
use Rattle.pq_schema.specs.declared.query.ColRef.{ColRef}
use Rattle.pq_plan.specs.Answer.{values_at}

-- each stands at the position of the one before it, or behind it
abbrev pub are_ordered : List ColRef → List Dir → List (List (List Value)) → Bool
are_ordered cols dirs [] = true
are_ordered cols dirs (first ∷ []) = true
are_ordered cols dirs (first ∷ second ∷ rest) =
    is_le (position_cmp dirs (values_at first cols) (values_at second cols)) && are_ordered cols dirs (second ∷ rest)
