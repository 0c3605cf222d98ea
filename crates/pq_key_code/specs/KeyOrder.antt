-- The order of two lists of values by the places that both have.
use Rattle.std.specs.Prelude.{List, ◌∷◌}
use Rattle.std.specs.Ordering.{ordering_then}
use Rattle.std.specs.declared.cmp.Ordering.{Ordering}
use Rattle.std.specs.declared.cmp.Ordering.TheVariants.{Equal}
use Rattle.pq_base.specs.declared.value.Dir.{Dir}
use Rattle.pq_base.specs.declared.value.Value.{Value}
use Rattle.pq_base.specs.Order.{value_cmp, directed_order}

-- by the first place that differs, turned round where it descends; lengths play no part
abbrev pub common_cmp : List Dir → List Value → List Value → Ordering
common_cmp (d ∷ ds) (x ∷ xs) (y ∷ ys) = ordering_then (directed_order d (value_cmp x y)) (common_cmp ds xs ys)
common_cmp _ _ _ = Equal
