use Rattle.std.proofs.Common.{◌≡◌, ℕ, ◌<◌, ◌-◌, Some, map}
use Rattle.std.specs.Prelude.{slice_get}
use Rattle.pq_base.specs.Words.{uppercase_byte, keywords}
use Rattle.pq_shape.proofs.next.keyword_among.Given as goal

abbrev pub invariant-places : goal.invariant-places
invariant-places l = (k : ℕ) → k < l.place → slice_get keywords k ≡ Some (map uppercase_byte l.bytes) → ⊥

abbrev pub decreases-places : goal.decreases-places
decreases-places l = l.to - l.place
