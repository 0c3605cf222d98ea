use Rattle.pq_arrange.proofs.Reordered.{same_in_any_order}
use Rattle.pq_arrange.proofs.Resolves.{resolved_in_any_order}
use Rattle.pq_arrange.proofs.Arranges.{rows_by_places}
use Rattle.pq_arrange.proofs.Placed.{places_each}
use Rattle.pq_arrange.proofs.laws.order_laws.Goals as goal

pub returns : goal.returns
returns c = record { combos = same_in_any_order; rows = rows_by_places; resolved = resolved_in_any_order; placed = places_each }
