use Rattle.pq_laws.proofs.Arranging.{planned_kept, no_bound_told, none_has, defined_own, stored_own, planned_alike}
use Rattle.pq_laws.proofs.laws.arranging_law.Goals as goal

pub returns : goal.returns
returns c = record {
  kept = planned_kept;
  unbounded = no_bound_told;
  bounded = none_has;
  own = defined_own;
  stays = stored_own;
  read = planned_alike;
}
