use Rattle.std.proofs.Common.{◌≡◌, ◌-◌, ◌^◌}
use Rattle.pq_schema.specs.Candidates.{reached_after}
use Rattle.pq_plan.specs.Totals.{reached_total, Below}
use Rattle.pq_stop_push.proofs.costs.reached_after.Given as goal

abbrev pub invariant-loop-rel : goal.invariant-loop-rel
invariant-loop-rel l = record {
  total : reached_total l.total ≡ reached_after l.catalog.tables l.query (l.rel - 1);
  below : Below (30000 ^ (l.rel - 1)) (reached_total l.total);
}
