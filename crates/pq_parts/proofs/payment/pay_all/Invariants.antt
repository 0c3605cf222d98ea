use Rattle.std.proofs.Common.{◌≡◌, ◌-◌}
use Rattle.pq_store.specs.Counts.{raised_counts}
use Rattle.pq_store.specs.Rounds.{Pays}
use Rattle.pq_parts.proofs.payment.pay_all.Given as goal

abbrev pub invariant-loop : goal.invariant-loop
invariant-loop g l = record {
  paid : Pays l.fn.allowance l.allowance l.fn.meter l.meter (l.counter - 1) 0;
  counted : l.meter ≡ raised_counts l.fn.meter (l.counter - 1) 0;
}
