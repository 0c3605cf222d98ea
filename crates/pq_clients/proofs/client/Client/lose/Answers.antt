use Rattle.std.proofs.Common.{ap, inl, inr}
use Rattle.pq_clients.specs.declared.outcome.Outcome.TheVariants as outcome
use Rattle.pq_clients.proofs.client.Client.lose.Goals as goal

pub stop-requires-clause-same : goal.stop-requires-clause-same
stop-requires-clause-same c = ap outcome.Damaged c.in-Ok.ensures

pub returns-in-Err : goal.returns-in-Err
returns-in-Err c = inr c.stop_by.ensures

pub returns-in-Ok : goal.returns-in-Ok
returns-in-Ok c = inl c.stop.ensures
