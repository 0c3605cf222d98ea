use Rattle.std.proofs.Common.{◌∙◌, ap, Some}
use Rattle.pq_clients.specs.declared.outcome.Outcome.{Outcome}
use Rattle.pq_clients.specs.Stepping.{view_of}
use Rattle.pq_clients.proofs.client.Client.stop.Goals as goal

pub returns : goal.returns
returns c = record {
  view = ap view_of c.set_over.ensures ∙ rw c.requires.fault (ap (λ (o : Outcome). record (view_of c.args.self.now) { over = Some o }) c.requires.same);
  step = c.tells-step.ensures;
}
