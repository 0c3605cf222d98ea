use Rattle.std.proofs.Common.{◌∙◌, ap, refl}
use Rattle.pq_clients.specs.declared.client.Client.{Client}
use Rattle.pq_clients.specs.declared.stage.Phase.TheVariants as phase
use Rattle.pq_clients.specs.Stepping.{view_of}
use Rattle.pq_clients.proofs.client.Client.take_next.Goals as goal

pub returns : goal.returns
returns c = record {
  view = ap view_of c.set_next.ensures ∙ ap (λ (k : Client). view_of (record k { next = phase.Taking })) c.set_read.ensures;
  step = refl;
}
