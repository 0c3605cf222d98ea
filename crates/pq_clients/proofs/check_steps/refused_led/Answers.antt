use Rattle.pq_base.specs.declared.refusal.Refusal.{Refusal}
use Rattle.std.proofs.Common.{ap, ◌∙◌}
use Rattle.pq_clients.specs.Clients.{Releasing, Flying}
use Rattle.pq_clients.specs.InFlight.{seen_flight}
use Rattle.pq_clients.specs.Steps.{On}
use Rattle.pq_clients.proofs.check_steps.refused_led.Goals as goal

pub returns : goal.returns
returns c =
    let f = seen_flight c.args.flight.now in
    c.flying.ensures f ∙ ap (λ (why : Refusal). On (Flying f (Releasing why))) (c.in_ok-refusal.ensures.refusal c.args.flight.now.read.now)
