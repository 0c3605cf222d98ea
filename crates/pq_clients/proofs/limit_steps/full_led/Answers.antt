use Rattle.pq_base.specs.declared.refusal.Refusal.{Refusal}
use Rattle.std.proofs.Common.{ap, ◌∙◌}
use Rattle.pq_clients.specs.Clients.{Flying}
use Rattle.pq_clients.specs.Flights.{fresh_entries}
use Rattle.pq_clients.specs.InFlight.{seen_flight}
use Rattle.pq_clients.specs.Steps.{On, undoing}
use Rattle.pq_clients.specs.Clients.{Stage}
use Rattle.pq_clients.proofs.limit_steps.full_led.Goals as goal

pub returns : goal.returns
returns c =
    let tables = c.args.flight.now.catalog.now.tables in
    let f = seen_flight c.args.flight.now in
    c.flying.ensures f ∙ ap (λ (s : Stage). On (Flying f s)) (c.in_ok-stage.ensures
    ∙ ap (λ (why : Refusal). undoing (fresh_entries tables f) why) c.in_ok-refusal.ensures.refusal)
