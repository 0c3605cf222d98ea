use Rattle.std.proofs.Common.{ap}
use Rattle.pq_clients.specs.Clients.{Flying}
use Rattle.pq_clients.specs.InFlight.{seen_flight}
use Rattle.pq_clients.specs.Steps.{Puts}
use Rattle.pq_clients.specs.Clients.{Stage}
use Rattle.pq_clients.proofs.own_steps.put_led.Goals as goal

pub returns : goal.returns
returns c =
    let f = seen_flight c.args.flight.now in
    ap (λ (s : Stage). Puts (Flying f s)) c.in_ok-stage.ensures
