use Rattle.std.proofs.Common.{◌≡◌, ◌∷◌}
use Rattle.pq_clients.specs.declared.stage.Course.{Course}
use Rattle.pq_clients.specs.Clients.{Flying}
use Rattle.pq_clients.specs.Flights.{Flight}
use Rattle.pq_clients.specs.InFlight.{seen_flight}
use Rattle.pq_clients.specs.Seen.{seen_course}
use Rattle.pq_clients.specs.Steps.{On, testing}
use Rattle.pq_clients.proofs.Ways.{ok_at}
use Rattle.pq_clients.proofs.limit_steps.test_led.Goals as goal

pub returns-then-room : goal.returns-then-room
returns-then-room c =
    rw c.if-room.true (ok_at (λ (course : Course) (f : Flight). seen_course f course ≡ On (Flying f (testing c.args.left.now (c.args.place ∷ c.args.passed.now))))
    c.roomy_led.result c.roomy_led.ensures (seen_flight c.args.flight.now))

pub returns : goal.returns
returns c = rw c.if-room.false c.full_led.ensures
