use Rattle.pq_clients.proofs.Ways.{led_by, some_way}
use Rattle.std.proofs.Common.{◌∷◌, Bool, refl}
use Rattle.std.specs.Prelude.{if◌then◌else◌}
use Rattle.pq_clients.specs.Clients.{Testing, Flying}
use Rattle.pq_clients.specs.Flights.{fresh_entries, test_refusal}
use Rattle.pq_store.specs.Content.{Content}
use Rattle.pq_clients.specs.InFlight.{seen_flight}
use Rattle.pq_clients.specs.Seen.{seen_course}
use Rattle.pq_clients.specs.Calling.{way}
use Rattle.pq_clients.specs.Steps.{On, has_room, testing, undoing}
use Rattle.pq_clients.proofs.limit_steps.test_step.Goals as goal

pub returns-in-Ok : goal.returns-in-Ok
returns-in-Ok g c = λ client number.
    let tables = c.args.flight.now.catalog.now.tables in
    let f = seen_flight c.args.flight.now in
    record {
      goes = led_by (seen_course f) (has_room tables f c.args.place) (has_room tables f c.args.place)
          (λ (b : Bool). if b then On (Flying f (testing c.args.left.now (c.args.place ∷ c.args.passed.now)))
          else On (Flying f (undoing (fresh_entries tables f) (test_refusal tables f c.args.place))))
          _ _ c.in-Ok.room c.test_led.result c.in_memory.result c.in-Ok.ensures (λ (k : Content). refl) c.test_led.ensures c.in_memory.ensures;
      way = some_way f (way tables f (Testing c.args.place c.args.left.now c.args.passed.now)) c.in-Ok.room c.test_led.result c.in_memory.result
          c.test_led.ensures c.in_memory.ensures;
    }
