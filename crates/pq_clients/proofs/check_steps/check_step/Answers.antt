use Rattle.pq_clients.proofs.Ways.{led_by, some_way}
use Rattle.std.proofs.Common.{map, Bool, refl}
use Rattle.std.specs.Prelude.{if◌then◌else◌}
use Rattle.pq_clients.specs.Clients.{Checking, Releasing, Flying}
use Rattle.pq_clients.specs.Flights.{check_refusal}
use Rattle.pq_store.specs.Content.{Content}
use Rattle.pq_clients.specs.InFlight.{seen_flight}
use Rattle.pq_clients.specs.Seen.{seen_check, seen_course}
use Rattle.pq_clients.specs.Calling.{way}
use Rattle.pq_clients.specs.Steps.{On, passes, checking}
use Rattle.pq_clients.proofs.check_steps.check_step.Goals as goal

pub returns-in-Ok : goal.returns-in-Ok
returns-in-Ok g c = λ client number.
    let tables = c.args.flight.now.catalog.now.tables in
    let f = seen_flight c.args.flight.now in
    record {
      goes = led_by (seen_course f) (passes tables (seen_check c.args.check.now)) (passes tables (seen_check c.args.check.now))
          (λ (b : Bool). if b then On (Flying f (checking tables f (map seen_check c.args.left.now)))
          else On (Flying f (Releasing (check_refusal tables f (seen_check c.args.check.now)))))
          _ _ c.in-Ok.passed c.check_led.result c.in_memory.result c.in-Ok.ensures (λ (k : Content). refl) c.check_led.ensures c.in_memory.ensures;
      way = some_way f (way tables f (Checking (seen_check c.args.check.now) (map seen_check c.args.left.now))) c.in-Ok.passed c.check_led.result c.in_memory.result
          c.check_led.ensures c.in_memory.ensures;
    }
