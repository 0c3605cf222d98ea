use Rattle.pq_clients.proofs.Ways.{own_way}
use Rattle.std.proofs.Common.{ℕ, List, Some, refl}
use Rattle.pq_store.specs.Content.{Content}
use Rattle.pq_clients.specs.Clients.{Flying, Looking}
use Rattle.pq_clients.specs.Flights.{flight_key, flight_checks}
use Rattle.pq_clients.specs.Held.{held_value}
use Rattle.pq_clients.specs.InFlight.{seen_flight}
use Rattle.pq_clients.specs.Seen.{seen_course}
use Rattle.pq_clients.specs.Calling.{taken_from}
use Rattle.pq_clients.specs.Steps.{Then, On, checking}
use Rattle.pq_clients.proofs.Going.{regone}
use Rattle.pq_clients.proofs.Leading.{either, either_same}
use Rattle.pq_clients.proofs.taking.take_with.Goals as goal

pub returns-in-Ok : goal.returns-in-Ok
returns-in-Ok g c =
    let tables = c.args.flight.now.catalog.now.tables in
    let f = seen_flight c.args.flight.now in
    let lost : List ℕ → Then = λ q. On (Looking f) in
    record {
      goes = regone (seen_course f) (either c.in-Ok.key c.args.flight.now.read.now c.in-Ok.new (seen_course f c.args.pass) (On (Looking f)))
          (taken_from tables c.args.holder.client c.args.holder.number f) _ _ c.take_at.result (c.take_at.ensures.goes f)
          (λ (k : Content). either_same (flight_key tables f) c.in-Ok.key f.read c.args.flight.now.read.now c.in-Ok.new (Some (held_value c.args.holder.client c.args.holder.number f.read))
          (seen_course f c.args.pass) (On (Flying f (checking tables f (flight_checks tables f)))) lost k
          c.in-Ok.ensures.0 refl c.in-Ok.ensures.1 c.requires.pass);
      way = own_way f c.take_at.result (seen_course f c.args.pass) (On (Flying f (checking tables f (flight_checks tables f)))) (On (Looking f)) (On (Looking f))
          c.requires.pass refl (c.take_at.ensures.way f);
    }
