use Rattle.pq_clients.proofs.Ways.{own_way}
use Rattle.std.proofs.Common.{ℕ, List, Option, Some, None, refl, ap}
use Rattle.pq_store.specs.Content.{Content}
use Rattle.pq_clients.specs.Clients.{Releasing}
use Rattle.pq_clients.specs.Flights.{flight_key}
use Rattle.pq_clients.specs.Held.{held_value}
use Rattle.pq_clients.specs.InFlight.{seen_flight}
use Rattle.pq_clients.specs.Seen.{seen_course}
use Rattle.pq_clients.specs.Steps.{Then, damaged, refused, flown}
use Rattle.pq_clients.proofs.Going.{regone}
use Rattle.pq_clients.proofs.Leading.{either, either_same}
use Rattle.pq_clients.proofs.own_steps.release_step.Goals as goal

pub returns-in-Ok : goal.returns-in-Ok
returns-in-Ok g c =
    let tables = c.args.flight.now.catalog.now.tables in
    let f = seen_flight c.args.flight.now in
    let held : Option (List ℕ) → Option (List ℕ) = λ p. Some (held_value c.args.holder.client c.args.holder.number p) in
    let lost : List ℕ → Then = λ q. damaged q None in
    record {
      goes = regone (seen_course f) (either c.in-Ok.key c.in-Ok.own c.args.flight.now.read.now (refused c.in-Ok.refusal) (lost c.in-Ok.key))
          (flown tables c.args.holder.client c.args.holder.number f (Releasing c.args.refusal.now)) _ _ c.write_guarded.result (c.write_guarded.ensures.goes f)
          (λ (k : Content). either_same (flight_key tables f) c.in-Ok.key (held f.read) c.in-Ok.own c.args.flight.now.read.now f.read (refused c.in-Ok.refusal) (refused c.args.refusal.now) lost k
          c.in-Ok.ensures.0 c.in-Ok.ensures.1 refl (ap refused c.in-Ok.ensures.2));
      way = own_way f c.write_guarded.result (refused c.in-Ok.refusal) (refused c.args.refusal.now) (damaged c.in-Ok.key None) (damaged (flight_key tables f) None)
          (ap refused c.in-Ok.ensures.2) (ap (λ (q : List ℕ). damaged q None) c.in-Ok.ensures.0) (c.write_guarded.ensures.way f);
    }
