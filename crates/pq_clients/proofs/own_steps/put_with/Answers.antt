use Rattle.pq_clients.proofs.Ways.{own_way}
use Rattle.std.proofs.Common.{ℕ, List, Option, Some, None, ap}
use Rattle.pq_store.specs.Content.{Content}
use Rattle.pq_clients.specs.Clients.{Putting, Flying}
use Rattle.pq_clients.specs.Flights.{flight_key, new_code, stale_entries}
use Rattle.pq_clients.specs.Held.{held_value}
use Rattle.pq_clients.specs.InFlight.{seen_flight}
use Rattle.pq_clients.specs.Seen.{seen_course}
use Rattle.pq_clients.specs.Steps.{Then, Puts, damaged, clearing, flown}
use Rattle.pq_clients.proofs.Going.{regone}
use Rattle.pq_clients.proofs.Leading.{either, either_same}
use Rattle.pq_clients.proofs.own_steps.put_with.Goals as goal

pub returns-in-Ok : goal.returns-in-Ok
returns-in-Ok g c =
    let tables = c.args.flight.now.catalog.now.tables in
    let f = seen_flight c.args.flight.now in
    let held : Option (List ℕ) → Option (List ℕ) = λ p. Some (held_value c.args.holder.client c.args.holder.number p) in
    let lost : List ℕ → Then = λ q. damaged q None in
    record {
      goes = regone (seen_course f) (either c.in-Ok.key c.in-Ok.own c.in-Ok.new (seen_course f c.args.pass) (lost c.in-Ok.key))
          (flown tables c.args.holder.client c.args.holder.number f Putting) _ _ c.write_guarded.result (c.write_guarded.ensures.goes f)
          (λ (k : Content). either_same (flight_key tables f) c.in-Ok.key (held f.read) c.in-Ok.own c.in-Ok.new (held (new_code tables f)) (seen_course f c.args.pass) (Puts (Flying f (clearing (stale_entries tables f)))) lost k
          c.in-Ok.ensures.0 c.in-Ok.ensures.1 c.in-Ok.ensures.2 c.requires.pass);
      way = own_way f c.write_guarded.result (seen_course f c.args.pass) (Puts (Flying f (clearing (stale_entries tables f)))) (damaged c.in-Ok.key None) (damaged (flight_key tables f) None)
          c.requires.pass (ap (λ (q : List ℕ). damaged q None) c.in-Ok.ensures.0) (c.write_guarded.ensures.way f);
    }
