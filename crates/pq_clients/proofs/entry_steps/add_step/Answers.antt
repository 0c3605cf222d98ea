use Rattle.pq_clients.proofs.Ways.{pass_way}
use Rattle.std.proofs.Common.{[], Some, ap}
use Rattle.pq_store.specs.Content.{Content, written_content}
use Rattle.pq_clients.specs.Clients.{Adding}
use Rattle.pq_clients.specs.InFlight.{seen_flight}
use Rattle.pq_clients.specs.Seen.{seen_course}
use Rattle.pq_clients.specs.Calling.{way}
use Rattle.pq_clients.specs.Steps.{Then, flown}
use Rattle.pq_clients.proofs.Going.{regone}
use Rattle.pq_clients.proofs.entry_steps.add_step.Goals as goal

pub returns-in-Ok : goal.returns-in-Ok
returns-in-Ok g c = λ client number.
    let tables = c.args.flight.now.catalog.now.tables in
    let f = seen_flight c.args.flight.now in
    let entry = c.args.entry.now in
    record {
      goes = regone (seen_course f) (λ (k : Content). (written_content entry (Some []) k, seen_course f c.in-Ok.pass))
          (flown tables client number f (Adding entry c.args.left.now c.args.added.now)) _ _ c.write_empty.result (c.write_empty.ensures.goes f)
          (λ (k : Content). ap (λ (t : Then). (written_content entry (Some []) k, t)) c.in-Ok.ensures);
      way = pass_way f c.write_empty.result c.in-Ok.pass (way tables f (Adding c.args.entry.now c.args.left.now c.args.added.now)) c.write_empty.ensures.way c.in-Ok.ensures;
    }
