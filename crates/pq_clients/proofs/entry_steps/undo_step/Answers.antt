use Rattle.pq_clients.proofs.Ways.{pass_way}
use Rattle.std.proofs.Common.{None, ap}
use Rattle.pq_store.specs.Content.{Content, written_content}
use Rattle.pq_clients.specs.Clients.{Undoing}
use Rattle.pq_clients.specs.Seen.{seen_course}
use Rattle.pq_clients.specs.Calling.{way}
use Rattle.pq_clients.specs.Steps.{Then, flown}
use Rattle.pq_clients.proofs.Going.{regone}
use Rattle.pq_clients.proofs.entry_steps.undo_step.Goals as goal

pub returns-in-Ok : goal.returns-in-Ok
returns-in-Ok g c = λ tables client number f.
    let entry = c.args.entry.now in
    record {
      goes = regone (seen_course f) (λ (k : Content). (written_content entry None k, seen_course f c.in-Ok.pass))
          (flown tables client number f (Undoing c.args.entry.now c.args.left.now c.args.refusal.now)) _ _ c.write_entry.result (c.write_entry.ensures.goes f)
          (λ (k : Content). ap (λ (t : Then). (written_content entry None k, t)) (c.in-Ok.ensures f));
      way = pass_way f c.write_entry.result c.in-Ok.pass (way tables f (Undoing c.args.entry.now c.args.left.now c.args.refusal.now)) c.write_entry.ensures.way (c.in-Ok.ensures f);
    }
