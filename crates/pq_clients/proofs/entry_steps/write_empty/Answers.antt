use Rattle.std.proofs.Common.{ℕ, List, [], Some, ap}
use Rattle.pq_store.specs.Content.{Content, written_content}
use Rattle.pq_clients.specs.Seen.{seen_course}
use Rattle.pq_clients.proofs.Going.{regone}
use Rattle.pq_clients.proofs.entry_steps.write_empty.Goals as goal

pub returns-clause-goes : goal.returns-clause-goes
returns-clause-goes g c = λ f.
    let entry = c.args.entry.now in
    regone (seen_course f) (λ (k : Content). (written_content entry (Some c.new.result) k, seen_course f c.args.pass))
    (λ (k : Content). (written_content entry (Some []) k, seen_course f c.args.pass)) _ _ c.write_entry.result (c.write_entry.ensures.goes f)
    (λ (k : Content). ap (λ (n : List ℕ). (written_content entry (Some n) k, seen_course f c.args.pass)) c.new.ensures)

pub returns-clause-way : goal.returns-clause-way
returns-clause-way g c = c.write_entry.ensures.way
