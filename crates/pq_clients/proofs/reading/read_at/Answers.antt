use Rattle.std.proofs.Common.{◌≡◌, ℕ, List, Option, ap, ◌∙◌}
use Rattle.std.specs.FinMap.{get}
use Rattle.pq_store.specs.Content.{Content}
use Rattle.pq_clients.specs.declared.stage.Course.{Course}
use Rattle.pq_clients.specs.Flights.{pair_key}
use Rattle.pq_clients.specs.Seen.{flight, seen_course}
use Rattle.pq_clients.specs.Steps.{after_read}
use Rattle.pq_clients.proofs.Ways.{led_by, found_way, ok_at}
use Rattle.pq_clients.proofs.reading.read_at.Goals as goal

pub returns-in-Ok : goal.returns-in-Ok
returns-in-Ok g c = λ number before.
    let tables = c.args.catalog.now.tables in
    let w = c.args.write.now in
    let to = after_read tables c.args.client w in
    record {
      goes = led_by (seen_course (flight w before)) (λ (k : Content). get k c.items.result.now) (λ (k : Content). get k (pair_key tables w))
          to _ _ c.in-Ok.found c.after_read.result c.in_memory.result c.in-Ok.ensures
          (λ (k : Content). ap (λ (q : List ℕ). get k q) c.items.ensures ∙ ap (λ (q : List ℕ). get k q) c.requires.key)
          (ok_at (λ (course : Course) (b : Option (List ℕ)). seen_course (flight w b) course ≡ to c.in-Ok.found) c.after_read.result c.after_read.ensures before) c.in_memory.ensures;
      way = found_way (flight w before) to c.in-Ok.found c.after_read.result c.in_memory.result
          (ok_at (λ (course : Course) (b : Option (List ℕ)). seen_course (flight w b) course ≡ to c.in-Ok.found) c.after_read.result c.after_read.ensures before) c.in_memory.ensures;
    }
