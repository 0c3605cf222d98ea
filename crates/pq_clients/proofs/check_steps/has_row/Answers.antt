use Rattle.std.proofs.Common.{ℕ, List, Bool, Option, refl, ap}
use Rattle.std.specs.FinMap.{get}
use Rattle.std.specs.Prelude.{is_some}
use Rattle.pq_store.specs.Content.{Content}
use Rattle.pq_clients.specs.Held.{present_row}
use Rattle.pq_clients.proofs.Going.{broke}
use Rattle.pq_clients.proofs.Ways.{led_by}
use Rattle.pq_clients.proofs.check_steps.has_row.Goals as goal

pub returns-in-Ok : goal.returns-in-Ok
returns-in-Ok g c =
    led_by (λ (b : Bool). b) (λ (k : Content). get k c.items.result.now) (λ (k : Content). get k c.args.key.now)
    (λ (o : Option (List ℕ)). is_some (present_row c.args.table.now o)) _ _ c.in-Ok.found c.is_present.result c.in_memory.result c.in-Ok.ensures
    (λ (k : Content). ap (λ (q : List ℕ). get k q) c.items.ensures) c.is_present.ensures c.in_memory.ensures

pub returns-in-Err : goal.returns-in-Err
returns-in-Err g c =
    broke (λ (x : Option (List ℕ)). x) (λ (k : Content). (k, get k c.items.result.now)) (λ (b : Bool). b)
    (λ (k : Content). (k, is_some (present_row c.args.table.now (get k c.args.key.now))))
    _ _ c.in-Err.halt c.in-Err.ensures (λ k. refl)
