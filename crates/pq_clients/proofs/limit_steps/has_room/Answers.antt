use Rattle.std.proofs.Common.{ℕ, List, Bool, ap, ◌∙◌}
use Rattle.pq_store.specs.Content.{Content}
use Rattle.pq_clients.specs.InFlight.{seen_flight}
use Rattle.pq_clients.proofs.Going.{regone}
use Rattle.pq_clients.specs.Steps.{counted}
use Rattle.pq_clients.specs.Flights.{tested_front, tested_limit}
use Rattle.std.specs.Prelude.{nat_le, ◌+◌}
use Rattle.pq_clients.proofs.limit_steps.has_room.Goals as goal

pub returns-in-Ok : goal.returns-in-Ok
returns-in-Ok g c =
    let tables = c.args.flight.now.catalog.now.tables in
    let f = seen_flight c.args.flight.now in
    let few : List ℕ → ℕ → Content → Content × Bool = λ q m k. (k, nat_le (counted k q (m + 1)) m) in
    regone (λ (b : Bool). b) (few c.items.result.now c.tested_n.result) (few (tested_front tables f c.args.place) (tested_limit tables f c.args.place).n)
    _ _ c.has_few.result c.has_few.ensures
    (λ (k : Content). ap (λ (q : List ℕ). few q c.tested_n.result k) (c.items.ensures ∙ c.in-Ok.ensures)
    ∙ ap (λ (m : ℕ). few (tested_front tables f c.args.place) m k) c.tested_n.ensures.n)
