use Rattle.std.proofs.Common.{◌≡◌, ℕ, List, Option, ap, ◌∙◌, subst}
use Rattle.std.specs.Prelude.{IfOk}
use Rattle.pq_clients.specs.declared.stage.Course.{Course}
use Rattle.std.specs.FinMap.{get}
use Rattle.pq_store.specs.Content.{Content}
use Rattle.pq_clients.specs.declared.outcome.Outcome.TheVariants as outcome
use Rattle.pq_clients.specs.Flights.{pair_key}
use Rattle.pq_clients.specs.Seen.{seen_course}
use Rattle.pq_clients.specs.Steps.{Then, Ends}
use Rattle.pq_clients.proofs.Going.{regone}
use Rattle.pq_clients.proofs.reading.look.Goals as goal

pub returns-in-Ok : goal.returns-in-Ok
returns-in-Ok g c = λ client number f.
    let own = pair_key c.args.flight.now.catalog.now.tables c.args.flight.now.write.now in
    let made : List ℕ → Option (List ℕ) → Content → Content × Then = λ q r k. (k, Ends (outcome.Conflict r (get k q))) in
    record {
      goes = regone (seen_course f) (made c.in-Ok.key c.in-Ok.copy) (made own c.args.flight.now.read.now) _ _ c.look_at.result (c.look_at.ensures.goes f)
          (λ (k : Content). ap (λ (q : List ℕ). made q c.in-Ok.copy k) c.in-Ok.ensures.0 ∙ ap (λ (r : Option (List ℕ)). made own r k) c.in-Ok.ensures.1);
      way = subst (λ (o : Option (List ℕ)). IfOk c.look_at.result (λ (k : Course). (found : Option (List ℕ)) × (seen_course f k ≡ Ends (outcome.Conflict o found))))
          c.in-Ok.ensures.1 (c.look_at.ensures.way f);
    }
