use Rattle.std.proofs.Common.{ℕ, List, Bool, refl, ap, ◌∙◌}
use Rattle.pq_store.specs.Content.{Content}
use Rattle.pq_clients.proofs.Going.{follow, broke}
use Rattle.pq_clients.specs.Steps.{counted}
use Rattle.std.specs.Prelude.{◌==◌}
use Rattle.pq_clients.proofs.check_steps.has_none.Goals as goal

pub returns-in-Ok : goal.returns-in-Ok
returns-in-Ok g c =
    follow (λ (x : ℕ). x) (λ (k : Content). (k, counted k c.items.result.now 1)) (λ (b : Bool). b) (λ (k : Content). (k, counted k c.args.front.now 1 == 0))
    _ _ c.in-Ok.n (c.in-Ok.n == 0) c.in-Ok.ensures (λ k e. (ap (λ (m : ℕ). m == 0) e ∙ ap (λ (q : List ℕ). counted k q 1 == 0) c.items.ensures, refl))

pub returns-in-Err : goal.returns-in-Err
returns-in-Err g c =
    broke (λ (x : ℕ). x) (λ (k : Content). (k, counted k c.items.result.now 1)) (λ (b : Bool). b) (λ (k : Content). (k, counted k c.args.front.now 1 == 0))
    _ _ c.in-Err.halt c.in-Err.ensures (λ k. refl)
