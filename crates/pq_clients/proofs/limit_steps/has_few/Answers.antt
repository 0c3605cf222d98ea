use Rattle.std.proofs.Common.{ℕ, Bool, refl, ap}
use Rattle.pq_store.specs.Content.{Content}
use Rattle.pq_clients.proofs.Going.{follow}
use Rattle.pq_clients.specs.Steps.{counted}
use Rattle.std.specs.Prelude.{nat_le, ◌+◌}
use Rattle.pq_clients.proofs.limit_steps.has_few.Goals as goal

pub returns-in-Ok : goal.returns-in-Ok
returns-in-Ok g c =
    follow (λ (x : ℕ). x) (λ (k : Content). (k, counted k c.args.front.now (c.args.most + 1))) (λ (b : Bool). b)
    (λ (k : Content). (k, nat_le (counted k c.args.front.now (c.args.most + 1)) c.args.most))
    _ _ c.in-Ok.n (nat_le c.in-Ok.n c.args.most) c.in-Ok.ensures (λ k e. (ap (λ (m : ℕ). nat_le m c.args.most) e, refl))
