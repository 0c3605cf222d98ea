use Rattle.std.proofs.Common.{◌++◌, ℕ, [], ◌∷◌, length, Option, None, Some, refl, ap, ◌∙◌, arith}
use Rattle.pq_store.specs.declared.store.Ends.{Ends}
use Rattle.pq_store.specs.Rounds.{IsPartAsked}
use Rattle.pq_host.proofs.Asking.{nothing_more}
use Rattle.pq_host.proofs.rounds.no_parts.Goals as goal

unasked : (limit : ℕ) (asked : Option Ends) → IsPartAsked limit asked []
unasked limit None = refl
unasked limit (Some ends) = record { few = omega arith; within = (λ k d less. absurd (omega (arith, less))); rising = refl }

pub loop-asked-preserved : goal.loop-asked-preserved
loop-asked-preserved c =
    nothing_more (IsPartAsked c.args.limit) length [] (unasked c.args.limit) refl c.args.asks.now c.loop-asked.found c.push.new.self c.loop-asked._asked-index c._asked-item.result c.loop-asked-test.true c._asked-item.is
    (c.in_ok-push.ensures.ok ∙ ap (λ x. c.loop-asked.found ++ x ∷ []) c.new.ensures) c.loop-asked.invariant
