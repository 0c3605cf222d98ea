use Rattle.std.proofs.Common.{ap, sym, ◌∙◌, ◌∷◌, [], ◌++◌}
use Rattle.pq_client_shell.proofs.Orders.{round_more}
use Rattle.pq_client_shell.proofs.turns.put_round.Goals as goal

pub loop-place-preserved : goal.loop-place-preserved
loop-place-preserved c = c.in_ok-push.ensures.ok ∙ ap (λ ps. ps ++ c.loop-place.place ∷ []) c.loop-place.invariant ∙ sym (round_more c.loop-place.place c.args.order.now)
