use Rattle.std.proofs.Common.{ap, sym, ◌∙◌, ◌++◌}
use Rattle.pq_clients.specs.Promised.{places_below}
use Rattle.pq_client_shell.proofs.Orders.{turns_more}
use Rattle.pq_client_shell.proofs.turns.by_turns.Goals as goal

pub loop-round-preserved : goal.loop-round-preserved
loop-round-preserved c = c.in_ok-put_round.ensures ∙ ap (λ ps. ps ++ places_below c.args.k) c.loop-round.invariant ∙ sym (turns_more c.args.k c.loop-round.round)
