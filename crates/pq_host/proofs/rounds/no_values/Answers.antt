use Rattle.std.proofs.Common.{ℕ, List, Option, None, Some, refl}
use Rattle.pq_store.specs.Rounds.{IsValueAnswered, one_if_some}
use Rattle.pq_host.specs.Ends.{any_answer}
use Rattle.pq_host.proofs.Asking.{nothing_more}
use Rattle.pq_host.proofs.rounds.no_values.Goals as goal

unasked : (key : Option (List ℕ)) → IsValueAnswered any_answer key None
unasked None = refl
unasked (Some key) = tt

pub loop-asked-preserved : goal.loop-asked-preserved
loop-asked-preserved c =
    nothing_more (IsValueAnswered any_answer) one_if_some None unasked refl c.args.keys.now c.loop-asked.found c.push.new.self c.loop-asked._asked-index c._asked-item.result c.loop-asked-test.true c._asked-item.is
    c.in_ok-push.ensures.ok c.loop-asked.invariant
