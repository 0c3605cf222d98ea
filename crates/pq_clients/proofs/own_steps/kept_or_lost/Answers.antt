use Rattle.std.proofs.Common.{refl}
use Rattle.pq_clients.proofs.own_steps.kept_or_lost.Goals as goal

pub returns-then-done : goal.returns-then-done
returns-then-done c = λ f. rw c.if-done.true refl

pub returns : goal.returns
returns c = λ f. rw c.if-done.false (c.lost.ensures f)
