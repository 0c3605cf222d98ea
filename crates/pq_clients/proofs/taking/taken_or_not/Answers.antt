use Rattle.std.proofs.Common.{refl}
use Rattle.pq_clients.proofs.taking.taken_or_not.Goals as goal

pub returns-then-done : goal.returns-then-done
returns-then-done c = λ f. rw c.if-done.true refl

pub returns : goal.returns
returns c = λ f. rw c.if-done.false refl
