use Rattle.std.proofs.Common.{None}
use Rattle.pq_tallies.proofs.moves.moved.Goals as goal

pub returns-in-Some-Some : goal.returns-in-Some-Some
returns-in-Some-Some c = rw (c.in-Some-Some.is-0, c.in-Some-Some.is-1) c.turned.ensures

pub returns-in_ok-key_in-in-Some-None : goal.returns-in_ok-key_in-in-Some-None
returns-in_ok-key_in-in-Some-None c = rw (c.in-Some-None.is-0, c.in-Some-None.is-1) (λ i. record { from = c.in_ok-key_in-in-Some-None.ensures i; to = None })

pub returns-in_ok-key_in-in-None-Some : goal.returns-in_ok-key_in-in-None-Some
returns-in_ok-key_in-in-None-Some c = rw (c.in-None-Some.is-0, c.in-None-Some.is-1) (λ i. record { from = None; to = c.in_ok-key_in-in-None-Some.ensures i })
