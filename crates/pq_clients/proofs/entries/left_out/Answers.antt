use Rattle.std.proofs.Common.{ℕ, List, refl}
use Rattle.pq_clients.specs.Flights.{left_out}
use Rattle.pq_clients.proofs.Lists.{loop_more, loop_done}
use Rattle.pq_clients.proofs.entries.left_out.Goals as goal

pub loop-key-preserved : goal.loop-key-preserved
loop-key-preserved c =
    loop_more (λ (j : ℕ) (xs : List (List ℕ)). left_out xs c.args.others.now)
    c.args.keys.now c.loop-key.key-index c.key-item.result c.loop-key.left _ _ c.loop-key-test.true c.key-item.is
    c.in_ok-put_unless.ensures c.loop-key.invariant

pub returns : goal.returns
returns c =
    loop_done (λ (j : ℕ) (xs : List (List ℕ)). left_out xs c.args.others.now)
    c.args.keys.now c.loop-key.key-index c.loop-key.left _ c.loop-key-test.false refl c.loop-key.invariant
