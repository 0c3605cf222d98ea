use Rattle.std.proofs.Common.{ℕ, List, refl}
use Rattle.pq_schema.specs.declared.table.Foreign.{Foreign}
use Rattle.pq_clients.specs.Flights.{child_checks_of}
use Rattle.pq_clients.proofs.Lists.{loop_more, loop_done}
use Rattle.pq_clients.proofs.checks.put_children_of.Goals as goal

pub loop-place-preserved : goal.loop-place-preserved
loop-place-preserved c =
    loop_more (λ (j : ℕ) (xs : List Foreign). child_checks_of c.args.named.now.table c.args.named.now.key.now c.args.number c.args.table.now j xs)
    c.args.foreign.now c.loop-place.place c.index-foreign-place.result _ _ _ c.loop-place-test.true c.index-foreign-place.is
    c.in_ok-put_child.ensures c.loop-place.invariant

pub returns : goal.returns
returns c =
    loop_done (λ (j : ℕ) (xs : List Foreign). child_checks_of c.args.named.now.table c.args.named.now.key.now c.args.number c.args.table.now j xs)
    c.args.foreign.now c.loop-place.place _ _ c.loop-place-test.false refl c.loop-place.invariant
