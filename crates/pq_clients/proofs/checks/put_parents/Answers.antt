use Rattle.std.proofs.Common.{ℕ, List, refl}
use Rattle.pq_schema.specs.declared.table.Foreign.{Foreign}
use Rattle.pq_clients.specs.Flights.{parent_checks}
use Rattle.pq_clients.proofs.Lists.{loop_more, loop_done}
use Rattle.pq_clients.proofs.checks.put_parents.Goals as goal

pub loop-place-preserved : goal.loop-place-preserved
loop-place-preserved c =
    loop_more (λ (j : ℕ) (xs : List Foreign). parent_checks c.args.write.now c.args.row.now j xs)
    c.args.foreign.now c.loop-place.place c.index-foreign-place.result _ _ _ c.loop-place-test.true c.index-foreign-place.is
    c.in_ok-put_parent.ensures c.loop-place.invariant

pub returns : goal.returns
returns c =
    loop_done (λ (j : ℕ) (xs : List Foreign). parent_checks c.args.write.now c.args.row.now j xs)
    c.args.foreign.now c.loop-place.place _ _ c.loop-place-test.false refl c.loop-place.invariant
