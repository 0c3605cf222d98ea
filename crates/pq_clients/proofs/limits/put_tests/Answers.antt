use Rattle.std.proofs.Common.{ℕ, List, refl}
use Rattle.pq_schema.specs.declared.table.Limit.{Limit}
use Rattle.pq_clients.specs.Flights.{limit_tests}
use Rattle.pq_clients.proofs.Lists.{loop_more, loop_done}
use Rattle.pq_clients.proofs.limits.put_tests.Goals as goal

pub loop-place-preserved : goal.loop-place-preserved
loop-place-preserved c =
    loop_more (λ (j : ℕ) (xs : List Limit). limit_tests c.args.write.now c.args.old.now c.args.row.now j xs)
    c.args.limits.now c.loop-place.place c.index-limits-place.result _ _ _ c.loop-place-test.true c.index-limits-place.is
    c.in_ok-put_test.ensures c.loop-place.invariant

pub returns : goal.returns
returns c =
    loop_done (λ (j : ℕ) (xs : List Limit). limit_tests c.args.write.now c.args.old.now c.args.row.now j xs)
    c.args.limits.now c.loop-place.place _ _ c.loop-place-test.false refl c.loop-place.invariant
