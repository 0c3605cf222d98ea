use Rattle.std.proofs.Common.{sym}
use Rattle.pq_row_code.proofs.ChangeLists.{goes_on, stops, is_done}
use Rattle.pq_row_code.proofs.changes.changes_of.Goals as goal

pub returns-in_default : goal.returns-in_default
returns-in_default c = stops c.loop.changes c.args.count c.loop.counter c.loop.rest.now _ c.loop-test.true (sym (rw c.in_default.is at c.in_ok-change.ensures)) c.loop.invariant

pub loop-preserved : goal.loop-preserved
loop-preserved c = goes_on c.loop.changes _ c.args.count c.loop.counter c.loop.rest.now c.in-Some.change c.in-Some.after.now _ c.loop-test.true (sym (rw c.in-Some.is at c.in_ok-change.ensures)) c.in_ok-push.ensures.ok c.loop.invariant

pub returns : goal.returns
returns c = is_done c.loop.changes c.args.count c.loop.counter c.loop.rest.now _ c.loop-test.false c.loop.invariant
