use Rattle.std.proofs.Common.{sym}
use Rattle.pq_row_code.proofs.Rows.{field_more, field_stop, field_end, field_left}
use Rattle.pq_row_code.proofs.decode.marked_fields_of.Goals as goal

pub returns-in_default : goal.returns-in_default
returns-in_default c = field_stop c.loop-ty.row c.args.types.now c.loop-ty.ty-index _ c.loop-ty.left c.loop-ty.rest.now _ c.loop-ty-test.true (sym (rw c.in_default.is at c.in_ok-value.ensures)) c.loop-ty.invariant

pub loop-ty-preserved : goal.loop-ty-preserved
loop-ty-preserved c = field_more c.loop-ty.row _ c.args.types.now c.loop-ty.ty-index _ c.loop-ty.left c.loop-ty.rest.now c.in-Some.value c.in-Some.after.now _ c.loop-ty-test.true (sym (rw c.in-Some.is at c.in_ok-value.ensures)) c.in_ok-push.ensures.ok c.loop-ty.invariant

pub returns-then-left-eq0 : goal.returns-then-left-eq0
returns-then-left-eq0 c = field_end c.loop-ty.row c.args.types.now c.loop-ty.ty-index c.loop-ty.left c.loop-ty.rest.now _ c.loop-ty-test.false c.if-left-eq0.true c.loop-ty.invariant

pub returns : goal.returns
returns c = field_left c.loop-ty.row c.args.types.now c.loop-ty.ty-index c.loop-ty.left c.loop-ty.rest.now _ c.loop-ty-test.false c.if-left-eq0.false c.loop-ty.invariant
