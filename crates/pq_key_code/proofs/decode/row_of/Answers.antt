use Rattle.std.proofs.Common.{◌<◌, length, sym, arith}
use Rattle.pq_key_code.proofs.Loop.{row_more, row_stop, row_end}
use Rattle.pq_key_code.proofs.decode.row_of.Goals as goal

pub returns-in_default : goal.returns-in_default
returns-in_default c =
    let within : c.loop-i.i < length c.args.dirs.now = omega arith in
    row_stop c.loop-i.row c.args.types.now c.args.dirs.now c.loop-i.i _ _ c.loop-i.rest.now _ c.loop-i-test.true within (sym (rw c.in_default.is at c.in_ok-value.ensures)) c.loop-i.invariant

pub loop-i-preserved : goal.loop-i-preserved
loop-i-preserved c =
    let within : c.loop-i.i < length c.args.dirs.now = omega arith in
    row_more c.loop-i.row _ c.args.types.now c.args.dirs.now c.loop-i.i _ _ c.loop-i.rest.now c.in-Some.value c.in-Some.after.now _ c.loop-i-test.true within (sym (rw c.in-Some.is at c.in_ok-value.ensures)) c.in_ok-push.ensures.ok c.loop-i.invariant

pub returns : goal.returns
returns c = row_end c.loop-i.row c.args.types.now c.args.dirs.now c.loop-i.i c.loop-i.rest.now _ c.loop-i-test.false c.loop-i.invariant
