use Rattle.std.proofs.Common.{arith}
use Rattle.pq_key_code.proofs.Loop.{plain_byte, zero_byte, text_short}
use Rattle.pq_key_code.proofs.decode.unescaped_text.Goals as goal

pub loop-i-preserved-then-byte-ne0 : goal.loop-i-preserved-then-byte-ne0
loop-i-preserved-then-byte-ne0 c = record {
  within = omega arith;
  read = plain_byte c.args.dir _ _ c.args.bytes.now c.loop-i.i c.turn-byte.result _ c.loop-i-test.true c.turn-byte.ensures c.if-byte-ne0.true c.in_ok-push.ensures.ok c.loop-i.invariant.read;
}

pub loop-i-preserved : goal.loop-i-preserved
loop-i-preserved c = record {
  within = omega arith;
  read = zero_byte c.args.dir _ _ c.args.bytes.now c.loop-i.i c.turn-byte.result c.turn.result _ c.loop-i-test.true c.turn-byte.ensures c.if-byte-ne0.false c.turn.ensures c.in-255.is c.in_ok-push-in-255.ensures.ok c.loop-i.invariant.read;
}

pub returns : goal.returns
returns c = text_short c.args.dir _ c.args.bytes.now c.loop-i.i _ c.loop-i-test.false c.loop-i.invariant.read
