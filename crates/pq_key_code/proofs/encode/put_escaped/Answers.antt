use Rattle.pq_key_code.proofs.Escapes.{escaped_step}
use Rattle.pq_key_code.proofs.encode.put_escaped.Goals as goal

pub loop-byte-preserved : goal.loop-byte-preserved
loop-byte-preserved c = escaped_step c.args.dir c.args.bytes.now c.loop-byte.byte-index _ _ _ c.loop-byte-test.true c.loop-byte.invariant c.in_ok-put_text_byte.ensures.ok
