use Rattle.std.proofs.Common.{◌≡◌, ◌++◌, take, map}
use Rattle.pq_key_code.specs.KeyCode.{turned_byte, escaped_text}
use Rattle.pq_key_code.proofs.encode.put_escaped.Given as goal

abbrev pub invariant-loop-byte : goal.invariant-loop-byte
invariant-loop-byte l = l.out ≡ l.fn.out ++ map (turned_byte l.dir) (escaped_text (take l.byte-index l.bytes))
