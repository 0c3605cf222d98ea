use Rattle.std.proofs.Common.{◌≡◌, ◌++◌, take, map}
use Rattle.pq_key_code.specs.KeyCode.{turned_byte}
use Rattle.pq_key_code.proofs.encode.put_each_turned.Given as goal

abbrev pub invariant-loop-byte : goal.invariant-loop-byte
invariant-loop-byte l = l.out ≡ l.fn.out ++ map (turned_byte l.dir) (take l.byte-index l.bytes)
