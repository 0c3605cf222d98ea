use Rattle.std.proofs.Common.{◌≡◌, ◌++◌, drop}
use Rattle.pq_key_code.specs.KeyCode.{code_of}
use Rattle.pq_key_code.proofs.encode.put_code.Given as goal

abbrev pub invariant-loop-i : goal.invariant-loop-i
invariant-loop-i l = l.out ++ code_of (drop l.i l.dirs) (drop l.i l.row) ≡ l.fn.out ++ code_of l.dirs l.row
