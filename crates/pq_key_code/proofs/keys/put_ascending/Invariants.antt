use Rattle.std.proofs.Common.{◌≡◌, ◌++◌, drop, length}
use Rattle.std.specs.Prelude.{replicate}
use Rattle.pq_base.specs.declared.value.Dir.TheVariants.{Asc}
use Rattle.pq_key_code.specs.KeyCode.{code_of}
use Rattle.pq_key_code.proofs.keys.put_ascending.Given as goal

abbrev pub invariant-loop-value : goal.invariant-loop-value
invariant-loop-value l = l.out ++ code_of (replicate (length (drop l.value-index l.row)) Asc) (drop l.value-index l.row) ≡ l.fn.out ++ code_of (replicate (length l.row) Asc) l.row
