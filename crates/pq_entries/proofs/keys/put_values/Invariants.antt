use Rattle.std.proofs.Common.{◌≡◌, ◌++◌, drop}
use Rattle.pq_key_code.specs.KeyCode.{code_of}
use Rattle.pq_schema.specs.Keys.{dirs_of}
use Rattle.pq_schema.specs.Sequences.{then_key}
use Rattle.pq_entries.proofs.keys.put_values.Given as goal

abbrev pub invariant-loop-place : goal.invariant-loop-place
invariant-loop-place l = l.out ++ code_of (dirs_of (drop l.place (then_key l.parts l.set l.key))) (drop l.place l.values) ≡ l.fn.out ++ code_of (dirs_of (then_key l.parts l.set l.key)) l.values
