use Rattle.std.proofs.Common.{◌≡◌, ◌++◌, drop, length}
use Rattle.std.specs.Prelude.{replicate}
use Rattle.pq_base.specs.declared.value.Dir.TheVariants.{Asc}
use Rattle.pq_key_code.specs.KeyCode.{code_of}
use Rattle.pq_tallies.specs.Counters.{counter_key}
use Rattle.pq_tallies.proofs.codes.counter_key.Given as goal

abbrev pub invariant-loop-value : goal.invariant-loop-value
invariant-loop-value l = l.key ++ code_of (replicate (length (drop l.value-index l.values)) Asc) (drop l.value-index l.values) ≡ counter_key l.number l.values
