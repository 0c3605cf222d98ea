use Rattle.std.proofs.Common.{◌≡◌, map}
use Rattle.pq_local_ops.specs.declared.sort.Coded.{Coded}
use Rattle.pq_local_ops.proofs.sort.combos_of.Given as goal

abbrev pub invariant-loop-item : goal.invariant-loop-item
invariant-loop-item l = l.combos ≡ map (λ (item : Coded). item.combo) l.yielded
