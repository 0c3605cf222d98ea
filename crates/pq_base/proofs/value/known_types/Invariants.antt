use Rattle.std.proofs.Common.{take}
use Rattle.std.specs.Prelude.{All}
use Rattle.pq_base.specs.Values.{IsType}
use Rattle.pq_base.proofs.value.known_types.Given as goal

abbrev pub invariant-loop-ty : goal.invariant-loop-ty
invariant-loop-ty l = All IsType (take l.ty-index l.types)
