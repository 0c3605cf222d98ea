use Rattle.std.proofs.Common.{◌≡◌, ◌++◌, string_bytes, take}
use Rattle.pq_print.specs.Lists.{each_after}
use Rattle.pq_print.proofs.part.put_each.Given as goal

abbrev pub invariant-loop-part : goal.invariant-loop-part
invariant-loop-part g l = string_bytes l.out ≡ string_bytes l.fn.out ++ each_after l.before (g.P.Part.text l.scope) (take l.part-index l.parts)
