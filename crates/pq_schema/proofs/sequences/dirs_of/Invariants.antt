use Rattle.std.proofs.Common.{◌≡◌, take}
use Rattle.pq_schema.specs.Keys.{dirs_of}
use Rattle.pq_schema.proofs.sequences.dirs_of.Given as goal

abbrev pub invariant-loop-part : goal.invariant-loop-part
invariant-loop-part l = l.dirs ≡ dirs_of (take l.part-index l.parts)
