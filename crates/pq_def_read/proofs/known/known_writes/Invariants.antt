use Rattle.std.proofs.Common.{take}
use Rattle.pq_def_read.specs.Known.{HaveWriteValues}
use Rattle.pq_def_read.proofs.known.known_writes.Given as goal

abbrev pub invariant-loop-write : goal.invariant-loop-write
invariant-loop-write l = HaveWriteValues (take l.write-index l.writes)
