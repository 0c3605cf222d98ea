use Rattle.std.proofs.Common.{take}
use Rattle.pq_parts.specs.Asking.{AreAnswered}
use Rattle.pq_parts.proofs.part_store.PartStore.row_at.Given as goal

abbrev pub invariant-loop-n : goal.invariant-loop-n
invariant-loop-n g l = AreAnswered l.self.parts l.at (take l.n l.tests)
