use Rattle.std.proofs.Common.{◌≡◌, take}
use Rattle.pq_builds.proofs.target.copied_fillers.Given as goal

abbrev pub invariant-loop-filler : goal.invariant-loop-filler
invariant-loop-filler l = l.copy ≡ take l.filler-index l.fillers
