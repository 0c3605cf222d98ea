use Rattle.std.proofs.Common.{◌≡◌, take}
use Rattle.pq_content.specs.Tables.{values_of}
use Rattle.pq_builds.proofs.target.values_of.Given as goal

abbrev pub invariant-loop-part : goal.invariant-loop-part
invariant-loop-part l = l.values ≡ values_of (take l.part-index l.parts) l.row
