use Rattle.std.proofs.Common.{◌≡◌, take}
use Rattle.pq_schema.specs.Sequences.{columns_of}
use Rattle.pq_scan.proofs.prepared.columns_in.Given as goal

abbrev pub invariant-loop-part : goal.invariant-loop-part
invariant-loop-part l = l.cols ≡ columns_of (take l.part-index l.parts)
