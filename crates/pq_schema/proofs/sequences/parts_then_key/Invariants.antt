use Rattle.std.proofs.Common.{◌≡◌, ◌++◌, map, take}
use Rattle.pq_schema.specs.Sequences.{ascending_part, without}
use Rattle.pq_schema.proofs.sequences.parts_then_key.Given as goal

abbrev pub invariant-loop-part : goal.invariant-loop-part
invariant-loop-part l = l.made ≡ take l.part-index l.parts

abbrev pub invariant-loop-col : goal.invariant-loop-col
invariant-loop-col l = l.made ≡ l.parts ++ map ascending_part (without l.set (take l.col-index l.key))
