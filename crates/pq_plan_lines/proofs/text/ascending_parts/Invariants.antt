use Rattle.std.proofs.Common.{◌≡◌, map, take}
use Rattle.pq_schema.specs.Sequences.{ascending_part}
use Rattle.pq_plan_lines.proofs.text.ascending_parts.Given as goal

abbrev pub invariant-loop-col : goal.invariant-loop-col
invariant-loop-col l = l.parts ≡ map ascending_part (take l.col-index l.key)
