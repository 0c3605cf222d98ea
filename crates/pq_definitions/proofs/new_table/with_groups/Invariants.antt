use Rattle.std.proofs.Common.{◌≡◌, take, fold}
use Rattle.pq_schema.specs.Sequences.{with_group}
use Rattle.pq_definitions.proofs.new_table.with_groups.Given as goal

abbrev pub invariant-loop-cols : goal.invariant-loop-cols
invariant-loop-cols l = l.made ≡ fold with_group l.fn.table (take l.cols-index l.cols-items)
