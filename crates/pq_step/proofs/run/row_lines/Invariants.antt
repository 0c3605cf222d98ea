use Rattle.std.proofs.Common.{◌≡◌, map}
use Rattle.pq_print.specs.declared.report.Line.TheVariants.{Row}
use Rattle.pq_step.proofs.run.row_lines.Given as goal

abbrev pub invariant-loop-row : goal.invariant-loop-row
invariant-loop-row l = l.lines ≡ map Row l.yielded
