use Rattle.std.proofs.Common.{◌≡◌, take, map}
use Rattle.pq_planning.specs.Lines.{index_col}
use Rattle.pq_planning.proofs.lines.index_cols.Given as goal

abbrev pub invariant-loop-part : goal.invariant-loop-part
invariant-loop-part l = l.cols ≡ map (index_col l.columns) (take l.part-index l.parts)
