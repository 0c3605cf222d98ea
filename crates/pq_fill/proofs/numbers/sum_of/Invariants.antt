use Rattle.std.proofs.Common.{◌≡◌, ◌^◌, take}
use Rattle.pq_fill.specs.Summary.{sum_of, IsShared}
use Rattle.pq_fill.proofs.numbers.sum_of.Given as goal

abbrev pub invariant-loop-line : goal.invariant-loop-line
invariant-loop-line l = (l.sum ≡ sum_of (take l.line-index l.lines)) × IsShared (2 ^ 63) l.line-index l.sum
