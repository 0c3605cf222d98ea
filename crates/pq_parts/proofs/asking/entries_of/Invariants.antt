use Rattle.std.proofs.Common.{◌≡◌, length, take, sum_by}
use Rattle.pq_parts.proofs.asking.entries_of.Given as goal

abbrev pub invariant-loop-answer : goal.invariant-loop-answer
invariant-loop-answer g l = l.entries ≡ sum_by length (take l.answer-index l.answers)
