use Rattle.std.proofs.Common.{◌≡◌, drop, ◌∷◌}
use Rattle.pq_parts.specs.Spans.{are_rising}
use Rattle.pq_parts.proofs.placing.rise.Given as goal

-- all rise exactly if those from the last one on do
abbrev pub invariant-loop-part : goal.invariant-loop-part
invariant-loop-part g l = are_rising l.fn.parts ≡ are_rising (l.last ∷ drop l.part-index l.rest)
