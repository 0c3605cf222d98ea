use Rattle.std.proofs.Common.{◌≡◌}
use Rattle.pq_cases.proofs.fills.summary_of.Given as goal

abbrev pub invariant-loop-text : goal.invariant-loop-text
invariant-loop-text l = l.summary.reports ≡ l.text-index
