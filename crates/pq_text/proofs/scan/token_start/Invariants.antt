use Rattle.std.proofs.Common.{◌≡◌, ◌-◌, ◌≤◌, length, drop}
use Rattle.pq_text.specs.Tokens.{tokens_from}
use Rattle.pq_text.proofs.scan.token_start.Given as goal

abbrev pub invariant-left : goal.invariant-left
invariant-left l = (l.from ≤ l.at) × (l.at ≤ length l.text) × (tokens_from 0 l.from (drop l.from l.text) ≡ tokens_from 0 l.at (drop l.at l.text))

abbrev pub decreases-left : goal.decreases-left
decreases-left l = length l.text - l.at
