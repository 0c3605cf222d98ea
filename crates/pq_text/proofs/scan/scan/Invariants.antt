use Rattle.std.proofs.Common.{◌≡◌, ◌-◌, ◌≤◌, ◌++◌, length, drop}
use Rattle.pq_text.specs.Tokens.{tokens_from, tokens_of}
use Rattle.pq_text.proofs.scan.scan.Given as goal

abbrev pub invariant-tokens : goal.invariant-tokens
invariant-tokens l = (l.at ≤ length l.text) × (l.tokens ++ tokens_from 0 l.at (drop l.at l.text) ≡ tokens_of l.text)

abbrev pub decreases-tokens : goal.decreases-tokens
decreases-tokens l = length l.text - l.at
