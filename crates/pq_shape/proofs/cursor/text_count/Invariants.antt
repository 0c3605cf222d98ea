use Rattle.std.proofs.Common.{◌≡◌, ◌+◌, ◌-◌, ◌≤◌, length, drop}
use Rattle.pq_text.specs.Tokens.{tokens_from}
use Rattle.pq_shape.proofs.cursor.text_count.Given as goal

abbrev pub invariant-tokens : goal.invariant-tokens
invariant-tokens l = (l.at ≤ length l.text) × (l.count ≤ l.at) × (l.count + length (tokens_from 0 l.at (drop l.at l.text)) ≡ length (tokens_from 0 l.from (drop l.from l.text)))

abbrev pub decreases-tokens : goal.decreases-tokens
decreases-tokens l = length l.text - l.at
