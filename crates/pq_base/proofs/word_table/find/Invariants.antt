use Rattle.std.proofs.Common.{◌-◌, ◌≤◌, length, map}
use Rattle.pq_base.specs.Words.{uppercase_byte, texts}
use Rattle.pq_base.proofs.WordOrder.{AllBelow, AllAbove}
use Rattle.pq_base.proofs.word_table.find.Given as goal

abbrev pub invariant-halves : goal.invariant-halves
invariant-halves l = (l.low ≤ l.high) × (l.high ≤ length l.words) × AllBelow (texts l.words) (map uppercase_byte l.word) l.low × AllAbove (texts l.words) (map uppercase_byte l.word) l.high

abbrev pub decreases-halves : goal.decreases-halves
decreases-halves l = l.high - l.low
