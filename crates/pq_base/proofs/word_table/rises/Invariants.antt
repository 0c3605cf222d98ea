use Rattle.std.proofs.Common.{◌≡◌, ◌+◌, ◌-◌, ◌<◌, ℕ, [], length}
use Rattle.std.specs.Prelude.{slice_index_or}
use Rattle.std.specs.declared.cmp.Ordering.TheVariants.{Less}
use Rattle.pq_base.specs.Words.{texts}
use Rattle.pq_base.proofs.word_table.rises.Given as goal
use Rattle.std.specs.Ordering.{nat_cmp}
use Rattle.std.specs.Cmp.Lexicographic.{slice_cmp}

abbrev pub invariant-words : goal.invariant-words
invariant-words l = (0 < l.i) × ((k : ℕ) → k + 1 < l.i → slice_cmp nat_cmp (slice_index_or (texts l.words) k []) (slice_index_or (texts l.words) (k + 1) []) ≡ Less)

abbrev pub decreases-words : goal.decreases-words
decreases-words l = length l.words - l.i
