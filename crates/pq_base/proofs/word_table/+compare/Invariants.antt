use Rattle.std.proofs.Common.{length}
use Rattle.pq_base.proofs.word_table.+compare.Given as goal

abbrev pub decreases-compare : goal.decreases-compare
decreases-compare l = length l.a.now
