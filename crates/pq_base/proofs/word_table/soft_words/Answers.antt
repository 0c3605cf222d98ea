use Rattle.std.proofs.Common.{refl}
use Rattle.pq_base.specs.Words.{softs}
use Rattle.pq_base.proofs.WordOrder.{rising_from_test}
use Rattle.pq_base.proofs.word_table.soft_words.Goals as goal

pub invariant_of-result : goal.invariant_of-result
invariant_of-result c = (refl, rising_from_test softs refl)
