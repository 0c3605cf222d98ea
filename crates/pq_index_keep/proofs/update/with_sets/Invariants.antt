use Rattle.std.proofs.Common.{◌≡◌, length, drop}
use Rattle.pq_index_keep.specs.Tested.{set_from, with_sets}
use Rattle.pq_index_keep.proofs.update.with_sets.Given as goal

abbrev pub invariant-loop-set : goal.invariant-loop-set
invariant-loop-set l = (length l.new ≡ length l.row) × (set_from l.row (drop l.set-index l.sets) l.new ≡ with_sets l.sets l.row)
