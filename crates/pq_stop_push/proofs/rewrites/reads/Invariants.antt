use Rattle.std.proofs.Common.{◌≡◌}
use Rattle.pq_plan.specs.Meaning.{tree_of}
use Rattle.pq_plan.specs.Rewrites.{reads_tree}
use Rattle.pq_stop_push.proofs.rewrites.reads.Given as goal

abbrev pub invariant-loop-rel : goal.invariant-loop-rel
invariant-loop-rel l = tree_of l.tree ≡ reads_tree l.rel
