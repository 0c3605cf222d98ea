use Rattle.std.proofs.Common.{◌≡◌, map}
use Rattle.std.specs.Vec.Iter.{into_iter_items}
use Rattle.pq_content.specs.Standing.{change_of}
use Rattle.pq_pending.specs.Pending.{with_changes}
use Rattle.pq_pending.proofs.pending.put_all.Given as goal

abbrev pub invariant-loop-change : goal.invariant-loop-change
invariant-loop-change l =
    with_changes (map change_of l.all) (map change_of (into_iter_items l.change-iterator)) ≡ with_changes (map change_of l.fn.changes) (map change_of l.fn.more)
