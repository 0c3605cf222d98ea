use Rattle.pq_index_keep.proofs.Changing.{move_step}
use Rattle.pq_index_keep.proofs.changes.move_entries.Goals as goal

pub loop-i-preserved : goal.loop-i-preserved
loop-i-preserved c = move_step c.args.number c.args.table.now c.args.old.now c.args.new.now c.args.indexes.now c.loop-i.i c.index-indexes-i.result _ c.loop-i.changes _ c.loop-i-test.true c.index-indexes-i.is c.loop-i.invariant c.in_ok-move_entry.ensures
