use Rattle.pq_index_keep.proofs.Changing.{remove_step}
use Rattle.pq_index_keep.proofs.changes.remove_entries.Goals as goal

pub loop-i-preserved : goal.loop-i-preserved
loop-i-preserved c = remove_step c.args.number c.args.table.now c.args.row.now c.args.indexes.now c.loop-i.i c.index-indexes-i.result c.in_ok-key.key _ c.loop-i.changes _ c.loop-i-test.true c.index-indexes-i.is c.in_ok-key.ensures c.loop-i.invariant c.in_ok-push.ensures.ok
