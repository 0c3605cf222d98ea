use Rattle.pq_index_keep.proofs.Whole.{whole_wrong}
use Rattle.pq_index_keep.proofs.inserts.is_insert_wrong.Goals as goal

pub returns-then-is_whole : goal.returns-then-is_whole
returns-then-is_whole c = whole_wrong c.args.table.now c.args.places.now c.args.values.now (c.is_whole.ensures c.if-is_whole.true)
