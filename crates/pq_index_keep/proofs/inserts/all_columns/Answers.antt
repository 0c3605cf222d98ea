use Rattle.std.proofs.Common.{length}
use Rattle.pq_index_keep.proofs.Whole.{take_range}
use Rattle.pq_index_keep.proofs.inserts.all_columns.Goals as goal

pub returns : goal.returns
returns c = rw c.items.ensures (take_range 0 (length c.args.table.now.columns) 32 c.requires)
