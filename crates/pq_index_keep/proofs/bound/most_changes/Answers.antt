use Rattle.std.proofs.Common.{refl}
use Rattle.pq_index_keep.proofs.bound.most_changes.Goals as goal

pub returns-in-Update : goal.returns-in-Update
returns-in-Update c = rw (c.in-Update.is, c.touched_indexes.ensures, c.of.ensures, c.items.ensures, c.table.ensures) refl
