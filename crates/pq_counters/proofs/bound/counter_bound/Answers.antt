use Rattle.std.proofs.Common.{arith}
use Rattle.pq_index_keep.proofs.Narrow.{valid_writable}
use Rattle.pq_counters.proofs.Small.{small_columns, counters_small, few_row_changes}
use Rattle.pq_counters.proofs.bound.counter_bound.Goals as goal

pub all_moves-moves-requires-clause-sets : goal.all_moves-moves-requires-clause-sets
all_moves-moves-requires-clause-sets c = small_columns c.args.catalog.now.tables c.args.write.now (valid_writable c.known.ensures) c.requires

pub all_moves-moves-requires-clause-columns : goal.all_moves-moves-requires-clause-columns
all_moves-moves-requires-clause-columns c = counters_small c.args.catalog.now c.known.ensures

pub most_changes-changes-requires-clause-sound : goal.most_changes-changes-requires-clause-sound
most_changes-changes-requires-clause-sound c = valid_writable c.known.ensures

pub overflow_add-changes : goal.overflow_add-changes
overflow_add-changes c =
    let few = few_row_changes c.args.catalog.now.tables c.args.write.now (valid_writable c.known.ensures) c.requires in
    let same = c.most_changes-changes.ensures in
    let most = c.all_moves-moves.ensures.few in
    omega arith
