use Rattle.std.proofs.Common.{arith}
use Rattle.pq_index_keep.proofs.Narrow.{valid_writable}
use Rattle.pq_counters.proofs.Behind.{few_changes}
use Rattle.pq_counters.proofs.Small.{small_columns, counters_small, few_row_changes}
use Rattle.pq_counters.proofs.bound.whole_changes.Goals as goal

pub most_changes-requires-clause-sound : goal.most_changes-requires-clause-sound
most_changes-requires-clause-sound c = valid_writable c.known.ensures

pub all_moves-requires-clause-sets : goal.all_moves-requires-clause-sets
all_moves-requires-clause-sets c = small_columns c.args.catalog.now.tables c.args.write.now (valid_writable c.known.ensures) c.requires

pub all_moves-requires-clause-columns : goal.all_moves-requires-clause-columns
all_moves-requires-clause-columns c = counters_small c.args.catalog.now c.known.ensures

pub overflow_add-result : goal.overflow_add-result
overflow_add-result c =
    let few = few_row_changes c.args.catalog.now.tables c.args.write.now (valid_writable c.known.ensures) c.requires in
    let same = c.most_changes.ensures in
    let most = c.all_moves.ensures.few in
    omega arith

pub returns-clause-few : goal.returns-clause-few
returns-clause-few c = rw (c.most_changes.ensures, c.all_moves.ensures.moves) (few_changes c.args.catalog.now c.args.write.now c.known.ensures c.requires)
