use Rattle.pq_index_keep.proofs.Narrow.{valid_writable}
use Rattle.pq_tallies.specs.Defined.{counters_in}
use Rattle.pq_counters.proofs.Behind.{reads_are}
use Rattle.pq_counters.proofs.Small.{small_columns, counters_small}
use Rattle.pq_counters.proofs.bound.reads_behind.Goals as goal

pub all_moves-requires-clause-sets : goal.all_moves-requires-clause-sets
all_moves-requires-clause-sets c = small_columns c.args.catalog.now.tables c.args.write.now (valid_writable c.known.ensures) c.requires.write

pub all_moves-requires-clause-columns : goal.all_moves-requires-clause-columns
all_moves-requires-clause-columns c = counters_small c.args.catalog.now c.known.ensures

pub returns-clause-reads : goal.returns-clause-reads
returns-clause-reads c = reads_are c.args.removers c.args.catalog.now c.args.write.now c.tests_behind-tests.result c.counter_reads-reads.result c.tests_behind-tests.ensures.tests (c.counter_reads-reads.ensures.reads (counters_in c.args.catalog.now) c.all_moves.ensures.moves)
