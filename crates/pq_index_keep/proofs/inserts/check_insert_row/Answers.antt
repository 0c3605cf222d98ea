use Rattle.std.proofs.Common.{None}
use Rattle.pq_index_keep.proofs.Fitting.{as_many_names}
use Rattle.pq_index_keep.proofs.inserts.check_insert_row.Goals as goal

pub check_insert_values-requires-clause-named : goal.check_insert_values-requires-clause-named
check_insert_values-requires-clause-named c = rw (c.all_columns.ensures, c.in-None.is) (as_many_names c.args.table.now None)
