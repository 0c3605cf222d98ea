use Rattle.pq_index_keep.proofs.Fitting.{insert_err}
use Rattle.pq_index_keep.proofs.Inserting.{writable_at}
use Rattle.pq_index_keep.proofs.inserts.check_insert.Goals as goal

pub check_insert_row-requires-clause-defaults : goal.check_insert_row-requires-clause-defaults
check_insert_row-requires-clause-defaults c =
    rw c.table-table.ensures ((writable_at c.args.catalog.now.tables c.args.number c.requires.sound c.requires.number).made.fillers)

pub returns-in-Err-clause-answer : goal.returns-in-Err-clause-answer
returns-in-Err-clause-answer c =
    insert_err c.table-table.result.now _ c.args.number c.args.cols.now c.args.values.now c.in-Err.stopped c.table-table.ensures c.in_ok-check_insert_names.ensures c.in-Err.ensures.answer
