use Rattle.std.proofs.Common.{sym}
use Rattle.pq_opening.proofs.Lefts.{left_there, table_of_left}
use Rattle.pq_opening.proofs.last.left.Goals as goal

pub table-requires-clause-from_one : goal.table-requires-clause-from_one
table-requires-clause-from_one c = (left_there c.args.catalog.now c.known.ensures c.in-Some.made (sym c.in-Some.ensures)).number.0

pub table-requires-clause-there : goal.table-requires-clause-there
table-requires-clause-there c = (left_there c.args.catalog.now c.known.ensures c.in-Some.made (sym c.in-Some.ensures)).number.1

pub made-requires-clause-table : goal.made-requires-clause-table
made-requires-clause-table c = rw c.table.ensures (table_of_left c.args.catalog.now c.known.ensures c.in-Some.made (sym c.in-Some.ensures))

pub made-requires-clause-access : goal.made-requires-clause-access
made-requires-clause-access c =
    let there = left_there c.args.catalog.now c.known.ensures c.in-Some.made (sym c.in-Some.ensures) in
    rw c.table.ensures (there.index_from_one, there.index_there)
