use Rattle.pq_schema.specs.Valid.IsValid.{then_table}
use Rattle.pq_schema.proofs.Accepted.{made_by_def, made_free}
use Rattle.pq_definitions.proofs.new_table.add_table.Goals as goal

pub push_table-requires-clause-next : goal.push_table-requires-clause-next
push_table-requires-clause-next c = then_table c.args.catalog.now c.args.def c.in_ok-table.table c.known.ensures c.requires c.in_ok-table.ensures

pub push_table-requires-clause-columns : goal.push_table-requires-clause-columns
push_table-requires-clause-columns c = (made_by_def c.args.catalog.now c.args.def c.in_ok-table.table c.in_ok-table.ensures).few_columns

pub push_table-requires-clause-indexes : goal.push_table-requires-clause-indexes
push_table-requires-clause-indexes c = (made_by_def c.args.catalog.now c.args.def c.in_ok-table.table c.in_ok-table.ensures).few_indexes

pub push_table-requires-clause-free : goal.push_table-requires-clause-free
push_table-requires-clause-free c = made_free c.args.catalog.now c.args.def c.in_ok-table.table c.in_ok-table.ensures
