use Rattle.pq_schema.proofs.Soundness.{valid_query}
use Rattle.pq_index_scan.proofs.limit.range_of.Goals as goal

pub table_of-table-requires-clause-query : goal.table_of-table-requires-clause-query
table_of-table-requires-clause-query c = valid_query c.args.catalog.now c.args.query.now c.known.ensures c.requires.resolved
