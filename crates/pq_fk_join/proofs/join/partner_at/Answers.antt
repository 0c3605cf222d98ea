use Rattle.pq_schema.proofs.Soundness.{valid_query}
use Rattle.pq_fk_join.proofs.join.partner_at.Goals as goal

pub table_of-table-requires-clause-query : goal.table_of-table-requires-clause-query
table_of-table-requires-clause-query c = valid_query c.args.request.now.catalog.now c.args.request.now.query.now c.known.ensures c.requires.asked.resolved
