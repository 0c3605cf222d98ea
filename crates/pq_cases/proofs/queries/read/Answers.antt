use Rattle.pq_schema.proofs.Soundness.{valid_query}
use Rattle.pq_cases.proofs.queries.read.Goals as goal

pub returns-clause-query : goal.returns-clause-query
returns-clause-query c =
    valid_query c.args.catalog.now c.in_ok-query.query c.known.ensures c.in_ok-query.ensures.sound.0
