use Rattle.pq_schema.proofs.Soundness.{valid_query}
use Rattle.pq_tests_calls.proofs.asked.plan_of.Goals as goal

pub compile-requires : goal.compile-requires
compile-requires c = valid_query c.args.catalog.now c.in_ok-query.query c.known.ensures c.in_ok-query.ensures
