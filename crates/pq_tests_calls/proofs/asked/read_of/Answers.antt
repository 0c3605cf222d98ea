use Rattle.pq_schema.proofs.Soundness.{valid_query}
use Rattle.pq_tests_calls.proofs.Ready.{nodes_ready}
use Rattle.pq_tests_calls.proofs.asked.read_of.Goals as goal

pub read_in-requires : goal.read_in-requires
read_in-requires c =
    rw c.tree.ensures (nodes_ready c.args.catalog.now.tables c.args.planned.now.query c.args.planned.now.made
    (valid_query c.args.catalog.now c.args.planned.now.query c.known.ensures c.requires.resolved) c.requires.compiled c.in-None.is)
