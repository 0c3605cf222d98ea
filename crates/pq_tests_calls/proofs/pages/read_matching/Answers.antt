use Rattle.pq_tests_calls.proofs.pages.read_matching.Goals as goal

pub returns-in_ok-keep_matching-in_default-node : goal.returns-in_ok-keep_matching-in_default-node
returns-in_ok-keep_matching-in_default-node g c =
    c.in_ok-keep_matching-in_default-node.ensures.part.fit c.args.catalog.now.tables c.args.planned.now.query c.args.rel c.in_ok-found.ensures
