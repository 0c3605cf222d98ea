use Rattle.pq_clients.proofs.taking.take.Goals as goal

pub take_with-requires-clause-pass : goal.take_with-requires-clause-pass
take_with-requires-clause-pass g c = c.in-Ok.ensures

pub returns-in-Ok : goal.returns-in-Ok
returns-in-Ok g c = c.take_with.ensures
