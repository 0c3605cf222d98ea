use Rattle.pq_clients.proofs.own_steps.put_step.Goals as goal

pub put_with-requires-clause-pass : goal.put_with-requires-clause-pass
put_with-requires-clause-pass g c = c.in-Ok.ensures

pub returns-in-Ok : goal.returns-in-Ok
returns-in-Ok g c = c.put_with.ensures
