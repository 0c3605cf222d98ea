use Rattle.pq_clients.proofs.reading.read.Goals as goal

pub returns-in-Ok : goal.returns-in-Ok
returns-in-Ok g c = c.read_at.ensures
