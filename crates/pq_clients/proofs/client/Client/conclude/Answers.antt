use Rattle.pq_clients.proofs.client.Client.conclude.Goals as goal

pub returns-in-Err : goal.returns-in-Err
returns-in-Err c = rw c.in-Err.is c.stop_by.ensures

pub returns-in-Ok : goal.returns-in-Ok
returns-in-Ok c = rw c.in-Ok.is c.follow.ensures
