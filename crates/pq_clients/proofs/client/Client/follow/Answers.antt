use Rattle.pq_clients.proofs.client.Client.follow.Goals as goal

pub returns-in-On : goal.returns-in-On
returns-in-On c = rw c.in-On.is c.go_on.ensures

pub returns-in-Takes : goal.returns-in-Takes
returns-in-Takes c = rw c.in-Takes.is c.take_next.ensures

pub returns-in-Puts : goal.returns-in-Puts
returns-in-Puts c = rw c.in-Puts.is c.put_next.ensures

pub returns-in-Ends : goal.returns-in-Ends
returns-in-Ends c = rw c.in-Ends.is c.end.ensures
