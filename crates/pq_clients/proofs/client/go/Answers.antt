use Rattle.pq_clients.specs.InFlight.{seen_flight}
use Rattle.pq_clients.proofs.client.go.Goals as goal

pub returns-in-Reading : goal.returns-in-Reading
returns-in-Reading g c = rw c.in-Reading.is (c.read.ensures c.args.holder.number c.args.flight.now.read.now)

pub returns-in-Taking : goal.returns-in-Taking
returns-in-Taking g c = rw c.in-Taking.is c.take.ensures

pub returns-in-Looking : goal.returns-in-Looking
returns-in-Looking g c =
    rw c.in-Looking.is (c.look.ensures c.args.holder.client c.args.holder.number (seen_flight c.args.flight.now))

pub returns-in-Flying : goal.returns-in-Flying
returns-in-Flying g c = rw c.in-Flying.is c.fly.ensures
