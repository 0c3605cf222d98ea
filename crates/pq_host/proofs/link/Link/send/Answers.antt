use Rattle.pq_host.proofs.Exchanges.{request_sent}
use Rattle.pq_host.proofs.Untold.{anyway}
use Rattle.pq_host.proofs.link.Link.send.Goals as goal

pub returns-clause-sent : goal.returns-clause-sent
returns-clause-sent g c = rw (← c.self.view_is)
    (anyway c.flush.result (request_sent c.args.op c.args.node c.args.body.now c.head.result _ _ _ _ c.head.ensures c.in_ok-write_all.ensures.bytes c.in_ok-write_all-2.ensures.bytes c.flush.ensures.bytes))
