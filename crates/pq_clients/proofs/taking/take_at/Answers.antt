use Rattle.pq_clients.specs.Clients.{Looking}
use Rattle.pq_clients.specs.Seen.{seen_course}
use Rattle.pq_clients.specs.Steps.{On}
use Rattle.pq_clients.proofs.Leading.{guarded, guarded_err}
use Rattle.pq_clients.proofs.taking.take_at.Goals as goal

pub returns-in-Ok-clause-goes : goal.returns-in-Ok-clause-goes
returns-in-Ok-clause-goes g c = λ f.
    guarded f c.args.key.now c.items.result.now c.args.read.now c.args.new.now (seen_course f c.args.pass) (On (Looking f)) _ _
    c.in-Ok.done c.taken_or_not.result c.items.ensures (c.taken_or_not.ensures f) c.in-Ok.ensures

pub returns-in-Err-clause-goes : goal.returns-in-Err-clause-goes
returns-in-Err-clause-goes g c = λ f.
    guarded_err f c.args.key.now c.items.result.now c.args.read.now c.args.new.now (seen_course f c.args.pass) (On (Looking f)) _ _
    c.in-Err.halt c.items.ensures c.in-Err.ensures

pub returns-in-Ok-clause-way : goal.returns-in-Ok-clause-way
returns-in-Ok-clause-way g c = λ f. (c.in-Ok.done, c.taken_or_not.ensures f)
