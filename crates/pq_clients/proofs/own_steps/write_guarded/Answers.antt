use Rattle.std.proofs.Common.{None}
use Rattle.pq_clients.specs.Seen.{seen_course}
use Rattle.pq_clients.specs.Steps.{damaged}
use Rattle.pq_clients.proofs.Leading.{guarded, guarded_err}
use Rattle.pq_clients.proofs.own_steps.write_guarded.Goals as goal

pub returns-in-Ok-clause-goes : goal.returns-in-Ok-clause-goes
returns-in-Ok-clause-goes g c = λ f.
    guarded f c.args.key c.items.result.now c.args.expected.now c.args.new.now (seen_course f c.args.pass) (damaged c.args.key None) _ _
    c.in-Ok.done c.kept_or_lost.result c.items.ensures (c.kept_or_lost.ensures f) c.in-Ok.ensures

pub returns-in-Err-clause-goes : goal.returns-in-Err-clause-goes
returns-in-Err-clause-goes g c = λ f.
    guarded_err f c.args.key c.items.result.now c.args.expected.now c.args.new.now (seen_course f c.args.pass) (damaged c.args.key None) _ _
    c.in-Err.halt c.items.ensures c.in-Err.ensures

pub returns-in-Ok-clause-way : goal.returns-in-Ok-clause-way
returns-in-Ok-clause-way g c = λ f. (c.in-Ok.done, c.kept_or_lost.ensures f)
