use Rattle.std.proofs.Common.{refl}
use Rattle.pq_clients.proofs.Leading.{any_ok, any_err}
use Rattle.pq_clients.proofs.entry_steps.write_entry.Goals as goal

pub returns-in-Ok-clause-goes : goal.returns-in-Ok-clause-goes
returns-in-Ok-clause-goes g c = λ f. any_ok f c.args.entry.now c.items.result.now c.args.new.now c.args.pass _ _ _ c.items.ensures c.in-Ok.ensures

pub returns-in-Err-clause-goes : goal.returns-in-Err-clause-goes
returns-in-Err-clause-goes g c = λ f. any_err f c.args.entry.now c.items.result.now c.args.new.now c.args.pass _ _ c.in-Err.halt c.items.ensures c.in-Err.ensures

pub returns-in-Ok-clause-way : goal.returns-in-Ok-clause-way
returns-in-Ok-clause-way g c = λ f. refl
