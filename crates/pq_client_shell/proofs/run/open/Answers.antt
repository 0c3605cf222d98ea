use Rattle.pq_opening.specs.Opening.{opening_of}
use Rattle.pq_shell.proofs.Opening.{broke_opening}
use Rattle.pq_client_shell.proofs.run.open.Goals as goal

pub returns-in-Ok-clause-ok : goal.returns-in-Ok-clause-ok
returns-in-Ok-clause-ok g c = record {
  line = opening_of c.in-Ok.started;
  opens = λ m opens. (c.in-Ok.ensures.opened m opens, c.in-Ok.ensures.stands m opens);
  valid = c.in-Ok.ensures.valid;
  tells = c.in-Ok.ensures.told;
  left = c.in-Ok.ensures.left;
  bounded = c.in-Ok.ensures.bounded;
  ops = c.in-Ok.ensures.ops;
  entries = c.in-Ok.ensures.entries;
}

pub returns-in-Err-clause-err : goal.returns-in-Err-clause-err
returns-in-Err-clause-err g c = rw c.of.ensures (λ held. broke_opening c.in-Err.broke _ _ held _ _ c.in-Err.ensures.kept c.in-Err.ensures.damage c.in-Err.ensures.within c.in-Err.ensures.within_own c.in-Err.ensures.flaw c.in-Err.ensures.left_flawed c.in-Err.ensures.stops c.in-Err.ensures.rests)
