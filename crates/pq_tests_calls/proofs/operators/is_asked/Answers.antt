use Rattle.pq_schema.proofs.Valid.{valid_made}
use Rattle.pq_tests_calls.proofs.operators.is_asked.Goals as goal

pub returns : goal.returns
returns c = λ fits. record {
  made = valid_made c.known.ensures;
  resolved = c.requires;
  params_fit = rw (← c.items-2.ensures, ← c.items.ensures) (c.all_fit.ensures.exact.0 fits);
}
