use Rattle.std.proofs.Common.{arith}
use Rattle.pq_client_shell.proofs.Closing.{ends_plain}
use Rattle.pq_client_shell.proofs.run.run_piql_clients.Goals as goal

pub returns-in-Some-clause-complete : goal.returns-in-Some-clause-complete
returns-in-Some-clause-complete g c = λ k is m opens short no_read no_write no_store.
    ends_plain g.S.Store.answers c.in-Some.k c.run.result _ _ c.run.ensures.ends m opens (λ e. let long = c.run.ensures.too_long e in omega (arith, short, long))
    (λ e. no_read (c.run.ensures.read_fault e)) (λ e. no_write (c.run.ensures.write_fault e)) (λ e. no_store (c.run.ensures.store_fault e))
