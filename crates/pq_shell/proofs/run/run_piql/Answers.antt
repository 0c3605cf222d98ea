use Rattle.std.proofs.Common.{◌≡◌, sym, ◌∙◌, arith}
use Rattle.std.proofs.lemmas.Option.{same_Some}
use Rattle.pq_shell.proofs.Ending.{Ends-plain-as}
use Rattle.pq_shell.proofs.run.run_piql.Goals as goal

pub returns-in-Some-clause-complete : goal.returns-in-Some-clause-complete
returns-in-Some-clause-complete g c = λ form is opens short no_read no_write no_store.
    let same : c.in-Some.form ≡ form = same_Some _ _ (sym c.in-Some.is ∙ c.form_of.ensures.all form is) in
    Ends-plain-as g.S.Store.answers c.in-Some.form form c.run.result _ _ same c.run.ensures.ends opens (λ reads e. let few = short reads in let long = c.run.ensures.too_long.0 e in omega (arith, few, long))
    (λ reads e. no_read reads (c.run.ensures.read_fault e)) (λ e. no_write (c.run.ensures.write_fault e)) (λ opened e. no_store opened (c.run.ensures.store_fault e))
