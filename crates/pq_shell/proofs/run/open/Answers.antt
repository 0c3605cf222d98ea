use Rattle.std.proofs.Common.{refl}
use Rattle.std.proofs.lemmas.Result.{err_from_is_err_and}
use Rattle.pq_opening.specs.Opening.{opening_of}
use Rattle.pq_shell.proofs.Opening.{begun_store, broke_opening, cut_opening}
use Rattle.pq_shell.proofs.Flaws.{broke_at_flaw, told_at_flaw}
use Rattle.pq_shell.proofs.run.open.Goals as goal

pub returns-in-Err-clause-err : goal.returns-in-Err-clause-err
returns-in-Err-clause-err g c = rw c.of.ensures (broke_opening c.in-Err.broke _ _ _ _ _ c.in-Err.ensures.kept c.in-Err.ensures.damage c.in-Err.ensures.within c.in-Err.ensures.within_own c.in-Err.ensures.flaw c.in-Err.ensures.left_flawed c.in-Err.ensures.stops c.in-Err.ensures.rests)

pub returns-in_err-write_opening-clause-err : goal.returns-in_err-write_opening-clause-err
returns-in_err-write_opening-clause-err g c =
    let p = err_from_is_err_and c.from_residual.result c.from_residual.ensures.1 in
    rw (p.1, p.2) (cut_opening _ _ _ _ (opening_of c.in-Ok.started) c.in-Ok.ensures.bounded c.in-Ok.ensures.ops c.in-Ok.ensures.entries c.in-Ok.ensures.opened c.in-Ok.ensures.left c.in-Ok.ensures.rests _ _ _ c.in-Ok.ensures.kept c.in_err-write_opening.ensures.err)

pub returns-clause-ok : goal.returns-clause-ok
returns-clause-ok g c = λ form some. begun_store form some _ _ _ _ _ _ _ (opening_of c.in-Ok.started) refl c.in-Ok.ensures.valid c.in-Ok.ensures.bounded c.in-Ok.ensures.opened c.in-Ok.ensures.stands c.in_ok-write_opening.ensures.ok c.in-Ok.ensures.ops c.in-Ok.ensures.entries c.in-Ok.ensures.defs c.in-Ok.ensures.left

pub returns-in-Err-clause-flawed : goal.returns-in-Err-clause-flawed
returns-in-Err-clause-flawed g c = rw c.of.ensures (broke_at_flaw _ c.in-Err.broke _ c.in-Err.ensures.flaw)

pub returns-in_err-write_opening-clause-flawed : goal.returns-in_err-write_opening-clause-flawed
returns-in_err-write_opening-clause-flawed g c = told_at_flaw _ _ _ c.in-Ok.ensures.told

pub returns-clause-flawed : goal.returns-clause-flawed
returns-clause-flawed g c = told_at_flaw _ _ _ c.in-Ok.ensures.told
