use Rattle.std.proofs.lemmas.Result.{err_from_is_err_and}
use Rattle.pq_client_shell.proofs.Gathering.{halts_lost, halts_cut, halts_stepping, made_gathered}
use Rattle.pq_client_shell.proofs.gathered.run_gathered.Goals as goal

pub returns-in_default-clause-err : goal.returns-in_default-clause-err
returns-in_default-clause-err g c = halts_lost c.args.k c.args.catalog.now c.args.parted.now.script.now _ _ _

pub returns-in_err-write_text-clause-err : goal.returns-in_err-write_text-clause-err
returns-in_err-write_text-clause-err g c =
    let p = err_from_is_err_and c.from_residual.result c.from_residual.ensures.1 in
    rw (p.1, p.2) (halts_cut c.args.k c.args.catalog.now c.args.parted.now.script.now _ _ _ c.in-Ok.deal.text c.in-Ok.ensures.text _ _ c.in_err-write_text.ensures.err)

pub returns-in_err-undone-clause-err : goal.returns-in_err-undone-clause-err
returns-in_err-undone-clause-err g c =
    let p = err_from_is_err_and c.from_residual-in_err-undone.result c.from_residual-in_err-undone.ensures.1 in
    rw (p.1, p.2) (halts_stepping c.args.k c.args.catalog.now c.args.parted.now.script.now _ _ _ c.in-Ok.deal.text c.in-Ok.ensures.text _ c.in_ok-write_text.ensures.ok c.in-Ok.deal.writes c.in-Ok.ensures.writes _ _ _ _ c.in_err-undone.ensures.err)

pub returns-clause-ok : goal.returns-clause-ok
returns-clause-ok g c =
    made_gathered c.args.k c.args.catalog.now c.args.parted.now.script.now _ _ _ c.in-Ok.deal.text c.in-Ok.ensures.text _ c.in_ok-write_text.ensures.ok c.in-Ok.deal.writes c.in-Ok.ensures.writes _ _ _
    c.in-Ok.deal.skipped c.in_ok-undone.undone c.either-behind.result _ c.in_ok-undone.ensures.ok c.in-Ok.ensures.skipped c.either-behind.ensures c.either.ensures
