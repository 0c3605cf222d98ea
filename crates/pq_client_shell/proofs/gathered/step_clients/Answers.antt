use Rattle.std.proofs.lemmas.Result.{err_from_is_err_and}
use Rattle.pq_client_shell.specs.Runs.TellsPart.{Cut}
use Rattle.pq_client_shell.proofs.Gathering.{undealt}
use Rattle.pq_client_shell.proofs.Outcomes.{causes_of}
use Rattle.pq_client_shell.proofs.gathered.step_clients.Goals as goal

pub returns-in_default-clause-err : goal.returns-in_default-clause-err
returns-in_default-clause-err g c = undealt c.args.k c.args.catalog.now c.args.writes _ _ _ _ _ c.in_default.ensures.content c.in_default.ensures.counts

pub returns-in_err-undone-clause-err : goal.returns-in_err-undone-clause-err
returns-in_err-undone-clause-err g c =
    let p = err_from_is_err_and c.from_residual.result c.from_residual.ensures.1 in
    rw (p.1, p.2) (Cut c.in-Ok.ran.told c.in-Ok.ensures.ran c.in_err-undone.ensures.err)

pub returns-clause-ok : goal.returns-clause-ok
returns-clause-ok g c = record {
  told = c.in-Ok.ran.told;
  ran = c.in-Ok.ensures.ran;
  text = c.in_ok-undone.ensures.text;
  unbroken = c.in_ok-undone.ensures.unbroken;
  undone_is = c.in_ok-undone.ensures.undone;
}

pub returns-in_err-undone-clause-causes : goal.returns-in_err-undone-clause-causes
returns-in_err-undone-clause-causes g c =
    let p = err_from_is_err_and c.from_residual.result c.from_residual.ensures.1 in
    rw (p.1, p.2) (causes_of c.in-Ok.ran.told _ _ _ _ _ c.in-Ok.ensures.later c.in_err-undone.ensures.later c.in-Ok.ensures.causes c.in_err-undone.ensures.write_failed c.in_err-undone.ensures.store_failed)
