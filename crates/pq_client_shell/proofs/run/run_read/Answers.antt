use Rattle.std.proofs.Common.{refl}
use Rattle.std.proofs.lemmas.Result.{err_from_is_err_and}
use Rattle.pq_client_shell.proofs.Closing.{made_read, halts_behind, halts_front}
use Rattle.pq_client_shell.proofs.run.run_read.Goals as goal

pub returns-in_err-front-clause-err : goal.returns-in_err-front-clause-err
returns-in_err-front-clause-err g c =
    let p = err_from_is_err_and c.from_residual.result c.from_residual.ensures.1 in
    rw (p.1, p.2) (halts_front c.args.k c.args.session c.args.parted.now.script.now _ _ _ c.items.result.now c.items.ensures c.args.parted.now.front c.requires.parted.front c.in_err-front.ensures.err)

pub returns-in_err-behind-clause-err : goal.returns-in_err-behind-clause-err
returns-in_err-behind-clause-err g c =
    let p = err_from_is_err_and c.from_residual-in_err-behind.result c.from_residual-in_err-behind.ensures.1 in
    rw (p.1, p.2) (halts_behind c.args.k c.args.session _ c.args.parted.now.script.now _ _ _ c.items.result.now c.items.ensures c.args.parted.now.front c.requires.parted.front c.in_ok-front.front.refused c.in_ok-front.ensures.ok c.catalog-catalog.result.now c.catalog-catalog.ensures _ c.in_err-behind.ensures.err)

pub returns-clause-ok : goal.returns-clause-ok
returns-clause-ok g c =
    made_read c.args.k c.args.session _ c.args.parted.now.script.now _ _ _ c.items.result.now c.items.ensures c.args.parted.now.front c.requires.parted.front c.in_ok-front.front.refused c.in_ok-front.ensures.ok c.catalog-catalog.result.now c.catalog-catalog.ensures _ c.in_ok-behind.behind c.in_ok-behind.ensures.ok refl c.either-refused.ensures
