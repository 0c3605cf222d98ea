use Rattle.std.proofs.lemmas.Result.{err_from_is_err_and}
use Rattle.pq_planning.proofs.Plans.{written_chosen, written_params, written_taken, written_unchosen}
use Rattle.pq_planning.proofs.planning.plan_written.Goals as goal

pub compile-requires : goal.compile-requires
compile-requires c = written_taken c.args.catalog.now c.args.written c.in_ok-query.query c.in_ok-query.ensures c.known.ensures c.requires

pub returns-in_err-compiled-clause-refused : goal.returns-in_err-compiled-clause-refused
returns-in_err-compiled-clause-refused c =
    let p = err_from_is_err_and c.from_residual-in_err-compiled.result c.from_residual-in_err-compiled.ensures.1 in
    rw (p.1, p.2) (written_unchosen c.args.catalog.now c.args.written c.in_ok-query.query c.in_ok-query.ensures c.in_err-compiled.field-0.0 c.in_err-compiled.ensures.refused)

pub returns-clause-planned : goal.returns-clause-planned
returns-clause-planned c = written_chosen c.args.catalog.now c.args.written c.in_ok-query.query c.in_ok-query.ensures c.in_ok-compiled.compiled c.requires c.in_ok-compiled.ensures.made

pub returns-clause-params : goal.returns-clause-params
returns-clause-params c = written_params c.args.catalog.now c.args.written c.in_ok-query.query c.in_ok-query.ensures c.requires
