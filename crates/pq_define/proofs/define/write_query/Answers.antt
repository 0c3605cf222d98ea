use Rattle.std.proofs.Common.{subst}
use Rattle.std.proofs.lemmas.Result.{err_from_is_err_and}
use Rattle.pq_schema.specs.Schema.{Schema}
use Rattle.pq_define.proofs.Defining.{IsWritten, query_written}
use Rattle.pq_reports.proofs.Promises.{broken_same}
use Rattle.pq_define.proofs.define.write_query.Goals as goal

pub returns-in_err-planned-clause-step : goal.returns-in_err-planned-clause-step
returns-in_err-planned-clause-step g c best lined =
    let p = err_from_is_err_and c.from_residual.result c.from_residual.ensures.1 in
    rw (p.1, p.2) (broken_same _ _ _ c.args.planned _ _ tt)

pub returns-clause-step : goal.returns-clause-step
returns-clause-step g c best lined =
    let w = c.write_last.ensures in
    query_written c.args.planned c.args.number c.args.query best _ _ _ _ c.write_last.result c.args.lines c.requires.defined lined
    (subst (λ (s : Schema). IsWritten (g.S.Store.content c.args.store.now) (g.S.Store.content c.write_last.new.store) s c.args.number c.args.lines c.args.meter.now c.write_last.new.meter c.write_last.result) c.in_ok-planned.ensures
    (w.done, w.put, w.stopped, w.damage, w.meter, w.within, w.shown, w.kept))
