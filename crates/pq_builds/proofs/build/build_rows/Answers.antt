use Rattle.std.proofs.lemmas.Result.{on_ok_weaker, on_err_weaker, IfErr-weaker}
use Rattle.pq_builds.proofs.Staging.{built, stops_built, shows_built}
use Rattle.pq_builds.proofs.Own.{told_marked}
use Rattle.pq_builds.proofs.build.build_rows.Goals as goal

pub returns-clause-built : goal.returns-clause-built
returns-clause-built g c = on_ok_weaker c.finish.result (built c.args.target.now c.args.query.now c.requires.key c.args.count (g.S.Store.content c.args.store.now) (g.S.Store.content c.mark.new.store) (g.S.Store.content c.finish.new.store) c.in_ok-mark.ensures.marked) c.finish.ensures.ready

pub returns-clause-stopped : goal.returns-clause-stopped
returns-clause-stopped g c = on_err_weaker c.finish.result (stops_built c.args.target.now c.args.query.now c.requires.key c.args.count c.requires.few (g.S.Store.content c.args.store.now) (g.S.Store.content c.mark.new.store) (g.S.Store.content c.finish.new.store) c.in_ok-mark.ensures.marked) c.finish.ensures.stopped

pub returns-clause-shown : goal.returns-clause-shown
returns-clause-shown g c = IfErr-weaker c.finish.result _ _ (λ broke shown. shows_built c.args.target.now c.args.query.now c.requires.key c.args.count (g.S.Store.content c.args.store.now) (g.S.Store.content c.mark.new.store) broke c.in_ok-mark.ensures.marked shown) c.finish.ensures.shown

pub returns-clause-told : goal.returns-clause-told
returns-clause-told g c = on_err_weaker c.finish.result (told_marked c.args.target.now c.args.query.now c.requires.key c.args.count (g.S.Store.content c.args.store.now) (g.S.Store.content c.mark.new.store) c.args.meter.now.entries c.mark.new.meter.entries c.finish.new.meter.entries c.in_ok-mark.ensures.marked c.mark.ensures.entries) c.finish.ensures.told
