use Rattle.std.proofs.lemmas.Result.{IfOk-weaker, IfErr-weaker, on_err_weaker}
use Rattle.pq_builds.proofs.Finals.{makes_of, leaves_of, sound_of}
use Rattle.pq_builds.proofs.Own.{within_origin}
use Rattle.pq_builds.proofs.build.build_index.Goals as goal

pub returns-clause-made : goal.returns-clause-made
returns-clause-made g c = IfOk-weaker c.run_build.result _ _ (λ b ran origin h. makes_of c.args.target.now c.args.query.now (g.S.Store.content c.args.store.now) (g.S.Store.content c.run_build.new.store) origin h b ran) c.run_build.ensures.ran

pub returns-clause-stopped : goal.returns-clause-stopped
returns-clause-stopped g c = on_err_weaker c.run_build.result (λ ended origin h. leaves_of c.args.target.now c.args.query.now (g.S.Store.content c.args.store.now) (g.S.Store.content c.run_build.new.store) origin h ended) c.run_build.ensures.ended

pub returns-clause-sound : goal.returns-clause-sound
returns-clause-sound g c = IfErr-weaker c.run_build.result _ _ (λ broke shown origin h. sound_of c.args.target.now c.args.query.now (g.S.Store.content c.args.store.now) (g.S.Store.content c.run_build.new.store) origin h broke shown) c.run_build.ensures.shown

pub returns-clause-bounded : goal.returns-clause-bounded
returns-clause-bounded g c = on_err_weaker c.run_build.result (λ within origin h. within_origin c.args.target.now c.args.query.now (g.S.Store.content c.args.store.now) origin c.args.meter.now c.run_build.new.meter h within) c.run_build.ensures.within_own
