use Rattle.std.proofs.lemmas.Result.{IfOk-weaker, IfErr-weaker, on_err_weaker}
use Rattle.pq_builds.proofs.Finals.{completed_of, at_work_of, left_sound_of}
use Rattle.pq_builds.proofs.Reading.{within_filling}
use Rattle.pq_builds.proofs.build.complete_index.Goals as goal

pub returns-clause-made : goal.returns-clause-made
returns-clause-made g c = IfOk-weaker c.run_completion.result _ _ (λ count ready origin h. completed_of c.args.target.now c.args.query.now (g.S.Store.content c.args.store.now) (g.S.Store.content c.run_completion.new.store) origin h count ready) c.run_completion.ensures.ready

pub returns-clause-stopped : goal.returns-clause-stopped
returns-clause-stopped g c = on_err_weaker c.run_completion.result (λ ended origin h. at_work_of c.args.target.now c.args.query.now (g.S.Store.content c.args.store.now) (g.S.Store.content c.run_completion.new.store) origin h ended) c.run_completion.ensures.ended

pub returns-clause-sound : goal.returns-clause-sound
returns-clause-sound g c = IfErr-weaker c.run_completion.result _ _ (λ broke shown origin h. left_sound_of c.args.target.now c.args.query.now (g.S.Store.content c.args.store.now) (g.S.Store.content c.run_completion.new.store) origin h broke shown) c.run_completion.ensures.shown

pub returns-clause-bounded : goal.returns-clause-bounded
returns-clause-bounded g c = on_err_weaker c.run_completion.result (λ within origin h. within_filling c.args.target.now c.args.query.now (g.S.Store.content c.args.store.now) origin c.args.meter.now c.run_completion.new.meter h within) c.run_completion.ensures.within_own
