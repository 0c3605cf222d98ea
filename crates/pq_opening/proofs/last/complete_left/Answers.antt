use Rattle.std.proofs.lemmas.Result.{IfOk-weaker, IfErr-weaker, on_err_weaker}
use Rattle.pq_opening.proofs.Leaving.{index_stops}
use Rattle.pq_opening.proofs.Lefts.{left_made, left_stopped, left_sound, left_within}
use Rattle.pq_opening.proofs.last.complete_left.Goals as goal

pub returns-clause-made : goal.returns-clause-made
returns-clause-made g c = IfOk-weaker c.complete_index.result _ _ (λ count all m left f. left_made c.args.target.now c.args.query.now (g.S.Store.content c.args.store.now) (g.S.Store.content c.complete_index.new.store) m left f count all) c.complete_index.ensures.made

pub returns-clause-stopped : goal.returns-clause-stopped
returns-clause-stopped g c = on_err_weaker c.complete_index.result (λ all m left f. left_stopped c.args.target.now c.args.query.now (g.S.Store.content c.args.store.now) (g.S.Store.content c.complete_index.new.store) m left f all) c.complete_index.ensures.stopped

pub returns-clause-sound : goal.returns-clause-sound
returns-clause-sound g c = IfErr-weaker c.complete_index.result _ _ (λ broke all m left f. left_sound c.args.target.now c.args.query.now (g.S.Store.content c.args.store.now) (g.S.Store.content c.complete_index.new.store) m left f broke all) c.complete_index.ensures.sound

pub returns-clause-within_own : goal.returns-clause-within_own
returns-clause-within_own g c = on_err_weaker c.complete_index.result (λ all m left f. left_within c.args.target.now c.args.query.now (g.S.Store.content c.args.store.now) (g.S.Store.content c.complete_index.new.store) m left f c.args.meter.now c.complete_index.new.meter all) c.complete_index.ensures.bounded

pub returns-clause-left : goal.returns-clause-left
returns-clause-left g c =
    index_stops c.args.target.now c.args.query.now (g.S.Store.content c.args.store.now) (g.S.Store.content c.complete_index.new.store) c.complete_index.result c.complete_index.ensures.ready c.complete_index.ensures.ended
