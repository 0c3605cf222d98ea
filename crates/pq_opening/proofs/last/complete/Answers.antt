use Rattle.std.proofs.Common.{sym, subst}
use Rattle.std.proofs.lemmas.Result.{IfErr-weaker, on_err_weaker}
use Rattle.pq_schema.specs.Schema.{Schema}
use Rattle.pq_intent.proofs.Steps.{on_err_holds}
use Rattle.pq_opening.specs.Opening.{IsLeft}
use Rattle.pq_opening.proofs.Leaving.{gone_on, nothing_done}
use Rattle.pq_opening.proofs.Lefts.{filling_in_opens}
use Rattle.pq_opening.proofs.Starting.{marked_shown}
use Rattle.pq_opening.proofs.last.complete.Goals as goal

pub returns-in_err-target-clause-stopped : goal.returns-in_err-target-clause-stopped
returns-in_err-target-clause-stopped g c = on_err_holds c.from_residual.result (λ m is f. filling_in_opens (g.S.Store.content c.args.store.now) m f)

pub returns-clause-stopped : goal.returns-clause-stopped
returns-clause-stopped g c =
    on_err_weaker c.complete_left.result (λ all m is f. all m (subst (λ (x : Schema). IsLeft x c.in_ok-target.target c.in_ok-target.query) (sym is) c.in_ok-target.ensures) f) c.complete_left.ensures.stopped

pub returns-clause-shown : goal.returns-clause-shown
returns-clause-shown g c = IfErr-weaker c.complete_left.result _ _ (λ broke shows. marked_shown c.args.catalog.now c.in_ok-target.target c.in_ok-target.query (g.S.Store.content c.args.store.now) broke c.in_ok-target.ensures shows) c.complete_left.ensures.shown

pub returns-in_err-target-clause-left : goal.returns-in_err-target-clause-left
returns-in_err-target-clause-left g c = nothing_done c.args.catalog.now (g.S.Store.content c.args.store.now)

pub returns-clause-left : goal.returns-clause-left
returns-clause-left g c =
    gone_on c.args.catalog.now c.in_ok-target.target c.in_ok-target.query (g.S.Store.content c.args.store.now) (g.S.Store.content c.complete_left.new.store) c.in_ok-target.ensures c.complete_left.ensures.left
