use Rattle.std.proofs.Common.{sym, subst, ◌∙◌}
use Rattle.std.specs.Prelude.{IfSome}
use Rattle.std.proofs.lemmas.Result.{err_from_is_err_and}
use Rattle.pq_intent.proofs.Steps.{on_err_holds}
use Rattle.pq_schema.specs.Schema.{Schema}
use Rattle.pq_catalog.specs.declared.format.Mark.{Mark}
use Rattle.pq_catalog.specs.declared.format.Mark.TheVariants.{Building}
use Rattle.pq_opening.specs.Opening.{GoesOnLeft, IsAsMarked, LeavesMarked, ShowsMarked}
use Rattle.pq_opening.proofs.Leaving.{itself}
use Rattle.pq_opening.proofs.begun.finish_opening.Goals as goal

pub returns-in_err-rows-in-Building-clause-stopped : goal.returns-in_err-rows-in-Building-clause-stopped
returns-in_err-rows-in-Building-clause-stopped g c =
    on_err_holds c.from_residual.result (λ m is marked. c.in_err-rows-in-Building.ensures.stopped m (is ∙ sym c.catalog.ensures) (subst (λ (k : Mark). IsAsMarked k (g.S.Store.content c.args.store.now) m) c.in-Building.is marked))

pub returns-in_err-rows-in-Building-clause-shown : goal.returns-in_err-rows-in-Building-clause-shown
returns-in_err-rows-in-Building-clause-shown g c =
    let p = err_from_is_err_and c.from_residual.result c.from_residual.ensures.1 in
    rw (p.1, p.2) (subst (λ (k : Mark). IfSome (g.S.Store.content c.args.store.now) (λ c'. ShowsMarked c.args.found.planned k c' c.in_err-rows-in-Building.field-0.0)) (sym c.in-Building.is)
    (subst (λ (x : Schema). IfSome (g.S.Store.content c.args.store.now) (λ c'. ShowsMarked x Building c' c.in_err-rows-in-Building.field-0.0)) c.catalog.ensures c.in_err-rows-in-Building.ensures.shown))

pub returns-in-Ready-clause-left : goal.returns-in-Ready-clause-left
returns-in-Ready-clause-left g c =
    subst (λ (k : Mark). IfSome (g.S.Store.content c.args.store.now) (λ c'. LeavesMarked c.args.found.planned k c' (g.S.Store.content c.args.store.now))) (sym c.in-Ready.is) (itself (g.S.Store.content c.args.store.now))

pub returns-in_err-rows-in-Building-clause-left : goal.returns-in_err-rows-in-Building-clause-left
returns-in_err-rows-in-Building-clause-left g c =
    subst (λ (k : Mark). IfSome (g.S.Store.content c.args.store.now) (λ c'. LeavesMarked c.args.found.planned k c' (g.S.Store.content c.complete.new.store))) (sym c.in-Building.is)
    (subst (λ (x : Schema). IfSome (g.S.Store.content c.args.store.now) (λ c'. GoesOnLeft x c' (g.S.Store.content c.complete.new.store))) c.catalog.ensures c.complete.ensures.left)

pub returns-in_ok-rows-in-Building-clause-left : goal.returns-in_ok-rows-in-Building-clause-left
returns-in_ok-rows-in-Building-clause-left g c =
    subst (λ (k : Mark). IfSome (g.S.Store.content c.args.store.now) (λ c'. LeavesMarked c.args.found.planned k c' (g.S.Store.content c.complete.new.store))) (sym c.in-Building.is)
    (subst (λ (x : Schema). IfSome (g.S.Store.content c.args.store.now) (λ c'. GoesOnLeft x c' (g.S.Store.content c.complete.new.store))) c.catalog.ensures c.complete.ensures.left)
