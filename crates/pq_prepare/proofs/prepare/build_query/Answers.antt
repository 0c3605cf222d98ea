use Rattle.std.proofs.Common.{ℕ, subst}
use Rattle.std.specs.Prelude.{Result}
use Rattle.std.proofs.lemmas.Result.{err_from_is_err_and}
use Rattle.pq_base.specs.declared.refusal.Refusal.{Refusal}
use Rattle.pq_prepare.specs.Filling.{FillsIndex}
use Rattle.pq_prepare.proofs.Prepared.{build_done, too_many_done, build_lost}
use Rattle.pq_prepare.proofs.prepare.build_query.Goals as goal

pub returns-in_err-why-clause-step : goal.returns-in_err-why-clause-step
returns-in_err-why-clause-step g c best lined =
    let p = err_from_is_err_and c.from_residual.result c.from_residual.ensures.1 in
    rw (p.1, p.2) (c.in_err-why.ensures.broken c.args.number best)

pub build_report-requires : goal.build_report-requires
build_report-requires g c =
    let f = subst (λ (x : Result ℕ Refusal). FillsIndex c.args.planned c.args.query c.args.new (g.S.Store.content c.args.store.now) (g.S.Store.content c.fill_index.new.store) c.args.meter.now c.fill_index.new.meter x) c.in-Ok.is c.in_ok-why.ensures.filled in
    f.few

pub returns-in_err-planned-in-Ok-clause-step : goal.returns-in_err-planned-in-Ok-clause-step
returns-in_err-planned-in-Ok-clause-step g c best lined =
    let p = err_from_is_err_and c.from_residual-in_err-planned-in-Ok.result c.from_residual-in_err-planned-in-Ok.ensures.1 in
    let f = subst (λ (x : Result ℕ Refusal). FillsIndex c.args.planned c.args.query c.args.new (g.S.Store.content c.args.store.now) (g.S.Store.content c.fill_index.new.store) c.args.meter.now c.fill_index.new.meter x) c.in-Ok.is c.in_ok-why.ensures.filled in
    rw (p.1, p.2) (build_lost c.args.number c.args.query c.args.new best c.args.planned c.requires.defined _ _ _ _ c.in-Ok.count f.few f.made f.takes f.ran)

pub returns-in-Err-clause-step : goal.returns-in-Err-clause-step
returns-in-Err-clause-step g c best lined =
    let f = subst (λ (x : Result ℕ Refusal). FillsIndex c.args.planned c.args.query c.args.new (g.S.Store.content c.args.store.now) (g.S.Store.content c.fill_index.new.store) c.args.meter.now c.fill_index.new.meter x) c.in-Err.is c.in_ok-why.ensures.filled in
    rw c.too_many_report.ensures (too_many_done c.args.number c.args.query c.args.new best c.args.planned c.requires.defined _ _ _ _ c.in-Err.why f.refused.0 f.made f.refused.1 f.takes)

pub returns-in_ok-planned-in-Ok-clause-step : goal.returns-in_ok-planned-in-Ok-clause-step
returns-in_ok-planned-in-Ok-clause-step g c best lined =
    let f = subst (λ (x : Result ℕ Refusal). FillsIndex c.args.planned c.args.query c.args.new (g.S.Store.content c.args.store.now) (g.S.Store.content c.fill_index.new.store) c.args.meter.now c.fill_index.new.meter x) c.in-Ok.is c.in_ok-why.ensures.filled in
    rw (c.build_report.ensures, c.in_ok-planned-in-Ok.ensures) (build_done c.args.number c.args.query c.args.new best c.args.planned c.requires.defined _ _ _ _ c.in-Ok.count c.args.lines f.few lined f.made f.takes f.ran)
