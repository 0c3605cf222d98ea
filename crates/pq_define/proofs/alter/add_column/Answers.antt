use Rattle.std.proofs.Common.{arith, ℕ, List, Result, subst}
use Rattle.std.proofs.lemmas.Result.{err_from_is_err_and}
use Rattle.pq_base.specs.declared.refusal.Refusal.{Refusal}
use Rattle.pq_print.specs.declared.report.Line.{Line}
use Rattle.pq_schema.specs.Definitions.{new_column}
use Rattle.pq_catalog.specs.Extends.{ExtendsWith}
use Rattle.pq_define.proofs.Defining.{IsWritten, column_written, none_asked, some_asked}
use Rattle.pq_reports.proofs.Promises.{unread_done, broken_same}
use Rattle.pq_define.proofs.alter.add_column.Goals as goal

pub returns-in_err-planned-clause-step : goal.returns-in_err-planned-clause-step
returns-in_err-planned-clause-step g c =
    let p = err_from_is_err_and c.from_residual.result c.from_residual.ensures.1 in
    rw (p.1, p.2) (broken_same _ _ _ c.args.planned _ _ tt)

pub returns-in-Err-clause-step : goal.returns-in-Err-clause-step
returns-in-Err-clause-step g c =
    let e = subst (λ (r : Result ℕ Refusal). ExtendsWith c.args.planned c.args.def c.in_ok-planned.planned r) c.in-Err.is c.in_ok-planned.ensures in
    rw (c.unread_report.ensures, e.1, e.0) (unread_done c.args.number c.in-Err.why _ c.args.planned _)

pub returns-in-Ok-clause-step : goal.returns-in-Ok-clause-step
returns-in-Ok-clause-step g c =
    let e = subst (λ (r : Result ℕ Refusal). ExtendsWith c.args.planned c.args.def c.in_ok-planned.planned r) c.in-Ok.is c.in_ok-planned.ensures in
    let w = c.write_last.ensures in
    let all : IsWritten (g.S.Store.content c.args.store.now) (g.S.Store.content c.write_last.new.store) c.in_ok-planned.planned c.args.number c.new.result c.args.meter.now c.write_last.new.meter c.write_last.result =
    (w.done, w.put, w.stopped, w.damage, w.meter, w.within, w.shown, w.kept) in
    column_written _ _ c.args.planned c.in_ok-planned.planned c.args.number c.args.def c.requires c.in-Ok.field-0 _ _ c.write_last.result e
    (subst (λ (lines : List Line). IsWritten (g.S.Store.content c.args.store.now) (g.S.Store.content c.write_last.new.store) c.in_ok-planned.planned c.args.number lines c.args.meter.now c.write_last.new.meter c.write_last.result) c.new.ensures all)

pub returns-in_err-planned-clause-rounds : goal.returns-in_err-planned-clause-rounds
returns-in_err-planned-clause-rounds g c = none_asked 1 (new_column c.args.planned c.args.def) (g.S.Store.rounds c.args.store.now) (g.S.Store.rounds c.args.store.now) (omega arith)

pub returns-in-Err-clause-rounds : goal.returns-in-Err-clause-rounds
returns-in-Err-clause-rounds g c = none_asked 1 (new_column c.args.planned c.args.def) (g.S.Store.rounds c.args.store.now) (g.S.Store.rounds c.args.store.now) (omega arith)

pub returns-in-Ok-clause-rounds : goal.returns-in-Ok-clause-rounds
returns-in-Ok-clause-rounds g c =
    let e = subst (λ (r : Result ℕ Refusal). ExtendsWith c.args.planned c.args.def c.in_ok-planned.planned r) c.in-Ok.is c.in_ok-planned.ensures in
    some_asked 1 (new_column c.args.planned c.args.def) c.in_ok-planned.planned _ _ e.made c.write_last.ensures.rounds
