use Rattle.std.proofs.Common.{◌≡◌, true, None, arith, subst}
use Rattle.std.specs.Prelude.{IfSome}
use Rattle.std.proofs.lemmas.Result.{err_from_is_err_and}
use Rattle.std.specs.FinMap.{get}
use Rattle.pq_schema.specs.Schema.{Schema}
use Rattle.pq_store.specs.Breaks.{IfDamaged, IsPresent, IsUndamaged}
use Rattle.pq_store.specs.declared.damage.Broke.TheVariants.{NoMem}
use Rattle.pq_reports.specs.Putting.{MayPut, PutsNew}
use Rattle.pq_catalog.specs.Stands.{last_key, last_value}
use Rattle.pq_define.proofs.Counting.{counter_broke, counter_done, counting_broke, crowded_done}
use Rattle.pq_define.proofs.counter.count_over.Goals as goal

pub returns-in_err-count-clause-step : goal.returns-in_err-count-clause-step
returns-in_err-count-clause-step g c =
    let p = err_from_is_err_and c.from_residual.result c.from_residual.ensures.1 in
    let e = c.in_err-count.ensures in
    let ops = e.few_ops in
    let entries = e.none in
    rw (p.1, p.2) (counting_broke c.args.number c.args.def c.args.planned c.requires.names c.requires.accepted _ _ _ _ c.in_err-count.field-0.0 e.same e.sound
    (record { ops = omega (arith, ops); entries = omega (arith, entries) }))

pub returns-then-count-gt0-clause-step : goal.returns-then-count-gt0-clause-step
returns-then-count-gt0-clause-step g c =
    let e = c.in_ok-count.ensures in
    let few = e.few in
    let one : c.in_ok-count.count ≡ 1 = omega (arith, few, c.if-count-gt0.true) in
    rw (c.crowded_report.ensures, c.not_empty.ensures)
    (crowded_done c.args.number c.args.def c.args.planned c.requires.names c.requires.accepted _ _ _ _ c.in_ok-count.count (rw c.requires.table e.counted) one e.same e.takes)

pub returns-in_err-planned-clause-step : goal.returns-in_err-planned-clause-step
returns-in_err-planned-clause-step g c =
    let p = err_from_is_err_and c.from_residual-in_err-planned.result c.from_residual-in_err-planned.ensures.1 in
    let e = c.in_ok-count.ensures in
    let ops = e.takes.ops_are in
    let entries = e.takes.entries_are in
    let few = e.few in
    rw (p.1, p.2) (counting_broke c.args.number c.args.def c.args.planned c.requires.names c.requires.accepted _ _ _ _ NoMem e.same tt
    (record { ops = omega (arith, ops); entries = omega (arith, entries, few) }))

pub returns-in_err-put_last-clause-step : goal.returns-in_err-put_last-clause-step
returns-in_err-put_last-clause-step g c =
    let p = err_from_is_err_and c.from_residual-in_err-put_last.result c.from_residual-in_err-put_last.ensures.1 in
    let e = c.in_ok-count.ensures in
    let w = c.in_err-put_last.ensures in
    let made = c.in_ok-planned.ensures in
    let mid = g.S.Store.content c.count_one.new.store in
    let broke = c.in_err-put_last.field-0.0 in
    let zero : c.in_ok-count.count ≡ 0 = omega (arith, c.if-count-gt0.false) in
    rw (p.1, p.2) (counter_broke c.args.number c.args.def c.args.planned c.requires.names c.requires.accepted _ mid _ _ _ _ c.in_ok-count.count broke (rw c.requires.table e.counted) zero e.same e.takes
    (subst (λ (s : Schema). MayPut (last_key s) (last_value s) mid (g.S.Store.content c.put_last.new.store)) made w.stopped)
    (subst (λ (s : Schema). IfSome mid (λ pairs. get pairs (last_key s) ≡ None → IsUndamaged broke)) made w.damage) w.within
    (subst (λ (s : Schema). IfSome mid (λ pairs. IfDamaged (IsPresent (last_key s) pairs) broke)) made w.shown) w.kept)

pub returns-clause-step : goal.returns-clause-step
returns-clause-step g c =
    let e = c.in_ok-count.ensures in
    let w = c.in_ok-put_last.ensures in
    let made = c.in_ok-planned.ensures in
    let mid = g.S.Store.content c.count_one.new.store in
    let zero : c.in_ok-count.count ≡ 0 = omega (arith, c.if-count-gt0.false) in
    rw (c.counter_report.ensures, made) (counter_done c.args.number c.args.def c.args.planned c.requires.names c.requires.accepted _ mid _ _ _ _ c.in_ok-count.count (rw c.requires.table e.counted) zero e.same e.takes
    (subst (λ (s : Schema). PutsNew true (last_key s) (last_value s) mid (g.S.Store.content c.put_last.new.store)) made w.put) w.meter)
