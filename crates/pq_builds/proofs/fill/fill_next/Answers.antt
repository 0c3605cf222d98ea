use Rattle.std.proofs.Common.{◌≡◌, ◌∙◌, refl, sym, ap, subst, map, length, List, arith, rules}
use Rattle.std.proofs.lemmas.List.{length-map}
use Rattle.std.proofs.lemmas.Result.{err_from_is_err_and}
use Rattle.pq_store.specs.Content.{entry}
use Rattle.pq_store.specs.declared.store.Pair.{Pair as Stored}
use Rattle.pq_intent.proofs.Steps.{on_err_holds}
use Rattle.pq_builds.specs.Filling.{target_shape, past_key, IsPast}
use Rattle.pq_builds.proofs.Answered.{among_answered}
use Rattle.pq_builds.proofs.Following.{answer_at, part_at, follows_from, stops_from, no_row_from, next_space}
use Rattle.pq_builds.proofs.Reading.{range_told, some_same}
use Rattle.pq_builds.proofs.fill.fill_next.Goals as goal

pub returns-in_err-write_entries-clause-stopped : goal.returns-in_err-write_entries-clause-stopped
returns-in_err-write_entries-clause-stopped g c =
    let high = past_key c.args.target.now.table in
    let answer = answer_at (g.S.Store.content c.args.store.now) (map entry c.in-Ok.found) (map entry c.items-5.result.now) c.items.result.now c.items-2.result.now c.args.low high c.items.ensures (c.items-2.ensures ∙ c.in_ok-high.ensures) (ap (map entry) c.items-5.ensures) c.in-Ok.ensures.answer in
    on_err_holds c.from_residual-in_err-write_entries.result (stops_from c.args.target.now c.args.low (g.S.Store.content c.args.store.now) (g.S.Store.content c.range.new.self) _ (map entry c.items-5.result.now) answer c.range.ensures.same c.in_err-write_entries.ensures.stopped)

pub returns-in_err-write_entries-clause-damage : goal.returns-in_err-write_entries-clause-damage
returns-in_err-write_entries-clause-damage g c =
    let p = err_from_is_err_and c.from_residual-in_err-write_entries.result c.from_residual-in_err-write_entries.ensures.1 in
    let high = past_key c.args.target.now.table in
    let answer = answer_at (g.S.Store.content c.args.store.now) (map entry c.in-Ok.found) (map entry c.items-5.result.now) c.items.result.now c.items-2.result.now c.args.low high c.items.ensures (c.items-2.ensures ∙ c.in_ok-high.ensures) (ap (map entry) c.items-5.ensures) c.in-Ok.ensures.answer in
    rw (p.1, p.2) (no_row_from (target_shape c.args.target.now) c.args.number c.args.target.now.table c.args.low (g.S.Store.content c.args.store.now) (map entry c.items-5.result.now) _ answer c.in_err-write_entries.ensures.damage)

pub returns-clause-follows : goal.returns-clause-follows
returns-clause-follows g c =
    let high = past_key c.args.target.now.table in
    let answer = answer_at (g.S.Store.content c.args.store.now) (map entry c.in-Ok.found) (map entry c.items-5.result.now) c.items.result.now c.items-2.result.now c.args.low high c.items.ensures (c.items-2.ensures ∙ c.in_ok-high.ensures) (ap (map entry) c.items-5.ensures) c.in-Ok.ensures.answer in
    let long : length (map entry c.items-5.result.now) ≡ c.args.number = length-map c.items-5.result.now entry ∙ ap (λ (l : List Stored). length l) (c.items-5.ensures ∙ sym c.items-3.ensures) ∙ c.if-items-number.false in
    let past = subst (λ (l : List Stored). IsPast c.args.low (map entry l) c.in_ok-next.next) (c.items-4.ensures ∙ sym c.items-5.ensures) c.in_ok-next.ensures in
    follows_from c.args.target.now c.args.low c.args.number (g.S.Store.content c.args.store.now) (g.S.Store.content c.range.new.self) _ (map entry c.items-5.result.now) c.in_ok-next.next answer c.range.ensures.same long past c.in_ok-write_entries.ensures.enters

pub returns-clause-next : goal.returns-clause-next
returns-clause-next g c =
    let high = past_key c.args.target.now.table in
    let within = part_at (map entry c.in-Ok.found) (map entry c.items-4.result.now) c.items.result.now c.items-2.result.now c.args.low high c.items.ensures (c.items-2.ensures ∙ c.in_ok-high.ensures) (ap (map entry) c.items-4.ensures) c.in-Ok.ensures.part.within in
    next_space c.args.low c.args.target.now.table 256 (map entry c.items-4.result.now) c.in_ok-next.next c.requires.low within c.in_ok-next.ensures

pub returns-in_err-miscounted-clause-told : goal.returns-in_err-miscounted-clause-told
returns-in_err-miscounted-clause-told g c = range_told c.args.target.now.table c.args.low c.items.result.now c.items-2.result.now (g.S.Store.content c.args.store.now) c.in-Ok.found c.args.meter.now c.range.new.meter _ c.items.ensures (c.items-2.ensures ∙ c.in_ok-high.ensures) c.in-Ok.ensures.answer c.in-Ok.ensures.meter (omega arith)

pub returns-then-items-number-clause-told : goal.returns-then-items-number-clause-told
returns-then-items-number-clause-told g c = range_told c.args.target.now.table c.args.low c.items.result.now c.items-2.result.now (g.S.Store.content c.args.store.now) c.in-Ok.found c.args.meter.now c.range.new.meter _ c.items.ensures (c.items-2.ensures ∙ c.in_ok-high.ensures) c.in-Ok.ensures.answer c.in-Ok.ensures.meter (omega arith)

pub returns-in_err-next-clause-told : goal.returns-in_err-next-clause-told
returns-in_err-next-clause-told g c = range_told c.args.target.now.table c.args.low c.items.result.now c.items-2.result.now (g.S.Store.content c.args.store.now) c.in-Ok.found c.args.meter.now c.range.new.meter _ c.items.ensures (c.items-2.ensures ∙ c.in_ok-high.ensures) c.in-Ok.ensures.answer c.in-Ok.ensures.meter (omega arith)

pub returns-in_err-write_entries-clause-told : goal.returns-in_err-write_entries-clause-told
returns-in_err-write_entries-clause-told g c = range_told c.args.target.now.table c.args.low c.items.result.now c.items-2.result.now (g.S.Store.content c.args.store.now) c.in-Ok.found c.args.meter.now c.range.new.meter _ c.items.ensures (c.items-2.ensures ∙ c.in_ok-high.ensures) c.in-Ok.ensures.answer c.in-Ok.ensures.meter (omega (arith, c.write_entries.ensures.entries))

pub returns-clause-told : goal.returns-clause-told
returns-clause-told g c = range_told c.args.target.now.table c.args.low c.items.result.now c.items-2.result.now (g.S.Store.content c.args.store.now) c.in-Ok.found c.args.meter.now c.range.new.meter _ c.items.ensures (c.items-2.ensures ∙ c.in_ok-high.ensures) c.in-Ok.ensures.answer c.in-Ok.ensures.meter (omega (arith, c.write_entries.ensures.entries))

pub returns-then-items-number-clause-stopped : goal.returns-then-items-number-clause-stopped
returns-then-items-number-clause-stopped g c = some_same c.args.target.now c.args.target.now.table c.args.low (g.S.Store.content c.args.store.now) _ c.range.ensures.same

pub returns-in_err-write_entries-clause-leaves : goal.returns-in_err-write_entries-clause-leaves
returns-in_err-write_entries-clause-leaves g c =
    let p = err_from_is_err_and c.from_residual-in_err-write_entries.result c.from_residual-in_err-write_entries.ensures.1 in
    record {
      leaves = search rules;
      names = search rules;
      answered = rw (p.1, p.2) (among_answered g.S.Store.answers c.args.key.now (target_shape c.args.target.now) (map entry c.items-5.result.now) (rw c.items-5.ensures c.in-Ok.ensures.answered) _ c.in_err-write_entries.ensures.damage);
    }

pub returns-in_err-high-clause-stopped : goal.returns-in_err-high-clause-stopped
returns-in_err-high-clause-stopped g c = on_err_holds c.from_residual.result (some_same c.args.target.now c.args.target.now.table c.args.low (g.S.Store.content c.args.store.now) _ refl)

pub returns-in-Err-clause-stopped : goal.returns-in-Err-clause-stopped
returns-in-Err-clause-stopped g c = some_same c.args.target.now c.args.target.now.table c.args.low (g.S.Store.content c.args.store.now) _ c.range.ensures.same

pub returns-in_err-miscounted-clause-stopped : goal.returns-in_err-miscounted-clause-stopped
returns-in_err-miscounted-clause-stopped g c = on_err_holds c.from_residual-in_err-miscounted.result (some_same c.args.target.now c.args.target.now.table c.args.low (g.S.Store.content c.args.store.now) _ c.range.ensures.same)

pub returns-in_err-next-clause-stopped : goal.returns-in_err-next-clause-stopped
returns-in_err-next-clause-stopped g c = on_err_holds c.from_residual-in_err-next.result (some_same c.args.target.now c.args.target.now.table c.args.low (g.S.Store.content c.args.store.now) _ c.range.ensures.same)
