use Rattle.std.proofs.Common.{sym, ap, subst, length, Option, ◌∙◌}
use Rattle.std.proofs.lemmas.Result.{IfOk-weaker, IfErr-weaker, on_err_weaker, err_from_is_err_and}
use Rattle.pq_intent.proofs.Steps.{on_err_holds}
use Rattle.pq_schema.specs.Schema.{Schema}
use Rattle.pq_store.specs.Content.{Content}
use Rattle.pq_opening.specs.declared.begun.Begun.{Begun}
use Rattle.pq_catalog.specs.Stands.{Opens}
use Rattle.pq_opening.proofs.Leaving.{if_err_holds, left_flawed, left_quiet, left_read, left_stops, on_ok_holds, read_flawed, read_quiet, read_stops, settled_flawed, settled_quiet, settled_stops}
use Rattle.pq_catalog.proofs.Standing.{settled_opens}
use Rattle.pq_opening.proofs.Starting.{opens_kept, opens_rests, rests_opens, rests_sound, read_mid, read_now, finished_stands, opens_as, tells_schema, settle_flaw, read_flaw, build_flaw, both_ok, either_way}
use Rattle.pq_opening.proofs.Within.{is_bounded, settle_within, read_within, finish_within, settle_own, read_own, finish_own}
use Rattle.pq_opening.proofs.begun.start.Goals as goal

pub returns-in_err-settled-clause-kept : goal.returns-in_err-settled-clause-kept
returns-in_err-settled-clause-kept g c = λ m opens. opens_kept _ _ c.in_err-settled.ensures.stopped m opens

pub returns-in_err-settled-clause-damage : goal.returns-in_err-settled-clause-damage
returns-in_err-settled-clause-damage g c =
    let p = err_from_is_err_and c.from_residual.result c.from_residual.ensures.1 in
    rw (p.1, p.2) (λ m opens. c.in_err-settled.ensures.sound opens.pairs opens.settles)

pub returns-in_err-settled-clause-flaw : goal.returns-in_err-settled-clause-flaw
returns-in_err-settled-clause-flaw g c =
    let p = err_from_is_err_and c.from_residual.result c.from_residual.ensures.1 in
    rw (p.1, p.2) (settle_flaw (g.S.Store.content c.args.store.now) _ c.in_err-settled.ensures.damage)

pub returns-in_err-found-clause-kept : goal.returns-in_err-found-clause-kept
returns-in_err-found-clause-kept g c = λ m opens.
    subst (λ (o : Option Content). Opens o m) (sym c.read_catalog.ensures.same) (rests_opens (g.S.Store.content c.settle.new.store) m (opens_rests (g.S.Store.content c.args.store.now) (g.S.Store.content c.settle.new.store) c.in_ok-settled.ensures.made m opens))

pub returns-in_err-found-clause-damage : goal.returns-in_err-found-clause-damage
returns-in_err-found-clause-damage g c =
    let p = err_from_is_err_and c.from_residual-in_err-found.result c.from_residual-in_err-found.ensures.1 in
    rw (p.1, p.2) (λ m opens. rests_sound (g.S.Store.content c.settle.new.store) m _ (opens_rests (g.S.Store.content c.args.store.now) (g.S.Store.content c.settle.new.store) c.in_ok-settled.ensures.made m opens) c.in_err-found.ensures.flaw)

pub returns-in_err-found-clause-flaw : goal.returns-in_err-found-clause-flaw
returns-in_err-found-clause-flaw g c =
    let p = err_from_is_err_and c.from_residual-in_err-found.result c.from_residual-in_err-found.ensures.1 in
    rw (p.1, p.2) (read_flaw (g.S.Store.content c.args.store.now) (g.S.Store.content c.settle.new.store) _ c.in_ok-settled.ensures.settles c.in_err-found.ensures.flaw)

pub returns-clause-kept : goal.returns-clause-kept
returns-clause-kept g c = λ m opens.
    let k = read_now (g.S.Store.content c.args.store.now) (g.S.Store.content c.settle.new.store) (g.S.Store.content c.read_catalog.new.store) c.in_ok-settled.ensures.made c.read_catalog.ensures.same c.in_ok-found.found.planned c.in_ok-found.found.mark c.in_ok-found.ensures.told m opens in
    either_way c.finish_opening.result (IfOk-weaker c.finish_opening.result _ _ (λ s stands. settled_opens (stands m (sym k.0) k.1)) c.finish_opening.ensures.stands)
    (on_err_weaker c.finish_opening.result (λ stopped. stopped m (sym k.0) k.1) c.finish_opening.ensures.stopped)

pub returns-clause-stands : goal.returns-clause-stands
returns-clause-stands g c =
    IfOk-weaker c.finish_opening.result _ _ (λ s h m opens.
    finished_stands (g.S.Store.content c.args.store.now) (g.S.Store.content c.settle.new.store) (g.S.Store.content c.read_catalog.new.store) c.in_ok-settled.ensures.made c.read_catalog.ensures.same c.in_ok-found.found.planned c.in_ok-found.found.mark c.in_ok-found.ensures.told m opens
    (g.S.Store.content c.finish_opening.new.store) c.in_ok-settled.settled c.read_catalog.new.meter c.finish_opening.new.meter s h.1 h.0)
    (both_ok c.finish_opening.result _ _ c.finish_opening.ensures.stands c.finish_opening.ensures.started)

pub returns-clause-opened : goal.returns-clause-opened
returns-clause-opened g c =
    IfOk-weaker c.finish_opening.result _ _ (λ s h m opens.
    let k = read_mid (g.S.Store.content c.args.store.now) (g.S.Store.content c.settle.new.store) (g.S.Store.content c.read_catalog.new.store) c.in_ok-settled.ensures.made c.read_catalog.ensures.same c.in_ok-found.found.planned c.in_ok-found.found.mark c.in_ok-found.ensures.told m opens in
    let n = read_now (g.S.Store.content c.args.store.now) (g.S.Store.content c.settle.new.store) (g.S.Store.content c.read_catalog.new.store) c.in_ok-settled.ensures.made c.read_catalog.ensures.same c.in_ok-found.found.planned c.in_ok-found.found.mark c.in_ok-found.ensures.told m opens in
    opens_as (g.S.Store.content c.args.store.now) (g.S.Store.content c.settle.new.store) c.in_ok-settled.settled m c.in_ok-found.found.mark s c.in_ok-found.found.planned c.in_ok-settled.ensures.counts c.in_ok-settled.ensures.numbers c.in_ok-settled.ensures.made opens k.0 k.1 h.1.few (h.0 m (sym n.0) n.1))
    (both_ok c.finish_opening.result _ _ c.finish_opening.ensures.rows c.finish_opening.ensures.started)

pub returns-clause-told : goal.returns-clause-told
returns-clause-told g c =
    IfOk-weaker c.finish_opening.result _ _ (λ s h.
    tells_schema (g.S.Store.content c.args.store.now) (g.S.Store.content c.settle.new.store) (g.S.Store.content c.read_catalog.new.store) c.in_ok-found.found.planned s.planned c.in_ok-found.found.mark c.read_catalog.ensures.same c.in_ok-settled.ensures.settles c.in_ok-found.ensures.told h.1 (ap (λ (x : Begun). x.planned) h.0.is))
    (both_ok c.finish_opening.result _ _ c.finish_opening.ensures.started c.finish_opening.ensures.few_left)

-- ---- what it takes

pub returns-in_err-settled-clause-within : goal.returns-in_err-settled-clause-within
returns-in_err-settled-clause-within g c = on_err_holds c.from_residual.result (settle_within c.args.meter.now c.settle.new.meter c.in_err-settled.ensures.within)

pub returns-in_err-settled-clause-within_own : goal.returns-in_err-settled-clause-within_own
returns-in_err-settled-clause-within_own g c =
    on_err_holds c.from_residual.result (λ m opens. settle_own (g.S.Store.content c.args.store.now) m c.args.meter.now c.settle.new.meter opens c.in_err-settled.ensures.within_own)

pub returns-in_err-found-clause-within : goal.returns-in_err-found-clause-within
returns-in_err-found-clause-within g c =
    on_err_holds c.from_residual-in_err-found.result (read_within c.in_ok-settled.settled c.in_ok-settled.ensures.numbers c.args.meter.now c.settle.new.meter c.in_ok-settled.ensures.ops c.in_ok-settled.ensures.entries c.read_catalog.new.meter c.in_err-found.ensures.within)

pub returns-in_err-found-clause-within_own : goal.returns-in_err-found-clause-within_own
returns-in_err-found-clause-within_own g c =
    on_err_holds c.from_residual-in_err-found.result (λ m opens. read_own c.in_ok-settled.settled c.in_ok-settled.ensures.numbers c.args.meter.now c.settle.new.meter c.in_ok-settled.ensures.ops c.in_ok-settled.ensures.entries
    (g.S.Store.content c.args.store.now) (g.S.Store.content c.settle.new.store) m c.read_catalog.new.meter c.in_ok-settled.ensures.counts c.in_ok-settled.ensures.made opens c.in_err-found.ensures.within_own)

pub returns-clause-bounded : goal.returns-clause-bounded
returns-clause-bounded g c =
    IfOk-weaker c.finish_opening.result _ _ (λ s started. is_bounded c.in_ok-found.found.planned s c.in_ok-settled.settled c.read_catalog.new.meter c.finish_opening.new.meter c.in_ok-settled.ensures.numbers started) c.finish_opening.ensures.started

pub returns-clause-within : goal.returns-clause-within
returns-clause-within g c =
    on_err_weaker c.finish_opening.result (λ w. finish_within c.in_ok-settled.settled c.in_ok-settled.ensures.numbers c.args.meter.now c.settle.new.meter c.in_ok-settled.ensures.ops c.in_ok-settled.ensures.entries
    (length c.in_ok-found.found.planned.definitions) c.read_catalog.new.meter c.finish_opening.new.meter c.in_ok-found.ensures.few c.in_ok-found.ensures.takes w) c.finish_opening.ensures.within

pub returns-clause-within_own : goal.returns-clause-within_own
returns-clause-within_own g c =
    on_err_weaker c.finish_opening.result (λ w m opens.
    let k = read_mid (g.S.Store.content c.args.store.now) (g.S.Store.content c.settle.new.store) (g.S.Store.content c.read_catalog.new.store) c.in_ok-settled.ensures.made c.read_catalog.ensures.same c.in_ok-found.found.planned c.in_ok-found.found.mark c.in_ok-found.ensures.told m opens in
    let n = read_now (g.S.Store.content c.args.store.now) (g.S.Store.content c.settle.new.store) (g.S.Store.content c.read_catalog.new.store) c.in_ok-settled.ensures.made c.read_catalog.ensures.same c.in_ok-found.found.planned c.in_ok-found.found.mark c.in_ok-found.ensures.told m opens in
    finish_own c.in_ok-settled.settled c.in_ok-settled.ensures.numbers c.args.meter.now c.settle.new.meter c.in_ok-settled.ensures.ops c.in_ok-settled.ensures.entries
    (g.S.Store.content c.args.store.now) (g.S.Store.content c.settle.new.store) m c.in_ok-found.found.mark (length c.in_ok-found.found.planned.definitions) c.read_catalog.new.meter c.finish_opening.new.meter
    c.in_ok-settled.ensures.counts c.in_ok-settled.ensures.made opens k.1 c.in_ok-found.ensures.few c.in_ok-found.ensures.takes (w m (sym n.0) n.1))
    c.finish_opening.ensures.within_own

pub returns-clause-damage : goal.returns-clause-damage
returns-clause-damage g c =
    IfErr-weaker c.finish_opening.result _ _ (λ broke sound m opens.
    let k = read_now (g.S.Store.content c.args.store.now) (g.S.Store.content c.settle.new.store) (g.S.Store.content c.read_catalog.new.store) c.in_ok-settled.ensures.made c.read_catalog.ensures.same c.in_ok-found.found.planned c.in_ok-found.found.mark c.in_ok-found.ensures.told m opens in
    sound m (sym k.0) k.1)
    c.finish_opening.ensures.sound

pub returns-clause-flaw : goal.returns-clause-flaw
returns-clause-flaw g c =
    IfErr-weaker c.finish_opening.result _ _ (λ broke shows. build_flaw (g.S.Store.content c.args.store.now) (g.S.Store.content c.settle.new.store) (g.S.Store.content c.read_catalog.new.store) c.in_ok-found.found.planned c.in_ok-found.found.mark broke c.read_catalog.ensures.same c.in_ok-settled.ensures.settles c.in_ok-found.ensures.told shows) c.finish_opening.ensures.shown

-- ---- what is left

pub returns-in_err-settled-clause-left_flawed : goal.returns-in_err-settled-clause-left_flawed
returns-in_err-settled-clause-left_flawed g c =
    let p = err_from_is_err_and c.from_residual.result c.from_residual.ensures.1 in
    rw (p.1, p.2) (settled_flawed (g.S.Store.content c.args.store.now) (g.S.Store.content c.settle.new.store) c.in_err-settled.field-0.0 c.in_err-settled.ensures.kept)

pub returns-in_err-settled-clause-stops : goal.returns-in_err-settled-clause-stops
returns-in_err-settled-clause-stops g c =
    on_err_holds c.from_residual.result (settled_stops (g.S.Store.content c.args.store.now) (g.S.Store.content c.settle.new.store) c.in_err-settled.ensures.stops)

pub returns-in_err-settled-clause-rests : goal.returns-in_err-settled-clause-rests
returns-in_err-settled-clause-rests g c = settled_quiet (g.S.Store.content c.args.store.now) (g.S.Store.content c.settle.new.store) c.in_err-settled.ensures.rests

pub returns-in_err-found-clause-left_flawed : goal.returns-in_err-found-clause-left_flawed
returns-in_err-found-clause-left_flawed g c =
    let p = err_from_is_err_and c.from_residual-in_err-found.result c.from_residual-in_err-found.ensures.1 in
    rw (p.1, p.2) (read_flawed (g.S.Store.content c.args.store.now) (g.S.Store.content c.settle.new.store) (g.S.Store.content c.read_catalog.new.store) c.in_err-found.field-0.0 c.read_catalog.ensures.same c.in_ok-settled.ensures.settles)

pub returns-in_err-found-clause-stops : goal.returns-in_err-found-clause-stops
returns-in_err-found-clause-stops g c =
    on_err_holds c.from_residual-in_err-found.result (read_stops (g.S.Store.content c.args.store.now) (g.S.Store.content c.settle.new.store) _ c.read_catalog.ensures.same c.in_ok-settled.ensures.settles)

pub returns-in_err-found-clause-rests : goal.returns-in_err-found-clause-rests
returns-in_err-found-clause-rests g c = read_quiet (g.S.Store.content c.args.store.now) (g.S.Store.content c.settle.new.store) (g.S.Store.content c.read_catalog.new.store) c.read_catalog.ensures.same c.in_ok-settled.ensures.rests

pub returns-clause-left : goal.returns-clause-left
returns-clause-left g c =
    on_ok_holds c.finish_opening.result (left_read (g.S.Store.content c.args.store.now) (g.S.Store.content c.settle.new.store) (g.S.Store.content c.read_catalog.new.store) (g.S.Store.content c.finish_opening.new.store) c.in_ok-found.found.planned c.in_ok-found.found.mark c.read_catalog.ensures.same c.in_ok-settled.ensures.settles c.in_ok-found.ensures.told c.finish_opening.ensures.left)

pub returns-clause-left_flawed : goal.returns-clause-left_flawed
returns-clause-left_flawed g c =
    if_err_holds c.finish_opening.result _ (λ broke. left_flawed (g.S.Store.content c.args.store.now) (g.S.Store.content c.finish_opening.new.store) broke
    (left_read (g.S.Store.content c.args.store.now) (g.S.Store.content c.settle.new.store) (g.S.Store.content c.read_catalog.new.store) (g.S.Store.content c.finish_opening.new.store) c.in_ok-found.found.planned c.in_ok-found.found.mark c.read_catalog.ensures.same c.in_ok-settled.ensures.settles c.in_ok-found.ensures.told c.finish_opening.ensures.left))

pub returns-clause-stops : goal.returns-clause-stops
returns-clause-stops g c =
    on_err_holds c.finish_opening.result (left_stops (g.S.Store.content c.args.store.now) _
    (left_read (g.S.Store.content c.args.store.now) (g.S.Store.content c.settle.new.store) (g.S.Store.content c.read_catalog.new.store) (g.S.Store.content c.finish_opening.new.store) c.in_ok-found.found.planned c.in_ok-found.found.mark c.read_catalog.ensures.same c.in_ok-settled.ensures.settles c.in_ok-found.ensures.told c.finish_opening.ensures.left))

pub returns-clause-rests : goal.returns-clause-rests
returns-clause-rests g c =
    left_quiet (g.S.Store.content c.args.store.now) (g.S.Store.content c.settle.new.store) (g.S.Store.content c.read_catalog.new.store) (g.S.Store.content c.finish_opening.new.store) c.in_ok-found.found.planned c.in_ok-found.found.mark c.read_catalog.ensures.same c.in_ok-settled.ensures.rests c.in_ok-found.ensures.told c.finish_opening.ensures.left

pub returns-clause-defs : goal.returns-clause-defs
returns-clause-defs g c =
    IfOk-weaker c.finish_opening.result _ _ (λ s started. ap (λ (x : Begun). x.defs) started.is ∙ ap (λ (x : Schema). length x.definitions) (sym (ap (λ (x : Begun). x.planned) started.is))) c.finish_opening.ensures.started
