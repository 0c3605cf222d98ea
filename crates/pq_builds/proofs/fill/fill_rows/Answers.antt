use Rattle.std.proofs.Common.{◌≡◌, ◌*◌, ◌/◌, ℕ, subst, arith}
use Rattle.std.specs.Prelude.{IfSome}
use Rattle.std.proofs.lemmas.Result.{err_from_is_err_and}
use Rattle.pq_intent.proofs.Steps.{on_err_holds}
use Rattle.pq_builds.specs.Filling.{first_key, Follows}
use Rattle.pq_builds.proofs.Following.{follows_more, follows_stops, follows_damage, follows_all, counted_full, counted_last, one_full, all_full}
use Rattle.pq_builds.proofs.Reading.{follows_read}
use Rattle.pq_builds.proofs.fill.fill_rows.Goals as goal

pub returns-in_err-low-2-clause-stopped : goal.returns-in_err-low-2-clause-stopped
returns-in_err-low-2-clause-stopped g c =
    on_err_holds c.from_residual-in_err-low-2.result (follows_stops c.args.target.now (first_key c.args.target.now.table) (256 * c.loop-full.full) _ _ _ c.loop-full.low c.loop-full.invariant.space c.loop-full.invariant.follows c.in_err-low-2.ensures.stopped)

pub returns-in_err-low-2-clause-damage : goal.returns-in_err-low-2-clause-damage
returns-in_err-low-2-clause-damage g c =
    let p = err_from_is_err_and c.from_residual-in_err-low-2.result c.from_residual-in_err-low-2.ensures.1 in
    rw (p.1, p.2) (follows_damage c.args.target.now (256 * c.loop-full.full) 256 c.args.count _ _ c.loop-full.low _ c.loop-full.invariant.space (counted_full c.loop-full.full c.args.count c.loop-full-test.true) c.loop-full.invariant.follows c.in_err-low-2.ensures.damage)

pub loop-full-preserved : goal.loop-full-preserved
loop-full-preserved g c = record {
  follows =
      subst (λ (n : ℕ). IfSome (g.S.Store.content c.args.store.now) (λ c'. Follows c.args.target.now (first_key c.args.target.now.table) n c' (g.S.Store.content c.fill_next.new.store) c.in_ok-low-2.low)) (one_full c.loop-full.full)
      (follows_more c.args.target.now (first_key c.args.target.now.table) (256 * c.loop-full.full) 256 (g.S.Store.content c.args.store.now) _ (g.S.Store.content c.fill_next.new.store) c.loop-full.low c.in_ok-low-2.low c.loop-full.invariant.space c.in_ok-low-2.ensures.next c.loop-full.invariant.follows c.in_ok-low-2.ensures.follows);
  space = c.in_ok-low-2.ensures.next;
  each = omega (arith, c.in_ok-low-2.ensures.takes.takes.ops_are);
  entries = omega (arith, c.in_ok-low-2.ensures.takes.takes.entries_are);
  untold = λ none. c.fill_next.ensures.leaves.leaves.untold (c.loop-full.invariant.untold none);
  later = omega (arith, c.fill_next.ensures.leaves.leaves.cause.later);
}

pub returns-in_err-fill_next-clause-stopped : goal.returns-in_err-fill_next-clause-stopped
returns-in_err-fill_next-clause-stopped g c =
    on_err_holds c.from_residual-in_err-fill_next.result (follows_stops c.args.target.now (first_key c.args.target.now.table) (256 * c.loop-full.full) _ _ _ c.loop-full.low c.loop-full.invariant.space c.loop-full.invariant.follows c.in_err-fill_next.ensures.stopped)

pub returns-in_err-fill_next-clause-damage : goal.returns-in_err-fill_next-clause-damage
returns-in_err-fill_next-clause-damage g c =
    let p = err_from_is_err_and c.from_residual-in_err-fill_next.result c.from_residual-in_err-fill_next.ensures.1 in
    let full : c.loop-full.full ≡ c.args.count / 256 = omega arith in
    rw (p.1, p.2) (follows_damage c.args.target.now (256 * c.loop-full.full) _ c.args.count _ _ c.loop-full.low _ c.loop-full.invariant.space (counted_last c.loop-full.full c.args.count full) c.loop-full.invariant.follows c.in_err-fill_next.ensures.damage)

pub returns-clause-enters : goal.returns-clause-enters
returns-clause-enters g c =
    let full : c.loop-full.full ≡ c.args.count / 256 = omega arith in
    follows_all c.args.target.now _ c.args.count (g.S.Store.content c.args.store.now) _ _ (all_full c.loop-full.full c.args.count full)
    (follows_more c.args.target.now (first_key c.args.target.now.table) (256 * c.loop-full.full) _ (g.S.Store.content c.args.store.now) _ _ c.loop-full.low _ c.loop-full.invariant.space c.in_ok-fill_next.ensures.next c.loop-full.invariant.follows c.in_ok-fill_next.ensures.follows)

pub returns-in_err-fill_next-clause-told : goal.returns-in_err-fill_next-clause-told
returns-in_err-fill_next-clause-told g c =
    on_err_holds c.from_residual-in_err-fill_next.result (follows_read c.args.target.now (256 * c.loop-full.full) c.args.count (g.S.Store.content c.args.store.now) _ c.loop-full.low c.args.meter.now.entries c.loop-full.meter.entries _ c.loop-full.invariant.space c.loop-full.invariant.follows c.fill_next-2.ensures.told c.loop-full.invariant.entries)
