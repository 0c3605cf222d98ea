use Rattle.std.proofs.Common.{◌≡◌, false, length, refl, sym, subst, Option}
use Rattle.std.specs.Prelude.{IfSome}
use Rattle.std.proofs.lemmas.Result.{err_from_is_err_and}
use Rattle.pq_content.specs.Pairs.{is_of_rows}
use Rattle.pq_builds.specs.declared.target.NewQuery.{NewQuery}
use Rattle.pq_builds.specs.declared.build.Built.{Built}
use Rattle.pq_builds.specs.declared.build.Built.TheVariants.{TooMany}
use Rattle.pq_builds.specs.Stages.{RanBuild, ShowsBuild, StopsBuilding, TakesBuild}
use Rattle.pq_builds.proofs.Lasting.{shows_still_told}
use Rattle.pq_builds.specs.Bounds.{build_bound}
use Rattle.pq_builds.specs.Filling.{row_pairs_in}
use Rattle.pq_builds.specs.Standing.{Origin, HoldsOrigin, Leaves, Makes, rows_in}
use Rattle.pq_intent.specs.Spending.{TakesAtMost}
use Rattle.pq_store.specs.Breaks.{IsUndamaged}
use Rattle.pq_store.specs.Content.{Content}
use Rattle.pq_reports.specs.Evidence.{TellsEvidence}
use Rattle.pq_catalog.specs.Stands.{new_query_of}
use Rattle.pq_prepare.proofs.Built.{build_shown}
use Rattle.pq_prepare.proofs.Prepared.{target_there, build_broken, too_many_lost, moved}
use Rattle.pq_reports.proofs.Promises.{broken_same}
use Rattle.pq_prepare.proofs.prepare.fill_index.Goals as goal

pub target-requires : goal.target-requires
target-requires g c = target_there c.args.planned.now c.args.query.now c.args.new.now c.known.ensures c.requires

pub returns-in_err-target-clause-broken : goal.returns-in_err-target-clause-broken
returns-in_err-target-clause-broken g c =
    let p = err_from_is_err_and c.from_residual.result c.from_residual.ensures.1 in
    rw (p.1, p.2) (λ number best. broken_same _ _ _ c.args.planned.now _ _ tt)

pub returns-in_err-defined-clause-broken : goal.returns-in_err-defined-clause-broken
returns-in_err-defined-clause-broken g c =
    let p = err_from_is_err_and c.from_residual-in_err-defined.result c.from_residual-in_err-defined.ensures.1 in
    rw (p.1, p.2) (λ number best. broken_same _ _ _ c.args.planned.now _ _ tt)

pub returns-in_err-build_index-clause-broken : goal.returns-in_err-build_index-clause-broken
returns-in_err-build_index-clause-broken g c =
    let p = err_from_is_err_and c.from_residual-in_err-build_index.result c.from_residual-in_err-build_index.ensures.1 in
    let e = c.in_err-build_index.ensures in
    let schema = c.args.planned.now in
    let new = c.args.new.now in
    let old = g.S.Store.content c.args.store.now in
    let valid = c.known.ensures in
    let now = g.S.Store.content c.build_index.new.store in
    let broke = c.in_err-build_index.field-0.0 in
    let index = c.in_ok-target.ensures in
    let query = c.in_ok-defined.ensures in
    let shows : (content : Option Content) → IfSome content (λ c'. ShowsBuild c.in_ok-target.target c.in_ok-defined.defined c' broke) → IfSome content (λ c'. TellsEvidence schema c' broke) =
    λ content is. build_shown content schema new (new_query_of schema c.args.query.now) broke valid (target_there schema c.args.query.now new valid c.requires).0 refl
    (moved (λ t q. IfSome content (λ c'. ShowsBuild t q c' broke)) index query is) in
    let lasting = shows_still_told c.in_ok-target.target c.in_ok-defined.defined (subst (λ (q : NewQuery). is_of_rows q.key ≡ false) (sym query) refl) old now broke e.leaves.leaves.untold e.ended e.shown in
    rw (p.1, p.2) (λ number best. build_broken number c.args.query.now new best schema c.requires old now _ _ broke
    (moved (λ t q. (origin : Origin) → HoldsOrigin origin t q old → Leaves origin t q now) index query e.stopped)
    (moved (λ t q. (origin : Origin) → HoldsOrigin origin t q old → IsUndamaged broke) index query e.sound)
    (moved (λ t q. IfSome old (λ content. StopsBuilding t q content now)) index query e.ended)
    (shows old e.shown) (shows now lasting) e.within
    (moved (λ t q. (origin : Origin) → HoldsOrigin origin t q old → TakesAtMost (build_bound (rows_in origin t)) c.args.meter.now c.build_index.new.meter) index query e.bounded)
    (moved (λ t q. IfSome old (λ content. TakesAtMost (build_bound (length (row_pairs_in t.table content))) c.args.meter.now c.build_index.new.meter)) index query e.within_own))

pub too_many_rows-requires : goal.too_many_rows-requires
too_many_rows-requires g c = (target_there c.args.planned.now c.args.query.now c.args.new.now c.known.ensures c.requires).0

pub returns-in_err-too_many_rows-in-TooMany-clause-broken : goal.returns-in_err-too_many_rows-in-TooMany-clause-broken
returns-in_err-too_many_rows-in-TooMany-clause-broken g c =
    let p = err_from_is_err_and c.from_residual-in_err-too_many_rows-in-TooMany.result c.from_residual-in_err-too_many_rows-in-TooMany.ensures.1 in
    let e = c.in_ok-build_index.ensures in
    let made : (origin : Origin) → HoldsOrigin origin c.in_ok-target.target c.in_ok-defined.defined (g.S.Store.content c.args.store.now) → Makes origin c.in_ok-target.target c.in_ok-defined.defined TooMany (g.S.Store.content c.build_index.new.store) =
    subst (λ (b : Built). (origin : Origin) → HoldsOrigin origin c.in_ok-target.target c.in_ok-defined.defined (g.S.Store.content c.args.store.now) → Makes origin c.in_ok-target.target c.in_ok-defined.defined b (g.S.Store.content c.build_index.new.store)) c.in-TooMany.is e.made in
    let ran : IfSome (g.S.Store.content c.args.store.now) (λ content. RanBuild c.in_ok-target.target c.in_ok-defined.defined TooMany content (g.S.Store.content c.build_index.new.store)) =
    subst (λ (b : Built). IfSome (g.S.Store.content c.args.store.now) (λ content. RanBuild c.in_ok-target.target c.in_ok-defined.defined b content (g.S.Store.content c.build_index.new.store))) c.in-TooMany.is e.ran in
    rw (p.1, p.2) (λ number best. too_many_lost number c.args.query.now c.args.new.now best c.args.planned.now c.requires _ _ _ _
    (moved (λ t q. (origin : Origin) → HoldsOrigin origin t q (g.S.Store.content c.args.store.now) → Makes origin t q TooMany (g.S.Store.content c.build_index.new.store)) c.in_ok-target.ensures c.in_ok-defined.ensures made)
    (e.unchanged c.in-TooMany.is) (subst (λ (b : Built). TakesBuild b c.args.meter.now c.build_index.new.meter) c.in-TooMany.is e.takes)
    (moved (λ t q. IfSome (g.S.Store.content c.args.store.now) (λ content. RanBuild t q TooMany content (g.S.Store.content c.build_index.new.store))) c.in_ok-target.ensures c.in_ok-defined.ensures ran))
