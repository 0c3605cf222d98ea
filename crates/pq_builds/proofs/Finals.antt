-- The clauses of a build over contents of rows, from those over any content that is told.
use Rattle.std.proofs.Common.{◌≡◌, ℕ, ◌≤◌, ◌<◌, length, Option, sym, ◌∙◌, subst, arith, inl, inr}
use Rattle.std.specs.Prelude.{IfSome}
use Rattle.std.proofs.lemmas.Option.{none-some}
use Rattle.pq_store.specs.Breaks.{IsUndamaged}
use Rattle.pq_store.specs.declared.damage.Broke.{Broke}
use Rattle.pq_store.specs.declared.damage.Broke.TheVariants.{Failed, NoMem, Damaged}
use Rattle.pq_store.specs.Content.{Content}
use Rattle.pq_builds.specs.declared.build.Built.{Built}
use Rattle.pq_builds.specs.declared.build.Built.TheVariants as built
use Rattle.pq_builds.specs.declared.target.NewQuery.{NewQuery}
use Rattle.pq_builds.specs.declared.target.Target.{Target}
use Rattle.pq_builds.specs.Filling.{row_pairs_in}
use Rattle.pq_builds.specs.Stages.{marked_content, IsReady, StopsFilling, RanBuild, StopsBuilding, ShowsBuild, ShowsLeft}
use Rattle.pq_builds.specs.Standing.{Origin, IsNewIn, HoldsOrigin, HoldsFilling, IsMarkedOrReady, Makes, Leaves, before, rows_in}
use Rattle.pq_builds.proofs.Standing.{at_work, all_ready, counted_before, counted_filling, marked_filling, absent_before, sound_before, sound_filling}

module _ (target : Target) (query : NewQuery) (old now : Option Content) (origin : Origin) where
  module _ (h : HoldsOrigin origin target query old) where
    new_in : IsNewIn origin query
    new_in = record { keeps = h.holds.keeps; beside = h.holds.beside; key = h.key; absent = h.absent }

    ran_at : (b : Built) → RanBuild target query b (before origin) now → Makes origin target query b now
    ran_at (built.Rows count) r =
        let rows = counted_before origin target query new_in h.target_is in
        let many = r.0 in
        let most = r.1 in
        let few : rows_in origin target ≤ 1000000 = omega arith in
        let filling = marked_filling origin target query new_in h.target_is few in
        (sym rows ∙ r.0, few, all_ready origin target query new_in h.target_is (marked_content query (before origin)) now filling r.2.ready)
    ran_at built.TooMany r =
        let rows = counted_before origin target query new_in h.target_is in
        let many = r.0 in
        ((let more : 1000000 < rows_in origin target = omega arith in more), r.1)

    pub makes_of : (b : Built) → IfSome old (λ c. RanBuild target query b c now) → Makes origin target query b now
    makes_of b r = ran_at b (subst (λ (o : Option Content). IfSome o (λ c. RanBuild target query b c now)) h.holds.is r)

    stops_at : StopsBuilding target query (before origin) now → Leaves origin target query now
    stops_at (inl same) = inl same
    stops_at (inr begun) =
        let rows = counted_before origin target query new_in h.target_is in
        let most = begun.few in
        let few : rows_in origin target ≤ 1000000 = omega arith in
        let filling = marked_filling origin target query new_in h.target_is few in
        inr (at_work origin target query new_in h.target_is (marked_content query (before origin)) now filling begun.stops)

    pub leaves_of : IfSome old (λ c. StopsBuilding target query c now) → Leaves origin target query now
    leaves_of r = stops_at (subst (λ (o : Option Content). IfSome o (λ c. StopsBuilding target query c now)) h.holds.is r)

    shown_at : (broke : Broke) → ShowsBuild target query (before origin) broke → IsUndamaged broke
    shown_at Failed s = tt
    shown_at NoMem s = tt
    shown_at (Damaged damage) (inl taken) = absurd (none-some taken.value (sym (absent_before origin target query new_in h.target_is) ∙ taken.there))
    shown_at (Damaged damage) (inr broken) = absurd (sound_before origin target query new_in h.target_is damage broken)

    pub sound_of : (broke : Broke) → IfSome old (λ c. ShowsBuild target query c broke) → IsUndamaged broke
    sound_of broke r = shown_at broke (subst (λ (o : Option Content). IfSome o (λ c. ShowsBuild target query c broke)) h.holds.is r)

  module _ (h : HoldsFilling origin target query old) where
    pub completed_of : (count : ℕ) → IfSome old (λ c. (length (row_pairs_in target.table c) ≡ count) × IsReady target query c now) → Makes origin target query (built.Rows count) now
    completed_of count r =
        let at : (length (row_pairs_in target.table h.content) ≡ count) × IsReady target query h.content now = subst (λ (o : Option Content). IfSome o (λ c. (length (row_pairs_in target.table c) ≡ count) × IsReady target query c now)) h.is r in
        (sym (counted_filling origin target query h.new h.target_is h.content h.filling) ∙ at.0, h.filling.few, all_ready origin target query h.new h.target_is h.content now h.filling at.1)

    pub at_work_of : IfSome old (λ c. StopsFilling target query c now) → IsMarkedOrReady origin target query now
    at_work_of r = at_work origin target query h.new h.target_is h.content now h.filling (subst (λ (o : Option Content). IfSome o (λ c. StopsFilling target query c now)) h.is r)

    left_at : (broke : Broke) → ShowsLeft target query h.content broke → IsUndamaged broke
    left_at Failed s = tt
    left_at NoMem s = tt
    left_at (Damaged damage) (inl large) =
        let rows = counted_filling origin target query h.new h.target_is h.content h.filling in
        let more = large.many in
        let few = h.filling.few in
        absurd (omega arith)
    left_at (Damaged damage) (inr broken) = absurd (sound_filling origin target query h.new h.target_is h.content damage h.filling broken.no_row)

    pub left_sound_of : (broke : Broke) → IfSome old (λ c. ShowsLeft target query c broke) → IsUndamaged broke
    left_sound_of broke r = left_at broke (subst (λ (o : Option Content). IfSome o (λ c. ShowsLeft target query c broke)) h.is r)
