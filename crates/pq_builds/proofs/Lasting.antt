-- What shows damage in a build shows it still where the build stopped.
use Rattle.std.proofs.Common.{◌≡◌, ℕ, false, inl, inr, List, take, Option, Some, None, refl, sym, ◌∙◌, subst}
use Rattle.std.specs.Prelude.{IfSome}
use Rattle.std.specs.FinMap.{insert}
use Rattle.std.proofs.lemmas.Option.{none-some}
use Rattle.pq_store.specs.Content.{Content}
use Rattle.pq_store.specs.declared.damage.Broke.{Broke}
use Rattle.pq_store.specs.declared.damage.Broke.TheVariants.{Failed, NoMem, Damaged}
use Rattle.pq_store.specs.declared.damage.Damage.{Damage}
use Rattle.pq_content.specs.Pairs.{Pair, is_of_rows}
use Rattle.pq_intent.specs.Changing.{StaysUntold}
use Rattle.pq_builds.specs.declared.target.NewQuery.{NewQuery}
use Rattle.pq_builds.specs.declared.target.Target.{Target}
use Rattle.pq_builds.specs.Filling.{target_shape, first_key, past_key, row_pairs_in, Enters, IsNoRowAmong}
use Rattle.pq_builds.specs.Stages.{ShowsBuild, StopsBuilding, StopsFilling, building_value, marked_content, ready_value}
use Rattle.pq_builds.proofs.Entering.{range_entered}
use Rattle.pq_builds.proofs.Ranges.{range_insert, no_row_key}

module _ (target : Target) (query : NewQuery) (key : is_of_rows query.key ≡ false) where
  -- the table's rows are those of another content
  abbrev HasRowsOf : Content → Option Content → Type 0
  HasRowsOf c now = IfSome now (λ n. row_pairs_in target.table n ≡ row_pairs_in target.table c)

  put_rows : (value : List ℕ) (c : Content) → row_pairs_in target.table (insert c query.key value) ≡ row_pairs_in target.table c
  put_rows value c = range_insert 2 c (first_key target.table) (past_key target.table) query.key value refl refl (no_row_key query.key key)

  entered_same : (pairs : List Pair) (c : Content) (now : Option Content) → Enters target pairs c now → HasRowsOf c now
  entered_same pairs c now e = subst (HasRowsOf c) (sym e.is) (range_entered target e.rows c (first_key target.table) (past_key target.table) refl refl)

  filling_same : (c : Content) (now : Option Content) → StopsFilling target query c now → HasRowsOf c now
  filling_same c now (inl some) = entered_same (take some.many (row_pairs_in target.table c)) c now some.enters
  filling_same c now (inr ready) =
      subst (HasRowsOf c) (sym ready.is)
      (put_rows (ready_value query) ready.filled ∙ entered_same (row_pairs_in target.table c) c (Some ready.filled) ready.enters)

  among_still : (c : Content) (now : Option Content) (damage : Damage) → HasRowsOf (marked_content query c) now → IsNoRowAmong (target_shape target) (row_pairs_in target.table c) damage
      → IfSome now (λ n. ShowsBuild target query n (Damaged damage))
  among_still c None damage same among = tt
  among_still c (Some n) damage same among =
      inr (subst (λ (l : List Pair). IsNoRowAmong (target_shape target) l damage) (sym (same ∙ put_rows (building_value query) c)) among)

  -- a build that stopped shows what it showed: the rows are those that were there, and nothing was put over a pair
  pub shows_still : (c : Content) (now : Option Content) (broke : Broke) → StopsBuilding target query c now → ShowsBuild target query c broke
      → IfSome now (λ n. ShowsBuild target query n broke)
  shows_still c now broke (inl same) shows = subst (λ (o : Option Content). IfSome o (λ n. ShowsBuild target query n broke)) (sym same) shows
  shows_still c None Failed (inr begun) shows = tt
  shows_still c (Some n) Failed (inr begun) shows = tt
  shows_still c None NoMem (inr begun) shows = tt
  shows_still c (Some n) NoMem (inr begun) shows = tt
  shows_still c now (Damaged damage) (inr begun) (inl present) = absurd (none-some present.value (sym begun.absent ∙ present.there))
  shows_still c now (Damaged damage) (inr begun) (inr among) = among_still c now damage (filling_same (marked_content query c) now begun.stops) among

  -- the same of a content that is told or not
  pub shows_still_told : (old now : Option Content) (broke : Broke) → StaysUntold old now → IfSome old (λ c. StopsBuilding target query c now)
      → IfSome old (λ c. ShowsBuild target query c broke) → IfSome now (λ n. ShowsBuild target query n broke)
  shows_still_told None now broke untold stops shows = subst (λ (o : Option Content). IfSome o (λ n. ShowsBuild target query n broke)) (sym (untold refl)) tt
  shows_still_told (Some c) now broke untold stops shows = shows_still c now broke stops shows
