-- A build's calls, one after the other, over contents that may not be told.
use Rattle.std.proofs.Common.{◌≡◌, ℕ, ◌≤◌, ◌<◌, Bool, false, List, length, take, Option, Some, None, refl, sym, ap, ◌∙◌, subst, arith, lit≤, min, ◌⊎◌, inl, inr}
use Rattle.std.specs.Prelude.{IfSome, is_none}
use Rattle.std.specs.Option.{option_map}
use Rattle.std.specs.FinMap.{get, insert}
use Rattle.std.proofs.lemmas.Bool.{false≢true}
use Rattle.std.proofs.lemmas.Option.{none-some}
use Rattle.std.proofs.lemmas.List.{take_all}
use Rattle.pq_store.specs.Content.{admits, Content, written_content, pairs_within}
use Rattle.pq_store.specs.declared.store.Guard.TheVariants.{Absent}
use Rattle.pq_store.specs.declared.damage.Broke.{Broke}
use Rattle.pq_store.specs.declared.damage.Broke.TheVariants.{Failed, NoMem, Damaged}
use Rattle.pq_store.specs.Counts.{Counts}
use Rattle.pq_store.specs.Breaks.{IfDamaged, IsPresent}
use Rattle.pq_content.specs.Pairs.{Pair, is_of_rows}
use Rattle.pq_intent.specs.Changing.{MayChange}
use Rattle.pq_builds.specs.declared.target.NewQuery.{NewQuery}
use Rattle.pq_builds.specs.declared.target.Target.{Target}
use Rattle.pq_builds.specs.Filling.{target_shape, first_key, past_key, row_pairs_in, Enters, EntersSome, IsNoRowAmong}
use Rattle.pq_builds.specs.Stages.{ready_value, building_value, marked_content, IsReady, StopsFilling, IsMarked, IsBuilt, StopsBuilding, ShowsBuild, IsCounted, Takes, IsWithinBuild, left_ops}
use Rattle.pq_builds.proofs.Entering.{some_none}
use Rattle.pq_builds.proofs.Ranges.{range_insert, no_row_key}

-- the rows' pairs after a write in the catalog's space
pub rows_marked : (t : ℕ) (query : NewQuery) (c : Content) → is_of_rows query.key ≡ false → row_pairs_in t (marked_content query c) ≡ row_pairs_in t c
rows_marked t query c key = range_insert 2 c (first_key t) (past_key t) query.key (building_value query) refl refl (no_row_key query.key key)

-- ---- the mark

pub taken : (query : NewQuery) (key at : List ℕ) (done : Bool) (old : Option Content) → key ≡ query.key → at ≡ key → done ≡ false → IfSome old (λ c. done ≡ admits Absent (get c at)) → IfSome old (λ c. IfDamaged (IsPresent query.key c) (Damaged (record { key = key; value = None })))
taken query key at done None key_is at_is fails answer = tt
taken query key at done (Some c) key_is at_is fails answer =
    elim (get c at) as (λ o. get c at ≡ o → false ≡ is_none o → IsPresent query.key c (record { key = key; value = None })) [
      | None ↦ λ _ h. absurd (false≢true h)
      | Some v ↦ λ is _. record { at = key_is; has = refl; value = v; there = ap (get c) (sym (at_is ∙ key_is)) ∙ is }
    ] refl (sym fails ∙ answer)

-- ---- from the mark on

all_some : (target : Target) (ps : List Pair) (c : Content) (now : Option Content) → Enters target ps c now → EntersSome target ps c now
all_some target ps c now e =
    let all : take (length ps) ps ≡ ps = take_all (length ps) ps (omega arith) in
    record { many = length ps; enters = subst (λ (l : List Pair). Enters target l c now) (sym all) e }

ready_of : (target : Target) (query : NewQuery) (value : List ℕ) (c : Content) (mid now : Option Content) → value ≡ ready_value query → Enters target (row_pairs_in target.table c) c mid → now ≡ option_map (written_content query.key (Some value)) mid → IsReady target query c now
ready_of target query value c None now value_is e made = absurd (none-some _ e.is)
ready_of target query value c (Some d) now value_is e made = record { filled = d; enters = e; is = made ∙ ap (λ (v : List ℕ). Some (insert d query.key v)) value_is }

pub ready : (target : Target) (query : NewQuery) (value : List ℕ) (n : ℕ) (old mid now : Option Content) → value ≡ ready_value query
    → IfSome old (λ c. length (row_pairs_in target.table c) ≡ n → Enters target (row_pairs_in target.table c) c mid) → now ≡ option_map (written_content query.key (Some value)) mid
    → IfSome old (λ c. length (row_pairs_in target.table c) ≡ n → IsReady target query c now)
ready target query value n None mid now value_is e made = tt
ready target query value n (Some c) mid now value_is e made = λ many. ready_of target query value c mid now value_is (e many) made

pub may_ready : (target : Target) (query : NewQuery) (value : List ℕ) (n : ℕ) (old mid now : Option Content) → value ≡ ready_value query
    → IfSome old (λ c. length (row_pairs_in target.table c) ≡ n → Enters target (row_pairs_in target.table c) c mid) → MayChange (query.key, Some value) mid now
    → IfSome old (λ c. length (row_pairs_in target.table c) ≡ n → StopsFilling target query c now)
may_ready target query value n None mid now value_is e made = tt
may_ready target query value n (Some c) mid now value_is e (inl same) = λ many. inl (all_some target (row_pairs_in target.table c) c now (subst (λ (o : Option Content). Enters target (row_pairs_in target.table c) c o) (sym same) (e many)))
may_ready target query value n (Some c) mid now value_is e (inr made) = λ many. inr (ready_of target query value c mid now value_is (e many) made)

-- ---- the mark, and all that comes then

module _ (target : Target) (query : NewQuery) (key : is_of_rows query.key ≡ false) (n : ℕ) where
  pub built : (old mid now : Option Content) → IfSome old (λ c. IsMarked query c mid) → IfSome mid (λ c. length (row_pairs_in target.table c) ≡ n → IsReady target query c now)
      → IfSome old (λ c. length (row_pairs_in target.table c) ≡ n → IsBuilt target query c now)
  built None mid now m r = tt
  built (Some c) mid now m r = λ many.
      let r' : length (row_pairs_in target.table (marked_content query c)) ≡ n → IsReady target query (marked_content query c) now = subst (λ (o : Option Content). IfSome o (λ c. length (row_pairs_in target.table c) ≡ n → IsReady target query c now)) m.is r in
      record { absent = m.absent; ready = r' (ap (λ (l : List Pair). length l) (rows_marked target.table query c key) ∙ many) }

  pub stops_marked : n ≤ 1000000 → (old now : Option Content) → IfSome old (λ c. (now ≡ Some c) ⊎ IsMarked query c now) → IfSome old (λ c. length (row_pairs_in target.table c) ≡ n → StopsBuilding target query c now)
  stops_marked few None now m = tt
  stops_marked few (Some c) now (inl same) = λ _. inl same
  stops_marked few (Some c) now (inr m) = λ many.
      inr (record { absent = m.absent; few = omega arith; stops = inl (some_none target (row_pairs_in target.table (marked_content query c)) (Some (marked_content query c)) now m.is) })

  pub stops_built : n ≤ 1000000 → (old mid now : Option Content) → IfSome old (λ c. IsMarked query c mid) → IfSome mid (λ c. length (row_pairs_in target.table c) ≡ n → StopsFilling target query c now)
      → IfSome old (λ c. length (row_pairs_in target.table c) ≡ n → StopsBuilding target query c now)
  stops_built few None mid now m r = tt
  stops_built few (Some c) mid now m r = λ many.
      let r' : length (row_pairs_in target.table (marked_content query c)) ≡ n → StopsFilling target query (marked_content query c) now = subst (λ (o : Option Content). IfSome o (λ c. length (row_pairs_in target.table c) ≡ n → StopsFilling target query c now)) m.is r in
      inr (record { absent = m.absent; few = omega arith; stops = r' (ap (λ (l : List Pair). length l) (rows_marked target.table query c key) ∙ many) })

  pub shows_taken : (old : Option Content) (broke : Broke) → IfSome old (λ c. IfDamaged (IsPresent query.key c) broke) → IfSome old (λ c. length (row_pairs_in target.table c) ≡ n → ShowsBuild target query c broke)
  shows_taken None broke h = tt
  shows_taken (Some c) Failed h = λ _. tt
  shows_taken (Some c) NoMem h = λ _. tt
  shows_taken (Some c) (Damaged damage) h = λ _. inl h

  pub shows_built : (old mid : Option Content) (broke : Broke) → IfSome old (λ c. IsMarked query c mid) → IfSome mid (λ c. length (row_pairs_in target.table c) ≡ n → IfDamaged (IsNoRowAmong (target_shape target) (row_pairs_in target.table c)) broke)
      → IfSome old (λ c. length (row_pairs_in target.table c) ≡ n → ShowsBuild target query c broke)
  shows_built None mid broke m r = tt
  shows_built (Some c) mid Failed m r = λ _. tt
  shows_built (Some c) mid NoMem m r = λ _. tt
  shows_built (Some c) mid (Damaged damage) m r = λ many.
      let same : row_pairs_in target.table (marked_content query c) ≡ row_pairs_in target.table c = rows_marked target.table query c key in
      let r' : length (row_pairs_in target.table (marked_content query c)) ≡ n → IsNoRowAmong (target_shape target) (row_pairs_in target.table (marked_content query c)) damage = subst (λ (o : Option Content). IfSome o (λ c. length (row_pairs_in target.table c) ≡ n → IfDamaged (IsNoRowAmong (target_shape target) (row_pairs_in target.table c)) (Damaged damage))) m.is r in
      inr (subst (λ (l : List Pair). IsNoRowAmong (target_shape target) l damage) same (r' (ap (λ (l : List Pair). length l) same ∙ many)))

-- ---- the count

pub counted_none : (t n : ℕ) (low high : List ℕ) (old : Option Content) → low ≡ first_key t → high ≡ past_key t → 1000000 < n → IfSome old (λ c. n ≡ min 1000001 (length (pairs_within c low high))) → IfSome old (λ c. IsCounted (length (row_pairs_in t c)) None)
counted_none t n low high None low_is high_is many answer = tt
counted_none t n low high (Some c) low_is high_is many answer =
    let same : length (pairs_within c low high) ≡ length (row_pairs_in t c) = (λ i. length (pairs_within c (low_is i) (high_is i))) in
    omega arith

pub counted_some : (t n : ℕ) (low high : List ℕ) (old : Option Content) → low ≡ first_key t → high ≡ past_key t → n ≤ 1000000 → IfSome old (λ c. n ≡ min 1000001 (length (pairs_within c low high))) → IfSome old (λ c. IsCounted (length (row_pairs_in t c)) (Some n))
counted_some t n low high None low_is high_is few answer = tt
counted_some t n low high (Some c) low_is high_is few answer =
    let same : length (pairs_within c low high) ≡ length (row_pairs_in t c) = (λ i. length (pairs_within c (low_is i) (high_is i))) in
    omega arith

-- the count alone is within a completion
pub within_left : (before after : Counts) → Takes 1 1000001 before after → IsWithinBuild left_ops before after
within_left before after t =
    let ops = t.ops_are in
    let entries = t.entries_are in
    record { count = 1000000; few = lit≤ tt; ops = omega arith; entries = omega arith }
