-- Tests with the changes made, and what one list of them behind another costs and answers.
use Rattle.std.proofs.Common.{◌≡◌, ◌≤◌, ◌<◌, ◌+◌, ◌-◌, ℕ, suc, Bool, true, false, cond, not, ◌&&◌, ◌||◌, List, [], ◌∷◌, ◌++◌, length, take, drop, get_or, filter, min, position, Option, None, Some, refl, sym, ap, subst, ◌∙◌, arith}
use Rattle.std.specs.Prelude.{IfSome, is_none, is_some, option_map, unwrap_or, nat_lt, ◌==◌}
use Rattle.std.specs.FinMap.{get}
use Rattle.std.specs.List.{AllByRecursion, count_by, sum_by}
use Rattle.std.proofs.lemmas.Bool.{ltb-false}
use Rattle.std.proofs.lemmas.List.{length-append, length-drop, length_push, length-take-le, take_all}
use Rattle.std.proofs.lemmas.List.Quantifiers.{position-Some}
use Rattle.std.proofs.lemmas.List.Sums.{sum_by-cons, sum_by-append, sum_by_push}
use Rattle.pq_content.specs.Pairs.{Change, changed_content}
use Rattle.pq_calls.specs.World.{Affords}
use Rattle.pq_calls.proofs.Steps.{rest_left}
use Rattle.pq_store.specs.Content.{Content}
use Rattle.pq_store.specs.Rounds.{test_entries, is_held}
use Rattle.pq_store.specs.declared.store.Ends.{Ends}
use Rattle.pq_store.specs.declared.store.Test.{Test}
use Rattle.pq_store.specs.declared.store.Test.TheVariants.{Has, Lacks, Full}
use Rattle.pq_pending.specs.Calls.{Uses, seen_world}
use Rattle.pq_pending.specs.Pending.{changed_value, value_or, AreDistinct, seen_content, removals_within, puts_within}
use Rattle.pq_pending.specs.Tests.{is_crowded, is_asked, stops, asked_place, seen_entries, GoOn, AreCountable, held_rounds}
use Rattle.pq_pending.specs.declared.calls.PendingCalls.{PendingCalls}
use Rattle.pq_pending.proofs.Contents.{get_changed}
use Rattle.pq_pending.proofs.Counts.{uncounted}
use Rattle.pq_pending.proofs.Firsts.{or_behind, place_is, position_append, position_none, position_front, IsDecided, position_asked, among_within, cut}
use Rattle.pq_pending.proofs.Steps.{uses_then, uses_within}

-- ---- what changes make of one test

abbrev no_bool : Option Bool
no_bool = None

module _ (changes : List Change) (apart : AreDistinct changes) (content : Content) where
  abbrev changed : Content
  changed = changed_content changes content

  value_is : (key : List ℕ) (given : Option (Option (List ℕ))) → changed_value changes key ≡ given → get changed key ≡ value_or given (get content key)
  value_is key given is = get_changed changes apart content key ∙ ap (λ o. value_or o (get content key)) is

  -- the store answers it as it is
  asked_same : (test : Test) → is_asked changes test ≡ true → is_held changed test ≡ is_held content test
  asked_same (Has key) asked = by (changed_value changes key) refl asked
    where
      by : (given : Option (Option (List ℕ))) → changed_value changes key ≡ given → (not false && is_none (option_map is_some given)) ≡ true → is_some (get changed key) ≡ is_some (get content key)
      by None is e = ap is_some (value_is key None is)
      by (Some new) is e = absurd (cc)
  asked_same (Lacks key) asked = by (changed_value changes key) refl asked
    where
      by : (given : Option (Option (List ℕ))) → changed_value changes key ≡ given → (not false && is_none (option_map is_none given)) ≡ true → is_none (get changed key) ≡ is_none (get content key)
      by None is e = ap is_none (value_is key None is)
      by (Some new) is e = absurd (cc)
  asked_same (Full ends n) asked =
      let low = ends.low in
      let high = ends.high in
      let none : removals_within low high changes + puts_within low high changes ≤ 0 = ltb-false 0 (removals_within low high changes + puts_within low high changes) (empty (nat_lt 0 (removals_within low high changes + puts_within low high changes)) asked) in
      ap (λ k. min n k == n) (uncounted low high changes apart content (omega arith) (omega arith))
    where
      empty : (b : Bool) → (not b && is_none (no_bool)) ≡ true → b ≡ false
      empty true e = absurd (cc)
      empty false e = refl

  -- it isn't asked, and doesn't hold
  passed_over : (test : Test) → stops changes test ≡ false → is_asked changes test ≡ false → is_held changed test ≡ false
  passed_over (Has key) on other = by (changed_value changes key) refl on other
    where
      by : (given : Option (Option (List ℕ))) → changed_value changes key ≡ given → (false || unwrap_or (option_map is_some given) false) ≡ false → (not false && is_none (option_map is_some given)) ≡ false → is_some (get changed key) ≡ false
      by None is e o = absurd (cc)
      by (Some new) is e o = ap is_some (value_is key (Some new) is) ∙ e
  passed_over (Lacks key) on other = by (changed_value changes key) refl on other
    where
      by : (given : Option (Option (List ℕ))) → changed_value changes key ≡ given → (false || unwrap_or (option_map is_none given) false) ≡ false → (not false && is_none (option_map is_none given)) ≡ false → is_none (get changed key) ≡ false
      by None is e o = absurd (cc)
      by (Some new) is e o = ap is_none (value_is key (Some new) is) ∙ e
  passed_over (Full ends n) on other = absurd (by (nat_lt 0 (removals_within ends.low ends.high changes + puts_within ends.low ends.high changes)) on other)
    where
      by : (b : Bool) → (b || unwrap_or no_bool false) ≡ false → (not b && is_none (no_bool)) ≡ false → ⊥
      by true e o = cc
      by false e o = cc

  -- a change makes it hold
  settled : (test : Test) → stops changes test ≡ true → is_crowded changes test ≡ false → is_held changed test ≡ true
  settled (Has key) on free = by (changed_value changes key) refl on
    where
      by : (given : Option (Option (List ℕ))) → changed_value changes key ≡ given → (false || unwrap_or (option_map is_some given) false) ≡ true → is_some (get changed key) ≡ true
      by None is e = absurd (cc)
      by (Some new) is e = ap is_some (value_is key (Some new) is) ∙ e
  settled (Lacks key) on free = by (changed_value changes key) refl on
    where
      by : (given : Option (Option (List ℕ))) → changed_value changes key ≡ given → (false || unwrap_or (option_map is_none given) false) ≡ true → is_none (get changed key) ≡ true
      by None is e = absurd (cc)
      by (Some new) is e = ap is_none (value_is key (Some new) is) ∙ e
  settled (Full ends n) on free = absurd (by (nat_lt 0 (removals_within ends.low ends.high changes + puts_within ends.low ends.high changes)) on free)
    where
      by : (b : Bool) → (b || unwrap_or no_bool false) ≡ true → b ≡ false → ⊥
      by true e o = cc
      by false e o = cc

  decided : (tests : List Test) → GoOn changes tests → AllByRecursion (IsDecided (is_held changed) (is_held content) (is_asked changes)) tests
  decided [] on = tt
  decided (test ∷ tests) on = ((asked_same test, passed_over test on.0), decided tests on.1)

-- ---- a test of a range

pub crowded_is : (changes : List Change) (test : Test) (ends : Ends) (n : ℕ) (low high : List ℕ) (b : Bool) → test ≡ Full ends n → low ≡ ends.low → high ≡ ends.high → b ≡ nat_lt 0 (removals_within low high changes + puts_within low high changes) → b ≡ is_crowded changes test
crowded_is changes test ends n low high b is first last crowded =
    crowded
    ∙ ap (λ l. nat_lt 0 (removals_within l high changes + puts_within l high changes)) first
    ∙ ap (λ h. nat_lt 0 (removals_within ends.low h changes + puts_within ends.low h changes)) last
    ∙ ap (is_crowded changes) (sym is)

pub entries_are : (changes : List Change) (test : Test) (ends : Ends) (n : ℕ) (low high : List ℕ) → test ≡ Full ends n → low ≡ ends.low → high ≡ ends.high → n + removals_within low high changes ≡ seen_entries changes test
entries_are changes test ends n low high is first last =
    ap (λ l. n + removals_within l high changes) first ∙ ap (λ h. n + removals_within ends.low h changes) last ∙ ap (seen_entries changes) (sym is)

-- ---- tests that don't stop

-- the first of those that are asked tells the first of all
pub front_answer : (changes : List Change) → AreDistinct changes → (told : Option Content) (tests asked : List Test) (at found : Option ℕ) → GoOn changes tests → asked ≡ filter (is_asked changes) tests
    → IfSome told (λ c. found ≡ position (is_held c) asked) → at ≡ option_map (asked_place changes tests) found → IfSome (seen_content changes told) (λ c. at ≡ position (is_held c) tests)
front_answer changes apart None tests asked at found on are is placed = tt
front_answer changes apart (Some content) tests asked at found on are is placed =
    placed
    ∙ ap (option_map (asked_place changes tests)) (is ∙ ap (position (is_held content)) are)
    ∙ sym (position_asked (is_held (changed_content changes content)) (is_held content) (is_asked changes) tests (decided changes apart content tests on))

pub front_within : (changes : List Change) (tests asked : List Test) (at found : Option ℕ) → asked ≡ filter (is_asked changes) tests → IfSome found (λ i. i < length asked) → at ≡ option_map (asked_place changes tests) found → IfSome at (λ i. i < length tests)
front_within changes tests asked at found are inside placed = subst (λ o. IfSome o (λ i. i < length tests)) (sym placed) (by found inside)
  where
    by : (o : Option ℕ) → IfSome o (λ i. i < length asked) → IfSome (option_map (asked_place changes tests) o) (λ i. i < length tests)
    by None h = tt
    by (Some k) h = among_within (is_asked changes) tests k (subst (λ l. k < length l) are h)

-- where none is asked, none holds
pub none_asked : (changes : List Change) → AreDistinct changes → (told : Option Content) (tests asked : List Test) → GoOn changes tests → asked ≡ filter (is_asked changes) tests → asked ≡ [] → IfSome (seen_content changes told) (λ c. None ≡ position (is_held c) tests)
none_asked changes apart told tests asked on are none = front_answer changes apart told tests asked None None on are (nothing told) refl
  where
    nothing : (o : Option Content) → IfSome o (λ c. None ≡ position (is_held c) asked)
    nothing None = tt
    nothing (Some c) = sym (ap (position (is_held c)) none)

-- ---- what they cost

no_more : (changes : List Change) (test : Test) → test_entries test ≤ seen_entries changes test
no_more changes (Has key) = omega arith
no_more changes (Lacks key) = omega arith
no_more changes (Full ends n) = omega arith

fewer : (changes : List Change) (tests : List Test) → (length (filter (is_asked changes) tests) ≤ length tests) × (sum_by test_entries (filter (is_asked changes) tests) ≤ sum_by (seen_entries changes) tests)
fewer changes [] = (omega arith, omega arith)
fewer changes (test ∷ tests) =
    let rest = fewer changes tests in
    elim (is_asked changes test) as (λ b. (length (cond b (test ∷ filter (is_asked changes) tests) (filter (is_asked changes) tests)) ≤ length (test ∷ tests)) × (sum_by test_entries (cond b (test ∷ filter (is_asked changes) tests) (filter (is_asked changes) tests)) ≤ sum_by (seen_entries changes) (test ∷ tests))) [
      | true ↦ (omega (arith, rest.0), omega (arith, rest.1, no_more changes test, sum_by-cons test_entries test (filter (is_asked changes) tests), sum_by-cons (seen_entries changes) test tests))
      | false ↦ (omega (arith, rest.0), omega (arith, rest.1, sum_by-cons (seen_entries changes) test tests))
    ]

pub asked_share : {S L : Type 0} (a : PendingCalls S L) (tests asked : List Test) → asked ≡ filter (is_asked a.pending.now.changes) tests → Affords a.allowance.now (length tests) (sum_by (seen_entries a.pending.now.changes) tests) → Affords a.allowance.now (length asked) (sum_by test_entries asked)
asked_share a tests asked are left =
    let few = fewer a.pending.now.changes tests in
    let ops = left.ops_left in
    let entries = left.entries_left in
    subst (λ l. Affords a.allowance.now (length l) (sum_by test_entries l)) (sym are) record { ops_left = omega (arith, few.0, ops); entries_left = omega (arith, few.1, entries) }

abbrev one_if : Bool → ℕ
one_if b = cond b 1 0

-- two rounds more than those of the rest
pub rounds_both : (changes : List Change) (front rest tests : List Test) (stop : Test) → (front ++ stop ∷ []) ++ rest ≡ tests → is_crowded changes stop ≡ true → held_rounds changes rest + 2 ≤ held_rounds changes tests
rounds_both changes front rest tests stop whole crowded =
    let f : Test → ℕ = λ test. one_if (is_crowded changes test) in
    let one : f stop ≡ 1 = ap one_if crowded in
    let sum : count_by (is_crowded changes) tests ≡ count_by (is_crowded changes) ((front ++ stop ∷ []) ++ rest) = ap (count_by (is_crowded changes)) (sym whole) in
    let parts = sum_by-append f (front ++ stop ∷ []) rest in
    let last = sum_by_push f front stop in
    omega (arith, one, sum, parts, last)

module _ {S L : Type 0} (content : S → Option Content) (faults : S → ℕ) where
  pub asked_uses : (a b : PendingCalls S L) (tests asked : List Test) → asked ≡ filter (is_asked a.pending.now.changes) tests → Uses content faults a b (length asked) (sum_by test_entries asked) → Uses content faults a b (length tests) (sum_by (seen_entries a.pending.now.changes) tests)
  asked_uses a b tests asked are r =
      let few = fewer a.pending.now.changes tests in
      uses_within content faults a b _ _ _ _ (subst (λ l. Uses content faults a b (length l) (sum_by test_entries l)) are r) few.0 few.1

  -- what is pending stays
  pub same_changes : (a b : PendingCalls S L) (o e : ℕ) → Uses content faults a b o e → b.pending.now.changes ≡ a.pending.now.changes
  same_changes a b o e r = λ i. (r.same_pending i).now.changes

  -- ---- one list of tests behind another

  module _ (a b : PendingCalls S L) (front rest : List Test) (r : Uses content faults a b (length front) (sum_by (seen_entries a.pending.now.changes) front)) where
    abbrev entries : List Change → List Test → ℕ
    entries changes tests = sum_by (seen_entries changes) tests

    abbrev same : b.pending.now.changes ≡ a.pending.now.changes
    same = same_changes a b _ _ r

    pub rest_share : Affords a.allowance.now (length (front ++ rest)) (entries a.pending.now.changes (front ++ rest)) → Affords b.allowance.now (length rest) (entries b.pending.now.changes rest)
    rest_share left =
        let long = length-append front rest in
        let sum = sum_by-append (seen_entries a.pending.now.changes) front rest in
        subst (λ (cs : List Change). Affords b.allowance.now (length rest) (entries cs rest)) (sym same)
        (rest_left (seen_world content faults a) (seen_world content faults b) _ _ _ _ _ _ r.reads left (omega (arith, long)) (omega (arith, sum)))

    pub uses_both : (c : PendingCalls S L) → Uses content faults b c (length rest) (entries b.pending.now.changes rest) → Uses content faults a c (length (front ++ rest)) (entries a.pending.now.changes (front ++ rest))
    uses_both c s =
        let long = length-append front rest in
        let sum = sum_by-append (seen_entries a.pending.now.changes) front rest in
        uses_then content faults a b c _ _ _ _ _ _ r (subst (λ (cs : List Change). Uses content faults b c (length rest) (entries cs rest)) same s) (omega (arith, long)) (omega (arith, sum))

  -- the same of a list that is known as a whole
  pub whole_share : (a b : PendingCalls S L) (front rest tests : List Test) → front ++ rest ≡ tests → Uses content faults a b (length front) (sum_by (seen_entries a.pending.now.changes) front) → Affords a.allowance.now (length tests) (sum_by (seen_entries a.pending.now.changes) tests)
      → Affords b.allowance.now (length rest) (sum_by (seen_entries b.pending.now.changes) rest)
  whole_share a b front rest tests whole r left =
      rest_share a b front rest r (subst (λ ts. Affords a.allowance.now (length ts) (sum_by (seen_entries a.pending.now.changes) ts)) (sym whole) left)

  pub whole_uses : (a b c : PendingCalls S L) (front rest tests : List Test) → front ++ rest ≡ tests → Uses content faults a b (length front) (sum_by (seen_entries a.pending.now.changes) front) → Uses content faults b c (length rest) (sum_by (seen_entries b.pending.now.changes) rest)
      → Uses content faults a c (length tests) (sum_by (seen_entries a.pending.now.changes) tests)
  whole_uses a b c front rest tests whole r s =
      subst (λ ts. Uses content faults a c (length ts) (sum_by (seen_entries a.pending.now.changes) ts)) whole (uses_both a b front rest r c s)

  pub whole_rounds : (a b : PendingCalls S L) (o e : ℕ) → Uses content faults a b o e → (front rest tests : List Test) (stop : Test) → (front ++ stop ∷ []) ++ rest ≡ tests → is_crowded a.pending.now.changes stop ≡ true
      → (before between after : ℕ) → between ≤ before + 2 → after ≤ between + held_rounds b.pending.now.changes rest → after ≤ before + held_rounds a.pending.now.changes tests
  whole_rounds a b o e r front rest tests stop whole crowded before between after first second =
      let both = rounds_both a.pending.now.changes front rest tests stop whole crowded in
      let same : held_rounds b.pending.now.changes rest ≡ held_rounds a.pending.now.changes rest = ap (λ cs. held_rounds cs rest) (same_changes a b o e r) in
      omega (arith, both, same, first, second)

-- ---- what is found in a list of two parts

-- the first that holds is in the front
pub found_front : (told : Option Content) (front rest tests : List Test) → front ++ rest ≡ tests → (at : Option ℕ) (i : ℕ) → at ≡ Some i → IfSome told (λ c. at ≡ position (is_held c) front) → IfSome told (λ c. Some i ≡ position (is_held c) tests)
found_front None front rest tests whole at i is found = tt
found_front (Some c) front rest tests whole at i is found =
    sym (ap (position (is_held c)) (sym whole) ∙ position_append (is_held c) front rest ∙ ap (λ o. or_behind (length front) o (position (is_held c) rest)) (sym found ∙ is))

-- or behind it
pub found_rest : (told later : Option Content) (front rest tests : List Test) → front ++ rest ≡ tests → later ≡ told → (before at next : Option ℕ) (n : ℕ) → n ≡ length front → before ≡ None → IfSome told (λ c. before ≡ position (is_held c) front) → IfSome later (λ c. next ≡ position (is_held c) rest)
    → at ≡ option_map (λ i. n + i) next → IfSome told (λ c. at ≡ position (is_held c) tests)
found_rest told later front rest tests whole same before at next n counted none found next_is is = by told found (subst (λ (o : Option Content). IfSome o (λ c. next ≡ position (is_held c) rest)) same next_is)
  where
    by : (o : Option Content) → IfSome o (λ c. before ≡ position (is_held c) front) → IfSome o (λ c. next ≡ position (is_held c) rest) → IfSome o (λ c. at ≡ position (is_held c) tests)
    by None f n' = tt
    by (Some c) f n' =
        is
        ∙ ap (λ k. option_map (λ i. k + i) next) counted
        ∙ ap (option_map (λ i. length front + i)) n'
        ∙ ap (λ o. or_behind (length front) o (position (is_held c) rest)) (sym none ∙ f)
        ∙ sym (position_append (is_held c) front rest)
        ∙ ap (position (is_held c)) whole

-- a test that holds behind some that don't
pub found_stop : (told later : Option Content) (front : List Test) (stop : Test) → later ≡ told → (before : Option ℕ) (held : Bool) (n : ℕ) → n ≡ length front → before ≡ None → IfSome told (λ c. before ≡ position (is_held c) front) → IfSome later (λ c. held ≡ is_held c stop) → held ≡ true
    → IfSome told (λ c. Some n ≡ position (is_held c) (front ++ stop ∷ []))
found_stop told later front stop same before held n counted none found is holds = by told found (subst (λ (o : Option Content). IfSome o (λ c. held ≡ is_held c stop)) same is)
  where
    by : (o : Option Content) → IfSome o (λ c. before ≡ position (is_held c) front) → IfSome o (λ c. held ≡ is_held c stop) → IfSome o (λ c. Some n ≡ position (is_held c) (front ++ stop ∷ []))
    by None f h = tt
    by (Some c) f h =
        let last : position (is_held c) (stop ∷ []) ≡ Some 0 = place_is (is_held c) (stop ∷ []) ∙ ap (λ b. cond b (Some 0) (option_map suc None)) (sym h ∙ holds) in
        ap Some counted
        ∙ ap Some (plus_zero (length front))
        ∙ ap (option_map (λ i. length front + i)) (sym last)
        ∙ ap (λ o. or_behind (length front) o (position (is_held c) (stop ∷ []))) (sym none ∙ f)
        ∙ sym (position_append (is_held c) front (stop ∷ []))
      where
        plus_zero : (k : ℕ) → k ≡ k + 0
        plus_zero k = omega arith

-- a test that a change makes hold, behind some that may
pub found_settled : (changes : List Change) → AreDistinct changes → (told : Option Content) (tests : List Test) (i : ℕ) (stop : Test) → position (stops changes) tests ≡ Some i → stop ≡ get_or tests i stop → is_crowded changes stop ≡ false
    → (before : Option ℕ) (n : ℕ) → n ≡ unwrap_or before i → IfSome (seen_content changes told) (λ c. before ≡ position (is_held c) (take i tests)) → IfSome (seen_content changes told) (λ c. Some n ≡ position (is_held c) tests)
found_settled changes apart None tests i stop first at free before n is found = tt
found_settled changes apart (Some content) tests i stop first at free before n is found =
    let c = changed_content changes content in
    let parts = position-Some (stops changes) tests i stop first in
    let long : length (take i tests) ≡ i = length-take-le i tests (omega (arith, parts.0)) in
    let whole : (take i tests ++ stop ∷ []) ++ drop (i + 1) tests ≡ tests = cut tests i stop parts.0 at in
    let holds : is_held c stop ≡ true = settled changes apart content stop (ap (stops changes) at ∙ parts.1) free in
    let last : position (is_held c) (stop ∷ []) ≡ Some 0 = place_is (is_held c) (stop ∷ []) ∙ ap (λ b. cond b (Some 0) (option_map suc None)) holds in
    let one : position (is_held c) (take i tests ++ stop ∷ []) ≡ or_behind i before (Some 0) =
    position_append (is_held c) (take i tests) (stop ∷ [])
    ∙ ap (λ k. or_behind k (position (is_held c) (take i tests)) (position (is_held c) (stop ∷ []))) long
    ∙ ap (or_behind i (position (is_held c) (take i tests))) last
    ∙ ap (λ o. or_behind i o (Some 0)) (sym found) in
    by before is one whole
  where
    by : (o : Option ℕ) → n ≡ unwrap_or o i → position (is_held (changed_content changes content)) (take i tests ++ stop ∷ []) ≡ or_behind i o (Some 0) → (take i tests ++ stop ∷ []) ++ drop (i + 1) tests ≡ tests → Some n ≡ position (is_held (changed_content changes content)) tests
    by None e one whole =
        let same : n ≡ i + 0 = e ∙ omega arith in
        sym (ap (position (is_held (changed_content changes content))) (sym whole) ∙ position_append (is_held (changed_content changes content)) (take i tests ++ stop ∷ []) (drop (i + 1) tests) ∙ ap (λ o. or_behind (length (take i tests ++ stop ∷ [])) o (position (is_held (changed_content changes content)) (drop (i + 1) tests))) one ∙ ap Some (sym same))
    by (Some k) e one whole =
        sym (ap (position (is_held (changed_content changes content))) (sym whole) ∙ position_append (is_held (changed_content changes content)) (take i tests ++ stop ∷ []) (drop (i + 1) tests) ∙ ap (λ o. or_behind (length (take i tests ++ stop ∷ [])) o (position (is_held (changed_content changes content)) (drop (i + 1) tests))) one ∙ ap Some (sym e))

-- ---- the tests up to one that stops, and those behind it

pub front_goes_on : (changes : List Change) (tests : List Test) (i : ℕ) (found : Option ℕ) → found ≡ position (stops changes) tests → found ≡ Some i → GoOn changes (take i tests)
front_goes_on changes tests i found first is = position_front (stops changes) tests i (sym first ∙ is)

pub all_go_on : (changes : List Change) (tests : List Test) (found : Option ℕ) → found ≡ position (stops changes) tests → found ≡ None → GoOn changes tests
all_go_on changes tests found first none = position_none (stops changes) tests (sym first ∙ none)

pub stop_inside : (changes : List Change) (tests : List Test) (i : ℕ) (found : Option ℕ) (stop : Test) → found ≡ position (stops changes) tests → found ≡ Some i → i < length tests
stop_inside changes tests i found stop first is = (position-Some (stops changes) tests i stop (sym first ∙ is)).0

-- what stands behind a place
abbrev pub rest_of : List Test → ℕ → List Test
rest_of tests i = take (length tests - (i + 1)) (drop (i + 1) tests)

pub cut_stop : (changes : List Change) (tests : List Test) (i : ℕ) (found : Option ℕ) (stop : Test) → found ≡ position (stops changes) tests → found ≡ Some i → stop ≡ get_or tests i stop → (take i tests ++ stop ∷ []) ++ rest_of tests i ≡ tests
cut_stop changes tests i found stop first is at =
    ap (λ l. (take i tests ++ stop ∷ []) ++ l) (take_all (length tests - (i + 1)) (drop (i + 1) tests) (omega (arith, length-drop (i + 1) tests)))
    ∙ cut tests i stop (stop_inside changes tests i found stop first is) at

pub rest_shorter : (tests : List Test) (i : ℕ) → i < length tests → length (rest_of tests i) < length tests
rest_shorter tests i less =
    let whole : rest_of tests i ≡ drop (i + 1) tests = take_all (length tests - (i + 1)) (drop (i + 1) tests) (omega (arith, length-drop (i + 1) tests)) in
    omega (arith, ap length whole, length-drop (i + 1) tests, less)

pub stop_length : (tests : List Test) (i : ℕ) (stop : Test) → i < length tests → i + 1 ≡ length (take i tests ++ stop ∷ [])
stop_length tests i stop less = omega (arith, length_push (take i tests) stop, length-take-le i tests (omega (arith, less)))

pub countable_rest : (changes : List Change) (front rest : List Test) → AreCountable changes (front ++ rest) → AreCountable changes rest
countable_rest changes [] rest few = few
countable_rest changes (test ∷ front) rest few = countable_rest changes front rest few.1
