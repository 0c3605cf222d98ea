-- The values of keys, of which each part is asked for its own.
use Rattle.std.proofs.Common.{◌≡◌, ℕ, zero, suc, ◌+◌, Bool, true, false, cond, List, [], ◌∷◌, map, drop, get_or, IfSome, Option, Some, None, refl, sym, subst, ap, ◌∙◌}
use Rattle.std.specs.Prelude.{⊤}
use Rattle.std.specs.List.{AllZip}
use Rattle.std.specs.Ordering.{is_le}
use Rattle.pq_store.specs.Content.{Content, key_cmp}
use Rattle.pq_store.specs.Rounds.{IsValueOf, IsValueAnswered}
use Rattle.pq_parts.specs.Clips.{is_key_before}
use Rattle.pq_parts.specs.Spans.{Span, is_of, joined_content}
use Rattle.pq_parts.specs.Gathered.{begin_of, LinkedSpans}
use Rattle.pq_parts.specs.Gathered.LinkedSpans.{none, link}
use Rattle.pq_parts.specs.Asking.{lies, own_key, IsTold, AreAnswersPut}
use Rattle.pq_parts.proofs.Clips.{not_lt}
use Rattle.pq_parts.proofs.Joined.{has_at, answer_at}

-- none of the parts has the key
abbrev pub are_past : List Span → List ℕ → Bool
are_past [] key = true
are_past (span ∷ list) key = cond (lies span.from span.until key) false (are_past list key)

-- the value is found, unless one of the parts behind has the key
abbrev pub IsFoundBut : Option Content → List Span → Option (List ℕ) → Option (List ℕ) → Type 0
IsFoundBut told behind None found = found ≡ None
IsFoundBut told behind (Some key) found = are_past behind key ≡ true → IsTold told key found

-- some part has the key
has_some : (span : Span) (list : List Span) (key : List ℕ) → is_le (key_cmp span.from key) ≡ true → span.until ≡ begin_of list
    → ((end : List ℕ) → begin_of list ≡ Some end → is_le (key_cmp end key) ≡ true → are_past list key ≡ true → ⊥)
    → (b : Bool) → lies span.from span.until key ≡ b → cond b false (are_past list key) ≡ true → ⊥
has_some span list key here until next true is past = absurd (cc)
has_some span list key here until next false is past = ends span.until until (rw here at is)
  where
    ends : (end : Option (List ℕ)) → end ≡ begin_of list → is_key_before key end ≡ false → ⊥
    ends None begins before = absurd (cc)
    ends (Some end) begins before = next end (sym begins) (not_lt key end before) past

somewhere : (list : List Span) → LinkedSpans list → (from key : List ℕ) → begin_of list ≡ Some from → is_le (key_cmp from key) ≡ true → are_past list key ≡ true → ⊥
somewhere [] none from key begins le past = absurd (cc)
somewhere (span ∷ list) (link _ _ until ahead links) from key begins le past =
    let here : is_le (key_cmp span.from key) ≡ true = subst (λ (o : Option (List ℕ)). IfSome o (λ f. is_le (key_cmp f key) ≡ true)) (sym begins) le in
    has_some span list key here until (λ end begins le past. somewhere list links end key begins le past) (lies span.from span.until key) refl past

-- before the first part is asked
nothing_yet : (told : Option Content) (list : List Span) → LinkedSpans list → begin_of list ≡ Some [] → (keys : List (Option (List ℕ))) → AllZip (IsFoundBut told list) keys (map (λ _. None) keys)
nothing_yet told list links begins [] = tt
nothing_yet told list links begins (None ∷ keys) = (refl, nothing_yet told list links begins keys)
nothing_yet told list links begins (Some key ∷ keys) = (λ past. absurd (somewhere list links [] key begins (from_empty key) past), nothing_yet told list links begins keys)
  where
    from_empty : (key : List ℕ) → is_le (key_cmp [] key) ≡ true
    from_empty [] = refl
    from_empty (x ∷ key) = refl

pub drop_none : {A : Type 0} (list : List A) → drop 0 list ≡ list
drop_none [] = refl
drop_none (x ∷ list) = refl

pub fetch_start : (told : Option Content) (list : List Span) → LinkedSpans list → begin_of list ≡ Some [] → (keys found : List (Option (List ℕ))) → found ≡ map (λ _. None) keys → AllZip (IsFoundBut told (drop 0 list)) keys found
fetch_start told list links begins keys found is =
    subst (λ (l : List Span). AllZip (IsFoundBut told l) keys found) (sym (drop_none list))
    (subst (λ (l : List (Option (List ℕ))). AllZip (IsFoundBut told list) keys l) (sym is) (nothing_yet told list links begins keys))

-- the part at a place, where the list from there on begins with it
at_cut : (list : List Span) (at : ℕ) (span : Span) (rest : List Span) → drop at list ≡ span ∷ rest → (span ≡ get_or list at span) × ((key : List ℕ) → has_at list at key ≡ is_of span key)
at_cut [] zero span rest is = absurd (cc)
at_cut [] (suc at) span rest is = absurd (cc)
at_cut (first ∷ list) zero span rest is = let same : first ≡ span = cc in (sym same, λ key. ap (λ s. is_of s key) same)
at_cut (first ∷ list) (suc at) span rest is = at_cut list at span rest is

module _ (list : List Span) (links : LinkedSpans list) (at : ℕ) (span : Span) (cut : drop at list ≡ span ∷ drop (at + 1) list) where
  -- the part has the key
  told_here : (key : List ℕ) (value : Option (List ℕ)) → lies span.from span.until key ≡ true → IsTold span.held key value → IsTold (joined_content list) key value
  told_here key value lies told =
      let place = at_cut list at span (drop (at + 1) list) cut in
      answer_at (λ v. value ≡ v) list links at key (place.1 key ∙ lies) span place.0 told

  -- a key more
  one_more : (key : List ℕ) (keys : List (Option (List ℕ))) (x : Option (List ℕ)) (old : List (Option (List ℕ)))
      → ((new : List (Option (List ℕ))) → AreAnswersPut (IsTold span.held) (map (own_key span.from span.until) keys) old new → AllZip (IsFoundBut (joined_content list) (drop (at + 1) list)) keys new)
      → (are_past (drop at list) key ≡ true → IsTold (joined_content list) key x)
      → (b : Bool) → lies span.from span.until key ≡ b → (new : List (Option (List ℕ)))
      → AreAnswersPut (IsTold span.held) (cond b (Some key) None ∷ map (own_key span.from span.until) keys) (x ∷ old) new
      → AllZip (IsFoundBut (joined_content list) (drop (at + 1) list)) (Some key ∷ keys) new
  one_more key keys x old rest found true is [] put = absurd put
  one_more key keys x old rest found true is (y ∷ new) put = (λ past. told_here key y is put.0, rest new put.1)
  one_more key keys x old rest found false is [] put = absurd put
  one_more key keys x old rest found false is (y ∷ new) put =
      (λ past. subst (λ (v : Option (List ℕ)). IsTold (joined_content list) key v) (sym put.0) (found (ap (λ l. are_past l key) cut ∙ ap (λ b. cond b false (are_past (drop (at + 1) list) key)) is ∙ past)), rest new put.1)

  -- once this part is asked too
  pub fetch_more : (keys old new : List (Option (List ℕ))) → AreAnswersPut (IsTold span.held) (map (own_key span.from span.until) keys) old new
      → AllZip (IsFoundBut (joined_content list) (drop at list)) keys old → AllZip (IsFoundBut (joined_content list) (drop (at + 1) list)) keys new
  fetch_more [] [] [] put found = tt
  fetch_more [] [] (y ∷ new) put found = absurd put
  fetch_more [] (x ∷ old) new put found = absurd found
  fetch_more (key ∷ keys) [] new put found = absurd found
  fetch_more (None ∷ keys) (x ∷ old) [] put found = absurd put
  fetch_more (None ∷ keys) (x ∷ old) (y ∷ new) put found = (put.0 ∙ found.0, fetch_more keys old new put.1 found.1)
  fetch_more (Some key ∷ keys) (x ∷ old) new put found = one_more key keys x old (λ new put. fetch_more keys old new put found.1) found.0 (lies span.from span.until key) refl new put

-- behind the last part all is found
pub fetch_all : (told : Option Content) (behind : List Span) → behind ≡ [] → (keys found : List (Option (List ℕ))) → AllZip (IsFoundBut told behind) keys found → AllZip (IsValueOf told) keys found
fetch_all told behind last [] [] h = tt
fetch_all told behind last [] (y ∷ found) h = absurd h
fetch_all told behind last (key ∷ keys) [] h = absurd h
fetch_all None behind last (None ∷ keys) (y ∷ found) h = (tt, fetch_all None behind last keys found h.1)
fetch_all (Some content) behind last (None ∷ keys) (y ∷ found) h = (h.0, fetch_all (Some content) behind last keys found h.1)
fetch_all told behind last (Some key ∷ keys) (y ∷ found) h = (h.0 (ap (λ l. are_past l key) last), fetch_all told behind last keys found h.1)

pub none_found : (told : Option Content) (behind : List Span) (keys found : List (Option (List ℕ))) → AllZip (IsFoundBut told behind) keys found → AllZip (IsValueAnswered (λ _ _. ⊤)) keys found
none_found told behind [] [] h = tt
none_found told behind [] (y ∷ found) h = absurd h
none_found told behind (key ∷ keys) [] h = absurd h
none_found told behind (None ∷ keys) (y ∷ found) h = (h.0, none_found told behind keys found h.1)
none_found told behind (Some key ∷ keys) (y ∷ found) h = (tt, none_found told behind keys found h.1)
