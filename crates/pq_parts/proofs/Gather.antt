-- A range and a count over the parts in order.
use Rattle.std.proofs.Common.{◌≡◌, ℕ, zero, suc, ◌+◌, ◌-◌, ◌≤◌, ◌<◌, true, List, [], ◌∷◌, ◌++◌, length, map, take, drop, filter, min, All, IsTrue, IfSome, Option, Some, None, Result, Ok, Err, IfOk, OnOk, cond, get_or, drop-cons, refl, sym, ap, ◌∙◌, arith, append_assoc}
use Rattle.std.specs.Option.{option_map}
use Rattle.std.specs.Ordering.{is_lt}
use Rattle.std.specs.List.{list_all}
use Rattle.std.proofs.lemmas.List.{length-append, length-map, map-append}
use Rattle.std.proofs.Math.Seq.{drop-length}
use Rattle.std.proofs.lemmas.List.Elements.{filter-append, All-append}
use Rattle.std.proofs.lemmas.List.Sums.{sum_by-cons}
use Rattle.pq_store.specs.declared.store.Pair.{Pair}
use Rattle.pq_store.specs.declared.store.StoreErr.{StoreErr}
use Rattle.pq_store.specs.Content.{Content, entry, ranged_entries, counted_entries, key_cmp, is_within, pairs_within}
use Rattle.pq_store.proofs.Places.{Pairs, is_below_all}
use Rattle.pq_store.proofs.Views.{seen, seen_within}
use Rattle.pq_parts.specs.declared.part.Part.{Part}
use Rattle.pq_parts.specs.Clips.{is_key_before}
use Rattle.pq_parts.specs.Spans.{Span, is_of, span_of, spans, first_from, span_meets, own_content, concatenation, joined_content, number_met, IsPieceOf, IsPlacement}
use Rattle.pq_parts.specs.Tally.{TalliedCalls, HasAsked}
use Rattle.pq_store.specs.declared.store.Ends.{Ends}
use Rattle.pq_parts.specs.Asking.{AreAnswersPut, IsTold, ArePairsTold, own_key, own_ask, IsGetsAt, IsRangesAt}
use Rattle.pq_parts.specs.Gathered.{begin_of, LinkedSpans, HasCome, LeavesRange, IsGathered, IsPieceAt, IsCountAt}
use Rattle.pq_parts.proofs.Clips.{lt_le, lt_is_le, second_of_two, first_of_two}
use Rattle.pq_parts.proofs.Asked.{not_asked, called_more, called_fewer}
use Rattle.pq_parts.proofs.Pairs.{rising_both}
use Rattle.pq_parts.specs.Gathered.LinkedSpans.{none, link}
use Rattle.pq_parts.proofs.Joined.{linked, both, all_rise}

pub linked_drop : (list : List Span) → LinkedSpans list → (at : ℕ) → LinkedSpans (drop at list)
linked_drop [] none zero = none
linked_drop [] none (suc at) = none
linked_drop (span ∷ list) links zero = links
linked_drop (span ∷ list) (link _ _ until ahead links) (suc at) = linked_drop list links at

-- how the part at the place is linked
ahead_of : (span : Span) (list : List Span) → LinkedSpans (span ∷ list) → (span.until ≡ begin_of list) × (is_key_before span.from span.until ≡ true)
ahead_of span list (link _ _ until ahead links) = (until, ahead)

-- ---- the nodes that were called
zero_more : (a b : ℕ) → a + b ≡ 0 + a + b
zero_more a b = omega arith

met_cons : (low high : List ℕ) (span : Span) (rest : List Span) → number_met low high (span ∷ rest) ≡ number_met low high (span ∷ []) + number_met low high rest
met_cons low high span rest = sum_by-cons (λ s. cond (span_meets low high s) 1 0) span rest ∙ zero_more (cond (span_meets low high span) 1 0) (number_met low high rest)

come_more : (list : List Span) (before mid now : TalliedCalls) (at : ℕ) (low high : List ℕ) (n more limit : ℕ) (span : Span) {A : Type 0} (x : A) → drop at list ≡ span ∷ drop (at + 1) list
    → HasCome list before mid at low high n → HasAsked {A = A} mid now (number_met low high (span ∷ [])) limit more (Ok x) → HasCome list before now (at + 1) low high (n + more)
come_more list before mid now at low high n more limit span x cut come asked = record {
  met = come.met + number_met low high (span ∷ []);
  left =
      let left = come.left in
      let cuts : number_met low high (drop at list) ≡ number_met low high (span ∷ []) + number_met low high (drop (at + 1) list) =
      ap (number_met low high) cut ∙ met_cons low high span (drop (at + 1) list) in
      omega (arith, left, cuts);
  called = called_more before mid now come.met (number_met low high (span ∷ [])) n more come.called (rw (asked.whole refl) at asked.called);
}

-- and where there is no answer
pub come_error : (list : List Span) (before mid now : TalliedCalls) (at : ℕ) (low high : List ℕ) (n limit left : ℕ) (span : Span) {A : Type 0} (r : Result A StoreErr) → drop at list ≡ span ∷ drop (at + 1) list
    → HasCome list before mid at low high n → n + left ≡ limit → (answered : ℕ) → HasAsked mid now (number_met low high (span ∷ [])) left answered r
    → {B : Type 0} (e : StoreErr) → HasAsked {A = B} before now (number_met low high list) limit 0 (Err e)
come_error list before mid now at low high n limit left span r cut come split answered asked e = record {
  found = n + asked.found;
  called = called_fewer before now (come.met + number_met low high (span ∷ [])) (number_met low high list) (n + asked.found)
      (let left = come.left in
      let cuts : number_met low high (drop at list) ≡ number_met low high (span ∷ []) + number_met low high (drop (at + 1) list) =
      ap (number_met low high) cut ∙ met_cons low high span (drop (at + 1) list) in
      omega (arith, left, cuts))
      (called_more before mid now come.met (number_met low high (span ∷ [])) n asked.found come.called asked.called);
  within = let few = asked.within in omega arith;
  whole = λ ok. absurd (cc);
}

-- ---- the pairs of a range
take_more : (n : ℕ) (xs ys : Pairs) → take n (xs ++ ys) ≡ take n xs ++ take (n - length (take n xs)) ys
take_more zero xs ys = refl
take_more (suc n) [] ys = let e : suc n - 0 ≡ suc n = omega arith in rw e refl
take_more (suc n) (x ∷ xs) ys =
    let same : suc n - suc (length (take n xs)) ≡ n - length (take n xs) = omega arith in
    rw same (ap (λ rest. x ∷ rest) (take_more n xs ys))

-- what is found stands before what the part at the place has
passed_apart : (span : Span) (found piece : Pairs) → list_all (λ pair. is_lt (key_cmp pair.0 span.from)) found ≡ true → All (λ pair. is_of span pair.0 ≡ true) piece
    → IsTrue (list_all (λ pair. is_below_all pair.0 piece) found)
passed_apart span [] piece passed own_content = refl
passed_apart span (x ∷ found) piece passed own_content =
    let here = below piece own_content in
    let rest = passed_apart span found piece (second_of_two _ _ passed) own_content in
    rw (here, rest) refl
  where
    below : (piece : Pairs) → All (λ pair. is_of span pair.0 ≡ true) piece → IsTrue (is_below_all x.0 piece)
    below [] own_content = refl
    below (y ∷ piece) own_content =
        let one : is_of span y.0 ≡ true = own_content zero y (omega arith) in
        let less : is_lt (key_cmp x.0 y.0) ≡ true = lt_le x.0 span.from y.0 (first_of_two _ _ passed) (first_of_two _ _ one) in
        let rest = below piece (λ k d lt. own_content (suc k) d (omega arith)) in
        rw (less, rest) refl

passed_on : (span : Span) (next : Option (List ℕ)) → span.until ≡ next → is_key_before span.from span.until ≡ true → (found piece : Pairs)
    → list_all (λ pair. is_lt (key_cmp pair.0 span.from)) found ≡ true → All (λ pair. is_of span pair.0 ≡ true) piece
    → list_all (λ pair. is_key_before pair.0 next) (found ++ piece) ≡ true
passed_on span next until ahead [] [] passed own_content = refl
passed_on span next until ahead [] (y ∷ piece) passed own_content =
    let one : is_of span y.0 ≡ true = own_content zero y (omega arith) in
    let here : is_key_before y.0 next ≡ true = rw (← until) (second_of_two _ _ one) in
    let rest = passed_on span next until ahead [] piece refl (λ k d lt. own_content (suc k) d (omega arith)) in
    rw (here, rest) refl
passed_on span next until ahead (x ∷ found) piece passed own_content =
    let here : is_key_before x.0 next ≡ true = rw (← until) (past x.0 span.until (first_of_two _ _ passed) ahead) in
    let rest = passed_on span next until ahead found piece (second_of_two _ _ passed) own_content in
    rw (here, rest) refl
  where
    past : (key : List ℕ) (until : Option (List ℕ)) → is_lt (key_cmp key span.from) ≡ true → is_key_before span.from until ≡ true → is_key_before key until ≡ true
    past key None less ahead = refl
    past key (Some end) less ahead = lt_le key span.from end less (lt_is_le span.from end ahead)

pub gather_more : (list : List Span) → LinkedSpans list → (before mid now : TalliedCalls) (at : ℕ) (low high : List ℕ) (limit : ℕ) (found piece : Pairs) (span : Span) {A : Type 0} (x : A)
    → drop at list ≡ span ∷ drop (at + 1) list → IsGathered list before mid at low high limit found
    → HasAsked {A = A} mid now (number_met low high (span ∷ [])) (limit - length found) (length piece) (Ok x)
    → IsPieceOf span low high (limit - length found) piece
    → IfSome (own_content span) (λ mine. piece ≡ take (limit - length found) (filter (is_within low high) mine))
    → IsGathered list before now (at + 1) low high limit (found ++ piece)
gather_more list links before mid now at low high limit found piece span x cut gathered asked pieces answered =
    let passed : list_all (λ pair. is_lt (key_cmp pair.0 span.from)) found ≡ true = rw cut at gathered.passed in
    let ahead = ahead_of span (drop (at + 1) list) (rw cut at (linked_drop list links at)) in
    record {
      come = rw length-append (come_more list before mid now at low high (length found) (length piece) (limit - length found) span x cut gathered.come asked);
      part = record {
        few = let old = gathered.part.few in let new = pieces.part.few in omega (arith, length-append found piece);
        within = All-append (λ pair. is_within low high pair ≡ true) found piece gathered.part.within pieces.part.within;
        rising = rising_both found piece gathered.part.rising pieces.part.rising (passed_apart span found piece passed pieces.own);
      };
      passed = passed_on span (begin_of (drop (at + 1) list)) ahead.0 ahead.1 found piece passed pieces.own;
      answer = λ pairs is. more pairs (gathered.answer pairs is);
    }
  where
    more : (pairs : Pairs) → LeavesRange list at low high limit found pairs → LeavesRange list (at + 1) low high limit (found ++ piece) pairs
    more pairs leaves =
        let parts = both (own_content span) (concatenation (drop (at + 1) list)) leaves.rest (rw cut at leaves.behind) in
        let mine : piece ≡ take (limit - length found) (filter (is_within low high) parts.front) = rw parts.first_is at answered in
        record {
          rest = parts.behind;
          behind = parts.rest_is;
          whole = joins (filter (is_within low high) parts.front) (filter (is_within low high) parts.behind) mine
              ∙ ap (λ all. found ++ take (limit - length found) all) (sym (ap (filter (is_within low high)) parts.all_is ∙ filter-append (is_within low high) parts.front parts.behind))
              ∙ leaves.whole;
        }
      where
        joins : (xs ys : Pairs) → piece ≡ take (limit - length found) xs
            → (found ++ piece) ++ take (limit - length (found ++ piece)) ys ≡ found ++ take (limit - length found) (xs ++ ys)
        joins xs ys mine =
            let left : limit - length (found ++ piece) ≡ limit - length found - length piece = omega (arith, length-append found piece) in
            rw (left, append_assoc) (ap (λ rest. found ++ rest) (ap (λ p. p ++ take (limit - length found - length p) ys) mine ∙ sym (take_more (limit - length found) xs ys)))

-- behind the last part all is found
pub gather_all : (list : List Span) → LinkedSpans list → (before now : TalliedCalls) (low high : List ℕ) (limit : ℕ) (found : Pairs) → IsGathered list before now (length list) low high limit found
    → IfSome (joined_content list) (λ content. found ≡ take limit (pairs_within content low high))
gather_all list links before now low high limit found gathered = go (concatenation list) refl
  where
    go : (pairs : Option Pairs) → concatenation list ≡ pairs → IfSome (option_map seen pairs) (λ content. found ≡ take limit (pairs_within content low high))
    go None is = tt
    go (Some pairs) is =
        let leaves = gathered.answer pairs is in
        let nothing : leaves.rest ≡ [] = none_behind leaves.rest leaves.behind in
        let whole : found ++ [] ≡ take limit (filter (is_within low high) pairs) = ap (λ rest. found ++ rest) (sym (nil (limit - length found)) ∙ ap (λ rest. take (limit - length found) (filter (is_within low high) rest)) (sym nothing)) ∙ leaves.whole in
        sym (append-nil found) ∙ whole ∙ ap (take limit) (sym (seen_within low high pairs (all_rise list links pairs is)))
      where
        none_behind : (rest : Pairs) → concatenation (drop (length list) list) ≡ Some rest → rest ≡ []
        none_behind rest is = let e = rw drop-length at is in cc

        nil : (n : ℕ) → ◌≡◌ {A = Pairs} (take n []) []
        nil zero = refl
        nil (suc n) = refl

        append-nil : (xs : Pairs) → xs ++ [] ≡ xs
        append-nil [] = refl
        append-nil (x ∷ xs) = ap (λ rest. x ∷ rest) (append-nil xs)

-- the parts from the place on have the rest of the number
pub record LeavesCount (spans : List Span) (at : ℕ) (low high : List ℕ) (cap n : ℕ)
    (pairs : List (List ℕ × List ℕ)) : Type 0 where
  pub rest : List (List ℕ × List ℕ)
  pub behind : concatenation (drop at spans) ≡ Some rest
  pub whole : n + min (cap - n) (length (filter (is_within low high) rest))
      ≡ min cap (length (filter (is_within low high) pairs))

-- the number of the parts before the place
pub record IsCounted (spans : List Span) (before now : TalliedCalls) (at : ℕ) (low high : List ℕ) (cap n : ℕ) : Type 0 where
  pub come : HasCome spans before now at low high n
  pub few : n ≤ cap
  pub answer : (pairs : List (List ℕ × List ℕ)) → concatenation spans ≡ Some pairs
      → LeavesCount spans at low high cap n pairs

-- ---- the number of a range
pub count_more : (list : List Span) → (before mid now : TalliedCalls) (at : ℕ) (low high : List ℕ) (cap n more : ℕ) (span : Span) {A : Type 0} (x : A)
    → drop at list ≡ span ∷ drop (at + 1) list → IsCounted list before mid at low high cap n
    → HasAsked {A = A} mid now (number_met low high (span ∷ [])) (cap - n) more (Ok x) → more ≤ cap - n
    → IfSome (own_content span) (λ mine. more ≡ min (cap - n) (length (filter (is_within low high) mine)))
    → IsCounted list before now (at + 1) low high cap (n + more)
count_more list before mid now at low high cap n more span x cut counted asked few answered = record {
  come = come_more list before mid now at low high n more (cap - n) span x cut counted.come asked;
  few = let old = counted.few in omega arith;
  answer = λ pairs is. next pairs (counted.answer pairs is);
}
  where
    next : (pairs : Pairs) → LeavesCount list at low high cap n pairs → LeavesCount list (at + 1) low high cap (n + more) pairs
    next pairs leaves =
        let parts = both (own_content span) (concatenation (drop (at + 1) list)) leaves.rest (rw cut at leaves.behind) in
        let mine : more ≡ min (cap - n) (length (filter (is_within low high) parts.front)) = rw parts.first_is at answered in
        let lengths : length (filter (is_within low high) leaves.rest) ≡ length (filter (is_within low high) parts.front) + length (filter (is_within low high) parts.behind) =
        ap (λ rest. length (filter (is_within low high) rest)) parts.all_is ∙ ap length (filter-append (is_within low high) parts.front parts.behind) ∙ length-append _ _ in
        let whole = leaves.whole in
        record { rest = parts.behind; behind = parts.rest_is; whole = omega (arith, mine, lengths, whole) }

pub count_all : (list : List Span) → LinkedSpans list → (before now : TalliedCalls) (low high : List ℕ) (cap n : ℕ) → IsCounted list before now (length list) low high cap n
    → IfSome (joined_content list) (λ content. n ≡ min cap (length (pairs_within content low high)))
count_all list links before now low high cap n counted = go (concatenation list) refl
  where
    go : (pairs : Option Pairs) → concatenation list ≡ pairs → IfSome (option_map seen pairs) (λ content. n ≡ min cap (length (pairs_within content low high)))
    go None is = tt
    go (Some pairs) is =
        let leaves = counted.answer pairs is in
        let nothing : length (filter (is_within low high) leaves.rest) ≡ 0 = ap (λ rest. length (filter (is_within low high) rest)) (none_behind leaves.rest leaves.behind) in
        let whole = leaves.whole in
        let number : n ≡ min cap (length (filter (is_within low high) pairs)) = omega (arith, nothing, whole) in
        number ∙ ap (λ xs. min cap (length xs)) (sym (seen_within low high pairs (all_rise list links pairs is)))
      where
        none_behind : (rest : Pairs) → concatenation (drop (length list) list) ≡ Some rest → rest ≡ []
        none_behind rest is = let e = rw drop-length at is in cc

-- the spans from the place on begin with that of the part there
pub span_cut : {S : Type 0} (content : S → Option Content) (parts : List (Part S)) (at : ℕ) (part : Part S) → at < length parts → part ≡ get_or parts at part
    → drop at (spans content parts) ≡ span_of content part (first_from (drop (at + 1) parts)) ∷ drop (at + 1) (spans content parts)
span_cut {S = S} content parts at part within here =
    sym (spans_drop parts at) ∙ ap (spans content) (drop-cons parts at part within ∙ ap (λ p. p ∷ drop (suc at) parts) (sym here))
    ∙ ap (λ k. span_of content part (first_from (drop k parts)) ∷ spans content (drop k parts)) next
    ∙ ap (λ rest. span_of content part (first_from (drop (at + 1) parts)) ∷ rest) (spans_drop parts (at + 1))
  where
    next : suc at ≡ at + 1
    next = omega arith

    spans_drop : (parts : List (Part S)) (k : ℕ) → spans content (drop k parts) ≡ drop k (spans content parts)
    spans_drop [] zero = refl
    spans_drop [] (suc k) = refl
    spans_drop (first ∷ parts) zero = refl
    spans_drop (first ∷ parts) (suc k) = spans_drop parts k

pub length-spans : {S : Type 0} (content : S → Option Content) (parts : List (Part S)) → length (spans content parts) ≡ length parts
length-spans content [] = refl
length-spans content (part ∷ parts) = ap suc (length-spans content parts)

get_same : {S : Type 0} (parts : List (Part S)) (at : ℕ) (d : Part S) → at < length parts → get_or parts at d ≡ get_or parts at (get_or parts at d)
get_same [] at d within = absurd (omega arith)
get_same (part ∷ parts) zero d within = refl
get_same (part ∷ parts) (suc at) d within = get_same parts at d (omega arith)

-- where the parts from a place on begin
pub begins_at : {S : Type 0} (parts : List (Part S)) (k : ℕ) (next : Part S) → k < length parts → ((d : Part S) → next ≡ get_or parts k d) → Some next.from ≡ first_from (drop k parts)
begins_at [] k next within is = absurd (omega arith)
begins_at (part ∷ parts) zero next within is = ap (λ p. Some p.from) (is part)
begins_at (part ∷ parts) (suc k) next within is = begins_at parts k next (omega arith) is

pub begins_none : {S : Type 0} (parts : List (Part S)) (k : ℕ) → length parts ≤ k → None ≡ first_from (drop k parts)
begins_none [] zero past = refl
begins_none [] (suc k) past = refl
begins_none (part ∷ parts) zero past = absurd (omega arith)
begins_none (part ∷ parts) (suc k) past = begins_none parts k (omega arith)

-- ---- steps of the calls over nodes that were asked
module _ {S : Type 0} (content : S → Option Content) (parts : List (Part S)) (placed : IsPlacement parts) (at : ℕ) (within : at < length parts) (part : Part S) (here : part ≡ get_or parts at part)
    (until : Option (List ℕ)) (end : until ≡ first_from (drop (at + 1) parts)) where
  cut_here : drop at (spans content parts) ≡ span_of content part until ∷ drop (at + 1) (spans content parts)
  cut_here = span_cut content parts at part within here ∙ ap (λ u. span_of content part u ∷ drop (at + 1) (spans content parts)) (sym end)

  pub piece_here : (low high : List ℕ) (limit : ℕ) (before now : TalliedCalls) (result : Result (List Pair) StoreErr)
      → HasAsked before now (number_met low high (span_of content part until ∷ [])) limit (ranged_entries result) result
      → IfOk result (λ found. IsPieceOf (span_of content part until) low high limit (map entry found))
      → IfOk result (λ found. IfSome (own_content (span_of content part until)) (λ mine. map entry found ≡ take limit (filter (is_within low high) mine)))
      → IsPieceAt (spans content parts) at low high limit before now result
  piece_here low high limit before now result asked piece answer = record { links = linked content parts placed.rising; span = span_of content part until; cut = cut_here; asked = asked; piece = piece; answer = answer }

  pub count_here : (low high : List ℕ) (cap : ℕ) (before now : TalliedCalls) (result : Result ℕ StoreErr)
      → HasAsked before now (number_met low high (span_of content part until ∷ [])) cap (counted_entries result) result
      → IfOk result (λ n. n ≤ cap)
      → IfOk result (λ n. IfSome (own_content (span_of content part until)) (λ mine. n ≡ min cap (length (filter (is_within low high) mine))))
      → IsCountAt (spans content parts) at low high cap before now result
  count_here low high cap before now result asked few answer = record { span = span_of content part until; cut = cut_here; asked = asked; few = few; answer = answer }

  pub gets_here : (keys old new : List (Option (List ℕ))) {A : Type 0} (result : Result A StoreErr)
      → OnOk result (AreAnswersPut (IsTold (content part.store)) (map (own_key part.from until) keys) old new) → OnOk result (IsGetsAt (spans content parts) at keys old new)
  gets_here keys old new (Ok x) put = record { span = span_of content part until; cut = cut_here; put = put }
  gets_here keys old new (Err e) put = tt

  pub ranges_here : (limit : ℕ) (asks : List (Option Ends)) (old new : List (List Pair)) {A : Type 0} (result : Result A StoreErr)
      → OnOk result (AreAnswersPut (ArePairsTold (content part.store) limit) (map (own_ask part.from until) asks) old new) → OnOk result (IsRangesAt (spans content parts) at limit asks old new)
  ranges_here limit asks old new (Ok x) put = record { span = span_of content part until; cut = cut_here; put = put }
  ranges_here limit asks old new (Err e) put = tt

-- where there was no memory for the end
pub no_piece : {S : Type 0} (content : S → Option Content) (parts : List (Part S)) → IsPlacement parts → (at : ℕ) → at < length parts → (low high : List ℕ) (limit : ℕ) (before : TalliedCalls) (e : StoreErr)
    → IsPieceAt (spans content parts) at low high limit before before (Err e)
no_piece content [] placed at within low high limit before e = absurd (omega arith)
no_piece content (first ∷ parts) placed at within low high limit before e = record {
  links = linked content (first ∷ parts) placed.rising;
  span = span_of content (get_or (first ∷ parts) at first) (first_from (drop (at + 1) (first ∷ parts)));
  cut = span_cut content (first ∷ parts) at (get_or (first ∷ parts) at first) within (get_same (first ∷ parts) at first within);
  asked = not_asked before _ limit (Err e);
  piece = tt;
  answer = tt;
}

pub no_count : {S : Type 0} (content : S → Option Content) (parts : List (Part S)) (at : ℕ) → at < length parts → (low high : List ℕ) (cap : ℕ) (before : TalliedCalls) (e : StoreErr)
    → IsCountAt (spans content parts) at low high cap before before (Err e)
no_count content [] at within low high cap before e = absurd (omega arith)
no_count content (first ∷ parts) at within low high cap before e = record {
  span = span_of content (get_or (first ∷ parts) at first) (first_from (drop (at + 1) (first ∷ parts)));
  cut = span_cut content (first ∷ parts) at (get_or (first ∷ parts) at first) within (get_same (first ∷ parts) at first within);
  asked = not_asked before _ cap (Err e);
  few = tt;
  answer = tt;
}

-- one part more
pub gathers : (list : List Span) (before mid now : TalliedCalls) (at : ℕ) (low high : List ℕ) (limit left : ℕ) (found piece after : List Pair) → left ≡ limit - length found → after ≡ found ++ piece
    → IsPieceAt list at low high left mid now (Ok piece) → IsGathered list before mid at low high limit (map entry found) → IsGathered list before now (at + 1) low high limit (map entry after)
gathers list before mid now at low high limit left found piece after is all at_piece gathered =
    let split : left ≡ limit - length (map entry found) = omega (arith, length-map found entry) in
    rw (all, map-append) (gather_more list at_piece.links before mid now at low high limit (map entry found) (map entry piece) at_piece.span piece at_piece.cut gathered
    (rw (← split, length-map piece entry) at_piece.asked) (rw (← split) at_piece.piece) (rw (← split) at_piece.answer))

pub gather_error : (list : List Span) (before mid now : TalliedCalls) (at : ℕ) (low high : List ℕ) (limit left : ℕ) (found : List Pair) (r : Result (List Pair) StoreErr) → length found ≤ limit → left ≡ limit - length found
    → IsPieceAt list at low high left mid now r → {B : Type 0} (e : StoreErr)
    → IsGathered list before mid at low high limit (map entry found) → HasAsked {A = B} before now (number_met low high list) limit 0 (Err e)
gather_error list before mid now at low high limit left found r few is at_piece e gathered =
    come_error list before mid now at low high (length (map entry found)) limit left at_piece.span r at_piece.cut gathered.come (omega (arith, length-map found entry)) (ranged_entries r) at_piece.asked e

pub counts : (list : List Span) (before mid now : TalliedCalls) (at : ℕ) (low high : List ℕ) (cap n more : ℕ)
    → IsCountAt list at low high (cap - n) mid now (Ok more) → IsCounted list before mid at low high cap n → IsCounted list before now (at + 1) low high cap (n + more)
counts list before mid now at low high cap n more at_count counted =
    count_more list before mid now at low high cap n more at_count.span more at_count.cut counted at_count.asked at_count.few at_count.answer

pub count_error : (list : List Span) (before mid now : TalliedCalls) (at : ℕ) (low high : List ℕ) (cap n : ℕ) (r : Result ℕ StoreErr)
    → IsCountAt list at low high (cap - n) mid now r → {B : Type 0} (e : StoreErr)
    → IsCounted list before mid at low high cap n → HasAsked {A = B} before now (number_met low high list) cap 0 (Err e)
count_error list before mid now at low high cap n r at_count e counted =
    let few = counted.few in
    come_error list before mid now at low high n cap (cap - n) at_count.span r at_count.cut counted.come (omega arith) (counted_entries r) at_count.asked e

-- an error that is handed on
pub asked_on : {A B : Type 0} (before now : TalliedCalls) (met limit : ℕ) (e : StoreErr) → HasAsked {A = A} before now met limit 0 (Err e)
    → (result : Result B StoreErr) (y : StoreErr) → result ≡ Err y → (answered : ℕ) → HasAsked before now met limit answered result
asked_on before now met limit e asked (Ok x) y is answered = absurd (cc)
asked_on before now met limit e asked (Err z) y is answered = record { found = asked.found; called = asked.called; within = asked.within; whole = λ ok. absurd (cc) }
