-- The pairs of ranges, of which each part is asked for those that lie in its keys.
use Rattle.std.proofs.Common.{◌≡◌, ℕ, zero, suc, ◌+◌, ◌≤◌, ◌*◌, Bool, true, false, cond, List, [], ◌∷◌, ◌++◌, map, take, drop, filter, get_or, length, IsTrue, IfSome, Option, Some, None, Result, Ok, Err, IfOk, refl, sym, subst, ap, ◌∙◌, arith}
use Rattle.std.specs.Prelude.{⊤}
use Rattle.std.specs.List.{AllZip, AllByRecursion, sum_by}
use Rattle.std.specs.Option.{option_map}
use Rattle.std.specs.Ordering.{is_le, is_lt}
use Rattle.std.specs.FinMap.{entries}
use Rattle.std.proofs.lemmas.List.{length-map}
use Rattle.std.proofs.lemmas.List.Sums.{sum_by-cons}
use Rattle.std.proofs.lemmas.List.Elements.{filter-append}
use Rattle.pq_store.specs.declared.store.Ends.{Ends}
use Rattle.pq_store.specs.declared.store.Pair.{Pair}
use Rattle.pq_store.specs.declared.store.StoreErr.{StoreErr}
use Rattle.pq_store.specs.Content.{Content, key_cmp, entry, is_within, pairs_within, IsPartOf, AreAnswers}
use Rattle.pq_store.specs.Rounds.{ArePairsOf, IsPartAsked, one_if_some}
use Rattle.pq_store.proofs.Places.{Pairs, turned}
use Rattle.pq_store.proofs.Views.{seen, seen_within}
use Rattle.pq_parts.specs.declared.part.Part.{Part}
use Rattle.pq_parts.specs.Clips.{is_key_before}
use Rattle.pq_parts.specs.Spans.{Span, is_of, span_meets, own_content, concatenation, joined_content, spans, first_from, part_has_key}
use Rattle.pq_parts.specs.Gathered.{begin_of, LinkedSpans}
use Rattle.pq_parts.specs.Gathered.LinkedSpans.{none, link}
use Rattle.pq_parts.specs.Asking.{covers, is_end_within, own_ask, is_spread, ArePairsTold, AreFoundBut, AreAnswersPut}
use Rattle.pq_parts.proofs.Clips.{lt_le, le_lt, lt_is_le, filter_none, unmet_is, first_of_two, second_of_two}
use Rattle.pq_parts.proofs.Joined.{both, owns, all_rise}
use Rattle.pq_parts.proofs.Fetched.{drop_none}

-- ---- a range that lies in one part

-- a part that begins at the end of the range or behind it has none of its pairs
over_unmet : (span : Span) (low high : List ℕ) → is_le (key_cmp high span.from) ≡ true → span_meets low high span ≡ false
over_unmet span low high le = grind (arith, le, turned span.from high)

-- nor has one that ends at its first key or before it
under_unmet : (span : Span) (low high end : List ℕ) → span.until ≡ Some end → is_le (key_cmp end low) ≡ true → span_meets low high span ≡ false
under_unmet span low high end until le =
    let past : is_key_before low span.until ≡ false = rw until (grind (arith, le, turned low end)) in
    grind (arith, past)

unmet_none : (span : Span) (low high : List ℕ) (mine : Pairs) → own_content span ≡ Some mine → span_meets low high span ≡ false → filter (is_within low high) mine ≡ []
unmet_none span low high mine is unmet =
    let own = owns span mine is in
    rw own.mine_is (filter_none (λ pair. is_of span pair.0) (is_within low high) (unmet_is span low high unmet) (entries own.content) own.all)

-- nor is anything behind the last part
last_none : (f : List ℕ × List ℕ → Bool) (list : List Span) → begin_of list ≡ None → (behind : Pairs) → concatenation list ≡ Some behind → filter f behind ≡ []
last_none f [] last behind is = let e : behind ≡ [] = cc in ap (filter f) e
last_none f (next ∷ list) last behind is = absurd (cc)

-- behind the end of a range there is none of its pairs
rest_none : (span : Span) (list : List Span) (low high : List ℕ) → span.until ≡ begin_of list → is_key_before span.from span.until ≡ true → is_le (key_cmp high span.from) ≡ true
    → ((next : List ℕ) → begin_of list ≡ Some next → is_le (key_cmp high next) ≡ true → (behind : Pairs) → concatenation list ≡ Some behind → filter (is_within low high) behind ≡ [])
    → (next : Option (List ℕ)) → begin_of list ≡ next → (behind : Pairs) → concatenation list ≡ Some behind → filter (is_within low high) behind ≡ []
rest_none span list low high until ahead le others None last behind is = last_none (is_within low high) list last behind is
rest_none span list low high until ahead le others (Some next) begins behind is =
    let less : is_lt (key_cmp span.from next) ≡ true = subst (λ (o : Option (List ℕ)). is_key_before span.from o ≡ true) (until ∙ begins) ahead in
    others next begins (lt_is_le high next (le_lt high span.from next le less)) behind is

behind_none : (list : List Span) → LinkedSpans list → (low high : List ℕ) (begin : List ℕ) → begin_of list ≡ Some begin → is_le (key_cmp high begin) ≡ true
    → (pairs : Pairs) → concatenation list ≡ Some pairs → filter (is_within low high) pairs ≡ []
behind_none [] none low high begin begins le pairs is = absurd (cc)
behind_none (span ∷ list) (link _ _ until ahead links) low high begin begins le pairs is =
    let parts = both (own_content span) (concatenation list) pairs is in
    let from : is_le (key_cmp high span.from) ≡ true = subst (λ (o : Option (List ℕ)). IfSome o (λ f. is_le (key_cmp high f) ≡ true)) (sym begins) le in
    let mine = unmet_none span low high parts.front parts.first_is (over_unmet span low high from) in
    ap (filter (is_within low high)) parts.all_is ∙ filter-append (is_within low high) parts.front parts.behind ∙ ap (λ l. l ++ filter (is_within low high) parts.behind) mine
    ∙ rest_none span list low high until ahead from (λ next begins le behind is. behind_none list links low high next begins le behind is) (begin_of list) refl parts.behind parts.rest_is

-- the part at the place has all keys of the range
abbrev pub covers_at : List Span → ℕ → Ends → Bool
covers_at [] at ends = false
covers_at (span ∷ list) zero ends = covers span.from span.until ends
covers_at (span ∷ list) (suc at) ends = covers_at list at ends

-- parts behind one begin at its end, which is at most the range's first key
begins_low : (list : List Span) → LinkedSpans list → (at : ℕ) (ends : Ends) → covers_at list at ends ≡ true → (until : Option (List ℕ)) → until ≡ begin_of list → (end : List ℕ) × (until ≡ Some end) × (is_le (key_cmp end ends.low) ≡ true)
begins_low [] none at ends has until is = absurd (cc)
begins_low (span ∷ list) (link _ _ next ahead links) zero ends has until is = (span.from, is, first_of_two _ _ has)
begins_low (span ∷ list) (link _ _ next ahead links) (suc at) ends has until is =
    let then = begins_low list links at ends has span.until next in
    let less : is_lt (key_cmp span.from then.0) ≡ true = subst (λ until. is_key_before span.from until ≡ true) then.1 ahead in
    (span.from, is, lt_is_le span.from ends.low (lt_le span.from then.0 ends.low less then.2))

append_none : (xs : Pairs) → xs ++ [] ≡ xs
append_none [] = refl
append_none (x ∷ xs) = ap (λ rest. x ∷ rest) (append_none xs)

-- what the part has of the range is what all have
pub within_at : (list : List Span) → LinkedSpans list → (at : ℕ) (ends : Ends) → covers_at list at ends ≡ true → (span : Span) → span ≡ get_or list at span
    → (pairs : Pairs) → concatenation list ≡ Some pairs → (content : Content) × (span.held ≡ Some content) × (filter (is_within ends.low ends.high) pairs ≡ pairs_within content ends.low ends.high)
within_at [] none at ends has span here pairs is = absurd (cc)
within_at (first ∷ list) (link _ _ until ahead links) zero ends has span here pairs is =
    let parts = both (own_content first) (concatenation list) pairs is in
    let mine = owns first parts.front parts.first_is in
    let rest = nothing first.until until (second_of_two _ _ has) parts.behind parts.rest_is in (
      mine.content,
      ap (λ s. s.held) here ∙ mine.held_is,
      ap (filter (is_within ends.low ends.high)) parts.all_is ∙ filter-append (is_within ends.low ends.high) parts.front parts.behind
          ∙ ap (λ l. filter (is_within ends.low ends.high) parts.front ++ l) rest ∙ append_none _ ∙ ap (filter (is_within ends.low ends.high)) mine.mine_is,
    )
  where
    nothing : (end : Option (List ℕ)) → end ≡ begin_of list → is_end_within ends.high end ≡ true → (behind : Pairs) → concatenation list ≡ Some behind → filter (is_within ends.low ends.high) behind ≡ []
    nothing None last within behind is = last_none (is_within ends.low ends.high) list (sym last) behind is
    nothing (Some end) begins within behind is = behind_none list links ends.low ends.high end (sym begins) within behind is
within_at (first ∷ list) (link _ _ until ahead links) (suc at) ends has span here pairs is =
    let parts = both (own_content first) (concatenation list) pairs is in
    let low = begins_low list links at ends has first.until until in
    let nothing = unmet_none first ends.low ends.high parts.front parts.first_is (under_unmet first ends.low ends.high low.0 low.1 low.2) in
    let next = within_at list links at ends has span here parts.behind parts.rest_is in (
      next.0,
      next.1,
      ap (filter (is_within ends.low ends.high)) parts.all_is ∙ filter-append (is_within ends.low ends.high) parts.front parts.behind
          ∙ ap (λ l. l ++ filter (is_within ends.low ends.high) parts.behind) nothing ∙ next.2,
    )

-- so the pairs of the part are those of all
pairs_at : (limit : ℕ) (found : List Pair) (list : List Span) → LinkedSpans list → (at : ℕ) (ends : Ends) → covers_at list at ends ≡ true → (span : Span) → span ≡ get_or list at span
    → IfSome span.held (λ content. map entry found ≡ take limit (pairs_within content ends.low ends.high)) → IfSome (joined_content list) (λ content. map entry found ≡ take limit (pairs_within content ends.low ends.high))
pairs_at limit found list links at ends has span here answer = go (concatenation list) refl
  where
    go : (pairs : Option Pairs) → concatenation list ≡ pairs → IfSome (option_map seen pairs) (λ content. map entry found ≡ take limit (pairs_within content ends.low ends.high))
    go None is = tt
    go (Some pairs) is =
        let there = within_at list links at ends has span here pairs is in
        let mine : IfSome (Some there.0) (λ content. map entry found ≡ take limit (pairs_within content ends.low ends.high)) =
        subst (λ held. IfSome held (λ content. map entry found ≡ take limit (pairs_within content ends.low ends.high))) there.1 answer in
        mine ∙ ap (take limit) (sym (seen_within ends.low ends.high pairs (all_rise list links pairs is) ∙ there.2))

-- the part at a place, where the list from there on begins with it
covers_cut : (list : List Span) (at : ℕ) (span : Span) (rest : List Span) → drop at list ≡ span ∷ rest → (span ≡ get_or list at span) × ((ends : Ends) → covers_at list at ends ≡ covers span.from span.until ends)
covers_cut [] zero span rest is = absurd (cc)
covers_cut [] (suc at) span rest is = absurd (cc)
covers_cut (first ∷ list) zero span rest is = let same : first ≡ span = cc in (sym same, λ ends. ap (λ s. covers s.from s.until ends) same)
covers_cut (first ∷ list) (suc at) span rest is = covers_cut list at span rest is

module _ (limit : ℕ) (list : List Span) (links : LinkedSpans list) (at : ℕ) (span : Span) (cut : drop at list ≡ span ∷ drop (at + 1) list) where
  -- the part has all keys of the range
  told_here : (ends : Ends) (found : List Pair) → covers span.from span.until ends ≡ true → ArePairsTold span.held limit ends found → ArePairsTold (joined_content list) limit ends found
  told_here ends found is told =
      let place = covers_cut list at span (drop (at + 1) list) cut in
      record { answer = pairs_at limit found list links at ends (place.1 ends ∙ is) span place.0 told.answer; part = told.part }

  -- a range more
  one_more : (ends : Ends) (asks : List (Option Ends)) (x : List Pair) (old : List (List Pair))
      → ((new : List (List Pair)) → AreAnswersPut (ArePairsTold span.held limit) (map (own_ask span.from span.until) asks) old new → AllZip (AreFoundBut (joined_content list) (drop (at + 1) list) limit) asks new)
      → (is_spread (drop at list) ends ≡ true → ArePairsTold (joined_content list) limit ends x)
      → (b : Bool) → covers span.from span.until ends ≡ b → (new : List (List Pair))
      → AreAnswersPut (ArePairsTold span.held limit) (cond b (Some ends) None ∷ map (own_ask span.from span.until) asks) (x ∷ old) new
      → AllZip (AreFoundBut (joined_content list) (drop (at + 1) list) limit) (Some ends ∷ asks) new
  one_more ends asks x old rest found true is [] put = absurd put
  one_more ends asks x old rest found true is (y ∷ new) put = (λ spread. told_here ends y is put.0, rest new put.1)
  one_more ends asks x old rest found false is [] put = absurd put
  one_more ends asks x old rest found false is (y ∷ new) put =
      (λ spread. subst (λ (v : List Pair). ArePairsTold (joined_content list) limit ends v) (sym put.0) (found (ap (λ l. is_spread l ends) cut ∙ ap (λ b. cond b false (is_spread (drop (at + 1) list) ends)) is ∙ spread)), rest new put.1)

  -- once this part is asked too
  pub ranges_more : (asks : List (Option Ends)) (old new : List (List Pair)) → AreAnswersPut (ArePairsTold span.held limit) (map (own_ask span.from span.until) asks) old new
      → AllZip (AreFoundBut (joined_content list) (drop at list) limit) asks old → AllZip (AreFoundBut (joined_content list) (drop (at + 1) list) limit) asks new
  ranges_more [] [] [] put found = tt
  ranges_more [] [] (y ∷ new) put found = absurd put
  ranges_more [] (x ∷ old) new put found = absurd found
  ranges_more (asked ∷ asks) [] new put found = absurd found
  ranges_more (None ∷ asks) (x ∷ old) [] put found = absurd put
  ranges_more (None ∷ asks) (x ∷ old) (y ∷ new) put found = (put.0 ∙ found.0, ranges_more asks old new put.1 found.1)
  ranges_more (Some ends ∷ asks) (x ∷ old) new put found = one_more ends asks x old (λ new put. ranges_more asks old new put found.1) found.0 (covers span.from span.until ends) refl new put

-- behind the last part all is found
module _ (told : Option Content) (limit : ℕ) (behind : List Span) (last : behind ≡ []) where
  unasked : (o : Option Content) (y : List Pair) → y ≡ [] → ArePairsOf o limit None y
  unasked None y is = tt
  unasked (Some content) y is = ap (map entry) is

  pub ranges_all : (asks : List (Option Ends)) (found : List (List Pair)) → AllZip (AreFoundBut told behind limit) asks found → AllZip (ArePairsOf told limit) asks found
  ranges_all [] [] h = tt
  ranges_all [] (y ∷ found) h = absurd h
  ranges_all (asked ∷ asks) [] h = absurd h
  ranges_all (None ∷ asks) (y ∷ found) h = (unasked told y h.0, ranges_all asks found h.1)
  ranges_all (Some ends ∷ asks) (y ∷ found) h = let one = h.0 (ap (λ l. is_spread l ends) last) in (one.answer, ranges_all asks found h.1)

  pub ranges_parts : (asks : List (Option Ends)) (found : List (List Pair)) → AllZip (AreFoundBut told behind limit) asks found → AllZip (IsPartAsked limit) asks found
  ranges_parts [] [] h = tt
  ranges_parts [] (y ∷ found) h = absurd h
  ranges_parts (asked ∷ asks) [] h = absurd h
  ranges_parts (None ∷ asks) (y ∷ found) h = (h.0, ranges_parts asks found h.1)
  ranges_parts (Some ends ∷ asks) (y ∷ found) h = let one = h.0 (ap (λ l. is_spread l ends) last) in (one.part, ranges_parts asks found h.1)

-- ---- a range of which a part is known to have the first key
-- the part that has the first key of a range has all its keys, where the range ends at its end or before it
pub lies_there : {S : Type 0} (content : S → Option Content) (parts : List (Part S)) (at : ℕ) (ends : Ends) → IsTrue (part_has_key parts at ends.low) → is_end_within ends.high (first_from (drop (at + 1) parts)) ≡ true
    → is_spread (spans content parts) ends ≡ false
lies_there content [] at ends has within = absurd (cc)
lies_there content (part ∷ parts) zero ends has within =
    let from : is_le (key_cmp part.from ends.low) ≡ true = first_of_two _ _ has in
    let end : is_end_within ends.high (first_from parts) ≡ true = ap (λ l. is_end_within ends.high (first_from l)) (sym (drop_none parts)) ∙ within in
    rw (from, end) refl
lies_there content (part ∷ parts) (suc at) ends has within =
    let behind : suc at + 1 ≡ suc (at + 1) = omega arith in
    ap (cond (covers part.from (first_from parts) ends) false) (lies_there content parts at ends has (subst (λ (k : ℕ). is_end_within ends.high (first_from (drop k (part ∷ parts))) ≡ true) behind within)) ∙ same (covers part.from (first_from parts) ends)
  where
    same : (b : Bool) → cond b false false ≡ false
    same true = refl
    same false = refl

-- at once found where it is spread over several parts, and not yet where it isn't
pub spread_result : (told : Option Content) (list : List Span) (limit : ℕ) (ends : Ends) (low high : List ℕ) (result : Result (List Pair) StoreErr) → low ≡ ends.low → high ≡ ends.high
    → IfOk result (λ found. IfSome told (λ content. map entry found ≡ take limit (pairs_within content low high))) → IfOk result (λ found. IsPartOf low high limit (map entry found))
    → IfOk result (λ found. is_spread list ends ≡ true → ArePairsTold told limit ends found)
spread_result told list limit ends low high (Ok found) l h answer part = λ _. record { answer = rw (← l, ← h) answer; part = rw (← l, ← h) part }
spread_result told list limit ends low high (Err e) l h answer part = tt

pub not_spread : (told : Option Content) (list : List Span) (limit : ℕ) (ends : Ends) (found : List Pair) → is_spread list ends ≡ false → AreFoundBut told list limit (Some ends) found
not_spread told list limit ends found lies = λ spread. absurd (cc)

-- ---- the entries of the answers
part_most : (limit : ℕ) (asked : Option Ends) (part : List Pair) → IsPartAsked limit asked part → length part ≤ limit
part_most limit None part h = let empty : length part ≡ 0 = ap length h in omega (arith, empty)
part_most limit (Some ends) part h =
    let few = h.few in
    let same = length-map part entry in
    omega (arith, few, same)

-- two relations place by place
pub both_told : (told : Option Content) (limit : ℕ) (asks : List (Option Ends)) (parts : List (List Pair)) → AllZip (ArePairsOf told limit) asks parts → AllZip (IsPartAsked limit) asks parts
    → AllZip (λ asked found. ArePairsOf told limit asked found × IsPartAsked limit asked found) asks parts
both_told told limit [] [] a b = tt
both_told told limit [] (part ∷ parts) a b = absurd a
both_told told limit (asked ∷ asks) [] a b = absurd a
both_told told limit (asked ∷ asks) (part ∷ parts) a b = ((a.0, b.0), both_told told limit asks parts a.1 b.1)

-- before the first part is asked
pub ranges_start : (told : Option Content) (list : List Span) (limit : ℕ) (asks : List (Option Ends)) (parts found : List (List Pair)) → found ≡ parts → AllZip (AreFoundBut told list limit) asks parts → AllZip (AreFoundBut told (drop 0 list) limit) asks found
ranges_start told list limit asks parts found is h =
    subst (λ (l : List Span). AllZip (AreFoundBut told l limit) asks found) (sym (drop_none list)) (subst (λ (l : List (List Pair)). AllZip (AreFoundBut told list limit) asks l) (sym is) h)

pub parts_within : (limit : ℕ) (asks : List (Option Ends)) (parts : List (List Pair)) → AllZip (IsPartAsked limit) asks parts → sum_by length parts ≤ length asks * limit
parts_within limit [] [] h = omega arith
parts_within limit [] (part ∷ parts) h = absurd h
parts_within limit (asked ∷ asks) [] h = absurd h
parts_within limit (asked ∷ asks) (part ∷ parts) h =
    let one = part_most limit asked part h.0 in
    let rest = parts_within limit asks parts h.1 in
    let lengths = sum_by-cons length part parts in
    let times : (length asks + 1) * limit ≡ length asks * limit + limit = omega arith in
    let here : length (asked ∷ asks) ≡ length asks + 1 = omega arith in
    let whole : length (asked ∷ asks) * limit ≡ (length asks + 1) * limit = ap (λ n. n * limit) here in
    omega (arith, one, rest, lengths, times, whole)

-- no entries where nothing was asked
pub no_entries : (limit : ℕ) (asks : List (Option Ends)) (parts : List (List Pair)) → AllZip (IsPartAsked limit) asks parts → sum_by one_if_some asks ≡ 0 → sum_by length parts ≡ 0
no_entries limit [] [] h unasked_all = refl
no_entries limit [] (part ∷ parts) h unasked_all = absurd h
no_entries limit (asked ∷ asks) [] h unasked_all = absurd h
no_entries limit (None ∷ asks) (part ∷ parts) h unasked_all =
    let here : length part ≡ 0 = ap length h.0 in
    let unasked : Option Ends = None in
    let sums = sum_by-cons one_if_some unasked asks in
    let rest = no_entries limit asks parts h.1 (omega (arith, sums, unasked_all)) in
    let lengths = sum_by-cons length part parts in
    omega (arith, here, rest, lengths)
no_entries limit (Some ends ∷ asks) (part ∷ parts) h unasked_all =
    let sums : sum_by one_if_some (Some ends ∷ asks) ≡ 1 + sum_by one_if_some asks = sum_by-cons one_if_some (Some ends) asks in
    absurd (omega (arith, sums, unasked_all))

-- any answer is one that a store over parts may give
pub any_pairs : (found : List Pair) → AreAnswers (λ _ _. ⊤) found
any_pairs [] = tt
any_pairs (pair ∷ found) = (tt, any_pairs found)

pub any_parts : (parts : List (List Pair)) → AllByRecursion (AreAnswers (λ _ _. ⊤)) parts
any_parts [] = tt
any_parts (part ∷ parts) = (any_pairs part, any_parts parts)
