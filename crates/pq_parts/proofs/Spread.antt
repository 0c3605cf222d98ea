-- Ranges that lie in no part alone, and how often nodes are asked for them.
use Rattle.std.proofs.Common.{◌≡◌, ℕ, zero, suc, ◌+◌, ◌≤◌, ◌<◌, ◌&&◌, Bool, true, false, cond, List, [], ◌∷◌, length, take, drop, get_or, sum_by, IsTrue, Option, Some, None, refl, sym, subst, ap, ◌∙◌, arith}
use Rattle.std.specs.Ordering.{is_lt, is_le}
use Rattle.std.proofs.lemmas.List.Sums.{sum_by_more, sum_by-take-le}
use Rattle.pq_store.specs.declared.store.Ends.{Ends}
use Rattle.pq_store.specs.Content.{Content, key_cmp}
use Rattle.pq_store.proofs.Places.{turned}
use Rattle.pq_parts.specs.declared.part.Part.{Part}
use Rattle.pq_parts.specs.Clips.{is_key_before}
use Rattle.pq_parts.specs.Spans.{Span, spans, first_from, part_has_key, IsPlacement}
use Rattle.pq_parts.specs.Gathered.{begin_of, LinkedSpans}
use Rattle.pq_parts.specs.Gathered.LinkedSpans.{none, link}
use Rattle.pq_parts.specs.Asking.{is_end_within, is_spread}
use Rattle.pq_parts.proofs.Clips.{lt_le, le_lt, lt_is_le, first_of_two, second_of_two}
use Rattle.pq_parts.proofs.Joined.{linked, has_at, has_span, begins_until}
use Rattle.pq_parts.proofs.Fetched.{drop_none}
use Rattle.pq_parts.proofs.Ranged.{covers_at}

lt_not_le : (a b : List ℕ) → is_lt (key_cmp a b) ≡ true → is_le (key_cmp b a) ≡ false
lt_not_le a b less = grind (arith, less, turned a b)

not_le_lt : (a b : List ℕ) → is_le (key_cmp a b) ≡ false → is_lt (key_cmp b a) ≡ true
not_le_lt a b above = grind (arith, above, turned b a)

-- no part behind the key has the first key of the range
spread_behind : (list : List Span) → LinkedSpans list → (ends : Ends) → is_key_before ends.low (begin_of list) ≡ true → is_spread list ends ≡ true
spread_behind [] none ends before = refl
spread_behind (span ∷ list) (link _ _ until ahead links) ends before =
    let never : is_le (key_cmp span.from ends.low) ≡ false = lt_not_le ends.low span.from before in
    let rest = spread_behind list links ends (past span.until ahead until) in
    rw (never, rest) refl
  where
    past : (until : Option (List ℕ)) → is_key_before span.from until ≡ true → until ≡ begin_of list → is_key_before ends.low (begin_of list) ≡ true
    past None ahead until = rw (← until) refl
    past (Some end) ahead until = rw (← until) (lt_le ends.low span.from end before (lt_is_le span.from end ahead))

-- a range that goes on behind the part with its first key
goes_on : (list : List Span) (at : ℕ) (ends : Ends) → IsTrue (has_at list at ends.low) → covers_at list at ends ≡ false → is_lt (key_cmp ends.low ends.high) ≡ true
goes_on [] at ends has uncovered = absurd (cc)
goes_on (span ∷ list) zero ends has uncovered = up span.until (first_of_two _ _ has) (second_of_two _ _ has) uncovered
  where
    up : (until : Option (List ℕ)) → is_le (key_cmp span.from ends.low) ≡ true → is_key_before ends.low until ≡ true → (is_le (key_cmp span.from ends.low) && is_end_within ends.high until) ≡ false → is_lt (key_cmp ends.low ends.high) ≡ true
    up None from before over = absurd (grind (arith, from, over))
    up (Some end) from before over =
        let past : is_le (key_cmp ends.high end) ≡ false = grind (arith, from, over) in
        lt_le ends.low end ends.high before (lt_is_le end ends.high (not_le_lt ends.high end past))
goes_on (span ∷ list) (suc at) ends has uncovered = goes_on list at ends has uncovered

-- lies in no part alone
spread_on : (list : List Span) → LinkedSpans list → (at : ℕ) (ends : Ends) → IsTrue (has_at list at ends.low) → covers_at list at ends ≡ false → is_lt (key_cmp ends.low ends.high) ≡ true → is_spread list ends ≡ true
spread_on [] none at ends has uncovered up = absurd (cc)
spread_on (span ∷ list) (link _ _ until ahead links) zero ends has uncovered up =
    let own : is_key_before ends.low span.until ≡ true = second_of_two _ _ has in
    let before : is_key_before ends.low (begin_of list) ≡ true = subst (λ (o : Option (List ℕ)). is_key_before ends.low o ≡ true) until own in
    ap (λ b. cond b false (is_spread list ends)) uncovered ∙ spread_behind list links ends before
spread_on (span ∷ list) (link _ _ until ahead links) (suc at) ends has uncovered up =
    let end = begins_until list links at ends.low has span.until until in
    let past : is_le (key_cmp ends.high end.0) ≡ false = lt_not_le end.0 ends.high (le_lt end.0 ends.low ends.high end.2 up) in
    let over : is_end_within ends.high span.until ≡ false = ap (is_end_within ends.high) end.1 ∙ past in
    let rest = spread_on list links at ends has uncovered up in
    ap (λ b. cond b false (is_spread list ends)) (ap (λ b. is_le (key_cmp span.from ends.low) && b) over ∙ never (is_le (key_cmp span.from ends.low))) ∙ rest
  where
    never : (b : Bool) → (b && false) ≡ false
    never true = refl
    never false = refl

uncovered_there : {S : Type 0} (content : S → Option Content) (parts : List (Part S)) (at : ℕ) (ends : Ends) → IsTrue (part_has_key parts at ends.low) → is_end_within ends.high (first_from (drop (at + 1) parts)) ≡ false
    → covers_at (spans content parts) at ends ≡ false
uncovered_there content [] at ends has over = absurd (cc)
uncovered_there content (part ∷ parts) zero ends has over =
    let from : is_le (key_cmp part.from ends.low) ≡ true = first_of_two _ _ has in
    let end : is_end_within ends.high (first_from parts) ≡ false = ap (λ l. is_end_within ends.high (first_from l)) (sym (drop_none parts)) ∙ over in
    rw (from, end) refl
uncovered_there content (part ∷ parts) (suc at) ends has over =
    let behind : suc at + 1 ≡ suc (at + 1) = omega arith in
    uncovered_there content parts at ends has (subst (λ (k : ℕ). is_end_within ends.high (first_from (drop k (part ∷ parts))) ≡ false) behind over)

-- where the part with the first key ends before the range does
pub spread_there : {S : Type 0} (content : S → Option Content) (parts : List (Part S)) → IsPlacement parts → (at : ℕ) (ends : Ends) → IsTrue (part_has_key parts at ends.low) → is_end_within ends.high (first_from (drop (at + 1) parts)) ≡ false
    → is_spread (spans content parts) ends ≡ true
spread_there content parts placed at ends has over =
    let list = spans content parts in
    let here = has_span content parts at ends.low has in
    let uncovered = uncovered_there content parts at ends has over in
    spread_on list (linked content parts placed.rising) at ends here uncovered (goes_on list at ends here uncovered)

-- ---- sums over the ranges

pub calls_more : {X : Type 0} (f : X → ℕ) (xs : List X) (i : ℕ) (x : X) → i < length xs → x ≡ get_or xs i x → sum_by f (take (i + 1) xs) ≡ sum_by f (take i xs) + f x
calls_more f xs i x less is = sum_by_more f xs i x less ∙ ap (λ z. sum_by f (take i xs) + f z) (sym is)

pub calls_within : {X : Type 0} (f : X → ℕ) (xs : List X) (i : ℕ) (x : X) → i < length xs → x ≡ get_or xs i x → sum_by f (take i xs) + f x ≤ sum_by f xs
calls_within f xs i x less is =
    let more = calls_more f xs i x less is in
    let all = sum_by-take-le f xs (i + 1) in
    omega (arith, more, all)
