-- What a part has of a range, between the later first key and the earlier end.
use Rattle.std.proofs.Common.{◌≡◌, ℕ, zero, suc, Bool, true, false, cond, List, [], ◌∷◌, length, map, filter, take, min, Option, Some, None, IfSome, Result, Ok, Err, IfOk, All, refl, subst, sym, ◌∙◌, arith, ◌&&◌}
use Rattle.std.specs.Option.{option_and_then}
use Rattle.std.specs.Ordering.{is_lt, is_le}
use Rattle.std.specs.List.{list_all}
use Rattle.std.specs.FinMap.{entries}
use Rattle.pq_store.specs.declared.store.Pair.{Pair}
use Rattle.pq_store.specs.declared.store.StoreErr.{StoreErr}
use Rattle.pq_store.specs.Content.{Content, key_cmp, entry, is_within, pairs_within, IsPartOf}
use Rattle.pq_store.proofs.Places.{Pairs, turned, same_key, below_below}
use Rattle.pq_parts.specs.Clips.{is_key_before, later, earlier}
use Rattle.pq_parts.specs.Spans.{Span, is_of, span_meets, own_content, own_of, IsPieceOf}

pub le_lt : (a b c : List ℕ) → is_le (key_cmp a b) ≡ true → is_lt (key_cmp b c) ≡ true → is_lt (key_cmp a c) ≡ true
le_lt a b c le lt = grind (arith, le, lt, same_key a b, below_below a b c)

pub lt_le : (a b c : List ℕ) → is_lt (key_cmp a b) ≡ true → is_le (key_cmp b c) ≡ true → is_lt (key_cmp a c) ≡ true
lt_le a b c lt le = grind (arith, le, lt, same_key b c, below_below a b c)

pub lt_is_le : (a b : List ℕ) → is_lt (key_cmp a b) ≡ true → is_le (key_cmp a b) ≡ true
lt_is_le a b lt = grind (arith, lt)

pub not_lt : (a b : List ℕ) → is_lt (key_cmp a b) ≡ false → is_le (key_cmp b a) ≡ true
not_lt a b above = grind (arith, above, turned b a)

later_le : (low from key : List ℕ) → is_le (key_cmp from key) ≡ true → is_le (key_cmp (later low from) key) ≡ is_le (key_cmp low key)
later_le low from key le =
    elim (is_lt (key_cmp low from)) as (λ b. is_lt (key_cmp low from) ≡ b → is_le (key_cmp (cond b from low) key) ≡ is_le (key_cmp low key)) [
      | true ↦ λ lt. le ∙ sym (lt_is_le low key (lt_le low from key lt le))
      | false ↦ λ _. refl
    ] refl

earlier_lt : (high key : List ℕ) (until : Option (List ℕ)) → is_key_before key until ≡ true → is_lt (key_cmp key (earlier high until)) ≡ is_lt (key_cmp key high)
earlier_lt high key None before = refl
earlier_lt high key (Some end) before =
    elim (is_lt (key_cmp end high)) as (λ b. is_lt (key_cmp end high) ≡ b → is_lt (key_cmp key (cond b end high)) ≡ is_lt (key_cmp key high)) [
      | true ↦ λ lt. before ∙ sym (lt_le key end high before (lt_is_le end high lt))
      | false ↦ λ _. refl
    ] refl

pub clipped_is : (span : Span) (low high : List ℕ) (pair : List ℕ × List ℕ) → is_of span pair.0 ≡ true
    → is_within (later low span.from) (earlier high span.until) pair ≡ is_within low high pair
clipped_is span low high pair of = grind (arith, of, later_le low span.from pair.0, earlier_lt high pair.0 span.until)

-- whatever pairs the part has
pub whatever : (P : Pairs → Type 0) → ((pairs : Pairs) → P pairs) → (pairs : Option Pairs) → IfSome pairs P
whatever P all None = tt
whatever P all (Some pairs) = all pairs

filter_alike : (p f g : List ℕ × List ℕ → Bool) → ((pair : List ℕ × List ℕ) → p pair ≡ true → f pair ≡ g pair) → (pairs : Pairs) → list_all p pairs ≡ true → filter f pairs ≡ filter g pairs
filter_alike p f g same [] all = refl
filter_alike p f g same (pair ∷ pairs) all = grind (arith, all, same pair, filter_alike p f g same pairs)

pub filter_none : (p f : List ℕ × List ℕ → Bool) → ((pair : List ℕ × List ℕ) → p pair ≡ true → f pair ≡ false) → (pairs : Pairs) → list_all p pairs ≡ true → filter f pairs ≡ []
filter_none p f none [] all = refl
filter_none p f none (pair ∷ pairs) all = grind (arith, all, none pair, filter_none p f none pairs)

-- what holds of all the pairs of a part whose node tells them
own_is : (span : Span) (P : Pairs → Type 0) → (held : Option Content)
    → IfSome held (λ content. list_all (λ pair. is_of span pair.0) (entries content) ≡ true → P (entries content))
    → IfSome (option_and_then (own_of span) held) P
own_is span P None shows = tt
own_is span P (Some content) shows =
    elim (list_all (λ pair. is_of span pair.0) (entries content)) as (λ b. (b ≡ true → P (entries content)) → IfSome (cond b (Some (entries content)) None) P) [
      | true ↦ λ h. h refl
      | false ↦ λ h. tt
    ] shows

-- a node that is asked between the clipped ends answers what the part has of the range
pub own_met : (span : Span) (low high : List ℕ) (P : Pairs → Type 0)
    → IfSome span.held (λ content. P (pairs_within content (later low span.from) (earlier high span.until)))
    → IfSome (own_content span) (λ mine. P (filter (is_within low high) mine))
own_met span low high P asked = own_is span (λ mine. P (filter (is_within low high) mine)) span.held (clipped span.held asked)
  where
    clipped : (held : Option Content)
        → IfSome held (λ content. P (pairs_within content (later low span.from) (earlier high span.until)))
        → IfSome held (λ content. list_all (λ pair. is_of span pair.0) (entries content) ≡ true → P (filter (is_within low high) (entries content)))
    clipped None asked = tt
    clipped (Some content) asked = λ all. subst P (filter_alike (λ pair. is_of span pair.0) _ _ (clipped_is span low high) (entries content) all) asked

three : (a b c : Bool) → a ≡ true → b ≡ true → c ≡ true → (a && (b && c)) ≡ true
three a b c x y z = rw (x, y, z) refl

pub first_of_two : (a b : Bool) → (a && b) ≡ true → a ≡ true
first_of_two true b is = refl
first_of_two false b is = is

pub second_of_two : (a b : Bool) → (a && b) ≡ true → b ≡ true
second_of_two true b is = is
second_of_two false b is = absurd (cc)

-- a part that has a pair of the range meets it
met_by : (span : Span) (low high : List ℕ) (pair : List ℕ × List ℕ) → is_of span pair.0 ≡ true → is_within low high pair ≡ true → span_meets low high span ≡ true
met_by span low high pair of is =
    let from_low : is_le (key_cmp low pair.0) ≡ true = first_of_two _ _ is in
    let to_high : is_lt (key_cmp pair.0 high) ≡ true = second_of_two _ _ is in
    let from_part : is_le (key_cmp span.from pair.0) ≡ true = first_of_two _ _ of in
    three _ _ _ (le_lt low pair.0 high from_low to_high) (le_lt span.from pair.0 high from_part to_high) (ends span.until (second_of_two _ _ of) from_low)
  where
    ends : (until : Option (List ℕ)) → is_key_before pair.0 until ≡ true → is_le (key_cmp low pair.0) ≡ true → is_key_before low until ≡ true
    ends None before from_low = refl
    ends (Some end) before from_low = le_lt low pair.0 end from_low before

pub unmet_is : (span : Span) (low high : List ℕ) → span_meets low high span ≡ false → (pair : List ℕ × List ℕ) → is_of span pair.0 ≡ true → is_within low high pair ≡ false
unmet_is span low high unmet pair of =
    elim (is_within low high pair) as (λ b. is_within low high pair ≡ b → b ≡ false) [
      | true ↦ λ is. sym (met_by span low high pair of is) ∙ unmet
      | false ↦ λ _. refl
    ] refl

-- and has nothing of a range that it doesn't meet
pub own_unmet : (span : Span) (low high : List ℕ) (P : Pairs → Type 0) → span_meets low high span ≡ false → P [] → IfSome (own_content span) (λ mine. P (filter (is_within low high) mine))
own_unmet span low high P unmet none = own_is span (λ mine. P (filter (is_within low high) mine)) span.held (nothing span.held)
  where
    nothing : (held : Option Content) → IfSome held (λ content. list_all (λ pair. is_of span pair.0) (entries content) ≡ true → P (filter (is_within low high) (entries content)))
    nothing None = tt
    nothing (Some content) = λ all. subst P (sym (filter_none (λ pair. is_of span pair.0) (is_within low high) (unmet_is span low high unmet) (entries content) all)) none

-- ---- what a node that was asked between the clipped ends has answered
pub counted_within : (span : Span) (low high lo hi : List ℕ) (cap : ℕ) (result : Result ℕ StoreErr) → lo ≡ later low span.from → hi ≡ earlier high span.until
    → IfOk result (λ n. IfSome span.held (λ pairs. n ≡ min cap (length (pairs_within pairs lo hi))))
    → IfOk result (λ n. IfSome (own_content span) (λ mine. n ≡ min cap (length (filter (is_within low high) mine))))
counted_within span low high lo hi cap (Ok n) l h answer = own_met span low high (λ pairs. n ≡ min cap (length pairs)) (rw (← l, ← h) answer)
counted_within span low high lo hi cap (Err e) l h answer = tt

pub ranged_within : (span : Span) (low high lo hi : List ℕ) (limit : ℕ) (result : Result (List Pair) StoreErr) → lo ≡ later low span.from → hi ≡ earlier high span.until
    → IfOk result (λ found. IfSome span.held (λ pairs. map entry found ≡ take limit (pairs_within pairs lo hi)))
    → IfOk result (λ found. IfSome (own_content span) (λ mine. map entry found ≡ take limit (filter (is_within low high) mine)))
ranged_within span low high lo hi limit (Ok found) l h answer = own_met span low high (λ pairs. map entry found ≡ take limit pairs) (rw (← l, ← h) answer)
ranged_within span low high lo hi limit (Err e) l h answer = tt

le_le : (a b c : List ℕ) → is_le (key_cmp a b) ≡ true → is_le (key_cmp b c) ≡ true → is_le (key_cmp a c) ≡ true
le_le a b c x y = grind (arith, x, y, same_key a b, same_key b c, below_below a b c)

from_later : (low from key : List ℕ) → is_le (key_cmp (later low from) key) ≡ true → (is_le (key_cmp low key) ≡ true) × (is_le (key_cmp from key) ≡ true)
from_later low from key =
    elim (is_lt (key_cmp low from)) as (λ b. is_lt (key_cmp low from) ≡ b → is_le (key_cmp (cond b from low) key) ≡ true → (is_le (key_cmp low key) ≡ true) × (is_le (key_cmp from key) ≡ true)) [
      | true ↦ λ lt le. (lt_is_le low key (lt_le low from key lt le), le)
      | false ↦ λ other le. (le, le_le from low key (not_lt low from other) le)
    ] refl

before_earlier : (high key : List ℕ) (until : Option (List ℕ)) → is_lt (key_cmp key (earlier high until)) ≡ true → (is_lt (key_cmp key high) ≡ true) × (is_key_before key until ≡ true)
before_earlier high key None lt = (lt, refl)
before_earlier high key (Some end) lt =
    elim (is_lt (key_cmp end high)) as (λ b. is_lt (key_cmp end high) ≡ b → is_lt (key_cmp key (cond b end high)) ≡ true → (is_lt (key_cmp key high) ≡ true) × (is_lt (key_cmp key end) ≡ true)) [
      | true ↦ λ less to_end. (lt_le key end high to_end (lt_is_le end high less), to_end)
      | false ↦ λ other to_high. (to_high, lt_le key high end to_high (not_lt end high other))
    ] refl lt

clipped_in : (span : Span) (low high : List ℕ) (pair : List ℕ × List ℕ) → is_within (later low span.from) (earlier high span.until) pair ≡ true
    → (is_within low high pair ≡ true) × (is_of span pair.0 ≡ true)
clipped_in span low high pair is =
    let x = from_later low span.from pair.0 (first_of_two _ _ is) in
    let y = before_earlier high pair.0 span.until (second_of_two _ _ is) in
    (two _ _ x.0 y.0, two _ _ x.1 y.1)
  where
    two : (a b : Bool) → a ≡ true → b ≡ true → (a && b) ≡ true
    two a b p q = rw (p, q) refl

pub piece_of : (span : Span) (low high lo hi : List ℕ) (limit : ℕ) (result : Result (List Pair) StoreErr) → lo ≡ later low span.from → hi ≡ earlier high span.until
    → IfOk result (λ found. IsPartOf lo hi limit (map entry found)) → IfOk result (λ found. IsPieceOf span low high limit (map entry found))
piece_of span low high lo hi limit (Ok found) l h part = piece (map entry found) (rw (← l, ← h) part)
  where
    each : (P : List ℕ × List ℕ → Type 0) (pairs : Pairs) → All (λ pair. is_within (later low span.from) (earlier high span.until) pair ≡ true) pairs
        → ((pair : List ℕ × List ℕ) → is_within (later low span.from) (earlier high span.until) pair ≡ true → P pair) → All P pairs
    each P pairs all shows = λ k d lt. shows _ (all k d lt)

    piece : (pairs : Pairs) → IsPartOf (later low span.from) (earlier high span.until) limit pairs → IsPieceOf span low high limit pairs
    piece pairs part = record {
      part = record { few = part.few; within = each _ pairs part.within (λ pair is. (clipped_in span low high pair is).0); rising = part.rising };
      own = each _ pairs part.within (λ pair is. (clipped_in span low high pair is).1);
    }
piece_of span low high lo hi limit (Err e) l h part = tt

pub take_none : (n : ℕ) → ◌≡◌ {A = Pairs} (take n []) []
take_none zero = refl
take_none (suc n) = refl
