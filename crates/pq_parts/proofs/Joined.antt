-- What parts that are linked hold together: look-ups and writes at one of them.
use Rattle.std.proofs.Common.{◌≡◌, ℕ, zero, suc, Bool, true, false, cond, List, [], ◌∷◌, ◌++◌, get_or, IsTrue, IfSome, Option, Some, None, refl, sym, ap, ◌∙◌, subst, arith}
use Rattle.std.specs.Option.{option_map, option_and_then}
use Rattle.std.specs.Ordering.{is_lt, is_le}
use Rattle.std.specs.List.{list_all}
use Rattle.std.specs.FinMap as map
use Rattle.std.specs.FinMap.{find}
use Rattle.pq_store.specs.declared.store.Guard.{Guard}
use Rattle.pq_store.specs.Content.{Content, key_cmp, is_rising, after_write}
use Rattle.pq_store.proofs.Places.{Pairs, is_below_all, first_below, rest_rises}
use Rattle.pq_store.proofs.Views.{seen, seen_get}
use Rattle.pq_store.proofs.Uses.{rises}
use Rattle.pq_parts.specs.declared.part.Part.{Part}
use Rattle.pq_parts.specs.Clips.{is_key_before}
use Rattle.pq_parts.specs.Spans.{Span, is_of, spans, own_content, own_of, followed_by, concatenation, joined_content, first_from, firsts, are_rising, part_has_key}
use Rattle.pq_parts.specs.Gathered.{begin_of, LinkedSpans}
use Rattle.pq_parts.specs.Gathered.LinkedSpans.{none, link}
use Rattle.pq_parts.proofs.Clips.{lt_le, lt_is_le, first_of_two, second_of_two}
use Rattle.pq_parts.proofs.Pairs.{are_before, find_over, find_past, changed, changed_over, changed_past, entries_after, seen_changed, all_changed, rising_both}

pub begins_first : {S : Type 0} (content : S → Option Content) (parts : List (Part S)) → begin_of (spans content parts) ≡ first_from parts
begins_first content [] = refl
begins_first content (part ∷ parts) = refl

pub linked : {S : Type 0} (content : S → Option Content) (parts : List (Part S)) → IsTrue (are_rising parts) → LinkedSpans (spans content parts)
linked {S = S} content [] up = none
linked {S = S} content (part ∷ parts) up =
    link _ (spans content parts) (sym (begins_first content parts)) (ahead parts (first_below (part.from, []) (firsts parts) up))
    (linked content parts (rest_rises (part.from, []) (firsts parts) up))
  where
    ahead : (rest : List (Part S)) → IsTrue (is_below_all part.from (firsts rest)) → is_key_before part.from (first_from rest) ≡ true
    ahead [] below = refl
    ahead (next ∷ rest) below = first_of_two _ _ below

-- ---- a part's own pairs, and those behind them
pub record Both (first rest : Option Pairs) (all : Pairs) : Type 0 where
  pub front : Pairs
  pub behind : Pairs
  pub first_is : first ≡ Some front
  pub rest_is : rest ≡ Some behind
  pub all_is : all ≡ front ++ behind

pub both : (first rest : Option Pairs) (all : Pairs) → followed_by first rest ≡ Some all → Both first rest all
both None rest all is = absurd (cc)
both (Some front) None all is = absurd (cc)
both (Some front) (Some behind) all is = record { front = front; behind = behind; first_is = refl; rest_is = refl; all_is = cc }

pub record Owns (span : Span) (mine : Pairs) : Type 0 where
  pub content : Content
  pub held_is : span.held ≡ Some content
  pub mine_is : mine ≡ map.entries content
  pub all : list_all (λ pair. is_of span pair.0) (map.entries content) ≡ true

pub owns : (span : Span) (mine : Pairs) → own_content span ≡ Some mine → Owns span mine
owns span mine is = go span.held refl is
  where
    go : (held : Option Content) → span.held ≡ held → option_and_then (own_of span) held ≡ Some mine → Owns span mine
    go None held is = absurd (cc)
    go (Some content) held is =
        elim (list_all (λ pair. is_of span pair.0) (map.entries content)) as (λ b. list_all (λ pair. is_of span pair.0) (map.entries content) ≡ b → cond b (Some (map.entries content)) None ≡ Some mine → Owns span mine) [
          | true ↦ λ all own_content. record { content = content; held_is = held; mine_is = cc; all = all }
          | false ↦ λ all own_content. absurd (cc)
        ] refl is

-- a key below where the parts begin is below all that they hold
pub behind_all : (key : List ℕ) (list : List Span) → LinkedSpans list → is_key_before key (begin_of list) ≡ true → (pairs : Pairs) → concatenation list ≡ Some pairs → IsTrue (is_below_all key pairs)
behind_all key [] none before pairs is = let e : pairs ≡ [] = cc in rw e refl
behind_all key (span ∷ list) (link _ _ until ahead linked) before pairs is =
    let parts = both (own_content span) (concatenation list) pairs is in
    let mine = owns span parts.front parts.first_is in
    rw (parts.all_is, mine.mine_is) (over (map.entries mine.content) parts.behind mine.all (behind_all key list linked (past span.until ahead until) parts.behind parts.rest_is))
  where
    past : (until : Option (List ℕ)) → is_key_before span.from until ≡ true → until ≡ begin_of list → is_key_before key (begin_of list) ≡ true
    past None ahead until = rw (← until) refl
    past (Some end) ahead until = rw (← until) (lt_le key span.from end before (lt_is_le span.from end ahead))

    over : (xs ys : Pairs) → list_all (λ pair. is_of span pair.0) xs ≡ true → IsTrue (is_below_all key ys) → IsTrue (is_below_all key (xs ++ ys))
    over [] ys all under = under
    over (x ∷ xs) ys all under = grind (arith, all, lt_le key span.from x.0 before, over xs ys, under)

-- the pairs of all parts rise
pub all_rise : (list : List Span) → LinkedSpans list → (pairs : Pairs) → concatenation list ≡ Some pairs → IsTrue (is_rising pairs)
all_rise [] none pairs is = let e : pairs ≡ [] = cc in rw e refl
all_rise (span ∷ list) (link _ _ until ahead linked) pairs is =
    let parts = both (own_content span) (concatenation list) pairs is in
    let mine = owns span parts.front parts.first_is in
    rw (parts.all_is, mine.mine_is) (rising_both (map.entries mine.content) parts.behind (rises mine.content) (all_rise list linked parts.behind parts.rest_is)
    (apart (map.entries mine.content) parts.behind mine.all (λ key before. behind_all key list linked (rw (← until) before) parts.behind parts.rest_is)))
  where
    apart : (xs ys : Pairs) → list_all (λ pair. is_of span pair.0) xs ≡ true → ((key : List ℕ) → is_key_before key span.until ≡ true → IsTrue (is_below_all key ys)) → IsTrue (list_all (λ pair. is_below_all pair.0 ys) xs)
    apart [] ys all below = refl
    apart (x ∷ xs) ys all below =
        let here = below x.0 (second_of_two _ _ (first_of_two _ _ all)) in
        let rest = apart xs ys (second_of_two _ _ all) below in
        rw (here, rest) refl

-- the keys of a part stand before a key from its end on
front_before : (span : Span) (key end : List ℕ) → span.until ≡ Some end → is_le (key_cmp end key) ≡ true → (xs : Pairs) → list_all (λ pair. is_of span pair.0) xs ≡ true → IsTrue (are_before key xs)
front_before span key end until le [] all = refl
front_before span key end until le (x ∷ xs) all =
    let before : is_lt (key_cmp x.0 end) ≡ true = subst (λ until. is_key_before x.0 until ≡ true) until (second_of_two _ _ (first_of_two _ _ all)) in
    let here : is_lt (key_cmp x.0 key) ≡ true = lt_le x.0 end key before le in
    let rest = front_before span key end until le xs (second_of_two _ _ all) in
    rw (here, rest) refl

-- ---- the part at a place that has the key
-- the key is one of the part at this place
abbrev pub has_at : List Span → ℕ → List ℕ → Bool
has_at [] at key = false
has_at (span ∷ list) zero key = is_of span key
has_at (span ∷ list) (suc at) key = has_at list at key

pub has_span : {S : Type 0} (content : S → Option Content) (parts : List (Part S)) (at : ℕ) (key : List ℕ) → IsTrue (part_has_key parts at key) → IsTrue (has_at (spans content parts) at key)
has_span content [] at key has = has
has_span content (part ∷ parts) zero key has = has
has_span content (part ∷ parts) (suc at) key has = has_span content parts at key has

-- parts behind one begin at its end, which is at most a key of theirs
pub begins_until : (list : List Span) → LinkedSpans list → (at : ℕ) (key : List ℕ) → IsTrue (has_at list at key) → (until : Option (List ℕ)) → until ≡ begin_of list → (end : List ℕ) × (until ≡ Some end) × (is_le (key_cmp end key) ≡ true)
begins_until [] none at key has until is = absurd (cc)
begins_until (span ∷ list) (link _ _ ends ahead linked) zero key has until is = (span.from, is, first_of_two _ _ has)
begins_until (span ∷ list) (link _ _ ends ahead linked) (suc at) key has until is =
    let next = begins_until list linked at key has span.until ends in
    let less : is_lt (key_cmp span.from next.0) ≡ true = subst (λ until. is_key_before span.from until ≡ true) next.1 ahead in
    (span.from, is, lt_is_le span.from key (lt_le span.from next.0 key less next.2))

-- what the part has at the key is what all have
pub found_at : (list : List Span) → LinkedSpans list → (at : ℕ) (key : List ℕ) → IsTrue (has_at list at key) → (span : Span) → span ≡ get_or list at span
    → (pairs : Pairs) → concatenation list ≡ Some pairs → (content : Content) × (span.held ≡ Some content) × (find key_cmp key pairs ≡ map.get content key)
found_at [] none at key has span here pairs is = absurd (cc)
found_at (first ∷ list) (link _ _ until ahead linked) zero key has span here pairs is =
    let parts = both (own_content first) (concatenation list) pairs is in
    let mine = owns first parts.front parts.first_is in
    let below = behind_all key list linked (rw (← until) (second_of_two _ _ has)) parts.behind parts.rest_is in (
      mine.content,
      ap (λ s. s.held) here ∙ mine.held_is,
      ap (find key_cmp key) (parts.all_is ∙ ap (λ front. front ++ parts.behind) mine.mine_is) ∙ find_over key (map.entries mine.content) parts.behind below ∙ sym (map.get-entries mine.content key),
    )
found_at (first ∷ list) (link _ _ until ahead linked) (suc at) key has span here pairs is =
    let parts = both (own_content first) (concatenation list) pairs is in
    let mine = owns first parts.front parts.first_is in
    let ends = begins_until list linked at key has first.until until in
    let next = found_at list linked at key has span here parts.behind parts.rest_is in (
      next.0,
      next.1,
      ap (find key_cmp key) (parts.all_is ∙ ap (λ front. front ++ parts.behind) mine.mine_is)
          ∙ find_past key (map.entries mine.content) parts.behind (front_before first key ends.0 ends.1 ends.2 (map.entries mine.content) mine.all) ∙ next.2,
    )

-- so an answer at the part is an answer at all
pub answer_at : (P : Option (List ℕ) → Type 0) (list : List Span) → LinkedSpans list → (at : ℕ) (key : List ℕ) → IsTrue (has_at list at key) → (span : Span) → span ≡ get_or list at span
    → IfSome span.held (λ content. P (map.get content key)) → IfSome (joined_content list) (λ content. P (map.get content key))
answer_at P list linked at key has span here answer = go (concatenation list) refl
  where
    go : (pairs : Option Pairs) → concatenation list ≡ pairs → IfSome (option_map seen pairs) (λ content. P (map.get content key))
    go None is = tt
    go (Some pairs) is =
        let found = found_at list linked at key has span here pairs is in
        let same : map.get (seen pairs) key ≡ map.get found.0 key = seen_get pairs key (all_rise list linked pairs is) ∙ found.2 in
        let there : IfSome (Some found.0) (λ content. P (map.get content key)) = subst (λ held. IfSome held (λ content. P (map.get content key))) found.1 answer in
        subst P (sym same) there

-- ---- a write at the part
abbrev pub with_held : List Span → ℕ → Option Content → List Span
with_held [] at held = []
with_held (span ∷ list) zero held = record span { held = held } ∷ list
with_held (span ∷ list) (suc at) held = span ∷ with_held list at held

module _ (guard : Guard) (key : List ℕ) (new : Option (List ℕ)) where
  own_written : (span : Span) → is_of span key ≡ true → (held : Option Content)
      → option_and_then (own_of span) (option_map (after_write guard key new) held) ≡ option_map (changed guard key new) (option_and_then (own_of span) held)
  own_written span of None = refl
  own_written span of (Some content) =
      ap (λ pairs. cond (list_all (λ pair. is_of span pair.0) pairs) (Some pairs) None) (entries_after guard key new content)
      ∙ ap (λ b. cond b (Some (changed guard key new (map.entries content))) None) (all_changed (is_of span) guard key new (map.entries content) of)
      ∙ elim (list_all (λ pair. is_of span pair.0) (map.entries content)) as (λ b. cond b (Some (changed guard key new (map.entries content))) None ≡ option_map (changed guard key new) (cond b (Some (map.entries content)) None)) [ true ↦ refl | false ↦ refl ]

  written_first : (span : Span) (list : List Span) → LinkedSpans (span ∷ list) → is_of span key ≡ true
      → (mine rest : Option Pairs) → concatenation list ≡ rest
      → followed_by (option_map (changed guard key new) mine) rest ≡ option_map (changed guard key new) (followed_by mine rest)
  written_first span list links of None rest is = refl
  written_first span list links of (Some front) None is = refl
  written_first span list (link _ _ until ahead linked) of (Some front) (Some behind) is =
      ap Some (sym (changed_over guard key new front behind (behind_all key list linked (rw (← until) (second_of_two _ _ of)) behind is)))

  written_behind : (span : Span) (list : List Span) → LinkedSpans (span ∷ list) → (at : ℕ) → IsTrue (has_at list at key)
      → (mine : Option Pairs) → own_content span ≡ mine → (rest : Option Pairs)
      → followed_by mine (option_map (changed guard key new) rest) ≡ option_map (changed guard key new) (followed_by mine rest)
  written_behind span list links at has None is rest = refl
  written_behind span list links at has (Some front) is None = refl
  written_behind span list (link _ _ until ahead linked) at has (Some front) is (Some behind) =
      let mine = owns span front is in
      let ends = begins_until list linked at key has span.until until in
      let before : IsTrue (are_before key front) = rw mine.mine_is (front_before span key ends.0 ends.1 ends.2 (map.entries mine.content) mine.all) in
      ap Some (sym (changed_past guard key new front behind before))

  pub written_at : (list : List Span) → LinkedSpans list → (at : ℕ) → IsTrue (has_at list at key) → (span : Span) → span ≡ get_or list at span
      → (held : Option Content) → held ≡ option_map (after_write guard key new) span.held
      → concatenation (with_held list at held) ≡ option_map (changed guard key new) (concatenation list)
  written_at [] none at has span here held is = absurd (cc)
  written_at (first ∷ list) links zero has span here held is =
      ap (λ own_content. followed_by own_content (concatenation list)) (ap (option_and_then (own_of first)) (is ∙ ap (λ s. option_map (after_write guard key new) s.held) here) ∙ own_written first has first.held)
      ∙ written_first first list links has (own_content first) (concatenation list) refl
  written_at (first ∷ list) (link _ _ until ahead linked) (suc at) has span here held is =
      ap (followed_by (own_content first)) (written_at list linked at has span here held is) ∙ written_behind first list (link first list until ahead linked) at has (own_content first) refl (concatenation list)

  pub joined_written : (list : List Span) → LinkedSpans list → (at : ℕ) → IsTrue (has_at list at key) → (span : Span) → span ≡ get_or list at span
      → (held : Option Content) → held ≡ option_map (after_write guard key new) span.held
      → joined_content (with_held list at held) ≡ option_map (after_write guard key new) (joined_content list)
  joined_written list linked at has span here held is =
      ap (option_map seen) (written_at list linked at has span here held is) ∙ go (concatenation list) refl
    where
      go : (pairs : Option Pairs) → concatenation list ≡ pairs
          → option_map seen (option_map (changed guard key new) pairs) ≡ option_map (after_write guard key new) (option_map seen pairs)
      go None is = refl
      go (Some pairs) is = ap Some (seen_changed guard key new pairs (all_rise list linked pairs is))
