-- Tests in a row that one part answers alone: what its node finds is so of all parts together.
use Rattle.std.proofs.Common.{◌≡◌, ℕ, zero, suc, ◌+◌, ◌-◌, ◌≤◌, ◌<◌, Bool, true, false, cond, not, List, [], ◌∷◌, ◌++◌, length, take, drop, get_or, sum_by, position, IsTrue, IfSome, Option, Some, None, Result, Ok, Err, IfOk, refl, sym, subst, ap, ◌∙◌, arith}
use Rattle.std.specs.Prelude.{option_map, nat_lt, is_some, is_none, min, ◌==◌}
use Rattle.std.specs.List.{AllByRecursion, position_or_len}
use Rattle.std.specs.FinMap.{get}
use Rattle.std.specs.Ordering.{is_le}
use Rattle.std.proofs.lemmas.List.{take_all, length-take-le, length-drop, take-append-drop}
use Rattle.std.proofs.lemmas.List.Sums.{sum_by-append, sum_by-cons, sum_by-take-le}
use Rattle.pq_store.specs.declared.store.Ends.{Ends}
use Rattle.pq_store.specs.declared.store.StoreErr.{StoreErr}
use Rattle.pq_store.specs.declared.store.Test.{Test}
use Rattle.pq_store.specs.declared.store.Test.TheVariants.{Has, Lacks, Full}
use Rattle.pq_store.specs.Content.{Content, key_cmp, pairs_within}
use Rattle.pq_store.specs.Counts.{Counts, AllowedCounts, raised_counts, granted_counts, used_of}
use Rattle.pq_store.specs.Rounds.{Affords, Pays, Counted, AreTestsCounted, is_held, found_entries, least_entries, most_entries, test_entries, tests_made, sum_made, one_if_some}
use Rattle.pq_store.proofs.Places.{Pairs}
use Rattle.pq_store.proofs.Rounds.{AreNoneCounted, pays_within}
use Rattle.pq_store.proofs.Views.{seen, seen_get, seen_within}
use Rattle.pq_parts.specs.declared.part.Part.{Part}
use Rattle.pq_parts.specs.Spans.{Span, spans, own_content, concatenation, joined_content, first_from, part_has_key, IsPlacement}
use Rattle.pq_parts.specs.Asking.{is_end_within, answers_test, AreAnswered}
use Rattle.pq_parts.proofs.Clips.{first_of_two, second_of_two}
use Rattle.pq_parts.proofs.Joined.{linked, both, owns, all_rise, has_span, found_at}
use Rattle.pq_parts.proofs.Fetched.{drop_none}
use Rattle.pq_parts.proofs.Gather.{length-spans}
use Rattle.pq_parts.proofs.Ranged.{covers_at, within_at}
use Rattle.pq_parts.proofs.Nodes.{span_here}

-- ---- a node's content, and that of all

-- where all tell theirs, the node does
held_there : (list : List Span) (at : ℕ) → at < length list → (span : Span) → span ≡ get_or list at span → (pairs : Pairs) → concatenation list ≡ Some pairs → (mine : Content) × (span.held ≡ Some mine)
held_there [] at within span here pairs is = absurd (omega arith)
held_there (first ∷ list) zero within span here pairs is =
    let parts = both (own_content first) (concatenation list) pairs is in
    let mine = owns first parts.front parts.first_is in
    (mine.content, ap (λ s. s.held) here ∙ mine.held_is)
held_there (first ∷ list) (suc at) within span here pairs is =
    let parts = both (own_content first) (concatenation list) pairs is in
    held_there list at (omega arith) span here parts.behind parts.rest_is

-- a range that begins in a part and goes no further lies there
covers_there : {S : Type 0} (content : S → Option Content) (parts : List (Part S)) (at : ℕ) (ends : Ends) → IsTrue (part_has_key parts at ends.low) → is_end_within ends.high (first_from (drop (at + 1) parts)) ≡ true
    → covers_at (spans content parts) at ends ≡ true
covers_there content [] at ends has within = absurd (cc)
covers_there content (part ∷ parts) zero ends has within =
    let end : is_end_within ends.high (first_from parts) ≡ true = ap (λ l. is_end_within ends.high (first_from l)) (sym (drop_none parts)) ∙ within in
    let from : is_le (key_cmp part.from ends.low) ≡ true = first_of_two _ _ has in
    rw (from, end) refl
covers_there content (part ∷ parts) (suc at) ends has within =
    let behind : suc at + 1 ≡ suc (at + 1) = omega arith in
    covers_there content parts at ends has (subst (λ (k : ℕ). is_end_within ends.high (first_from (drop k (part ∷ parts))) ≡ true) behind within)

same_content : (a b : Content) → Some a ≡ Some b → a ≡ b
same_content a b same = cc

abbrev IsSeenSame : Pairs → Content → Test → Type 0
IsSeenSame pairs mine test = (is_held mine test ≡ is_held (seen pairs) test) × (found_entries mine test ≡ found_entries (seen pairs) test)

-- the same first place, and the same sum
len_same : {X : Type 0} (p q : X → Bool) (xs : List X) → AllByRecursion (λ x. p x ≡ q x) xs → position_or_len p xs ≡ position_or_len q xs
len_same p q [] all = refl
len_same p q (x ∷ xs) all = ap (λ b. cond (not b) (1 + position_or_len p xs) 0) all.0 ∙ ap (λ n. cond (not (q x)) (1 + n) 0) (len_same p q xs all.1)

position_same : {X : Type 0} (p q : X → Bool) (xs : List X) → AllByRecursion (λ x. p x ≡ q x) xs → position p xs ≡ position q xs
position_same p q xs all = ap (λ n. cond (nat_lt n (length xs)) (Some n) None) (len_same p q xs all)

module _ {S : Type 0} (content : S → Option Content) (parts : List (Part S)) (placed : IsPlacement parts) (at : ℕ) (within : at < length parts) (part : Part S) (here : part ≡ get_or parts at part) where
  same_value : (key : List ℕ) → IsTrue (part_has_key parts at key) → (pairs : Pairs) → concatenation (spans content parts) ≡ Some pairs → (mine : Content) → content part.store ≡ Some mine → get mine key ≡ get (seen pairs) key
  same_value key has pairs is mine held =
      let span = span_here content parts at part within here in
      let links = linked content parts placed.rising in
      let found = found_at (spans content parts) links at key (has_span content parts at key has) _ span.1 pairs is in
      sym (seen_get pairs key (all_rise (spans content parts) links pairs is) ∙ found.2 ∙ ap (λ c. get c key) (same_content found.0 mine (sym found.1 ∙ held)))

  same_pairs : (ends : Ends) → IsTrue (part_has_key parts at ends.low) → is_end_within ends.high (first_from (drop (at + 1) parts)) ≡ true → (pairs : Pairs) → concatenation (spans content parts) ≡ Some pairs → (mine : Content) → content part.store ≡ Some mine
      → pairs_within mine ends.low ends.high ≡ pairs_within (seen pairs) ends.low ends.high
  same_pairs ends has end pairs is mine held =
      let span = span_here content parts at part within here in
      let links = linked content parts placed.rising in
      let there = within_at (spans content parts) links at ends (covers_there content parts at ends has end) _ span.1 pairs is in
      sym (seen_within ends.low ends.high pairs (all_rise (spans content parts) links pairs is) ∙ there.2 ∙ ap (λ c. pairs_within c ends.low ends.high) (same_content there.0 mine (sym there.1 ∙ held)))

  same_test : (pairs : Pairs) → concatenation (spans content parts) ≡ Some pairs → (mine : Content) → content part.store ≡ Some mine → (test : Test) → answers_test parts at test ≡ true → IsSeenSame pairs mine test
  same_test pairs is mine held (Has key) answers = let same = same_value key answers pairs is mine held in (ap is_some same, ap one_if_some same)
  same_test pairs is mine held (Lacks key) answers = let same = same_value key answers pairs is mine held in (ap is_none same, ap one_if_some same)
  same_test pairs is mine held (Full ends n) answers =
      let same = same_pairs ends (first_of_two _ _ answers) (second_of_two _ _ answers) pairs is mine held in
      (ap (λ l. min n (length l) == n) same, ap (λ l. min n (length l)) same)

  all_held : (pairs : Pairs) → concatenation (spans content parts) ≡ Some pairs → (mine : Content) → content part.store ≡ Some mine → (tests : List Test) → AreAnswered parts at tests → AllByRecursion (λ test. is_held mine test ≡ is_held (seen pairs) test) tests
  all_held pairs is mine held [] answers = tt
  all_held pairs is mine held (test ∷ tests) answers = ((same_test pairs is mine held test answers.0).0, all_held pairs is mine held tests answers.1)

  same_sum : (pairs : Pairs) → concatenation (spans content parts) ≡ Some pairs → (mine : Content) → content part.store ≡ Some mine → (tests : List Test) → AreAnswered parts at tests → (n : ℕ)
      → sum_by (found_entries mine) (take n tests) ≡ sum_by (found_entries (seen pairs)) (take n tests)
  same_sum pairs is mine held tests answers zero = refl
  same_sum pairs is mine held [] answers (suc n) = refl
  same_sum pairs is mine held (test ∷ tests) answers (suc n) =
      let one = (same_test pairs is mine held test answers.0).1 in
      let rest = same_sum pairs is mine held tests answers.1 n in
      let front = sum_by-cons (found_entries mine) test (take n tests) in
      let back = sum_by-cons (found_entries (seen pairs)) test (take n tests) in
      omega (arith, one, rest, front, back)

  -- what is told of the node's content is so of that of all
  told_row : (P : Content → Type 0) → ((pairs : Pairs) → concatenation (spans content parts) ≡ Some pairs → (mine : Content) → content part.store ≡ Some mine → P mine → P (seen pairs))
      → IfSome (content part.store) P → IfSome (joined_content (spans content parts)) P
  told_row P moves told = go (concatenation (spans content parts)) refl
    where
      go : (pairs : Option Pairs) → concatenation (spans content parts) ≡ pairs → IfSome (option_map seen pairs) P
      go None is = tt
      go (Some pairs) is =
          let span = span_here content parts at part within here in
          let long = length-spans content parts in
          let mine = held_there (spans content parts) at (omega (arith, long, within)) _ span.1 pairs is in
          moves pairs is mine.0 mine.1 (subst (λ held. IfSome held P) mine.1 told)

  module _ (tests : List Test) (answers : AreAnswered parts at tests) where
    pub row_answer : (result : Result (Option ℕ) StoreErr) → IfOk result (λ held. IfSome (content part.store) (λ pairs. held ≡ position (is_held pairs) tests))
        → IfOk result (λ held. IfSome (joined_content (spans content parts)) (λ pairs. held ≡ position (is_held pairs) tests))
    row_answer (Ok held) answer =
        told_row (λ c. held ≡ position (is_held c) tests)
        (λ pairs is mine there found. found ∙ position_same (is_held mine) (is_held (seen pairs)) tests (all_held pairs is mine there tests answers)) answer
    row_answer (Err e) answer = tt

    row_found : (m n : Counts) (held : Option ℕ) → AreTestsCounted (content part.store) m n tests held → AreTestsCounted (joined_content (spans content parts)) m n tests held
    row_found m n held counted = record {
      made = counted.made;
      found = told_row (λ c. n.entries ≡ m.entries + sum_by (found_entries c) (take (tests_made tests held) tests))
          (λ pairs is mine there found. found ∙ ap (λ k. m.entries + k) (same_sum pairs is mine there tests answers (tests_made tests held))) counted.found;
      at_least = counted.at_least;
      at_most = counted.at_most;
    }

-- ---- what is paid for a row

counted_moved : (told : Option Content) (a b c d : Counts) (o : ℕ) (f : Content → ℕ) (l m : ℕ) → a.ops + d.ops ≡ b.ops + c.ops → a.entries + d.entries ≡ b.entries + c.entries → Counted told a b o f l m → Counted told c d o f l m
counted_moved None a b c d o f l m ops entries h =
    record { made = omega (arith, ops, h.made); found = tt; at_least = omega (arith, entries, h.at_least); at_most = omega (arith, entries, h.at_most) }
counted_moved (Some content) a b c d o f l m ops entries h =
    record { made = omega (arith, ops, h.made); found = omega (arith, entries, h.found); at_least = omega (arith, entries, h.at_least); at_most = omega (arith, entries, h.at_most) }

made_some : (tests : List Test) (held : Option ℕ) → 1 ≤ length tests → 1 ≤ tests_made tests held
made_some tests None some = some
made_some tests (Some i) some = omega arith

-- a node's share is what is left, and what it used of it is paid for
module _ (left before after : AllowedCounts) (m n : Counts) (o e : ℕ) (granted : before ≡ granted_counts left.left.ops left.left.entries) (paid : Pays before after m n o e) where
  used_ops : (used_of after).ops + m.ops ≡ n.ops
  used_ops =
      let all : after.granted.ops ≡ left.left.ops = ap (λ c. c.ops) (paid.granted ∙ ap (λ a. a.granted) granted) in
      let start : before.left.ops ≡ left.left.ops = ap (λ a. a.left.ops) granted in
      omega (arith, all, start, paid.spent_ops, paid.rise_ops)

  used_entries : (used_of after).entries + m.entries ≡ n.entries
  used_entries =
      let all : after.granted.entries ≡ left.left.entries = ap (λ c. c.entries) (paid.granted ∙ ap (λ a. a.granted) granted) in
      let start : before.left.entries ≡ left.left.entries = ap (λ a. a.left.entries) granted in
      omega (arith, all, start, paid.spent_entries, paid.rise_entries)

  few_ops : (used_of after).ops ≤ o
  few_ops = let used = used_ops in omega (arith, used, paid.few_ops)

  few_entries : (used_of after).entries ≤ e
  few_entries = let used = used_entries in omega (arith, used, paid.few_entries)

  pub row_affords : Affords left o e → Affords left (used_of after).ops (used_of after).entries
  row_affords affords =
      let ops = few_ops in
      let entries = few_entries in
      record { ops_left = omega (arith, ops, affords.ops_left); entries_left = omega (arith, entries, affords.entries_left) }

  pub row_paid : (a b : AllowedCounts) (k l : Counts) → Pays a b k l (used_of after).ops (used_of after).entries → Pays a b k l o e
  row_paid a b k l pays = pays_within a b k l _ _ o e pays few_ops few_entries

  row_raised : (k l : Counts) (told : Option Content) (tests : List Test) (held : Option ℕ) → 1 ≤ length tests → (1 ≤ (used_of after).ops → l ≡ raised_counts k (used_of after).ops (used_of after).entries)
      → AreTestsCounted told m n tests held → AreTestsCounted told k l tests held
  row_raised k l told tests held some raised counted =
      let ops = used_ops in
      let entries = used_entries in
      let made = made_some tests held some in
      let all = raised (omega (arith, ops, made, counted.made)) in
      let raised_ops : l.ops ≡ k.ops + (used_of after).ops = ap (λ c. c.ops) all in
      let raised_entries : l.entries ≡ k.entries + (used_of after).entries = ap (λ c. c.entries) all in
      counted_moved told m n k l _ _ _ _ (omega (arith, ops, raised_ops)) (omega (arith, entries, raised_entries)) counted

-- so what the node's call counts is what a row counts
pub row_counted : {S : Type 0} (content : S → Option Content) (parts : List (Part S)) (placed : IsPlacement parts) (at : ℕ) (within : at < length parts) (part : Part S) (here : part ≡ get_or parts at part)
    (tests : List Test) (answers : AreAnswered parts at tests) (left before after : AllowedCounts) (m n : Counts) (o e : ℕ) (granted : before ≡ granted_counts left.left.ops left.left.entries) (paid : Pays before after m n o e)
    → (k l : Counts) → 1 ≤ length tests → (1 ≤ (used_of after).ops → l ≡ raised_counts k (used_of after).ops (used_of after).entries)
    → (result : Result (Option ℕ) StoreErr) → IfOk result (AreTestsCounted (content part.store) m n tests) → IfOk result (AreTestsCounted (joined_content (spans content parts)) k l tests)
row_counted content parts placed at within part here tests answers left before after m n o e granted paid k l some raised (Ok held) counted =
    row_raised left before after m n o e granted paid k l (joined_content (spans content parts)) tests held some raised (row_found content parts placed at within part here tests answers m n held counted)
row_counted content parts placed at within part here tests answers left before after m n o e granted paid k l some raised (Err error) counted = tt

-- ---- lists in parts

module _ {X : Type 0} where
  take_on : (xs : List X) (n m : ℕ) → n ≤ m → m ≤ length xs → take n xs ++ take (m - n) (drop n xs) ≡ take m xs
  take_on xs zero m low high = let same : m - 0 ≡ m = omega arith in ap (λ (n : ℕ). take n xs) same
  take_on [] (suc n) m low high = absurd (omega arith)
  take_on (x ∷ xs) (suc n) zero low high = absurd (omega arith)
  take_on (x ∷ xs) (suc n) (suc m) low high =
      let same : suc m - suc n ≡ m - n = omega arith in
      ap (λ (k : ℕ). (x ∷ take n xs) ++ take k (drop n xs)) same ∙ ap (λ l. x ∷ l) (take_on xs n m (omega arith) (omega arith))

  pub part_long : (xs : List X) (n m : ℕ) → n ≤ m → m ≤ length xs → length (take (m - n) (drop n xs)) ≡ m - n
  part_long xs n m low high = let long = length-drop n xs in length-take-le (m - n) (drop n xs) (omega (arith, long))

  pub sum_on : (f : X → ℕ) (xs : List X) (n m : ℕ) → n ≤ m → m ≤ length xs → sum_by f (take m xs) ≡ sum_by f (take n xs) + sum_by f (take (m - n) (drop n xs))
  sum_on f xs n m low high = ap (sum_by f) (sym (take_on xs n m low high)) ∙ sum_by-append f (take n xs) (take (m - n) (drop n xs))

  same_ones : (xs : List X) (j m : ℕ) → j ≤ m → take j (take m xs) ≡ take j xs
  same_ones xs zero m less = refl
  same_ones [] (suc j) zero less = refl
  same_ones [] (suc j) (suc m) less = refl
  same_ones (x ∷ xs) (suc j) zero less = absurd (omega arith)
  same_ones (x ∷ xs) (suc j) (suc m) less = ap (λ l. x ∷ l) (same_ones xs j m (omega (arith, less)))

  same_one : (xs : List X) (j m : ℕ) → j < m → take 1 (drop j (take m xs)) ≡ take 1 (drop j xs)
  same_one xs j zero less = absurd (omega arith)
  same_one [] zero (suc m) less = refl
  same_one (x ∷ xs) zero (suc m) less = refl
  same_one [] (suc j) (suc m) less = refl
  same_one (x ∷ xs) (suc j) (suc m) less = same_one xs j m (omega (arith, less))

  drop_all : (k : ℕ) → drop {A = X} k [] ≡ []
  drop_all zero = refl
  drop_all (suc k) = refl

  behind : (xs : List X) (n j : ℕ) → drop j (drop n xs) ≡ drop (n + j) xs
  behind xs zero j = let same : j ≡ 0 + j = omega arith in ap (λ (k : ℕ). drop k xs) same
  behind [] (suc n) j = drop_all j ∙ sym (drop_all (suc n + j))
  behind (x ∷ xs) (suc n) j = let same : suc (n + j) ≡ suc n + j = omega arith in behind xs n j ∙ ap (λ (k : ℕ). drop k (x ∷ xs)) same

-- ---- the first place that passes, in a list behind another

mapped : (n len : ℕ) → cond (nat_lt (1 + n) (suc len)) (Some (1 + n)) None ≡ option_map suc (cond (nat_lt n len) (Some n) None)
mapped n len = grind (arith)

module _ {X : Type 0} (p : X → Bool) where
  position_cons : (x : X) (xs : List X) → position p (x ∷ xs) ≡ cond (p x) (Some 0) (option_map suc (position p xs))
  position_cons x xs = by (p x)
    where
      by : (b : Bool) → cond (nat_lt (cond (not b) (1 + position_or_len p xs) 0) (length (x ∷ xs))) (Some (cond (not b) (1 + position_or_len p xs) 0)) None ≡ cond b (Some 0) (option_map suc (position p xs))
      by true = grind (arith)
      by false = mapped (position_or_len p xs) (length xs)

  -- behind those of which none passes
  position_behind : (xs ys : List X) → position p xs ≡ None → position p (xs ++ ys) ≡ option_map (λ i. length xs + i) (position p ys)
  position_behind [] ys none = same (position p ys)
    where
      same : (o : Option ℕ) → o ≡ option_map (λ i. 0 + i) o
      same None = refl
      same (Some i) = ap Some (omega arith)
  position_behind (x ∷ xs) ys none = position_cons x (xs ++ ys) ∙ by (p x) (position p xs) (sym (position_cons x xs) ∙ none) (position_behind xs ys)
    where
      next : (r : Option ℕ) → option_map suc (option_map (λ i. length xs + i) r) ≡ option_map (λ i. length (x ∷ xs) + i) r
      next None = refl
      next (Some i) = ap Some (omega arith)

      by : (b : Bool) (r : Option ℕ) → cond b (Some 0) (option_map suc r) ≡ None → (r ≡ None → position p (xs ++ ys) ≡ option_map (λ i. length xs + i) (position p ys))
          → cond b (Some 0) (option_map suc (position p (xs ++ ys))) ≡ option_map (λ i. length (x ∷ xs) + i) (position p ys)
      by true r is rest = absurd (cc)
      by false None is rest = ap (option_map suc) (rest refl) ∙ next (position p ys)
      by false (Some i) is rest = absurd (cc)

  -- and before others
  position_before : (xs ys : List X) (i : ℕ) → position p xs ≡ Some i → position p (xs ++ ys) ≡ Some i
  position_before [] ys i is = absurd (cc)
  position_before (x ∷ xs) ys i is = position_cons x (xs ++ ys) ∙ by (p x) (position p xs) i (sym (position_cons x xs) ∙ is) (position_before xs ys)
    where
      by : (b : Bool) (r : Option ℕ) (i : ℕ) → cond b (Some 0) (option_map suc r) ≡ Some i → ((j : ℕ) → r ≡ Some j → position p (xs ++ ys) ≡ Some j)
          → cond b (Some 0) (option_map suc (position p (xs ++ ys))) ≡ Some i
      by true r i is rest = is
      by false None i is rest = absurd (cc)
      by false (Some j) i is rest = ap (option_map suc) (rest j refl) ∙ is

module _ (told : Option Content) (tests : List Test) (n m : ℕ) (low : n ≤ m) (high : m ≤ length tests) (none : IfSome told (λ c. position (is_held c) (take n tests) ≡ None)) where
  -- nor does one of a row behind them
  pub none_on : (held : Option ℕ) → held ≡ None → IfSome told (λ c. held ≡ position (is_held c) (take (m - n) (drop n tests))) → IfSome told (λ c. position (is_held c) (take m tests) ≡ None)
  none_on held is = go told none
    where
      go : (told : Option Content) → IfSome told (λ c. position (is_held c) (take n tests) ≡ None) → IfSome told (λ c. held ≡ position (is_held c) (take (m - n) (drop n tests))) → IfSome told (λ c. position (is_held c) (take m tests) ≡ None)
      go None before answer = tt
      go (Some c) before answer =
          ap (position (is_held c)) (sym (take_on tests n m low high)) ∙ position_behind (is_held c) (take n tests) (take (m - n) (drop n tests)) before
          ∙ ap (option_map (λ i. length (take n tests) + i)) (sym answer ∙ is)

  -- the first that holds in a row is the first of all
  pub held_on : (j : ℕ) → IfSome told (λ c. Some j ≡ position (is_held c) (take (m - n) (drop n tests))) → IfSome told (λ c. Some (n + j) ≡ position (is_held c) tests)
  held_on j = go told none
    where
      go : (told : Option Content) → IfSome told (λ c. position (is_held c) (take n tests) ≡ None) → IfSome told (λ c. Some j ≡ position (is_held c) (take (m - n) (drop n tests))) → IfSome told (λ c. Some (n + j) ≡ position (is_held c) tests)
      go None before answer = tt
      go (Some c) before answer =
          let long : length (take n tests) ≡ n = length-take-le n tests (omega arith) in
          let here : position (is_held c) (take m tests) ≡ Some (length (take n tests) + j) =
          ap (position (is_held c)) (sym (take_on tests n m low high)) ∙ position_behind (is_held c) (take n tests) (take (m - n) (drop n tests)) before
          ∙ ap (option_map (λ i. length (take n tests) + i)) (sym answer) in
          sym (ap (position (is_held c)) (sym (take-append-drop m tests)) ∙ position_before (is_held c) (take m tests) (drop m tests) _ here ∙ ap (λ k. Some (k + j)) long)

-- ---- what is counted for a row behind others

counted_both : (told : Option Content) (a b c : Counts) (o p o' : ℕ) (f g h : Content → ℕ) (l m l' m' l2 m2 : ℕ) → Counted told a b o f l m → Counted told b c p g l' m'
    → o' ≡ o + p → ((content : Content) → h content ≡ f content + g content) → l2 ≡ l + l' → m2 ≡ m + m' → Counted told a c o' h l2 m2
counted_both None a b c o p o' f g h l m l' m' l2 m2 one two ops sum least most =
    record { made = omega (arith, one.made, two.made, ops); found = tt; at_least = omega (arith, one.at_least, two.at_least, least); at_most = omega (arith, one.at_most, two.at_most, most) }
counted_both (Some content) a b c o p o' f g h l m l' m' l2 m2 one two ops sum least most =
    record { made = omega (arith, one.made, two.made, ops); found = omega (arith, one.found, two.found, sum content); at_least = omega (arith, one.at_least, two.at_least, least); at_most = omega (arith, one.at_most, two.at_most, most) }

module _ (told : Option Content) (a b c : Counts) (tests : List Test) (n m : ℕ) (low : n ≤ m) (high : m ≤ length tests) (before : AreNoneCounted told a b tests n) where
  pub none_behind : (held : Option ℕ) → held ≡ None → AreTestsCounted told b c (take (m - n) (drop n tests)) held → AreNoneCounted told a c tests m
  none_behind None is one =
      let part = take (m - n) (drop n tests) in
      let long = part_long tests n m low high in
      let all : take (length part) part ≡ part = take_all (length part) part (omega arith) in
      counted_both told a b c n (length part) m _ (λ content. sum_by (found_entries content) (take (length part) part)) _ _ _ _ _ _ _ before one
      (omega (arith, long, low))
      (λ content. sum_on (found_entries content) tests n m low high ∙ ap (λ l. sum_by (found_entries content) (take n tests) + sum_by (found_entries content) l) (sym all))
      (sum_on (least_entries false) tests n m low high) (sum_on (most_entries false) tests n m low high)
  none_behind (Some j) is one = absurd (cc)

  module _ (j : ℕ) (within : j < length (take (m - n) (drop n tests))) where
    sum_behind : (entries : Bool → Test → ℕ) → sum_made entries tests (Some (n + j)) ≡ sum_by (entries false) (take n tests) + sum_made entries (take (m - n) (drop n tests)) (Some j)
    sum_behind entries =
        let long = part_long tests n m low high in
        let less : j < m - n = omega (arith, within, long) in
        let here : n + j - n ≡ j = omega arith in
        let front = sum_on (entries false) tests n (n + j) (omega arith) (omega (arith, less, high)) ∙ ap (λ k. sum_by (entries false) (take n tests) + sum_by (entries false) (take k (drop n tests))) here in
        let ones = ap (sum_by (entries false)) (same_ones (drop n tests) j (m - n) (omega (arith, less))) in
        let one = ap (sum_by (entries true)) (same_one (drop n tests) j (m - n) less ∙ ap (take 1) (behind tests n j)) in
        omega (arith, front, ones, one)

    found_behind : (f : Test → ℕ) → sum_by f (take (n + j + 1) tests) ≡ sum_by f (take n tests) + sum_by f (take (j + 1) (take (m - n) (drop n tests)))
    found_behind f =
        let long = part_long tests n m low high in
        let less : j < m - n = omega (arith, within, long) in
        let here : n + j + 1 - n ≡ j + 1 = omega arith in
        let front = sum_on f tests n (n + j + 1) (omega arith) (omega (arith, less, high)) ∙ ap (λ k. sum_by f (take n tests) + sum_by f (take k (drop n tests))) here in
        let ones = ap (sum_by f) (same_ones (drop n tests) (j + 1) (m - n) (omega (arith, less))) in
        omega (arith, front, ones)

    pub held_behind : AreTestsCounted told b c (take (m - n) (drop n tests)) (Some j) → AreTestsCounted told a c tests (Some (n + j))
    held_behind one =
        counted_both told a b c n (j + 1) (n + j + 1) _ _ _ _ _ _ _ _ _ before one (omega arith) (λ content. found_behind (found_entries content)) (sum_behind least_entries) (sum_behind most_entries)

pub sum_within : (tests : List Test) (n m : ℕ) → n ≤ m → m ≤ length tests → sum_by test_entries (take n tests) + sum_by test_entries (take (m - n) (drop n tests)) ≤ sum_by test_entries tests
sum_within tests n m low high =
    let on = sum_on test_entries tests n m low high in
    let all = sum_by-take-le test_entries tests m in
    omega (arith, on, all)
