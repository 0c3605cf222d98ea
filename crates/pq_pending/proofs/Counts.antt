-- How many pairs a range has with the changes made.
use Rattle.std.proofs.Common.{◌≡◌, ◌≤◌, ◌+◌, ℕ, Bool, true, false, cond, not, ◌&&◌, List, [], ◌∷◌, length, take, min, filter, Option, Some, None, IsTrue, refl, sym, ap, ◌∙◌, inl, inr, arith}
use Rattle.std.specs.Prelude.{All, IfSome, IfOk, Result, Ok, Err, is_none, is_some}
use Rattle.std.specs.declared.cmp.Ordering.{Ordering}
use Rattle.std.specs.declared.cmp.Ordering.TheVariants.{Less, Equal, Greater}
use Rattle.std.specs.List.{count_by}
use Rattle.std.specs.Ordering.{eq_by_cmp, is_lt, is_eq}
use Rattle.std.specs.Cmp.Lexicographic.{nat_list_cmp_total}
use Rattle.std.specs.FinMap.{remove, entries, entries_sorted, entries-insert, same_entries_map, put}
use Rattle.std.specs.FinMap.Entries.{by_order, is_sorted-where_key}
use Rattle.std.proofs.lemmas.List.{take_all, length-take-le}
use Rattle.std.proofs.lemmas.List.Sums.{length-filter, sum_by-take-le}
use Rattle.std.proofs.lemmas.List.Elements.{All-head, All-tail, filter_passes}
use Rattle.std.proofs.lemmas.Bool.{false≢true, cases_lt}
use Rattle.pq_content.proofs.Keys.{same_key as tied}
use Rattle.pq_content.specs.Pairs.{Change, Pair, changed_content}
use Rattle.pq_store.specs.Content.{Content, key_cmp, written_content, is_within, pairs_within, is_rising}
use Rattle.pq_store.proofs.Places.{Pairs, is_below_all, is_other, first_below, rest_rises, others_below_all, same_key, below_all}
use Rattle.pq_store.proofs.Views.{seen, seen_entries, seen_others, rising_others, told, part_of}
use Rattle.pq_store.specs.declared.damage.Broke.{Broke}
use Rattle.pq_pending.specs.Pending.{changed_value, AreDistinct, lies_within, removals_within, is_removal_within, is_put_within, puts_within, is_unchanged, counted_with, seen_content}
use Rattle.pq_pending.proofs.Lists.{count-cons}

-- ---- counts by a test of keys

abbrev one : Bool → ℕ
one b = cond b 1 0

count_same : {X : Type 0} (f g : X → Bool) → ((x : X) → f x ≡ g x) → (xs : List X) → count_by f xs ≡ count_by g xs
count_same f g same xs = ap (λ h. count_by h xs) (λ i x. same x i)

-- one more, and then one passing
more : (b : Bool) {m n : ℕ} → m ≡ n → cond b 1 0 + m ≡ cond b 1 0 + n
more b same = ap (λ k. cond b 1 0 + k) same

nothing : (b : Bool) (n : ℕ) → b ≡ false → n ≡ cond b 1 0 + n
nothing b n is = omega (arith, ap one is)

kept : (b : Bool) → b ≡ (b && true)
kept true = refl
kept false = refl

none : (b : Bool) → (b && false) ≡ false
none true = refl
none false = refl

count_filter : {X : Type 0} (f g : X → Bool) (xs : List X) → count_by f (filter g xs) ≡ count_by (λ x. f x && g x) xs
count_filter f g [] = refl
count_filter f g (x ∷ xs) =
    elim (g x) as (λ b. count_by f (cond b (x ∷ filter g xs) (filter g xs)) ≡ cond (f x && b) 1 0 + count_by (λ y. f y && g y) xs) [
      | true ↦ count-cons f x (filter g xs) ∙ more (f x) (count_filter f g xs) ∙ ap (λ b. cond b 1 0 + count_by (λ y. f y && g y) xs) (kept (f x))
      | false ↦ count_filter f g xs ∙ nothing (f x && false) _ (none (f x))
    ] ∙ sym (count-cons (λ y. f y && g y) x xs)

-- ---- what a change of one key does to such a count

module _ (test : List ℕ → Bool) where
  abbrev passes : Pair → Bool
  passes pair = test pair.0

  abbrev passes_but : List ℕ → Pair → Bool
  passes_but key pair = test pair.0 && is_other key pair

  rest_counted : (key : List ℕ) (pairs : Pairs) → IsTrue (is_below_all key pairs) → count_by passes pairs ≡ count_by (passes_but key) pairs
  rest_counted key pairs below = ap (count_by passes) (sym (others_below_all key pairs below)) ∙ count_filter passes (is_other key) pairs

  put_first : (key value : List ℕ) (pair : Pair) (pairs : Pairs) → key_cmp key pair.0 ≡ Less → IsTrue (is_rising (pair ∷ pairs))
      → count_by passes ((key, value) ∷ pair ∷ pairs) ≡ count_by (passes_but key) (pair ∷ pairs) + cond (test key) 1 0
  put_first key value pair pairs less up =
      let below : IsTrue (is_below_all key (pair ∷ pairs)) = ap (λ r. is_lt r && is_below_all key pairs) less ∙ below_all key pair.0 pairs less (first_below pair pairs up) in
      omega (arith, count-cons passes (key, value) (pair ∷ pairs), rest_counted key (pair ∷ pairs) below)

  put_over : (key value : List ℕ) (pair : Pair) (pairs : Pairs) → key_cmp key pair.0 ≡ Equal → IsTrue (is_rising (pair ∷ pairs))
      → count_by passes ((pair.0, value) ∷ pairs) ≡ count_by (passes_but key) (pair ∷ pairs) + cond (test key) 1 0
  put_over key value pair pairs equal up =
      let same : key ≡ pair.0 = same_key key pair.0 equal in
      let below : IsTrue (is_below_all key pairs) = ap (λ k. is_below_all k pairs) same ∙ first_below pair pairs up in
      let here : passes_but key pair ≡ false = ap (λ r. test pair.0 && not (is_eq r)) equal ∙ none (test pair.0) in
      omega (arith, count-cons passes (pair.0, value) pairs, count-cons (passes_but key) pair pairs, rest_counted key pairs below, ap (λ k. one (test k)) same, ap one here)

  put_later : (key value : List ℕ) (pair : Pair) (pairs : Pairs) → key_cmp key pair.0 ≡ Greater
      → count_by passes (put key_cmp key value pairs) ≡ count_by (passes_but key) pairs + cond (test key) 1 0
      → count_by passes (pair ∷ put key_cmp key value pairs) ≡ count_by (passes_but key) (pair ∷ pairs) + cond (test key) 1 0
  put_later key value pair pairs greater later =
      let here : passes_but key pair ≡ test pair.0 = ap (λ r. test pair.0 && not (is_eq r)) greater ∙ sym (kept (test pair.0)) in
      omega (arith, count-cons passes pair (put key_cmp key value pairs), count-cons (passes_but key) pair pairs, later, ap one here)

  put_counted : (key value : List ℕ) (pairs : Pairs) → IsTrue (is_rising pairs) → count_by passes (put key_cmp key value pairs) ≡ count_by (passes_but key) pairs + cond (test key) 1 0
  put_counted key value [] up = omega (arith, count-cons passes (key, value) [])
  put_counted key value (pair ∷ pairs) up =
      let later = put_counted key value pairs (rest_rises pair pairs up) in
      elim (key_cmp key pair.0) as (λ r. key_cmp key pair.0 ≡ r → count_by passes (by_order r ((key, value) ∷ pair ∷ pairs) ((pair.0, value) ∷ pairs) (pair ∷ put key_cmp key value pairs)) ≡ count_by (passes_but key) (pair ∷ pairs) + cond (test key) 1 0) [
        | Less ↦ λ is. put_first key value pair pairs is up
        | Equal ↦ λ is. put_over key value pair pairs is up
        | Greater ↦ λ is. put_later key value pair pairs is later
      ] refl

  rises : (content : Content) → IsTrue (is_rising (entries content))
  rises content = told _ (entries_sorted content)

  -- behind a removal the same pairs but that of the key are there
  entries-remove : (key : List ℕ) (content : Content) → entries (remove content key) ≡ filter (is_other key) (entries content)
  entries-remove key content =
      let pairs = entries content in
      let up : IsTrue (is_rising pairs) = rises content in
      let less = filter (is_other key) pairs in
      let same : seen pairs ≡ content = same_entries_map _ _ (seen_entries pairs up) in
      ap (λ (c : Content). entries (remove c key)) (sym same)
      ∙ ap entries (sym (seen_others key pairs less up refl))
      ∙ seen_entries less (rising_others key pairs less up refl)

  written_counted : (key : List ℕ) (new : Option (List ℕ)) (content : Content) → count_by passes (entries (written_content key new content)) ≡ count_by (passes_but key) (entries content) + cond (is_some new && test key) 1 0
  written_counted key (Some value) content =
      ap (count_by passes) (entries-insert nat_list_cmp_total content key value) ∙ put_counted key value (entries content) (rises content)
  written_counted key None content =
      omega (arith, ap (count_by passes) (entries-remove key content), count_filter passes (is_other key) (entries content))

-- ---- how many pairs pass a test with the changes made

module _ (test : List ℕ → Bool) where
  abbrev stays : List Change → List ℕ → Bool
  stays changes key = test key && is_none (changed_value changes key)

  abbrev is_put : Change → Bool
  is_put change = is_some change.1 && test change.0

  stays_later : (change : Change) (changes : List Change) (pair : Pair) → passes_but (stays changes) change.0 pair ≡ stays (change ∷ changes) pair.0
  stays_later change changes pair = inside (test pair.0) (eq_by_cmp key_cmp change.0 pair.0) (changed_value changes pair.0)
    where
      inside : (a b : Bool) (found : Option (Option (List ℕ))) → ((a && is_none found) && not b) ≡ (a && is_none (cond b (Some change.1) found))
      inside true true None = refl
      inside true true (Some new) = refl
      inside true false None = refl
      inside true false (Some new) = refl
      inside false b found = refl

  changed_counted : (changes : List Change) → AreDistinct changes → (content : Content)
      → count_by (passes test) (entries (changed_content changes content)) ≡ count_by (passes (stays changes)) (entries content) + count_by is_put changes
  changed_counted [] apart content = count_same (passes test) (passes (stays [])) (λ pair. kept (test pair.0)) (entries content) ∙ omega arith
  changed_counted (change ∷ changes) apart content =
      let here : stays changes change.0 ≡ test change.0 = ap (λ found. test change.0 && is_none found) apart.0 ∙ sym (kept (test change.0)) in
      omega (
        arith,
        changed_counted changes apart.1 (written_content change.0 change.1 content),
        written_counted (stays changes) change.0 change.1 content,
        count_same (passes_but (stays changes) change.0) (passes (stays (change ∷ changes))) (stays_later change changes) (entries content),
        count-cons is_put change changes,
        ap (λ b. one (is_some change.1 && b)) here,
      )

-- ---- how many pairs of a range are of changed keys

abbrev is_at : List ℕ → Pair → Bool
is_at key pair = eq_by_cmp key_cmp key pair.0

abbrev is_changed : List Change → Pair → Bool
is_changed changes pair = is_some (changed_value changes pair.0)

none_at : (key : List ℕ) (pairs : Pairs) → IsTrue (is_below_all key pairs) → count_by (is_at key) pairs ≡ 0
none_at key [] below = refl
none_at key (pair ∷ pairs) below =
    let parts = inside (key_cmp key pair.0) (is_below_all key pairs) below in
    omega (arith, count-cons (is_at key) pair pairs, none_at key pairs parts.1, ap one parts.0)
  where
    inside : (r : Ordering) (b : Bool) → (is_lt r && b) ≡ true → (is_eq r ≡ false) × (b ≡ true)
    inside Less b is = (refl, is)
    inside Equal b is = absurd (cc)
    inside Greater b is = absurd (cc)

one_at : (key : List ℕ) (pairs : Pairs) → IsTrue (is_rising pairs) → count_by (is_at key) pairs ≤ 1
one_at key [] up = omega arith
one_at key (pair ∷ pairs) up =
    let later = one_at key pairs (rest_rises pair pairs up) in
    let first : is_at key pair ≡ true → count_by (is_at key) pairs ≡ 0 = λ is. none_at key pairs (ap (λ k. is_below_all k pairs) (tied key pair.0 is) ∙ first_below pair pairs up) in
    by (is_at key pair) (count_by (is_at key) pairs) _ (count-cons (is_at key) pair pairs) later first
  where
    by : (b : Bool) (rest all : ℕ) → all ≡ one b + rest → rest ≤ 1 → (b ≡ true → rest ≡ 0) → all ≤ 1
    by true rest all sum few none_left = omega (arith, none_left refl)
    by false rest all sum few none_left = omega arith

count_never : {X : Type 0} (test : X → Bool) (xs : List X) → All (λ x. test x ≡ false) xs → count_by test xs ≡ 0
count_never {X} test [] never = refl
count_never {X} test (x ∷ xs) never =
    let P : X → Type 0 = λ x. test x ≡ false in
    omega (arith, count-cons test x xs, ap one (All-head P x xs never), count_never test xs (All-tail P x xs never))

count_nothing : {X : Type 0} (xs : List X) → count_by (λ x. false) xs ≡ 0
count_nothing [] = refl
count_nothing (x ∷ xs) = omega (arith, count-cons (λ x. false) x xs, count_nothing xs)

count_either : {X : Type 0} (f g h : X → Bool) → ((x : X) → one (f x) ≤ one (g x) + one (h x)) → (xs : List X) → count_by f xs ≤ count_by g xs + count_by h xs
count_either f g h each [] = omega arith
count_either f g h each (x ∷ xs) = omega (arith, count-cons f x xs, count-cons g x xs, count-cons h x xs, each x, count_either f g h each xs)

module _ (low high : List ℕ) where
  abbrev Within : Pair → Type 0
  Within pair = is_within low high pair ≡ true

  outside : (key : List ℕ) (pairs : Pairs) → All Within pairs → lies_within low high key ≡ false → count_by (is_at key) pairs ≡ 0
  outside key [] within out = refl
  outside key (pair ∷ pairs) within out =
      omega (arith, count-cons (is_at key) pair pairs, outside key pairs (All-tail Within pair pairs within) out, ap one (other (is_at key pair) refl))
    where
      other : (b : Bool) → is_at key pair ≡ b → b ≡ false
      other true is = absurd (false≢true (sym out ∙ ap (lies_within low high) (tied key pair.0 is) ∙ All-head Within pair pairs within))
      other false is = refl

  at_most : (key : List ℕ) (pairs : Pairs) → IsTrue (is_rising pairs) → All Within pairs → count_by (is_at key) pairs ≤ one (lies_within low high key)
  at_most key pairs up within = by (lies_within low high key) refl
    where
      by : (b : Bool) → lies_within low high key ≡ b → count_by (is_at key) pairs ≤ one b
      by true is = one_at key pairs up
      by false is = omega (arith, outside key pairs within is)

  -- no more than there are changes of keys in the range
  changed_few : (changes : List Change) (pairs : Pairs) → IsTrue (is_rising pairs) → All Within pairs → count_by (is_changed changes) pairs ≤ removals_within low high changes + puts_within low high changes
  changed_few [] pairs up within = omega (arith, count_nothing pairs)
  changed_few (change ∷ changes) pairs up within =
      omega (
        arith,
        count_either (is_changed (change ∷ changes)) (is_at change.0) (is_changed changes) (λ pair. here (is_at change.0 pair) (changed_value changes pair.0)) pairs,
        at_most change.0 pairs up within,
        changed_few changes pairs up within,
        removed_or_put change.1 (lies_within low high change.0),
        count-cons (is_removal_within low high) change changes,
        count-cons (is_put_within low high) change changes,
      )
    where
      here : (b : Bool) (found : Option (Option (List ℕ))) → one (is_some (cond b (Some change.1) found)) ≤ one b + one (is_some found)
      here true found = omega arith
      here false found = omega arith

      removed_or_put : (new : Option (List ℕ)) (b : Bool) → one b ≤ one (is_none new && b) + one (is_some new && b)
      removed_or_put None b = omega arith
      removed_or_put (Some value) b = omega arith

  stays_or_changed : (changes : List Change) (pairs : Pairs) → count_by (is_unchanged changes) pairs + count_by (is_changed changes) pairs ≡ length pairs
  stays_or_changed changes [] = refl
  stays_or_changed changes (pair ∷ pairs) =
      omega (arith, count-cons (is_unchanged changes) pair pairs, count-cons (is_changed changes) pair pairs, stays_or_changed changes pairs, one_of (changed_value changes pair.0))
    where
      one_of : (found : Option (Option (List ℕ))) → one (is_none found) + one (is_some found) ≡ 1
      one_of None = refl
      one_of (Some new) = refl

  module _ (changes : List Change) (apart : AreDistinct changes) (content : Content) where
    -- the range has the pairs that stay and those that are written
    length_changed : length (pairs_within (changed_content changes content) low high) ≡ count_by (is_unchanged changes) (pairs_within content low high) + puts_within low high changes
    length_changed =
        length-filter (is_within low high) (entries (changed_content changes content))
        ∙ changed_counted (lies_within low high) changes apart content
        ∙ ap (λ n. n + puts_within low high changes)
        (count_same (passes (stays (lies_within low high) changes)) (λ pair. is_unchanged changes pair && is_within low high pair) (λ pair. turned_and (is_within low high pair) (is_unchanged changes pair)) (entries content)
        ∙ sym (count_filter (is_unchanged changes) (is_within low high) (entries content)))
      where
        turned_and : (a b : Bool) → (a && b) ≡ (b && a)
        turned_and true true = refl
        turned_and true false = refl
        turned_and false true = refl
        turned_and false false = refl

    -- as many more as are removed are enough to tell the count
    pub counted : (cap : ℕ) → counted_with low high cap changes (take (cap + removals_within low high changes) (pairs_within content low high)) ≡ min cap (length (pairs_within (changed_content changes content) low high))
    counted cap =
        let all = pairs_within content low high in
        let n = cap + removals_within low high changes in
        let front = take n all in
        let part = part_of content low high n in
        elim (cases_lt n (length all)) [
          | inl more ↦ let cut : length front ≡ n = length-take-le n all (omega arith) in
              omega (
                arith,
                length_changed,
                cut,
                changed_few changes front part.rising part.within,
                stays_or_changed changes front,
                sum_by-take-le (λ pair. one (is_unchanged changes pair)) all n,
              )
          | inr short ↦ ap (λ (pairs : Pairs). counted_with low high cap changes pairs) (take_all n all short) ∙ ap (min cap) (sym length_changed)
        ]

    -- where no key of the range is changed, as many are there as before
    pub uncounted : removals_within low high changes ≡ 0 → puts_within low high changes ≡ 0 → length (pairs_within (changed_content changes content) low high) ≡ length (pairs_within content low high)
    uncounted no_removal no_put =
        let all = pairs_within content low high in
        let up : IsTrue (is_rising all) = told _ (is_sorted-where_key key_cmp (lies_within low high) (entries content) (entries_sorted content)) in
        omega (arith, length_changed, stays_or_changed changes all, changed_few changes all up (filter_passes (is_within low high) (entries content)))

-- ---- what a call answers of a content that may be told

pub count_seen : (low high : List ℕ) (changes : List Change) → AreDistinct changes → (cap : ℕ) (store : Option Content) (found : Pairs)
    → IfSome store (λ content. found ≡ take (cap + removals_within low high changes) (pairs_within content low high))
    → IfSome (seen_content changes store) (λ content. counted_with low high cap changes found ≡ min cap (length (pairs_within content low high)))
count_seen low high changes apart cap None found is = tt
count_seen low high changes apart cap (Some content) found is = ap (counted_with low high cap changes) is ∙ counted low high changes apart content cap

count_same_told : (low high : List ℕ) (changes : List Change) → AreDistinct changes → (cap n : ℕ) (store : Option Content)
    → removals_within low high changes ≡ 0 → puts_within low high changes ≡ 0
    → IfSome store (λ content. n ≡ min cap (length (pairs_within content low high)))
    → IfSome (seen_content changes store) (λ content. n ≡ min cap (length (pairs_within content low high)))
count_same_told low high changes apart cap n None no_removal no_put is = tt
count_same_told low high changes apart cap n (Some content) no_removal no_put is = is ∙ ap (min cap) (sym (uncounted low high changes apart content no_removal no_put))

pub count_stored : (low high : List ℕ) (changes : List Change) → AreDistinct changes → (cap : ℕ) (store : Option Content)
    → removals_within low high changes ≡ 0 → puts_within low high changes ≡ 0 → (result : Result ℕ Broke)
    → IfOk result (λ n. IfSome store (λ content. n ≡ min cap (length (pairs_within content low high))))
    → IfOk result (λ n. IfSome (seen_content changes store) (λ content. n ≡ min cap (length (pairs_within content low high))))
count_stored low high changes apart cap store no_removal no_put (Ok n) is = count_same_told low high changes apart cap n store no_removal no_put is
count_stored low high changes apart cap store no_removal no_put (Err error) is = is
