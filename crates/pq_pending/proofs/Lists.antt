-- Lists of changes, with more of them, and what they remove.
use Rattle.std.proofs.Common.{◌≡◌, ◌≤◌, ◌+◌, ℕ, Bool, true, false, cond, ◌&&◌, List, [], ◌∷◌, length, Option, Some, None, refl, arith}
use Rattle.std.specs.Prelude.{All, is_none}
use Rattle.std.specs.List.{count_by}
use Rattle.std.specs.Ordering.{eq_by_cmp}
use Rattle.std.proofs.lemmas.List.Sums.{sum_by-cons}
use Rattle.std.proofs.lemmas.List.Elements.{All-head, All-tail, All-nil, All-cons}
use Rattle.pq_schema.specs.declared.table.Access.{Access}
use Rattle.pq_content.specs.Pairs.{Change}
use Rattle.pq_store.specs.Content.{Content, key_cmp}
use Rattle.pq_pending.specs.Pending.{with_change, with_changes, seen_content, lies_within, is_removal_within, removals_within, is_of_sequence, is_removal_of, RemovesAtMost}

pub seen_none : (told : Option Content) → seen_content [] told ≡ told
seen_none None = refl
seen_none (Some content) = refl

-- ---- what holds of each change

one_more : (P : Change → Type 0) (changes : List Change) (change : Change) → All P changes → P change → All P (with_change changes change)
one_more P [] change old new = All-cons P change [] new (All-nil P)
one_more P (first ∷ rest) change old new =
    elim (eq_by_cmp key_cmp first.0 change.0) as (λ b. All P (cond b (change ∷ rest) (first ∷ with_change rest change))) [
      | true ↦ All-cons P change rest new (All-tail P first rest old)
      | false ↦ All-cons P first (with_change rest change) (All-head P first rest old) (one_more P rest change (All-tail P first rest old) new)
    ]

pub with_all : (P : Change → Type 0) (old more : List Change) → All P old → All P more → All P (with_changes old more)
with_all P old [] first second = first
with_all P old (change ∷ more) first second = with_all P (with_change old change) more (one_more P old change first (All-head P change more second)) (All-tail P change more second)

-- ---- how many pass a test

pub count-cons : {X : Type 0} (test : X → Bool) (x : X) (xs : List X) → count_by test (x ∷ xs) ≡ cond (test x) 1 0 + count_by test xs
count-cons test x xs = sum_by-cons (λ x. cond (test x) 1 0) x xs

one_count : (test : Change → Bool) (changes : List Change) (change : Change) → count_by test (with_change changes change) ≤ count_by test changes + cond (test change) 1 0
one_count test [] change = omega (arith, count-cons test change [])
one_count test (first ∷ rest) change =
    let later = one_count test rest change in
    elim (eq_by_cmp key_cmp first.0 change.0) as (λ b. count_by test (cond b (change ∷ rest) (first ∷ with_change rest change)) ≤ count_by test (first ∷ rest) + cond (test change) 1 0) [
      | true ↦ omega (arith, count-cons test first rest, count-cons test change rest)
      | false ↦ omega (arith, later, count-cons test first rest, count-cons test first (with_change rest change))
    ]

pub with_count : (test : Change → Bool) (old more : List Change) → count_by test (with_changes old more) ≤ count_by test old + count_by test more
with_count test old [] = omega arith
with_count test old (change ∷ more) = omega (arith, count-cons test change more, one_count test old change, with_count test (with_change old change) more)

pub removes_with : (n m : ℕ) (old more : List Change) → RemovesAtMost n old → RemovesAtMost m more → RemovesAtMost (n + m) (with_changes old more)
removes_with n m old more first second t access = omega (arith, with_count (is_removal_of t access) old more, first t access, second t access)

-- ---- how many there are

one_length : (changes : List Change) (change : Change) → (length changes ≤ length (with_change changes change)) × (length (with_change changes change) ≤ length changes + 1)
one_length [] change = (omega arith, omega arith)
one_length (first ∷ rest) change =
    let later = one_length rest change in
    elim (eq_by_cmp key_cmp first.0 change.0) as (λ b. (length (first ∷ rest) ≤ length (cond b (change ∷ rest) (first ∷ with_change rest change))) × (length (cond b (change ∷ rest) (first ∷ with_change rest change)) ≤ length (first ∷ rest) + 1)) [
      | true ↦ (omega arith, omega arith)
      | false ↦ (omega (arith, later.0), omega (arith, later.1))
    ]

pub with_length : (old more : List Change) → length (with_changes old more) ≤ length old + length more
with_length old [] = omega arith
with_length old (change ∷ more) = omega (arith, (one_length old change).1, with_length (with_change old change) more)

-- and no fewer than before
pub with_length_least : (old more : List Change) → length old ≤ length (with_changes old more)
with_length_least old [] = omega arith
with_length_least old (change ∷ more) = omega (arith, (one_length old change).0, with_length_least (with_change old change) more)

-- ---- removals of a range within a sequence

pub removed_within : (low high : List ℕ) (t : ℕ) (access : Access) (changes : List Change) → ((key : List ℕ) → lies_within low high key ≡ true → is_of_sequence t access key ≡ true) → removals_within low high changes ≤ count_by (is_removal_of t access) changes
removed_within low high t access [] inside = omega arith
removed_within low high t access (change ∷ changes) inside =
    omega (arith, count-cons (is_removal_within low high) change changes, count-cons (is_removal_of t access) change changes, here (is_none change.1) (lies_within low high change.0) (is_of_sequence t access change.0) (inside change.0), removed_within low high t access changes inside)
  where
    here : (removes within of : Bool) → (within ≡ true → of ≡ true) → cond (removes && within) 1 0 ≤ cond (removes && of) 1 0
    here false within of h = omega arith
    here true false of h = omega arith
    here true true false h = absurd (cc (h refl))
    here true true true h = omega arith
