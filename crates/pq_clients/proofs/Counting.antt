-- Different keys with a pair of their own in a range are at most what a count of it answers.
use Rattle.std.proofs.Common.{◌≡◌, ℕ, suc, ◌+◌, ◌≤◌, min, nat_le, Bool, true, false, cond, not, ◌⊎◌, inl, inr, List, [], ◌∷◌, length, None, is_some, sym, ap, ◌∙◌, subst, arith}
use Rattle.std.specs.FinMap.{entries, entries_sorted, get-entries, find}
use Rattle.std.specs.FinMap.Entries.{where_key, is_sorted, is_sorted-where_key, find-where_key, length_without}
use Rattle.std.specs.Prelude.{T}
use Rattle.std.specs.Cmp.Lexicographic.{nat_list_cmp_total}
use Rattle.std.specs.declared.cmp.Ordering.TheVariants.{Equal}
use Rattle.std.proofs.lemmas.Bool.{false≢true}
use Rattle.std.proofs.lemmas.Bool.Decides.{nat_tests}
use Rattle.pq_key_code.specs.KeyCode.{past_code}
use Rattle.pq_schema.specs.declared.table.Table.{Table}
use Rattle.pq_content.specs.Pairs.{Pair, is_in_space}
use Rattle.pq_content.proofs.Changes.{bytes_apart}
use Rattle.pq_content.proofs.Keys.{key_itself}
use Rattle.pq_store.specs.Content.{Content, key_cmp, is_within}
use Rattle.pq_clients.specs.Flights.{has_entry}
use Rattle.pq_clients.specs.Steps.{counted}
use Rattle.pq_clients.specs.Invariant.{Names, is_there, is_key, AtMost, Each, Different}
use Rattle.pq_clients.proofs.Basics.{neither_of, space_apart, not_both, key_apart}
use Rattle.pq_clients.proofs.Owners.{one_owner, entry_space}

-- pairs by their keys
abbrev Pairs : Type 0
Pairs = List Pair

abbrev is_other : List ℕ → List ℕ → Bool
is_other q k = not (is_key q k)

found_in : Pairs → List ℕ → Bool
found_in es q = is_some (find key_cmp q es)

-- a list without the pair of a key that it has is shorter by one
one_less : (q : List ℕ) (es : Pairs) → T (is_sorted key_cmp es) → is_some (find key_cmp q es) ≡ true → suc (length (where_key key_cmp (is_other q) es)) ≡ length es
one_less q es sorted there =
    let whole = length_without key_cmp nat_list_cmp_total q es sorted in
    let one : ◌≡◌ {A = ℕ} (cond (is_some (find key_cmp q es)) 1 0) 1 = ap (λ b. cond b 1 0) there in
    omega (arith, whole, one)

alike : (f : List ℕ → Bool) (q x : List ℕ) → key_cmp q x ≡ Equal → f x ≡ f q
alike f q x e = ap f (sym (bytes_apart q x e))

-- another key is found without it
still_there : (q k : List ℕ) (es : Pairs) → (k ≡ q → ⊥) → is_some (find key_cmp k es) ≡ true → is_some (find key_cmp k (where_key key_cmp (is_other q) es)) ≡ true
still_there q k es apart there =
    ap is_some (find-where_key key_cmp (is_other q) k (alike (is_other q) k) es ∙ ap (λ b. cond (not b) (find key_cmp k es) None) (key_apart q k (λ e. apart (sym e)))) ∙ there

module _ (tables : List Table) where
  -- the key's own pair, or the pair of an entry that names it
  abbrev Own : Pairs → List ℕ → Type 0
  Own es k = ((is_in_space 2 k ≡ true) × (is_some (find key_cmp k es) ≡ true)) ⊎ ((e : List ℕ) × Names tables k e × (is_some (find key_cmp e es) ≡ true))

  abbrev AllOwn : Pairs → List (List ℕ) → Type 0
  AllOwn es [] = Unit {0}
  AllOwn es (k ∷ ks) = Own es k × AllOwn es ks

  -- the keys of a list differ from one that is not among them
  differs : (k j : List ℕ) (ks : List (List ℕ)) → has_entry k (j ∷ ks) ≡ false → j ≡ k → ⊥
  differs k j ks h e = false≢true (sym (neither_of (is_key k j) (has_entry k ks) h).0 ∙ ap (is_key k) e ∙ key_itself k)

  without_row : (k : List ℕ) (es : Pairs) → is_in_space 2 k ≡ true → (ks : List (List ℕ)) → has_entry k ks ≡ false → AllOwn es ks → AllOwn (where_key key_cmp (is_other k) es) ks
  without_row k es space [] d h = tt
  without_row k es space (j ∷ js) d h = (
    elim h.0 as (λ _. Own (where_key key_cmp (is_other k) es) j) [
      | inl own ↦ inl (own.0, still_there k j es (differs k j js d) own.1)
      | inr entry ↦ inr (entry.0, entry.1, still_there k entry.0 es (λ e. space_apart 2 k entry.0 space (not_both entry.0 (entry_space tables j entry.0 entry.1)) (sym e)) entry.2)
    ],
    without_row k es space js (neither_of (is_key k j) (has_entry k js) d).1 h.1,
  )

  without_entry : (k e : List ℕ) (es : Pairs) → Names tables k e → (ks : List (List ℕ)) → has_entry k ks ≡ false → AllOwn es ks → AllOwn (where_key key_cmp (is_other e) es) ks
  without_entry k e es names [] d h = tt
  without_entry k e es names (j ∷ js) d h = (
    elim h.0 as (λ _. Own (where_key key_cmp (is_other e) es) j) [
      | inl own ↦ inl (own.0, still_there e j es (λ same. space_apart 2 j e own.0 (not_both e (entry_space tables k e names)) same) own.1)
      | inr entry ↦ inr (entry.0, entry.1, still_there e entry.0 es (λ same. differs k j js d (one_owner tables j k e (subst (λ (q : List ℕ). Names tables j q) same entry.1) names)) entry.2)
    ],
    without_entry k e es names js (neither_of (is_key k j) (has_entry k js) d).1 h.1,
  )

  -- a list with a pair for each of these keys has so many
  at_least : (ks : List (List ℕ)) (es : Pairs) → T (is_sorted key_cmp es) → Different ks → AllOwn es ks → length ks ≤ length es
  at_least [] es sorted d h = omega arith
  at_least (k ∷ ks) es sorted d h = elim h.0 [
    | inl own ↦
        let rest = at_least ks (where_key key_cmp (is_other k) es) (is_sorted-where_key key_cmp (is_other k) es sorted) d.1 (without_row k es own.0 ks d.0 h.1) in
        let less = one_less k es sorted own.1 in
        omega (arith, rest, less)
    | inr entry ↦
        let rest = at_least ks (where_key key_cmp (is_other entry.0) es) (is_sorted-where_key key_cmp (is_other entry.0) es sorted) d.1 (without_entry k entry.0 es entry.1 ks d.0 h.1) in
        let less = one_less entry.0 es sorted entry.2 in
        omega (arith, rest, less)
  ]

  -- what a count under this beginning finds at a key
  abbrev pub is_under : List ℕ → List ℕ → Bool
  is_under front k = is_within front (past_code front) (k, [])

  abbrev pub Found : Content → List ℕ → List ℕ → Type 0
  Found c front k = ((is_in_space 2 k ≡ true) × (is_under front k ≡ true) × (is_there c k ≡ true))
      ⊎ ((e : List ℕ) × Names tables k e × (is_under front e ≡ true) × (is_there c e ≡ true))

  under_found : (c : Content) (front q : List ℕ) → is_under front q ≡ true → is_there c q ≡ true → is_some (find key_cmp q (where_key key_cmp (is_under front) (entries c))) ≡ true
  under_found c front q under there =
      ap is_some (find-where_key key_cmp (is_under front) q (alike (is_under front) q) (entries c) ∙ ap (λ b. cond b (find key_cmp q (entries c)) None) under ∙ sym (get-entries c q)) ∙ there

  pub counted_most : (c : Content) (front : List ℕ) (n : ℕ) (p : List ℕ → Bool) → nat_le (counted c front (n + 1)) n ≡ true → ((k : List ℕ) → p k ≡ true → Found c front k) → AtMost n p
  unfolding counted
  counted_most c front n p few found ks d h =
      let es = where_key key_cmp (is_under front) (entries c) in
      let a = at_least ks es (is_sorted-where_key key_cmp (is_under front) (entries c) (entries_sorted c)) d (each ks h) in
      within n (length es) (length ks) few a
    where
      within : (n g x : ℕ) → nat_le (min (n + 1) g) n ≡ true → x ≤ g → x ≤ n
      within n g x few a = let b : min (n + 1) g ≤ n = grind (arith, nat_tests) in omega arith

      own : (k : List ℕ) → Found c front k → Own (where_key key_cmp (is_under front) (entries c)) k
      own k (inl f) = inl (f.0, under_found c front k f.1 f.2)
      own k (inr f) = inr (f.0, f.1, under_found c front f.0 f.2 f.3)

      each : (ks : List (List ℕ)) → Each p ks → AllOwn (where_key key_cmp (is_under front) (entries c)) ks
      each [] h = tt
      each (k ∷ ks) h = (own k (found k h.0), each ks h.1)
