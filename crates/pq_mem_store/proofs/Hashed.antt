-- What pairs in a map by hashes answer and become, as the content that they stand for.
use Rattle.std.proofs.Common.{◌≡◌, ℕ, Bool, true, false, cond, List, [], ◌∷◌, Option, Some, None, refl, sym, ap, ◌∙◌, nat_eq}
use Rattle.std.specs.Option.{option_map}
use Rattle.std.specs.Ordering.{is_eq, eq_by_cmp}
use Rattle.std.specs.declared.cmp.Ordering.{Ordering}
use Rattle.std.specs.declared.cmp.Ordering.TheVariants.{Less, Equal, Greater}
use Rattle.std.specs.Cmp.Lexicographic.{pointwise, texts_ties}
use Rattle.std.specs.BTreeMap.{is_at}
use Rattle.std.specs.List.{AllByRecursion, IsDistinct}
use Rattle.std.specs.Map.{lookup, keys_of, KeepsOthers, IsKeyTest, AreApart}
use Rattle.std.specs.FinMap as fin
use Rattle.std.specs.FinMap.{get, insert, remove, from_entries}
use Rattle.std.proofs.lemmas.Cmp.{nat_list_cmp_total}
use Rattle.pq_store.specs.Content.{Content, key_cmp}
use Rattle.pq_mem_store.specs.Split.{poured}
use Rattle.pq_store.proofs.Places.{same_key}
use Rattle.pq_mem_store.proofs.PairMaps.{look_mapped, pairs_bytes, sought}

lookup_same : {K X : Type 0} (f g : K → Bool) → ((k : K) → f k ≡ g k) → (pairs : List (K × X)) → lookup f pairs ≡ lookup g pairs
lookup_same f g same [] = refl
lookup_same f g same (pair ∷ pairs) = ap (λ b. cond b (Some pair.1) (lookup f pairs)) (same pair.0) ∙ ap (cond (g pair.0) (Some pair.1)) (lookup_same f g same pairs)

-- ---- the map
module _ {K X : Type 0} (key_bytes : K → List ℕ) (value_bytes : X → List ℕ) where
  abbrev pub hashed : List (K × X) → Content
  hashed pairs = from_entries (pairs_bytes key_bytes value_bytes pairs)

  -- whether a key is the one that is sought, and whether two keys are the same
  abbrev pub is_key : List ℕ → K → Bool
  is_key key k = pointwise nat_eq key (key_bytes k)

  abbrev pub same_keys : K → K → Bool
  same_keys x y = pointwise nat_eq (key_bytes x) (key_bytes y)

  pub found_hashed : (key : List ℕ) (pairs : List (K × X)) → option_map value_bytes (lookup (is_key key) pairs) ≡ get (hashed pairs) key
  found_hashed key pairs =
      ap (option_map value_bytes) (lookup_same (is_key key) (is_at (sought key_bytes value_bytes key)) (λ k. texts_ties key (key_bytes k)) pairs)
      ∙ look_mapped key_bytes value_bytes key pairs ∙ sym (fin.get-from_entries nat_list_cmp_total (pairs_bytes key_bytes value_bytes pairs) key)

  is_equal : (r : Ordering) → is_eq r ≡ true → r ≡ Equal
  is_equal Less is = absurd (cc)
  is_equal Equal is = refl
  is_equal Greater is = absurd (cc)

  tied : (a b : List ℕ) → pointwise nat_eq a b ≡ true → a ≡ b
  tied a b is = same_key a b (is_equal (key_cmp a b) (sym (texts_ties a b) ∙ is))

  is_test : (q : List ℕ) → IsKeyTest same_keys (is_key q)
  is_test q x y is = ap (λ k. pointwise nat_eq k (key_bytes y)) (tied q (key_bytes x) is)

  are_apart : (key q : List ℕ) → eq_by_cmp key_cmp q key ≡ false → AreApart (is_key key) (is_key q)
  are_apart key q other k is = ap (pointwise nat_eq q) (sym (tied key (key_bytes k) is)) ∙ texts_ties q key ∙ other

  -- at the key that is changed there is what was put, and elsewhere what was
  module _ (old new : List (K × X)) (key : List ℕ) (now : Option X) (at : lookup (is_key key) new ≡ now) (others : KeepsOthers same_keys (is_key key) old new) where
    elsewhere : (q : List ℕ) → eq_by_cmp key_cmp q key ≡ false → get (hashed new) q ≡ get (hashed old) q
    unfolding KeepsOthers
    elsewhere q apart = sym (found_hashed q new) ∙ ap (option_map value_bytes) (others (is_key q) (is_test q) (are_apart key q apart)) ∙ found_hashed q old

    changed : (q : List ℕ) → get (hashed new) q ≡ cond (eq_by_cmp key_cmp q key) (option_map value_bytes now) (get (hashed old) q)
    changed q =
        elim (key_cmp q key) as (λ r. key_cmp q key ≡ r → get (hashed new) q ≡ cond (is_eq r) (option_map value_bytes now) (get (hashed old) q)) [
          | Less ↦ λ is. elsewhere q (ap is_eq is)
          | Equal ↦ λ is. ap (get (hashed new)) (same_key q key is) ∙ sym (found_hashed key new) ∙ ap (option_map value_bytes) at
          | Greater ↦ λ is. elsewhere q (ap is_eq is)
        ] refl

  pub hashed_inserted : (old new : List (K × X)) (key : List ℕ) (value : X) → lookup (is_key key) new ≡ Some value → KeepsOthers same_keys (is_key key) old new
      → hashed new ≡ insert (hashed old) key (value_bytes value)
  hashed_inserted old new key value at others = fin.same_map nat_list_cmp_total same_key _ _ (λ q.
      changed old new key (Some value) at others q ∙ sym (fin.get-insert nat_list_cmp_total (hashed old) key (value_bytes value) q))

  pub hashed_removed : (old new : List (K × X)) (key : List ℕ) → lookup (is_key key) new ≡ None → KeepsOthers same_keys (is_key key) old new
      → hashed new ≡ remove (hashed old) key
  hashed_removed old new key at others = fin.same_map nat_list_cmp_total same_key _ _ (λ q.
      changed old new key None at others q ∙ sym (fin.get-remove nat_list_cmp_total (hashed old) key q))

  -- ---- pairs put in turn
  none_same : (q : List ℕ) (k : K) (pairs : List (K × X)) → q ≡ key_bytes k → AllByRecursion (λ y. same_keys k y ≡ false) (keys_of pairs) → lookup (is_key q) pairs ≡ None
  none_same q k [] is others = refl
  none_same q k (pair ∷ pairs) is others =
      ap (λ b. cond b (Some pair.1) (lookup (is_key q) pairs)) (ap (λ bytes. pointwise nat_eq bytes (key_bytes pair.0)) is ∙ others.0)
      ∙ none_same q k pairs is others.1

  abbrev first_of : Option (List ℕ) → Option (List ℕ) → Option (List ℕ)
  first_of (Some value) other = Some value
  first_of None other = other

  first_alone : (found : Option (List ℕ)) → first_of found None ≡ found
  first_alone (Some value) = refl
  first_alone None = refl

  poured_at : (pairs : List (K × X)) → IsDistinct same_keys (keys_of pairs) → (content : Content) (q : List ℕ)
      → get (poured content (pairs_bytes key_bytes value_bytes pairs)) q ≡ first_of (option_map value_bytes (lookup (is_key q) pairs)) (get content q)
  unfolding IsDistinct
  poured_at [] distinct content q = refl
  poured_at (pair ∷ pairs) distinct content q =
      poured_at pairs distinct.1 (insert content (key_bytes pair.0) (value_bytes pair.1)) q
      ∙ ap (first_of (option_map value_bytes (lookup (is_key q) pairs)))
      (fin.get-insert nat_list_cmp_total content (key_bytes pair.0) (value_bytes pair.1) q
      ∙ ap (λ b. cond b (Some (value_bytes pair.1)) (get content q)) (sym (texts_ties q (key_bytes pair.0))))
      ∙ either (is_key q pair.0) refl
    where
      either : (b : Bool) → is_key q pair.0 ≡ b
          → first_of (option_map value_bytes (lookup (is_key q) pairs)) (cond b (Some (value_bytes pair.1)) (get content q))
          ≡ first_of (option_map value_bytes (cond b (Some pair.1) (lookup (is_key q) pairs))) (get content q)
      either true is = ap (λ found. first_of (option_map value_bytes found) (Some (value_bytes pair.1))) (none_same q pair.0 pairs (tied q (key_bytes pair.0) is) distinct.0)
      either false is = refl

  pub poured_all : (pairs : List (K × X)) → IsDistinct same_keys (keys_of pairs) → poured fin.empty (pairs_bytes key_bytes value_bytes pairs) ≡ hashed pairs
  poured_all pairs distinct = fin.same_map nat_list_cmp_total same_key _ _ (λ q.
      poured_at pairs distinct fin.empty q
      ∙ ap (first_of (option_map value_bytes (lookup (is_key q) pairs))) (fin.get-empty key_cmp q)
      ∙ first_alone (option_map value_bytes (lookup (is_key q) pairs))
      ∙ found_hashed q pairs)
