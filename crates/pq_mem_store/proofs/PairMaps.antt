-- What a map of keys to values answers and becomes, as the content that it stands for.
use Rattle.std.proofs.Common.{◌≡◌, ℕ, ◌+◌, Vec, Global, Bool, true, false, cond, List, [], ◌∷◌, ◌++◌, map, take, length, min, IsTrue, Option, Some, refl, sym, ap, ◌∙◌, arith, filter}
use Rattle.std.specs.Prelude.{is_some}
use Rattle.std.specs.Option.{option_map}
use Rattle.std.specs.Ordering.{is_eq, match_ordering}
use Rattle.std.specs.declared.cmp.Ordering.{Ordering}
use Rattle.std.specs.declared.cmp.Ordering.TheVariants.{Less, Equal, Greater}
use Rattle.std.specs.declared.ops.Bound.TheVariants.{Included, Excluded}
use Rattle.std.specs.BTreeMap.{is_at, insert_entry}
use Rattle.std.specs.BTreeMap.Range.{range_contains, entries_between}
use Rattle.std.specs.Map.{lookup, remove_entry, set_value}
use Rattle.std.specs.Set.{remove_key}
use Rattle.std.specs.FinMap as fin
use Rattle.std.specs.FinMap.{put}
use Rattle.std.specs.FinMap.Entries.{by_order}
use Rattle.std.proofs.lemmas.List.{length-take, length-map}
use Rattle.pq_store.specs.Content.{key_cmp, is_rising, pairs_within, entry}
use Rattle.pq_store.specs.declared.store.Pair.{Pair}
use Rattle.pq_mem_store.specs.Held.{held_cmp}
use Rattle.pq_mem_store.specs.Split.{pair_bytes}
use Rattle.pq_store.proofs.Places.{Pairs, is_below_all, below_all, first_below, rest_rises}
use Rattle.pq_mem_store.proofs.HeldPairs.{seen_removed, remove_held, seen_between, end_of, copied_more}
use Rattle.pq_store.proofs.Views.{seen, seen_get, seen_put, rising_put, rising_others}

-- the bytes of a vector
abbrev pub bytes_of : Vec ℕ Global → List ℕ
bytes_of vector = vector.items

module _ {K X : Type 0} (key_bytes : K → List ℕ) (value_bytes : X → List ℕ) where
  abbrev pub pairs_bytes : List (K × X) → Pairs
  pairs_bytes pairs = map (pair_bytes key_bytes value_bytes) pairs

  -- the order of the keys, and that of a key that is sought
  abbrev pub order : K → K → Ordering
  order a b = key_cmp (key_bytes a) (key_bytes b)

  abbrev pub sought : List ℕ → K → Ordering
  sought key k = key_cmp key (key_bytes k)

  -- a look-up
  pub look_mapped : (key : List ℕ) (pairs : List (K × X)) → option_map value_bytes (lookup (is_at (sought key)) pairs) ≡ fin.find key_cmp key (pairs_bytes pairs)
  look_mapped key [] = refl
  look_mapped key (pair ∷ pairs) = either (is_eq (sought key pair.0)) pair.1 (lookup (is_at (sought key)) pairs) _ (look_mapped key pairs)
    where
      either : (b : Bool) (value : X) (found : Option X) (seen : Option (List ℕ)) → option_map value_bytes found ≡ seen
          → option_map value_bytes (cond b (Some value) found) ≡ cond b (Some (value_bytes value)) seen
      either true value found seen is = refl
      either false value found seen is = is

  -- a pair that is put
  insert_mapped : (key : K) (value : X) (pairs : List (K × X)) → pairs_bytes (insert_entry order pairs key value) ≡ put key_cmp (key_bytes key) (value_bytes value) (pairs_bytes pairs)
  insert_mapped key value [] = refl
  insert_mapped key value (pair ∷ pairs) =
      elim (order key pair.0) as (λ r. pairs_bytes (match_ordering r ((key, value) ∷ pair ∷ pairs) ((pair.0, value) ∷ pairs) (pair ∷ insert_entry order pairs key value))
      ≡ by_order r ((key_bytes key, value_bytes value) ∷ pairs_bytes (pair ∷ pairs)) ((key_bytes pair.0, value_bytes value) ∷ pairs_bytes pairs)
      (pair_bytes key_bytes value_bytes pair ∷ put key_cmp (key_bytes key) (value_bytes value) (pairs_bytes pairs))) [
        | Less ↦ refl
        | Equal ↦ refl
        | Greater ↦ ap (λ ps. pair_bytes key_bytes value_bytes pair ∷ ps) (insert_mapped key value pairs)
      ]

  -- a key below all isn't there
  none_below : (key : List ℕ) (pairs : List (K × X)) → IsTrue (is_below_all key (pairs_bytes pairs)) → is_some (lookup (is_at (sought key)) pairs) ≡ false
  none_below key [] below = refl
  none_below key (pair ∷ pairs) below = grind (arith, below, none_below key pairs)

  -- a value in the place of another one
  set_mapped : (key : List ℕ) (value : X) (pairs : List (K × X)) → IsTrue (is_rising (pairs_bytes pairs)) → is_some (lookup (is_at (sought key)) pairs) ≡ true
      → pairs_bytes (set_value (is_at (sought key)) pairs value) ≡ put key_cmp key (value_bytes value) (pairs_bytes pairs)
  set_mapped key value [] up there = absurd (cc)
  set_mapped key value (pair ∷ pairs) up there =
      elim (sought key pair.0) as (λ r. sought key pair.0 ≡ r → is_some (cond (is_eq r) (Some pair.1) (lookup (is_at (sought key)) pairs)) ≡ true
      → pairs_bytes (cond (is_eq r) ((pair.0, value) ∷ pairs) (pair ∷ set_value (is_at (sought key)) pairs value))
      ≡ by_order r ((key, value_bytes value) ∷ pairs_bytes (pair ∷ pairs)) ((key_bytes pair.0, value_bytes value) ∷ pairs_bytes pairs)
      (pair_bytes key_bytes value_bytes pair ∷ put key_cmp key (value_bytes value) (pairs_bytes pairs))) [
        | Less ↦ λ is there. absurd (differ (sym there ∙ none_below key pairs (below_all key (key_bytes pair.0) (pairs_bytes pairs) is (first_below (pair_bytes key_bytes value_bytes pair) (pairs_bytes pairs) up))))
        | Equal ↦ λ is there. refl
        | Greater ↦ λ is there. ap (λ ps. pair_bytes key_bytes value_bytes pair ∷ ps) (set_mapped key value pairs (rest_rises (pair_bytes key_bytes value_bytes pair) (pairs_bytes pairs) up) there)
      ] refl there
    where
      differ : ¬ (true ≡ false)
      differ is = cc

  -- the value that is there, put again
  pub set_same : (test : K → Bool) (value : X) (pairs : List (K × X)) → lookup test pairs ≡ Some value → set_value test pairs value ≡ pairs
  set_same test value [] there = absurd (cc)
  set_same test value (pair ∷ pairs) there =
      elim (test pair.0) as (λ b. cond b (Some pair.1) (lookup test pairs) ≡ Some value → cond b ((pair.0, value) ∷ pairs) (pair ∷ set_value test pairs value) ≡ pair ∷ pairs) [
        | true ↦ λ is. ap (λ v. (pair.0, v) ∷ pairs) (sym (inside is))
        | false ↦ λ is. ap (λ ps. pair ∷ ps) (set_same test value pairs is)
      ] there
    where
      inside : {x y : X} → Some x ≡ Some y → x ≡ y
      inside is = cc

  -- a pair that is taken out
  remove_mapped : (key : List ℕ) (pairs : List (K × X)) → pairs_bytes (remove_entry (is_at (sought key)) pairs) ≡ remove_key (is_at (held_cmp (key, []))) (pairs_bytes pairs)
  remove_mapped key [] = refl
  remove_mapped key (pair ∷ pairs) = either (is_eq (sought key pair.0)) pair pairs (remove_entry (is_at (sought key)) pairs) _ (remove_mapped key pairs)
    where
      either : (b : Bool) (pair : K × X) (pairs less : List (K × X)) (seen : Pairs) → pairs_bytes less ≡ seen
          → pairs_bytes (cond b pairs (pair ∷ less)) ≡ cond b (pairs_bytes pairs) (pair_bytes key_bytes value_bytes pair ∷ seen)
      either true pair pairs less seen is = refl
      either false pair pairs less seen is = ap (λ ps. pair_bytes key_bytes value_bytes pair ∷ ps) is

  -- the pairs of a range
  between_mapped : (low high : K) (pairs : List (K × X)) → pairs_bytes (entries_between order (Included low) (Excluded high) pairs)
      ≡ filter (range_contains held_cmp (Included (key_bytes low, [])) (Excluded (key_bytes high, []))) (pairs_bytes pairs)
  between_mapped low high [] = refl
  between_mapped low high (pair ∷ pairs) =
      either (range_contains order (Included low) (Excluded high) pair.0) pair (entries_between order (Included low) (Excluded high) pairs) _ (between_mapped low high pairs)
    where
      either : (b : Bool) (pair : K × X) (pairs : List (K × X)) (seen : Pairs) → pairs_bytes pairs ≡ seen
          → pairs_bytes (cond b (pair ∷ pairs) pairs) ≡ cond b (pair_bytes key_bytes value_bytes pair ∷ seen) seen
      either true pair pairs seen is = ap (λ ps. pair_bytes key_bytes value_bytes pair ∷ ps) is
      either false pair pairs seen is = is

  -- the content behind each call
  module _ (pairs : List (K × X)) (up : IsTrue (is_rising (pairs_bytes pairs))) where
    pub found_mapped : (key : List ℕ) → option_map value_bytes (lookup (is_at (sought key)) pairs) ≡ fin.get (seen (pairs_bytes pairs)) key
    found_mapped key = look_mapped key pairs ∙ sym (seen_get (pairs_bytes pairs) key up)

    pub seen_inserted : (key : K) (value : X) (new : List (K × X)) → new ≡ insert_entry order pairs key value
        → seen (pairs_bytes new) ≡ fin.insert (seen (pairs_bytes pairs)) (key_bytes key) (value_bytes value)
    seen_inserted key value new is =
        seen_put (key_bytes key) (value_bytes value) (pairs_bytes pairs) (pairs_bytes new) up (sym (ap pairs_bytes is ∙ insert_mapped key value pairs))

    pub up_inserted : (key : K) (value : X) (new : List (K × X)) → new ≡ insert_entry order pairs key value → IsTrue (is_rising (pairs_bytes new))
    up_inserted key value new is = rising_put (key_bytes key) (value_bytes value) (pairs_bytes pairs) (pairs_bytes new) up (sym (ap pairs_bytes is ∙ insert_mapped key value pairs))

    pub seen_set : (key : List ℕ) (value : X) (new : List (K × X)) → is_some (lookup (is_at (sought key)) pairs) ≡ true → new ≡ set_value (is_at (sought key)) pairs value
        → seen (pairs_bytes new) ≡ fin.insert (seen (pairs_bytes pairs)) key (value_bytes value)
    seen_set key value new there is = seen_put key (value_bytes value) (pairs_bytes pairs) (pairs_bytes new) up (sym (ap pairs_bytes is ∙ set_mapped key value pairs up there))

    pub up_set : (key : List ℕ) (value : X) (new : List (K × X)) → is_some (lookup (is_at (sought key)) pairs) ≡ true → new ≡ set_value (is_at (sought key)) pairs value
        → IsTrue (is_rising (pairs_bytes new))
    up_set key value new there is = rising_put key (value_bytes value) (pairs_bytes pairs) (pairs_bytes new) up (sym (ap pairs_bytes is ∙ set_mapped key value pairs up there))

    pub seen_less : (key : List ℕ) (new : List (K × X)) → new ≡ remove_entry (is_at (sought key)) pairs → seen (pairs_bytes new) ≡ fin.remove (seen (pairs_bytes pairs)) key
    seen_less key new is = seen_removed (pairs_bytes pairs) up (key, []) (pairs_bytes new) (ap pairs_bytes is ∙ remove_mapped key pairs)

    pub up_less : (key : List ℕ) (new : List (K × X)) → new ≡ remove_entry (is_at (sought key)) pairs → IsTrue (is_rising (pairs_bytes new))
    up_less key new is = rising_others key (pairs_bytes pairs) (pairs_bytes new) up (remove_held (key, []) (pairs_bytes pairs) up ∙ sym (ap pairs_bytes is ∙ remove_mapped key pairs))

    pub seen_part : (low high : List ℕ) (start end : K) (range : List (K × X)) → key_bytes start ≡ low → key_bytes end ≡ end_of low high
        → range ≡ entries_between order (Included start) (Excluded end) pairs → pairs_bytes range ≡ pairs_within (seen (pairs_bytes pairs)) low high
    seen_part low high start end range starts ends is =
        seen_between (pairs_bytes pairs) up low high (key_bytes start, []) (key_bytes end, []) (pairs_bytes range) starts ends (ap pairs_bytes is ∙ between_mapped start end pairs)

  -- how many of the first pairs there are
  pub length_mapped : (cap : ℕ) (range : List (K × X)) (pairs : Pairs) → pairs_bytes range ≡ pairs → length (take cap range) ≡ min cap (length pairs)
  length_mapped cap range pairs is = length-take cap range ∙ ap (min cap) (sym (length-map range (pair_bytes key_bytes value_bytes)) ∙ ap length is)

  -- a loop over the first n pairs that copies them, one further
  pub copied_mapped : (before after : List Pair) (copy : Pair) (m n : ℕ) (s t : List (K × X)) (pair : K × X) (all : Pairs)
      → after ≡ before ++ copy ∷ [] → entry copy ≡ pair_bytes key_bytes value_bytes pair → m + 1 ≡ n → s ≡ pair ∷ t
      → map entry before ++ take n (pairs_bytes s) ≡ all → map entry after ++ take m (pairs_bytes t) ≡ all
  copied_mapped before after copy m n s t pair all pushed copy_is count next so_far =
      copied_more before after copy m n (pairs_bytes s) (pairs_bytes t) (pair_bytes key_bytes value_bytes pair) all pushed copy_is count (ap pairs_bytes next) so_far
