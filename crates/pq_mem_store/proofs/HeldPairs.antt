-- A pair in its bytes, and what lists of pairs answer and become, as the contents that they stand for.
use Rattle.std.proofs.Common.{◌≡◌, ℕ, ◌+◌, ◌*◌, ◌/◌, ◌%◌, ◌<◌, ◌≤◌, suc, zero, take, add-one, true, false, not, cond, List, [], ◌∷◌, ◌++◌, map, length, replicate, IsTrue, refl, sym, ap, ◌∙◌, subst, append_assoc, arith, filter}
use Rattle.std.specs.Ordering.{is_lt, is_le, is_gt, is_eq}
use Rattle.std.specs.declared.cmp.Ordering.{Ordering}
use Rattle.std.specs.declared.cmp.Ordering.TheVariants.{Less, Equal, Greater}
use Rattle.std.specs.declared.ops.Bound.TheVariants.{Included, Excluded}
use Rattle.std.specs.BTreeMap.{is_at}
use Rattle.std.specs.BTreeMap.Range.{range_contains}
use Rattle.std.specs.Set.{remove_key}
use Rattle.std.specs.FinMap as fin
use Rattle.pq_store.specs.Content.{key_cmp, is_rising, is_within, pairs_within, entry}
use Rattle.pq_mem_store.specs.Held.{len_bytes, key_len, behind_len, held_pair, held_cmp}
use Rattle.std.proofs.lemmas.List.{length-append, map-append}
use Rattle.std.proofs.Math.Seq.{take-append_seam, drop-append_seam}
use Rattle.pq_store.specs.declared.store.Pair.{Pair}
use Rattle.pq_store.proofs.Places.{Pairs, is_below_all, is_other, turned, same_key, itself, first_below, rest_rises, others_below_all, below_below}
use Rattle.pq_store.proofs.Views.{seen, seen_others, seen_within}

-- ---- a pair in its bytes

len_read : (q r : ℕ) (rest : List ℕ) → r < 255 → key_len (replicate q 255 ++ r ∷ rest) ≡ 255 * q + r
len_read zero r rest less = grind (arith, less)
len_read (suc q) r rest less = ap (λ n. 255 + n) (len_read q r rest less) ∙ omega arith

len_past : (q r : ℕ) (rest : List ℕ) → r < 255 → behind_len (replicate q 255 ++ r ∷ rest) ≡ rest
len_past zero r rest less = grind (arith, less)
len_past (suc q) r rest less = len_past q r rest less

module _ (bytes key value : List ℕ) (is : bytes ≡ (len_bytes (length key) ++ key) ++ value) where
  in_order : bytes ≡ replicate (length key / 255) 255 ++ (length key % 255) ∷ (key ++ value)
  in_order = is ∙ append_assoc (len_bytes (length key)) key value ∙ append_assoc (replicate (length key / 255) 255) ((length key % 255) ∷ []) (key ++ value)

  len_is : key_len bytes ≡ length key
  len_is = ap key_len in_order ∙ len_read (length key / 255) (length key % 255) (key ++ value) (omega arith) ∙ omega arith

  rest_is : behind_len bytes ≡ key ++ value
  rest_is = ap behind_len in_order ∙ len_past (length key / 255) (length key % 255) (key ++ value) (omega arith)

  pub is_wide : key_len bytes ≤ length (behind_len bytes)
  is_wide = rw (len_is, rest_is, length-append key value) (omega arith)

  pub is_pair : held_pair bytes ≡ (key, value)
  is_pair = rw (len_is, rest_is, take-append_seam key value, drop-append_seam key value) refl

-- ---- ranges

not_past : (key high : List ℕ) → not (is_le (key_cmp high key)) ≡ is_lt (key_cmp key high)
not_past key high = grind (arith, turned key high)

-- a range that ends where it begins or before has no pairs
pub none_within : (low high : List ℕ) (pairs : Pairs) → is_lt (key_cmp low high) ≡ false → filter (is_within low high) pairs ≡ []
none_within low high [] not_below = refl
none_within low high (pair ∷ pairs) not_below = grind (arith, none_within low high pairs not_below, not_below, below_below low pair.0 high, same_key low pair.0)

-- the end of a range, or its beginning where that is not below the end
abbrev pub end_of : List ℕ → List ℕ → List ℕ
end_of low high = cond (is_lt (key_cmp low high)) high low

-- such bounds run forward
pub runs_forward : (low high start end : List ℕ) → start ≡ low → end ≡ end_of low high → is_gt (key_cmp start end) ≡ false
runs_forward low high start end starts ends = rw (starts, ends) (forward (key_cmp low high) refl)
  where
    forward : (r : Ordering) → key_cmp low high ≡ r → is_gt (key_cmp low (cond (is_lt r) high low)) ≡ false
    forward Less is = ap is_gt is
    forward Equal is = ap is_gt (itself low)
    forward Greater is = ap is_gt (itself low)

-- and have the pairs of the range
within_end : (low high : List ℕ) (pairs : Pairs) → filter (is_within low (end_of low high)) pairs ≡ filter (is_within low high) pairs
within_end low high pairs =
    elim (is_lt (key_cmp low high)) as (λ b. is_lt (key_cmp low high) ≡ b → filter (is_within low (cond b high low)) pairs ≡ filter (is_within low high) pairs) [
      | true ↦ λ is. refl
      | false ↦ λ is. none_within low low pairs (ap is_lt (itself low)) ∙ sym (none_within low high pairs is)
    ] refl

-- ---- a list of pairs

-- a pair that is taken out
pub remove_held : (asked : List ℕ × List ℕ) (pairs : Pairs) → IsTrue (is_rising pairs) → filter (is_other asked.0) pairs ≡ remove_key (is_at (held_cmp asked)) pairs
remove_held asked [] up = refl
remove_held asked (pair ∷ pairs) up =
    let rest = remove_held asked pairs (rest_rises pair pairs up) in
    let below = first_below pair pairs up in
    elim (key_cmp asked.0 pair.0) as (λ r. key_cmp asked.0 pair.0 ≡ r → cond (not (is_eq r)) (pair ∷ filter (is_other asked.0) pairs) (filter (is_other asked.0) pairs)
    ≡ cond (is_eq r) pairs (pair ∷ remove_key (is_at (held_cmp asked)) pairs)) [
      | Less ↦ λ i. ap (λ ps. pair ∷ ps) rest
      | Equal ↦ λ i. others_below_all asked.0 pairs (subst (λ k. IsTrue (is_below_all k pairs)) (sym (same_key asked.0 pair.0 i)) below)
      | Greater ↦ λ i. ap (λ ps. pair ∷ ps) rest
    ] refl

-- the pairs of a range
between_held : (low high : List ℕ × List ℕ) (pairs : Pairs) → filter (range_contains held_cmp (Included low) (Excluded high)) pairs ≡ filter (is_within low.0 high.0) pairs
between_held low high [] = refl
between_held low high (pair ∷ pairs) =
    rw (← not_past pair.0 high.0) (ap (λ ps. cond (range_contains held_cmp (Included low) (Excluded high) pair) (pair ∷ ps) ps) (between_held low high pairs))

-- the content behind each call
module _ (pairs : Pairs) (up : IsTrue (is_rising pairs)) where
  pub seen_removed : (asked : List ℕ × List ℕ) (new : Pairs) → new ≡ remove_key (is_at (held_cmp asked)) pairs → seen new ≡ fin.remove (seen pairs) asked.0
  seen_removed asked new is = seen_others asked.0 pairs new up (remove_held asked pairs up ∙ sym is)

  pub seen_between : (low high : List ℕ) (start end : List ℕ × List ℕ) (range : Pairs) → start.0 ≡ low → end.0 ≡ end_of low high
      → range ≡ filter (range_contains held_cmp (Included start) (Excluded end)) pairs → range ≡ pairs_within (seen pairs) low high
  seen_between low high start end range starts ends is =
      is ∙ between_held start end pairs ∙ ap (λ key. filter (is_within key end.0) pairs) starts
      ∙ ap (λ key. filter (is_within low key) pairs) ends ∙ within_end low high pairs ∙ sym (seen_within low high pairs up)

-- a loop over the first n pairs that copies them, one further
pub copied_more : (before after : List Pair) (copy : Pair) (m n : ℕ) (s t : Pairs) (pair : List ℕ × List ℕ) (all : Pairs)
    → after ≡ before ++ copy ∷ [] → entry copy ≡ pair → m + 1 ≡ n → s ≡ pair ∷ t
    → map entry before ++ take n s ≡ all → map entry after ++ take m t ≡ all
copied_more before after copy m n s t pair all pushed copy_is count next so_far =
    ap (λ ps. map entry ps ++ take m t) pushed
    ∙ ap (λ ps. ps ++ take m t) (map-append entry before (copy ∷ []))
    ∙ append_assoc (map entry before) (entry copy ∷ []) (take m t)
    ∙ ap (λ p. map entry before ++ p ∷ take m t) copy_is
    ∙ ap (λ k. map entry before ++ take k (pair ∷ t)) (sym (add-one m) ∙ count)
    ∙ ap (λ ps. map entry before ++ take n ps) (sym next) ∙ so_far
