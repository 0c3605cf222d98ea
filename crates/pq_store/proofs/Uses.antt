-- What callers of a store need: look-ups, entries and ranges after a write.
use Rattle.std.proofs.Common.{◌≡◌, ℕ, Bool, false, List, [], ◌∷◌, ◌++◌, IsTrue, refl, sym, ap, subst, append_assoc, ◌∙◌, arith, filter}
use Rattle.std.proofs.Common.{map as list_map}
use Rattle.std.proofs.lemmas.Cmp.{nat_list_cmp_total}
use Rattle.std.specs.FinMap as map
use Rattle.std.specs.declared.cmp.Ordering.TheVariants.{Less}
use Rattle.pq_store.specs.declared.store.Pair.{Pair}
use Rattle.pq_store.specs.Content.{key_cmp, is_rising, Content, is_within, pairs_within, entry}
use Rattle.pq_store.proofs.Places.{Pairs, is_below_all, is_other, turned, same_key, first_below, rest_rises}
use Rattle.pq_store.proofs.Views.{seen, seen_entries, seen_others, rising_others, told}

-- the entries of a content rise
pub rises : (content : Content) → IsTrue (is_rising (map.entries content))
rises content = told _ (map.entries_sorted content)

-- a content is that of its entries
pub of_entries : (content : Content) → seen (map.entries content) ≡ content
of_entries content = map.same_entries_map _ _ (seen_entries (map.entries content) (rises content))

-- the entries after a write
pub entries-insert : (content : Content) (key value : List ℕ) → map.entries (map.insert content key value) ≡ map.put key_cmp key value (map.entries content)
entries-insert content key value = map.entries-insert nat_list_cmp_total content key value

pub entries-remove : (content : Content) (key : List ℕ) → map.entries (map.remove content key) ≡ filter (is_other key) (map.entries content)
entries-remove content key =
    ap (λ c. map.entries (map.remove c key)) (sym (of_entries content))
    ∙ ap map.entries (sym (seen_others key (map.entries content) (filter (is_other key) (map.entries content)) (rises content) refl))
    ∙ seen_entries _ (rising_others key (map.entries content) _ (rises content) refl)

put_outside : (p : List ℕ → Bool) (key value : List ℕ) → p key ≡ false → (pairs : Pairs) → filter (λ pair. p pair.0) (map.put key_cmp key value pairs) ≡ filter (λ pair. p pair.0) pairs
put_outside p key value out [] = grind (arith, out)
put_outside p key value out (pair ∷ pairs) = grind (arith, out, same_key key pair.0, put_outside p key value out pairs)

-- a write outside a range leaves the range
pub within_insert_outside : (content : Content) (low high key value : List ℕ) → is_within low high (key, []) ≡ false → pairs_within (map.insert content key value) low high ≡ pairs_within content low high
within_insert_outside content low high key value out =
    ap (filter (is_within low high)) (map.entries-insert nat_list_cmp_total content key value)
    ∙ put_outside (λ k. is_within low high (k, [])) key value out (map.entries content)

-- where keys rise, a pair is put behind those before it
put_behind : (key value : List ℕ) (pairs rest : Pairs) → IsTrue (is_rising (pairs ++ (key, value) ∷ rest)) → map.put key_cmp key value pairs ≡ pairs ++ (key, value) ∷ []
put_behind key value [] rest up = refl
put_behind key value (first ∷ pairs) rest up =
    let less = above first.0 pairs (first_below first (pairs ++ (key, value) ∷ rest) up) in
    let others = put_behind key value pairs rest (rest_rises first (pairs ++ (key, value) ∷ rest) up) in
    grind (arith, turned key first.0, less, others)
  where
    above : (first : List ℕ) (pairs : Pairs) → IsTrue (is_below_all first (pairs ++ (key, value) ∷ rest)) → key_cmp first key ≡ Less
    above first [] below = grind (arith, below)
    above first (q ∷ pairs) below = above first pairs (grind (arith, below))

-- a loop that puts pairs into a content, one pair further
pub filled_more : (old new : Content) (p : Pair) (front rest pairs : List Pair) → IsTrue (is_rising (list_map entry pairs))
    → front ≡ p ∷ rest → map.entries old ++ list_map entry front ≡ list_map entry pairs → new ≡ map.insert old p.key p.value
    → map.entries new ++ list_map entry rest ≡ list_map entry pairs
filled_more old new p front rest pairs up next so_far put_is =
    let is : map.entries old ++ entry p ∷ list_map entry rest ≡ list_map entry pairs = ap (λ ps. map.entries old ++ list_map entry ps) (sym next) ∙ so_far in
    ap (λ content. map.entries content ++ list_map entry rest) put_is
    ∙ ap (λ ps. ps ++ list_map entry rest) (entries-insert old p.key p.value ∙ put_behind p.key p.value (map.entries old) (list_map entry rest) (subst (λ ps. IsTrue (is_rising ps)) (sym is) up))
    ∙ append_assoc (map.entries old) (entry p ∷ []) (list_map entry rest) ∙ is
