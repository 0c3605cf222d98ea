-- Pairs in front of others: look-ups, writes and order.
use Rattle.std.proofs.Common.{◌≡◌, ℕ, Bool, true, false, cond, List, [], ◌∷◌, ◌++◌, filter, IsTrue, Option, Some, None, refl, sym, ap, ◌∙◌, arith}
use Rattle.std.specs.Ordering.{is_lt, eq_by_cmp}
use Rattle.std.specs.List.{list_all}
use Rattle.std.specs.FinMap as map
use Rattle.std.specs.FinMap.{find, put}
use Rattle.pq_store.specs.declared.store.Guard.{Guard}
use Rattle.pq_store.specs.Content.{Content, key_cmp, is_rising, admits, written_content, after_write}
use Rattle.pq_store.proofs.Places.{Pairs, is_below_all, is_other, turned, same_key, others_below_all}
use Rattle.pq_store.proofs.Views.{seen, seen_get, seen_put, seen_others}
use Rattle.pq_store.proofs.Uses.{entries-insert, entries-remove}

-- the keys stand before this one
abbrev pub are_before : List ℕ → Pairs → Bool
are_before key pairs = list_all (λ pair. is_lt (key_cmp pair.0 key)) pairs

find_below_all : (key : List ℕ) (pairs : Pairs) → IsTrue (is_below_all key pairs) → find key_cmp key pairs ≡ None
find_below_all key [] below = refl
find_below_all key (pair ∷ pairs) below = grind (arith, below, find_below_all key pairs)

pub find_over : (key : List ℕ) (xs ys : Pairs) → IsTrue (is_below_all key ys) → find key_cmp key (xs ++ ys) ≡ find key_cmp key xs
find_over key [] ys below = find_below_all key ys below
find_over key (x ∷ xs) ys below = ap (cond (eq_by_cmp key_cmp key x.0) (Some x.1)) (find_over key xs ys below)

pub find_past : (key : List ℕ) (xs ys : Pairs) → IsTrue (are_before key xs) → find key_cmp key (xs ++ ys) ≡ find key_cmp key ys
find_past key [] ys before = refl
find_past key (x ∷ xs) ys before = grind (arith, before, turned key x.0, find_past key xs ys)

put_over : (key value : List ℕ) (xs ys : Pairs) → IsTrue (is_below_all key ys) → put key_cmp key value (xs ++ ys) ≡ put key_cmp key value xs ++ ys
put_over key value [] [] below = refl
put_over key value [] (y ∷ ys) below = grind (arith, below)
put_over key value (x ∷ xs) ys below = grind (arith, put_over key value xs ys below)

put_past : (key value : List ℕ) (xs ys : Pairs) → IsTrue (are_before key xs) → put key_cmp key value (xs ++ ys) ≡ xs ++ put key_cmp key value ys
put_past key value [] ys before = refl
put_past key value (x ∷ xs) ys before = grind (arith, before, turned key x.0, put_past key value xs ys)

others_over : (key : List ℕ) (xs ys : Pairs) → IsTrue (is_below_all key ys) → filter (is_other key) (xs ++ ys) ≡ filter (is_other key) xs ++ ys
others_over key [] ys below = others_below_all key ys below
others_over key (x ∷ xs) ys below = grind (arith, others_over key xs ys below)

others_past : (key : List ℕ) (xs ys : Pairs) → IsTrue (are_before key xs) → filter (is_other key) (xs ++ ys) ≡ xs ++ filter (is_other key) ys
others_past key [] ys before = refl
others_past key (x ∷ xs) ys before = grind (arith, before, turned key x.0, others_past key xs ys)

-- the pairs with this value at the key, or with none
abbrev pub put_or_not : List ℕ → Option (List ℕ) → Pairs → Pairs
put_or_not key None pairs = filter (is_other key) pairs
put_or_not key (Some value) pairs = put key_cmp key value pairs

-- the pairs after a write: other ones only where the guard admits it
abbrev pub changed : Guard → List ℕ → Option (List ℕ) → Pairs → Pairs
changed guard key new pairs = cond (admits guard (find key_cmp key pairs)) (put_or_not key new pairs) pairs

pub changed_over : (guard : Guard) (key : List ℕ) (new : Option (List ℕ)) (xs ys : Pairs) → IsTrue (is_below_all key ys) → changed guard key new (xs ++ ys) ≡ changed guard key new xs ++ ys
changed_over guard key new xs ys below =
    ap (λ found. cond (admits guard found) (put_or_not key new (xs ++ ys)) (xs ++ ys)) (find_over key xs ys below)
    ∙ elim (admits guard (find key_cmp key xs)) as (λ b. cond b (put_or_not key new (xs ++ ys)) (xs ++ ys) ≡ cond b (put_or_not key new xs) xs ++ ys) [ true ↦ made new | false ↦ refl ]
  where
    made : (new : Option (List ℕ)) → put_or_not key new (xs ++ ys) ≡ put_or_not key new xs ++ ys
    made None = others_over key xs ys below
    made (Some value) = put_over key value xs ys below

pub changed_past : (guard : Guard) (key : List ℕ) (new : Option (List ℕ)) (xs ys : Pairs) → IsTrue (are_before key xs) → changed guard key new (xs ++ ys) ≡ xs ++ changed guard key new ys
changed_past guard key new xs ys before =
    ap (λ found. cond (admits guard found) (put_or_not key new (xs ++ ys)) (xs ++ ys)) (find_past key xs ys before)
    ∙ elim (admits guard (find key_cmp key ys)) as (λ b. cond b (put_or_not key new (xs ++ ys)) (xs ++ ys) ≡ xs ++ cond b (put_or_not key new ys) ys) [ true ↦ made new | false ↦ refl ]
  where
    made : (new : Option (List ℕ)) → put_or_not key new (xs ++ ys) ≡ xs ++ put_or_not key new ys
    made None = others_past key xs ys before
    made (Some value) = put_past key value xs ys before

-- the entries after a write
pub entries_after : (guard : Guard) (key : List ℕ) (new : Option (List ℕ)) (content : Content) → map.entries (after_write guard key new content) ≡ changed guard key new (map.entries content)
entries_after guard key new content =
    elim (admits guard (map.get content key)) as (λ b. map.entries (cond b (written_content key new content) content) ≡ cond b (put_or_not key new (map.entries content)) (map.entries content)) [ true ↦ made new | false ↦ refl ]
    ∙ ap (λ found. cond (admits guard found) (put_or_not key new (map.entries content)) (map.entries content)) (map.get-entries content key)
  where
    made : (new : Option (List ℕ)) → map.entries (written_content key new content) ≡ put_or_not key new (map.entries content)
    made None = entries-remove content key
    made (Some value) = entries-insert content key value

-- and the content of pairs that are so changed
pub seen_changed : (guard : Guard) (key : List ℕ) (new : Option (List ℕ)) (pairs : Pairs) → IsTrue (is_rising pairs) → seen (changed guard key new pairs) ≡ after_write guard key new (seen pairs)
seen_changed guard key new pairs up =
    elim (admits guard (find key_cmp key pairs)) as (λ b. seen (cond b (put_or_not key new pairs) pairs) ≡ cond b (written_content key new (seen pairs)) (seen pairs)) [ true ↦ made new | false ↦ refl ]
    ∙ ap (λ found. cond (admits guard found) (written_content key new (seen pairs)) (seen pairs)) (sym (seen_get pairs key up))
  where
    made : (new : Option (List ℕ)) → seen (put_or_not key new pairs) ≡ written_content key new (seen pairs)
    made None = seen_others key pairs _ up refl
    made (Some value) = seen_put key value pairs _ up refl

-- a test of keys passes on all pairs after a write at a key that passes exactly where it did before
pub all_changed : (p : List ℕ → Bool) (guard : Guard) (key : List ℕ) (new : Option (List ℕ)) (pairs : Pairs) → p key ≡ true
    → list_all (λ pair. p pair.0) (changed guard key new pairs) ≡ list_all (λ pair. p pair.0) pairs
all_changed p guard key new pairs passes =
    elim (admits guard (find key_cmp key pairs)) as (λ b. list_all (λ pair. p pair.0) (cond b (put_or_not key new pairs) pairs) ≡ list_all (λ pair. p pair.0) pairs) [ true ↦ made new pairs | false ↦ refl ]
  where
    made : (new : Option (List ℕ)) (pairs : Pairs) → list_all (λ pair. p pair.0) (put_or_not key new pairs) ≡ list_all (λ pair. p pair.0) pairs
    made None [] = refl
    made None (pair ∷ pairs) = grind (arith, passes, same_key key pair.0, made None pairs)
    made (Some value) [] = grind (arith, passes)
    made (Some value) (pair ∷ pairs) = grind (arith, passes, made (Some value) pairs)

-- ---- order
pub below_both : (key : List ℕ) (xs ys : Pairs) → IsTrue (is_below_all key xs) → IsTrue (is_below_all key ys) → IsTrue (is_below_all key (xs ++ ys))
below_both key [] ys over under = under
below_both key (x ∷ xs) ys over under = grind (arith, over, below_both key xs ys, under)

pub rising_both : (xs ys : Pairs) → IsTrue (is_rising xs) → IsTrue (is_rising ys) → IsTrue (list_all (λ pair. is_below_all pair.0 ys) xs) → IsTrue (is_rising (xs ++ ys))
rising_both [] ys over under apart = under
rising_both (x ∷ xs) ys over under apart = grind (arith, over, under, apart, below_both x.0 xs ys, rising_both xs ys)
