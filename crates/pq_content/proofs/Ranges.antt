-- The pairs of a content whose keys pass a test.
use Rattle.std.proofs.Common.{◌≡◌, ℕ, Bool, true, false, cond, ◌&&◌, List, [], ◌∷◌, ◌++◌, flat_map, refl, sym, ap, ◌∙◌, ◌==◌}
use Rattle.std.specs.declared.cmp.Ordering.{Ordering}
use Rattle.std.specs.declared.cmp.Ordering.TheVariants.{Less, Equal, Greater}
use Rattle.std.specs.Prelude.{T}
use Rattle.std.specs.Ordering.{is_eq, is_le, is_lt, ordering_then, ordering_reverse, nat_cmp}
use Rattle.std.specs.Cmp.{nat_cmp_total, unsigned_tied}
use Rattle.std.specs.Cmp.Lexicographic.{nat_list_cmp_total}
use Rattle.std.specs.FinMap.{find, get-entries, from_entries, get-from_entries, entries, entries_sorted}
use Rattle.std.specs.FinMap.Entries.{where_key, find-where_key, is_sorted, is_sorted-where_key, same_entries}
use Rattle.std.proofs.lemmas.List.Elements.{filter-append}
use Rattle.pq_content.specs.Pairs.{Pair}
use Rattle.pq_store.specs.Content.{key_cmp}
use Rattle.pq_content.proofs.Changes.{bytes_apart}

alike : (f : List ℕ → Bool) (q x : List ℕ) → key_cmp q x ≡ Equal → f x ≡ f q
alike f q x e = ap f (sym (bytes_apart q x e))

-- the entries of a list's content are looked up as in the list
find-entries : (es : List Pair) (q : List ℕ) → find key_cmp q (entries (from_entries {R = key_cmp} es)) ≡ find key_cmp q es
find-entries es q = sym (get-entries (from_entries {R = key_cmp} es) q) ∙ get-from_entries nat_list_cmp_total es q

-- a filter by keys of a content that is made of a list
pub where_from : (f : List ℕ → Bool) (es : List Pair) → where_key key_cmp f (entries (from_entries {R = key_cmp} es)) ≡ entries (from_entries {R = key_cmp} (where_key key_cmp f es))
where_from f es =
    let c = from_entries {R = key_cmp} es in
    let kept = where_key key_cmp f es in
    same_entries key_cmp nat_list_cmp_total bytes_apart (where_key key_cmp f (entries c)) (entries (from_entries {R = key_cmp} kept)) (is_sorted-where_key key_cmp f (entries c) (entries_sorted c)) (entries_sorted (from_entries {R = key_cmp} kept)) (λ q.
    find-where_key key_cmp f q (alike f q) (entries c)
    ∙ ap (λ o. cond (f q) o (find key_cmp q [])) (find-entries es q)
    ∙ sym (find-where_key key_cmp f q (alike f q) es)
    ∙ sym (find-entries kept q))

-- a list whose keys rise is that of its content
pub entries-rising : (es : List Pair) → is_sorted key_cmp es ≡ true → entries (from_entries {R = key_cmp} es) ≡ es
entries-rising es rising =
    same_entries key_cmp nat_list_cmp_total bytes_apart (entries (from_entries {R = key_cmp} es)) es (entries_sorted (from_entries {R = key_cmp} es)) (is_so (is_sorted key_cmp es) rising) (λ q. find-entries es q)
  where
    is_so : (b : Bool) → b ≡ true → T b
    is_so true e = tt
    is_so false e = cc

pub where-flat_map : {E : Type 0} (f : List ℕ → Bool) (g : E → List Pair) (es : List E) → where_key key_cmp f (flat_map g es) ≡ flat_map (λ e. where_key key_cmp f (g e)) es
where-flat_map f g [] = refl
where-flat_map f g (e ∷ es) = filter-append (λ (x : Pair). f x.0) (g e) (flat_map g es) ∙ ap (λ l. where_key key_cmp f (g e) ++ l) (where-flat_map f g es)

pub flat_map-nil : {E X : Type 0} (g : E → List X) → ((e : E) → g e ≡ []) → (es : List E) → flat_map g es ≡ []
flat_map-nil g h [] = refl
flat_map-nil g h (e ∷ es) = ap (λ l. l ++ flat_map g es) (h e) ∙ flat_map-nil g h es

-- whether a key lies in a range
abbrev pub in_range : List ℕ → List ℕ → List ℕ → Bool
in_range low high key = is_le (key_cmp low key) && is_lt (key_cmp key high)

-- a range behind a byte that its ends share
pub range-cons : (x y : ℕ) (low high k : List ℕ) → in_range (x ∷ low) (x ∷ high) (y ∷ k) ≡ ((y == x) && in_range low high k)
range-cons x y low high k =
    let a = key_cmp low k in
    let b = key_cmp k high in
    let back : nat_cmp y x ≡ ordering_reverse (nat_cmp x y) = nat_cmp_total.antisymm y x in
    ap (λ (s : Ordering). is_le (ordering_then (nat_cmp x y) a) && is_lt (ordering_then s b)) back
    ∙ by_first (nat_cmp x y) a b
    ∙ ap (λ (s : Ordering). is_eq s && (is_le a && is_lt b)) (sym back)
    ∙ ap (λ t. t && (is_le a && is_lt b)) (unsigned_tied y x)
  where
    by_first : (r a b : Ordering) → (is_le (ordering_then r a) && is_lt (ordering_then (ordering_reverse r) b)) ≡ (is_eq (ordering_reverse r) && (is_le a && is_lt b))
    by_first Less a b = refl
    by_first Equal a b = refl
    by_first Greater a b = refl
