-- Sorted lists: that there is one, what a filter leaves of it, and the first few of it.
use Rattle.std.proofs.Common.{◌≡◌, ℕ, zero, suc, ◌<◌, Bool, true, false, cond, inl, inr, List, [], ◌∷◌, ◌++◌, length, get_or, Some, None, map, filter, take, Contains, IsPermutation, refl, sym, ap, ◌∙◌, subst, arith}
use Rattle.std.specs.declared.cmp.Ordering.{Ordering}
use Rattle.std.specs.declared.cmp.Ordering.TheVariants.{Less, Equal, Greater}
use Rattle.std.specs.Ordering.{is_gt, eq_by_cmp, ordering_reverse}
use Rattle.std.specs.Cmp.{IsTotalOrder, upto, eq_by_cmp_equiv}
use Rattle.std.specs.List.{AllByRecursion, IsDistinct}
use Rattle.std.specs.FinMap.{IsAntisymmetric, entries, from_entries, find, get-from_entries, same_map}
use Rattle.std.proofs.lemmas.List.Sorted.{IsPermutation-sym, Contains-permutation}
use Rattle.std.proofs.lemmas.Map.Keys.{IsDistinct-IsPermutation}
use Rattle.std.proofs.lemmas.Option.{none-some, same_Some}
use Rattle.pq_base.specs.Sorting.{placed, sort_by}
use Rattle.pq_base.specs.Members.{In, Apart}
use Rattle.pq_base.proofs.Sorts.{each-placed, EachAgree, Agree, entries-sort_by}

module _ {K X : Type 0} (R : K → K → Ordering) (key : X → K) where
  -- ---- no element is above a later one
  abbrev pub UpTo : X → X → Type 0
  UpTo x y = is_gt (R (key x) (key y)) ≡ false

  abbrev pub Rises : List X → Type 0
  Rises [] = Unit {0}
  Rises (x ∷ xs) = AllByRecursion (UpTo x) xs × Rises xs

  module _ (o : IsTotalOrder R) where
    each_upto : (x y : X) (ys : List X) → UpTo x y → AllByRecursion (UpTo y) ys → AllByRecursion (UpTo x) ys
    each_upto x y [] h all = tt
    each_upto x y (z ∷ zs) h all = (upto o (key x) (key y) (key z) h all.0, each_upto x y zs h all.1)

    pub Rises-placed : (x : X) (xs : List X) → Rises xs → Rises (placed R key x xs)
    Rises-placed x [] h = (tt, tt)
    Rises-placed x (y ∷ ys) h =
        elim (R (key x) (key y)) as (λ r. R (key x) (key y) ≡ r → Rises (cond (is_gt r) (y ∷ placed R key x ys) (x ∷ y ∷ ys))) [
          | Less ↦ λ e. let p : UpTo x y = ap is_gt e in ((p, each_upto x y ys p h.0), h)
          | Equal ↦ λ e. let p : UpTo x y = ap is_gt e in ((p, each_upto x y ys p h.0), h)
          | Greater ↦ λ e. (each-placed R key (UpTo y) x ys (ap is_gt (o.antisymm (key y) (key x)) ∙ ap (λ r. is_gt (ordering_reverse r)) e) h.0, Rises-placed x ys h.1)
        ] refl

    pub Rises-sort_by : (xs : List X) → Rises (sort_by R key xs)
    Rises-sort_by [] = tt
    Rises-sort_by (x ∷ xs) = Rises-placed x (sort_by R key xs) (Rises-sort_by xs)

  pub placed_first : (x : X) (xs : List X) → AllByRecursion (UpTo x) xs → placed R key x xs ≡ x ∷ xs
  placed_first x [] h = refl
  placed_first x (y ∷ ys) h = ap (λ b. cond b (y ∷ placed R key x ys) (x ∷ y ∷ ys)) h.0

  pub sort_by_sorted : (xs : List X) → Rises xs → sort_by R key xs ≡ xs
  sort_by_sorted [] h = refl
  sort_by_sorted (x ∷ xs) h = ap (placed R key x) (sort_by_sorted xs h.1) ∙ placed_first x xs h.0

  -- ---- the first few
  pub each_take : (P : X → Type 0) (k : ℕ) (xs : List X) → AllByRecursion P xs → AllByRecursion P (take k xs)
  each_take P zero xs h = tt
  each_take P (suc k) [] h = tt
  each_take P (suc k) (x ∷ xs) h = (h.0, each_take P k xs h.1)

  pub Rises-take : (k : ℕ) (xs : List X) → Rises xs → Rises (take k xs)
  Rises-take zero xs h = tt
  Rises-take (suc k) [] h = tt
  Rises-take (suc k) (x ∷ xs) h = (each_take (UpTo x) k xs h.0, Rises-take k xs h.1)

  -- of a list to put x in, only the first k count for the first k
  take-placed : (k : ℕ) (x : X) (xs : List X) → take k (placed R key x (take k xs)) ≡ take k (placed R key x xs)
  take-placed zero x xs = refl
  take-placed (suc k) x [] = refl
  take-placed (suc k) x (y ∷ ys) =
      elim (is_gt (R (key x) (key y))) as (λ b. take (suc k) (cond b (y ∷ placed R key x (take k ys)) (x ∷ y ∷ take k ys)) ≡ take (suc k) (cond b (y ∷ placed R key x ys) (x ∷ y ∷ ys))) [
        | true ↦ ap (λ l. y ∷ l) (take-placed k x ys)
        | false ↦ ap (λ l. x ∷ l) (shorter k y ys)
      ]
    where
      shorter : (k : ℕ) (y : X) (ys : List X) → take k (y ∷ take k ys) ≡ take k (y ∷ ys)
      shorter zero y ys = refl
      shorter (suc k) y [] = refl
      shorter (suc k) y (z ∷ zs) = ap (λ l. y ∷ l) (shorter k z zs)

  -- the first k of all are the first k of some and of the first k of the others
  pub first_of_both : IsTotalOrder R → (k : ℕ) (xs ys : List X) → take k (sort_by R key (xs ++ take k (sort_by R key ys))) ≡ take k (sort_by R key (xs ++ ys))
  first_of_both o k [] ys = ap (take k) (sort_by_sorted (take k (sort_by R key ys)) (Rises-take k (sort_by R key ys) (Rises-sort_by o ys))) ∙ twice k (sort_by R key ys)
    where
      twice : (k : ℕ) (xs : List X) → take k (take k xs) ≡ take k xs
      twice zero xs = refl
      twice (suc k) [] = refl
      twice (suc k) (x ∷ xs) = ap (λ l. x ∷ l) (twice k xs)
  first_of_both o k (x ∷ xs) ys =
      sym (take-placed k x (sort_by R key (xs ++ take k (sort_by R key ys))))
      ∙ ap (λ l. take k (placed R key x l)) (first_of_both o k xs ys)
      ∙ take-placed k x (sort_by R key (xs ++ ys))

  -- ---- a filter
  pub each_filter : (P : X → Type 0) (p : X → Bool) (xs : List X) → AllByRecursion P xs → AllByRecursion P (filter p xs)
  each_filter P p [] h = tt
  each_filter P p (x ∷ xs) h = elim (p x) as (λ b. AllByRecursion P (cond b (x ∷ filter p xs) (filter p xs))) [ true ↦ (h.0, each_filter P p xs h.1) | false ↦ each_filter P p xs h.1 ]

  filter-placed : IsTotalOrder R → (p : X → Bool) (x : X) (xs : List X) → Rises xs → filter p (placed R key x xs) ≡ cond (p x) (placed R key x (filter p xs)) (filter p xs)
  filter-placed o p x [] h = refl
  filter-placed o p x (y ∷ ys) h =
      let f = filter p ys in
      elim (is_gt (R (key x) (key y))) as (λ b. is_gt (R (key x) (key y)) ≡ b → filter p (cond b (y ∷ placed R key x ys) (x ∷ y ∷ ys)) ≡ cond (p x) (placed R key x (filter p (y ∷ ys))) (filter p (y ∷ ys))) [
        | true ↦ λ above.
            ap (λ l. cond (p y) (y ∷ l) l) (filter-placed o p x ys h.1)
            ∙ elim (p y) as (λ b. cond b (y ∷ cond (p x) (placed R key x f) f) (cond (p x) (placed R key x f) f) ≡ cond (p x) (placed R key x (cond b (y ∷ f) f)) (cond b (y ∷ f) f)) [
              | true ↦ elim (p x) as (λ b. y ∷ cond b (placed R key x f) f ≡ cond b (placed R key x (y ∷ f)) (y ∷ f)) [
                | true ↦ ap (λ b. cond b (y ∷ placed R key x f) (x ∷ y ∷ f)) (sym above)
                | false ↦ refl
              ]
              | false ↦ refl
            ]
        | false ↦ λ below.
            let all : AllByRecursion (UpTo x) (filter p (y ∷ ys)) = each_filter (UpTo x) p (y ∷ ys) (below, each_upto o x y ys below h.0) in
            ap (λ l. cond (p x) l (filter p (y ∷ ys))) (sym (placed_first x (filter p (y ∷ ys)) all))
      ] refl

  -- what passes, in order, is the ordered list of what passes
  pub filter-sort_by : IsTotalOrder R → (p : X → Bool) (xs : List X) → filter p (sort_by R key xs) ≡ sort_by R key (filter p xs)
  filter-sort_by o p [] = refl
  filter-sort_by o p (x ∷ xs) =
      filter-placed o p x (sort_by R key xs) (Rises-sort_by o xs)
      ∙ ap (λ l. cond (p x) (placed R key x l) l) (filter-sort_by o p xs)
      ∙ elim (p x) as (λ b. cond b (placed R key x (sort_by R key (filter p xs))) (sort_by R key (filter p xs)) ≡ sort_by R key (cond b (x ∷ filter p xs) (filter p xs))) [ true ↦ refl | false ↦ refl ]

  -- ---- there is one sorted list
  pub contained : (v : X) (xs : List X) → In v xs → Contains xs v
  contained v [] i = elim i [ ]
  contained v (x ∷ xs) (inl e) = (0, omega arith, e)
  contained v (x ∷ xs) (inr r) = let c = contained v xs r in (suc c.0, omega arith, c.2)

  pub in_from_contained : (xs : List X) (v : X) (k : ℕ) → k < length xs → get_or xs k v ≡ v → In v xs
  in_from_contained [] v k h e = absurd (omega arith)
  in_from_contained (x ∷ xs) v zero h e = inl e
  in_from_contained (x ∷ xs) v (suc k) h e = inr (in_from_contained xs v k (omega arith) e)

  pub in_permuted : (v : X) (xs ys : List X) → IsPermutation xs ys → In v xs → In v ys
  in_permuted v xs ys h i = let c = Contains-permutation xs ys v h (contained v xs i) in in_from_contained ys v c.0 c.1 c.2

  abbrev keyed : X → K × X
  keyed x = (key x, x)

  module _ (o : IsTotalOrder R) (only : IsAntisymmetric R) where
    -- an element in the list is found at its key
    found_at : (q : K) (v : X) (xs : List X) → In v xs → Apart R key xs → eq_by_cmp R q (key v) ≡ true → find R q (map keyed xs) ≡ Some v
    found_at q v [] i h t = elim i [ ]
    found_at q v (x ∷ xs) (inl e) h t = ap (λ b. cond b (Some x) (find R q (map keyed xs))) (ap (λ (y : X). eq_by_cmp R q (key y)) e ∙ t) ∙ ap (λ (y : X). Some y) e
    found_at q v (x ∷ xs) (inr r) h t =
        let apart : eq_by_cmp R q (key x) ≡ false = (eq_by_cmp_equiv o).congr q (key v) (key x) t ∙ (eq_by_cmp_equiv o).symm (key v) (key x) ∙ each_in (λ (y : X). eq_by_cmp R (key x) (key y) ≡ false) xs h.0 v r in
        ap (λ b. cond b (Some x) (find R q (map keyed xs))) apart ∙ found_at q v xs r h.1 t
      where
        each_in : (P : X → Type 0) (xs : List X) → AllByRecursion P xs → (v : X) → In v xs → P v
        each_in P [] h v i = elim i [ ]
        each_in P (x ∷ xs) h v (inl e) = subst P e h.0
        each_in P (x ∷ xs) h v (inr r) = each_in P xs h.1 v r

    in_from_found : (q : K) (v : X) (xs : List X) → find R q (map keyed xs) ≡ Some v → In v xs × (eq_by_cmp R q (key v) ≡ true)
    in_from_found q v [] h = absurd (none-some v h)
    in_from_found q v (x ∷ xs) h =
        elim (eq_by_cmp R q (key x)) as (λ b. eq_by_cmp R q (key x) ≡ b → cond b (Some x) (find R q (map keyed xs)) ≡ Some v → In v (x ∷ xs) × (eq_by_cmp R q (key v) ≡ true)) [
          | true ↦ λ is e. let same = same_Some x v e in (inl same, ap (λ (y : X). eq_by_cmp R q (key y)) (sym same) ∙ is)
          | false ↦ λ _ e. let rest = in_from_found q v xs e in (inr rest.0, rest.1)
        ] refl h

    apart_agree : (xs : List X) → Apart R key xs → EachAgree R key R keyed xs
    apart_agree [] h = tt
    apart_agree (x ∷ xs) h = (each x xs h.0, apart_agree xs h.1)
      where
        each : (x : X) (ys : List X) → AllByRecursion (λ y. eq_by_cmp R (key x) (key y) ≡ false) ys → AllByRecursion (Agree R key R keyed x) ys
        each x [] h = tt
        each x (y ∷ ys) h = ((refl, h.0), each x ys h.1)

    values : (xs : List X) → map (λ (e : K × X). e.1) (map keyed xs) ≡ xs
    values [] = refl
    values (x ∷ xs) = ap (λ l. x ∷ l) (values xs)

    -- lists with the same elements and with keys apart have one order
    pub one_order : (xs ys : List X) → Apart R key xs → Apart R key ys → ((v : X) → In v xs → In v ys) → ((v : X) → In v ys → In v xs) → sort_by R key xs ≡ sort_by R key ys
    one_order xs ys g h there back =
        let maps : from_entries {R = R} (map keyed xs) ≡ from_entries (map keyed ys) = same_map o only _ _ (λ q. get-from_entries o (map keyed xs) q ∙ alike q ∙ sym (get-from_entries o (map keyed ys) q)) in
        sym (values (sort_by R key xs))
        ∙ ap (map (λ (e : K × X). e.1)) (sym (entries-sort_by R key R keyed o xs (apart_agree xs g)) ∙ ap entries maps ∙ entries-sort_by R key R keyed o ys (apart_agree ys h))
        ∙ values (sort_by R key ys)
      where
        alike : (q : K) → find R q (map keyed xs) ≡ find R q (map keyed ys)
        alike q =
            let l = find R q (map keyed xs) in
            elim l as (λ a. l ≡ a → a ≡ find R q (map keyed ys)) [
              | None ↦ λ none.
                  let r = find R q (map keyed ys) in
                  elim r as (λ b. r ≡ b → None ≡ b) [
                    | None ↦ λ _. refl
                    | Some w ↦ λ e. let f = in_from_found q w ys e in sym none ∙ found_at q w xs (back w f.0) g f.1
                  ] refl
              | Some v ↦ λ e. let f = in_from_found q v xs e in sym (found_at q v ys (there v f.0) h f.1)
            ] refl

    distinct_from_strict : (xs : List X) → Apart R key xs → IsDistinct (λ (x y : X). eq_by_cmp R (key x) (key y)) xs
    unfolding IsDistinct
    distinct_from_strict [] h = tt
    distinct_from_strict (x ∷ xs) h = (h.0, distinct_from_strict xs h.1)

    apart_from_distinct : (xs : List X) → IsDistinct (λ (x y : X). eq_by_cmp R (key x) (key y)) xs → Apart R key xs
    unfolding IsDistinct
    apart_from_distinct [] h = tt
    apart_from_distinct (x ∷ xs) h = (h.0, apart_from_distinct xs h.1)

    pub apart_permuted : (xs ys : List X) → IsPermutation xs ys → Apart R key xs → Apart R key ys
    apart_permuted xs ys p h = apart_from_distinct ys (IsDistinct-IsPermutation (λ (x y : X). eq_by_cmp R (key x) (key y)) (λ x y. (eq_by_cmp_equiv o).symm (key x) (key y)) xs ys p (distinct_from_strict xs h))

    -- a list in order with the elements of another is its sort
    pub sorted_is : (xs ys : List X) → IsPermutation xs ys → Apart R key xs → Rises ys → ys ≡ sort_by R key xs
    sorted_is xs ys p h up =
        sym (sort_by_sorted ys up) ∙ sym (one_order xs ys h (apart_permuted xs ys p h) (λ v. in_permuted v xs ys p) (λ v. in_permuted v ys xs (IsPermutation-sym xs ys p)))

    -- so what is sorted may come in any order
    pub sort_by-IsPermutation : (xs ys : List X) → IsPermutation xs ys → Apart R key xs → sort_by R key xs ≡ sort_by R key ys
    sort_by-IsPermutation xs ys p h = one_order xs ys h (apart_permuted xs ys p h) (λ v. in_permuted v xs ys p) (λ v. in_permuted v ys xs (IsPermutation-sym xs ys p))
