-- What a stable sort leaves is the sort of the definitions.
use Rattle.std.proofs.Common.{◌≡◌, ℕ, suc, ◌<◌, ◌≤◌, Bool, true, false, cond, not, ◌&&◌, List, [], ◌∷◌, length, get_or, filter, refl, sym, ap, ◌∙◌, arith}
use Rattle.std.specs.declared.cmp.Ordering.{Ordering}
use Rattle.std.specs.declared.cmp.Ordering.TheVariants.{Less, Equal, Greater}
use Rattle.std.specs.Ordering.{is_lt, is_gt, ordering_reverse}
use Rattle.std.specs.Cmp.{IsTotalOrder, IsStrictWeakOrder}
use Rattle.std.specs.Fn.{Called, ComparesAs}
use Rattle.std.specs.List.{AllByRecursion}
use Rattle.std.specs.List.Sorted.{IsSortedBy, IsStableBy, ties}
use Rattle.std.proofs.lemmas.Bool.{false≢true}
use Rattle.std.proofs.lemmas.Fn.{always_returns_same}
use Rattle.std.proofs.lemmas.List.Sorted.{ranks_by, sorted_far}
use denote.Param.Members.{Mut}
use denote.Ref.{Bor}
use Rattle.pq_base.specs.Sorting.{sort_by}
use Rattle.pq_base.proofs.Members.{filter_none}
use Rattle.pq_plan.proofs.Orders.{UpTo, Rises, Rises-sort_by, sort_by_sorted, filter-sort_by}

-- ---- of two lists in order whose ties stand alike, each is the other
module _ {X : Type 0} (lt : X → X → Bool) (o : IsStrictWeakOrder lt) where
  abbrev NotBelow : X → X → Type 0
  NotBelow x y = lt y x ≡ false

  abbrev Ascends : List X → Type 0
  Ascends [] = Unit {0}
  Ascends (x ∷ xs) = AllByRecursion (NotBelow x) xs × Ascends xs

  itself : (x : X) → lt x x ≡ false
  itself x = elim (lt x x) as (λ b. lt x x ≡ b → b ≡ false) [ true ↦ λ is. sym is ∙ o.one_way x x is | false ↦ λ _. refl ] refl

  tied_itself : (x : X) → ties lt x x ≡ true
  tied_itself x = ap (λ (b : Bool). not b && not b) (itself x)

  -- nothing ties with what is below the first
  none_tied : (x y : X) (ys : List X) → lt x y ≡ true → AllByRecursion (NotBelow y) ys → AllByRecursion (λ z. ties lt x z ≡ false) ys
  none_tied x y [] below up = tt
  none_tied x y (z ∷ ys) below up = (
    elim (lt x z) as (λ b. lt x z ≡ b → (not b && not (lt z x)) ≡ false) [
      | true ↦ λ _. refl
      | false ↦ λ is. absurd (false≢true (sym (o.chain x z y is up.0) ∙ below))
    ] refl,
    none_tied x y ys below up.1,
  )

  first_not_above : (x y : X) (xs ys : List X) → AllByRecursion (NotBelow y) ys → filter (ties lt x) (x ∷ xs) ≡ filter (ties lt x) (y ∷ ys) → lt x y ≡ false
  first_not_above x y xs ys up same =
      elim (lt x y) as (λ b. lt x y ≡ b → b ≡ false) [
        | true ↦ λ below.
            let none : filter (ties lt x) (y ∷ ys) ≡ [] = filter_none (ties lt x) (y ∷ ys) (none_tied x y (y ∷ ys) below (itself y, up)) in
            let some : x ∷ filter (ties lt x) xs ≡ filter (ties lt x) (x ∷ xs) = ap (λ (b : Bool). cond b (x ∷ filter (ties lt x) xs) (filter (ties lt x) xs)) (sym (tied_itself x)) in
            let clash : x ∷ filter (ties lt x) xs ≡ [] = some ∙ same ∙ none in
            cc
        | false ↦ λ _. refl
      ] refl

  heads : (a b : X) (front back : List X) → a ∷ front ≡ b ∷ back → a ≡ b
  heads a b front back e = cc

  rests : (b : Bool) (a : X) (front back : List X) → cond b (a ∷ front) front ≡ cond b (a ∷ back) back → front ≡ back
  rests true a front back e = cc
  rests false a front back e = e

  pub one_ascent : (xs ys : List X) → Ascends xs → Ascends ys → ((z : X) → filter (ties lt z) xs ≡ filter (ties lt z) ys) → xs ≡ ys
  one_ascent [] [] up up' same = refl
  one_ascent [] (y ∷ ys) up up' same =
      let clash : [] ≡ y ∷ filter (ties lt y) ys = same y ∙ ap (λ (b : Bool). cond b (y ∷ filter (ties lt y) ys) (filter (ties lt y) ys)) (tied_itself y) in
      cc
  one_ascent (x ∷ xs) [] up up' same =
      let clash : x ∷ filter (ties lt x) xs ≡ [] = ap (λ (b : Bool). cond b (x ∷ filter (ties lt x) xs) (filter (ties lt x) xs)) (sym (tied_itself x)) ∙ same x in
      cc
  one_ascent (x ∷ xs) (y ∷ ys) up up' same =
      let low : lt x y ≡ false = first_not_above x y xs ys up'.0 (same x) in
      let high : lt y x ≡ false = first_not_above y x ys xs up.0 (sym (same y)) in
      let tied : ties lt x y ≡ true = ap (λ (b : Bool). not b && not (lt y x)) low ∙ ap (λ (b : Bool). not b) high in
      let first : x ≡ y = heads x y (filter (ties lt x) xs) (filter (ties lt x) ys)
      (ap (λ (b : Bool). cond b (x ∷ filter (ties lt x) xs) (filter (ties lt x) xs)) (sym (tied_itself x)) ∙ same x ∙ ap (λ (b : Bool). cond b (y ∷ filter (ties lt x) ys) (filter (ties lt x) ys)) tied) in
      let rest : xs ≡ ys = one_ascent xs ys up.1 up'.1 (λ z.
      rests (ties lt z x) x (filter (ties lt z) xs) (filter (ties lt z) ys)
      (same z ∙ ap (λ (v : X). cond (ties lt z v) (v ∷ filter (ties lt z) ys) (filter (ties lt z) ys)) (sym first))) in
      ap (λ (l : List X). x ∷ l) rest ∙ ap (λ (v : X). v ∷ ys) first

-- ---- of a sort by a key
above_from_below : (r : Ordering) → is_gt r ≡ false → is_lt (ordering_reverse r) ≡ false
above_from_below Less h = refl
above_from_below Equal h = refl
above_from_below Greater h = absurd cc

below_from_above : (r : Ordering) → is_lt (ordering_reverse r) ≡ false → is_gt r ≡ false
below_from_above Less h = refl
below_from_above Equal h = refl
below_from_above Greater h = absurd cc

not_parts : (a b : Bool) → (not a && not b) ≡ true → (a ≡ false) × (b ≡ false)
not_parts true b h = absurd cc
not_parts false true h = absurd cc
not_parts false false h = (refl, refl)

module _ {K X : Type 0} (R : K → K → Ordering) (key : X → K) (o : IsTotalOrder R) where
  abbrev lower : X → X → Bool
  lower x y = is_lt (R (key x) (key y))

  not_below : (x y : X) → UpTo R key x y → lower y x ≡ false
  not_below x y h = ap is_lt (o.antisymm (key y) (key x)) ∙ above_from_below (R (key x) (key y)) h

  up_to : (x y : X) → lower y x ≡ false → UpTo R key x y
  up_to x y h = below_from_above (R (key x) (key y)) (sym (ap is_lt (o.antisymm (key y) (key x))) ∙ h)

  each_not_below : (x : X) (ys : List X) → AllByRecursion (UpTo R key x) ys → AllByRecursion (NotBelow lower (ranks_by o key) x) ys
  each_not_below x [] h = tt
  each_not_below x (y ∷ ys) h = (not_below x y h.0, each_not_below x ys h.1)

  ascends : (xs : List X) → Rises R key xs → Ascends lower (ranks_by o key) xs
  ascends [] h = tt
  ascends (x ∷ xs) h = (each_not_below x xs h.0, ascends xs h.1)

  -- what ties with one element is in order as it stands
  tied_rise : (z : X) (xs : List X) → Rises R key (filter (ties lower z) xs)
  tied_rise z [] = tt
  tied_rise z (x ∷ xs) =
      elim (ties lower z x) as (λ b. ties lower z x ≡ b → Rises R key (cond b (x ∷ filter (ties lower z) xs) (filter (ties lower z) xs))) [
        | true ↦ λ is. (each z x is xs, tied_rise z xs)
        | false ↦ λ _. tied_rise z xs
      ] refl
    where
      each : (z x : X) → ties lower z x ≡ true → (ys : List X) → AllByRecursion (UpTo R key x) (filter (ties lower z) ys)
      each z x is [] = tt
      each z x is (y ∷ ys) =
          elim (ties lower z y) as (λ b. ties lower z y ≡ b → AllByRecursion (UpTo R key x) (cond b (y ∷ filter (ties lower z) ys) (filter (ties lower z) ys))) [
            | true ↦ λ also.
                let a = not_parts (lower z x) (lower x z) is in
                let b = not_parts (lower z y) (lower y z) also in
                (up_to x y ((ranks_by o key).chain y z x b.1 a.0), each z x is ys)
            | false ↦ λ _. each z x is ys
          ] refl

  far_up : (x : X) (ys : List X) → ((k : ℕ) → k < length ys → lower (get_or ys k x) x ≡ false) → AllByRecursion (NotBelow lower (ranks_by o key) x) ys
  far_up x [] h = tt
  far_up x (y ∷ ys) h = (h 0 (omega arith), far_up x ys (λ k l. h (suc k) (omega arith)))

  far_ascends : (xs : List X) → ((i j : ℕ) (d : X) → ◌≤◌ i j → j < length xs → lower (get_or xs j d) (get_or xs i d) ≡ false) → Ascends lower (ranks_by o key) xs
  far_ascends [] h = tt
  far_ascends (x ∷ xs) h = (far_up x xs (λ k l. h 0 (suc k) x (omega arith) (omega arith)), far_ascends xs (λ i j d g l. h (suc i) (suc j) d (omega arith) (omega arith)))

  pub stable_is : (xs ys : List X) → IsSortedBy lower ys → IsStableBy lower xs ys → ys ≡ sort_by R key xs
  stable_is xs ys up stable =
      one_ascent lower (ranks_by o key) ys (sort_by R key xs)
      (far_ascends ys (sorted_far lower (ranks_by o key) ys up))
      (ascends (sort_by R key xs) (Rises-sort_by R key o xs))
      (λ z. stable z ∙ sym (filter-sort_by R key o (ties lower z) xs ∙ sort_by_sorted R key (filter (ties lower z) xs) (tied_rise z xs)))

  -- from the clauses of `sort_by`, where each call compares the keys of the two elements
  pub sorted_by_calls : {F : Type 0} {g : Mut F (Bor X × (Bor X × Unit {0})) Ordering} {f : F} (xs ys : List X) → ((lt : X → X → Bool) → IsStrictWeakOrder lt → ComparesAs g lt f → IsSortedBy lt ys) → ((lt : X → X → Bool) → IsStrictWeakOrder lt → ComparesAs g lt f → IsStableBy lt xs ys) → ((a : Bor X × (Bor X × Unit {0})) (r : Ordering) (f' : F) → Called g f a r f' → (r ≡ R (key a.0.now) (key a.1.0.now)) × (f' ≡ f)) → ys ≡ sort_by R key xs
  sorted_by_calls {g = g} {f = f} xs ys up stable calls =
      let compares : ComparesAs g lower f = always_returns_same g (λ a r. is_lt r ≡ lower a.0.now a.1.0.now) f (λ a r f' k. (ap is_lt (calls a r f' k).0, (calls a r f' k).1)) in
      stable_is xs ys (up lower (ranks_by o key) compares) (stable lower (ranks_by o key) compares)
