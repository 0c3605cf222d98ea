-- Positions of one input: places that are constant, and the sequence's rest between them.
use Rattle.std.proofs.Common.{◌≡◌, suc, ◌≤◌, Bool, true, false, cond, List, [], ◌∷◌, ◌++◌, length, map, filter, Option, Some, None, inl, inr, refl, sym, ap, ◌∙◌, arith, ℕ}
use Rattle.std.specs.declared.cmp.Ordering.{Ordering}
use Rattle.std.specs.declared.cmp.Ordering.TheVariants.{Less, Equal, Greater}
use Rattle.std.specs.Ordering.{is_lt, is_le, ordering_then, ordering_reverse}
use Rattle.std.specs.Cmp.{tied_itself}
use Rattle.pq_base.specs.declared.value.Dir.{Dir}
use Rattle.pq_base.specs.declared.value.Dir.TheVariants.{Asc, Desc}
use Rattle.pq_base.specs.declared.value.Value.{Value}
use Rattle.pq_base.specs.Order.{value_cmp, directed_order, position_cmp}
use Rattle.pq_base.specs.Members.{In}
use Rattle.pq_key_code.specs.KeyOrder.{common_cmp}
use Rattle.pq_key_code.proofs.Order.{position_cmp-same_length}
use Rattle.pq_plan.proofs.ValueOrder.{value_cmp_total, value_cmp_only}
use Rattle.pq_serving.specs.Starts.{Bound, filled_values, by_case, reaches, start_of, under}

-- how many places are not constant
abbrev pub own_count : {A : Type 0} → List (Option A) → ℕ
own_count [] = 0
own_count (Some v ∷ gs) = own_count gs
own_count (None ∷ gs) = suc (own_count gs)

-- what stands beside the places that are not constant
abbrev pub own : {A B : Type 0} → List A → List (Option B) → List A
own (d ∷ ds) (Some v ∷ gs) = own ds gs
own (d ∷ ds) (None ∷ gs) = d ∷ own ds gs
own _ _ = []

same_directed : (d : Dir) (x : Value) → directed_order d (value_cmp x x) ≡ Equal
same_directed Asc x = tied_itself value_cmp_total x
same_directed Desc x = ap ordering_reverse (tied_itself value_cmp_total x)

nothing_common : (ds : List Dir) (xs : List Value) → common_cmp ds [] xs ≡ Equal
nothing_common [] xs = refl
nothing_common (d ∷ ds) xs = refl

-- a list agrees with each of its prefixes
pub common_cmp-prefix : (ds : List Dir) (ps rest : List Value) → common_cmp ds ps (ps ++ rest) ≡ Equal
common_cmp-prefix [] ps rest = refl
common_cmp-prefix (d ∷ ds) [] [] = refl
common_cmp-prefix (d ∷ ds) [] (x ∷ rest) = refl
common_cmp-prefix (d ∷ ds) (p ∷ ps) rest =
    ap (λ (o : Ordering). ordering_then o (common_cmp ds ps (ps ++ rest))) (same_directed d p) ∙ common_cmp-prefix ds ps rest

-- ---- lengths
pub length-filled : {A : Type 0} (gs : List (Option A)) (xs : List A) → own_count gs ≤ length xs → length (filled_values gs xs) ≡ length gs
length-filled [] xs h = refl
length-filled (Some v ∷ gs) xs h = ap suc (length-filled gs xs h)
length-filled (None ∷ gs) [] h = absurd (omega arith)
length-filled (None ∷ gs) (x ∷ xs) h = ap suc (length-filled gs xs (omega arith))

pub length-own : {A B : Type 0} (ds : List A) (gs : List (Option B)) → length ds ≡ length gs → length (own ds gs) ≡ own_count gs
length-own [] [] h = refl
length-own [] (g ∷ gs) h = absurd (omega arith)
length-own (d ∷ ds) [] h = absurd (omega arith)
length-own (d ∷ ds) (Some v ∷ gs) h = length-own ds gs (omega arith)
length-own (d ∷ ds) (None ∷ gs) h = ap suc (length-own ds gs (omega arith))

-- ---- the order
common_order : (ds : List Dir) (gs : List (Option Value)) (xs ys : List Value) → own_count gs ≤ length xs → own_count gs ≤ length ys → common_cmp ds (filled_values gs xs) (filled_values gs ys) ≡ common_cmp (own ds gs) xs ys
common_order [] gs xs ys g h = refl
common_order (d ∷ ds) [] xs ys g h = refl
common_order (d ∷ ds) (Some v ∷ gs) xs ys g h = ap (λ (r : Ordering). ordering_then r (common_cmp ds (filled_values gs xs) (filled_values gs ys))) (same_directed d v) ∙ common_order ds gs xs ys g h
common_order (d ∷ ds) (None ∷ gs) [] ys g h = absurd (omega arith)
common_order (d ∷ ds) (None ∷ gs) (x ∷ xs) [] g h = absurd (omega arith)
common_order (d ∷ ds) (None ∷ gs) (x ∷ xs) (y ∷ ys) g h = ap (ordering_then (directed_order d (value_cmp x y))) (common_order ds gs xs ys (omega arith) (omega arith))

-- with some places constant, the order is that of the others
pub order_law : (ds : List Dir) (gs : List (Option Value)) (xs ys : List Value) → length ds ≡ length gs → length xs ≡ own_count gs → length ys ≡ own_count gs → position_cmp ds (filled_values gs xs) (filled_values gs ys) ≡ position_cmp (own ds gs) xs ys
order_law ds gs xs ys long g h =
    let a = length-filled gs xs (omega arith) in
    let b = length-filled gs ys (omega arith) in
    let c = length-own ds gs long in
    position_cmp-same_length ds (filled_values gs xs) (filled_values gs ys) (a ∙ sym b) (omega arith)
    ∙ common_order ds gs xs ys (omega arith) (omega arith)
    ∙ sym (position_cmp-same_length (own ds gs) xs ys (g ∙ sym h) (omega arith))

-- a common front decides nothing
pub front_law : (fs ds : List Dir) (e xs ys : List Value) → length fs ≡ length e → position_cmp (fs ++ ds) (e ++ xs) (e ++ ys) ≡ position_cmp ds xs ys
front_law [] ds [] xs ys h = refl
front_law [] ds (v ∷ e) xs ys h = absurd (omega arith)
front_law (f ∷ fs) ds [] xs ys h = absurd (omega arith)
front_law (f ∷ fs) ds (v ∷ e) xs ys h = ap (λ (r : Ordering). ordering_then r (position_cmp (fs ++ ds) (e ++ xs) (e ++ ys))) (same_directed f v) ∙ front_law fs ds e xs ys (omega arith)

pub common_front : (fs ds : List Dir) (e xs ys : List Value) → length fs ≡ length e → common_cmp (fs ++ ds) (e ++ xs) (e ++ ys) ≡ common_cmp ds xs ys
common_front [] ds [] xs ys h = refl
common_front [] ds (v ∷ e) xs ys h = absurd (omega arith)
common_front (f ∷ fs) ds [] xs ys h = absurd (omega arith)
common_front (f ∷ fs) ds (v ∷ e) xs ys h = ap (λ (r : Ordering). ordering_then r (common_cmp (fs ++ ds) (e ++ xs) (e ++ ys))) (same_directed f v) ∙ common_front fs ds e xs ys (omega arith)

pub reaches-under : (fs ds : List Dir) (e : List Value) (b : Bound) (xs : List Value) → length fs ≡ length e → reaches (fs ++ ds) (under e b) (e ++ xs) ≡ reaches ds b xs
reaches-under fs ds e b xs h = ap (λ (r : Ordering). cond b.past (is_lt r) (is_le r)) (common_front fs ds e b.values xs h)

-- ---- the start
reach_step : (past : Bool) (u r o : Ordering) → is_lt r ≡ cond past (is_lt o) (is_le o) → is_lt (ordering_then u r) ≡ cond past (is_lt (ordering_then u o)) (is_le (ordering_then u o))
reach_step true Less r o h = refl
reach_step false Less r o h = refl
reach_step true Equal r o h = h
reach_step false Equal r o h = h
reach_step true Greater r o h = refl
reach_step false Greater r o h = refl

common_start : (ds : List Dir) (gs : List (Option Value)) (at xs : List Value) → own_count gs ≤ length xs → is_lt (common_cmp ds at (filled_values gs xs)) ≡ reaches (own ds gs) (start_of ds gs at) xs
common_start [] gs at xs h = refl
common_start (d ∷ ds) [] [] xs h = refl
common_start (d ∷ ds) [] (a ∷ at) xs h = refl
common_start (d ∷ ds) (Some v ∷ gs) [] xs h = sym (ap is_lt (nothing_common (own ds gs) xs))
common_start (d ∷ ds) (None ∷ gs) [] xs h = refl
common_start (d ∷ ds) (None ∷ gs) (a ∷ at) [] h = absurd (omega arith)
common_start (d ∷ ds) (Some v ∷ gs) (a ∷ at) xs h =
    elim (directed_order d (value_cmp a v)) as (λ r. is_lt (ordering_then r (common_cmp ds at (filled_values gs xs))) ≡ reaches (own ds gs) (by_case r (record { past = false; values = [] }) (start_of ds gs at) (record { past = true; values = [] })) xs) [
      | Less ↦ sym (ap is_le (nothing_common (own ds gs) xs))
      | Equal ↦ common_start ds gs at xs h
      | Greater ↦ sym (ap is_lt (nothing_common (own ds gs) xs))
    ]
common_start (d ∷ ds) (None ∷ gs) (a ∷ at) (x ∷ xs) h =
    let b = start_of ds gs at in
    reach_step b.past (directed_order d (value_cmp a x)) (common_cmp ds at (filled_values gs xs)) (common_cmp (own ds gs) b.values xs) (common_start ds gs at xs (omega arith))

-- what is strictly after the cursor is what is at or past the start
pub start_law : (ds : List Dir) (gs : List (Option Value)) (at xs : List Value) → length ds ≡ length gs → length at ≡ length gs → length xs ≡ own_count gs → is_lt (position_cmp ds at (filled_values gs xs)) ≡ reaches (own ds gs) (start_of ds gs at) xs
start_law ds gs at xs long same h =
    let a = length-filled gs xs (omega arith) in
    ap is_lt (position_cmp-same_length ds at (filled_values gs xs) (same ∙ sym a) (omega arith)) ∙ common_start ds gs at xs (omega arith)

-- ---- a front that is equal
equal_first : (a b : Ordering) → ordering_then a b ≡ Equal → (a ≡ Equal) × (b ≡ Equal)
equal_first Less b h = absurd cc
equal_first Equal b h = (refl, h)
equal_first Greater b h = absurd cc

unturned : (d : Dir) (r : Ordering) → directed_order d r ≡ Equal → r ≡ Equal
unturned Asc r h = h
unturned Desc Less h = cc
unturned Desc Equal h = refl
unturned Desc Greater h = cc

-- a front that compares as equal is equal
pub front_equal : (fs ds : List Dir) (e zs xs : List Value) → length fs ≡ length e → length zs ≡ length e → common_cmp (fs ++ ds) e (zs ++ xs) ≡ Equal → zs ≡ e
front_equal fs ds [] [] xs l m h = refl
front_equal fs ds [] (z ∷ zs) xs l m h = absurd (omega arith)
front_equal fs ds (v ∷ e) [] xs l m h = absurd (omega arith)
front_equal [] ds (v ∷ e) (z ∷ zs) xs l m h = absurd (omega arith)
front_equal (f ∷ fs) ds (v ∷ e) (z ∷ zs) xs l m h =
    let t = equal_first (directed_order f (value_cmp v z)) (common_cmp (fs ++ ds) e (zs ++ xs)) h in
    (λ i. sym (value_cmp_only v z (unturned f (value_cmp v z) t.0)) i ∷ front_equal fs ds e zs xs (omega arith) (omega arith) t.1 i)

-- ---- places made of items, where a test says which are not constant
module _ {I A : Type 0} (t : I → Bool) (constant at own_value : I → A) where
  abbrev pub given : I → Option A
  given item = cond (t item) None (Some (constant item))

  pub fill : (items : List I) → ((item : I) → In item items → t item ≡ true → own_value item ≡ at item) → ((item : I) → In item items → t item ≡ false → constant item ≡ at item) → filled_values (map given items) (map own_value (filter t items)) ≡ map at items
  fill [] f g = refl
  fill (item ∷ items) f g =
      let rest = fill items (λ x i. f x (inr i)) (λ x i. g x (inr i)) in
      elim (t item) as (λ b. t item ≡ b → filled_values (cond b None (Some (constant item)) ∷ map given items) (map own_value (cond b (item ∷ filter t items) (filter t items))) ≡ at item ∷ map at items) [
        | true ↦ λ is. (λ i. f item (inl refl) is i ∷ rest i)
        | false ↦ λ is. (λ i. g item (inl refl) is i ∷ rest i)
      ] refl

  pub own_is : {D : Type 0} (dir : I → D) (items : List I) → own (map dir items) (map given items) ≡ map dir (filter t items)
  own_is dir [] = refl
  own_is dir (item ∷ items) =
      elim (t item) as (λ b. own (dir item ∷ map dir items) (cond b None (Some (constant item)) ∷ map given items) ≡ map dir (cond b (item ∷ filter t items) (filter t items))) [
        | true ↦ ap (λ l. dir item ∷ l) (own_is dir items)
        | false ↦ own_is dir items
      ]

  pub count_is : (items : List I) → own_count (map given items) ≡ length (filter t items)
  count_is [] = refl
  count_is (item ∷ items) =
      elim (t item) as (λ b. own_count (cond b None (Some (constant item)) ∷ map given items) ≡ length (cond b (item ∷ filter t items) (filter t items))) [
        | true ↦ ap suc (count_is items)
        | false ↦ count_is items
      ]
