-- The pages of a query, one behind the other, are all of its answer.
use Rattle.std.proofs.Common.{◌≡◌, ◌⊎◌, ℕ, zero, suc, ◌+◌, ◌<◌, ◌≤◌, Bool, true, false, cond, inl, inr, List, [], ◌∷◌, ◌++◌, length, map, filter, flat_map, take, drop, Option, Some, None, refl, sym, ap, ◌∙◌, subst, arith}
use Rattle.std.specs.Prelude.{IfSome}
use Rattle.std.specs.declared.cmp.Ordering.{Ordering}
use Rattle.std.specs.declared.cmp.Ordering.TheVariants.{Less, Equal, Greater}
use Rattle.std.specs.Ordering.{is_eq, is_lt, is_gt, eq_by_cmp, ordering_reverse}
use Rattle.std.specs.Cmp.{IsTotalOrder, tied_itself}
use Rattle.std.specs.List.{AllByRecursion}
use Rattle.std.proofs.lemmas.Bool.{false≢true}
use Rattle.std.proofs.lemmas.Option.{none-some, same_Some}
use Rattle.std.proofs.lemmas.List.{append-nil, map-append, take-append-drop, drop-drop, length-drop}
use Rattle.pq_base.specs.Members.{In, Apart}
use Rattle.pq_base.specs.declared.value.Value.{Value}
use Rattle.pq_base.proofs.Members.{each_both, each_in, filter_all, in_take}
use Rattle.pq_base.proofs.Sorts.{IsPermutation-sort_by}
use Rattle.pq_schema.specs.Candidates.{bound_at, stop_size}
use Rattle.pq_schema.specs.declared.query.Query.{Query}
use Rattle.pq_schema.specs.Sound.{IsQuery}
use Rattle.pq_schema.proofs.Soundness.{valid_query}
use Rattle.pq_plan.specs.Answer.{Question, answered, by_position, in_order, past, position, selected_values, stopped, whole}
use Rattle.pq_plan.proofs.Bounds.{keeps_over}
use Rattle.pq_plan.proofs.Combos.{reads, combos_are}
use Rattle.pq_plan.proofs.Laws.{Keeps}
use Rattle.pq_plan.proofs.Orders.{Rises, Rises-sort_by, apart_permuted}
use Rattle.pq_plan.proofs.Pushing.{by_total, distinct_reads}
use Rattle.pq_plan.proofs.Unique.{apart_positions, only}
use Rattle.pq_running.specs.Running.{last_of}
use Rattle.pq_catalog.specs.Model.{Model}
use Rattle.pq_laws.specs.Pages.{ArePages, IsPaged, question_of, last, next}

-- ---- lists

pub in_last : {X : Type 0} (xs : List X) (v : X) → last_of xs ≡ Some v → In v xs
in_last [] v h = absurd (none-some v h)
in_last (x ∷ []) v h = inl (same_Some x v h)
in_last (x ∷ y ∷ xs) v h = inr (in_last (y ∷ xs) v h)

pub some_last : {X : Type 0} (xs : List X) → 1 ≤ length xs → (v : X) × (last_of xs ≡ Some v)
some_last [] h = absurd (omega arith)
some_last (x ∷ []) h = (x, refl)
some_last (x ∷ y ∷ xs) h = some_last (y ∷ xs) (omega arith)

in_drop : {X : Type 0} (n : ℕ) (v : X) (xs : List X) → In v (drop n xs) → In v xs
in_drop zero v xs i = i
in_drop (suc n) v [] i = absurd i
in_drop (suc n) v (x ∷ xs) i = inr (in_drop n v xs i)

-- the first k are fewer, or there are k
pub taken : {X : Type 0} (k : ℕ) (xs : List X) → (length (take k xs) < k) ⊎ ((length (take k xs) ≡ k) × (k ≤ length xs))
taken zero xs = inr (refl, omega arith)
taken (suc k) [] = inl (omega arith)
taken (suc k) (x ∷ xs) = elim (taken k xs) [
  | inl few ↦ inl (omega (arith, few))
  | inr full ↦ inr (ap suc full.0, omega (arith, full.1))
]

-- where they are fewer, they are all
all_taken : {X : Type 0} (k : ℕ) (xs : List X) → length (take k xs) < k → take k xs ≡ xs
all_taken zero xs h = absurd (omega arith)
all_taken (suc k) [] h = refl
all_taken (suc k) (x ∷ xs) h = ap (λ l. x ∷ l) (all_taken k xs (omega arith))

-- ---- lists whose keys climb

module _ {K X : Type 0} (R : K → K → Ordering) (key : X → K) where
  abbrev behind : X → X → Bool
  behind x y = is_lt (R (key x) (key y))

  abbrev Climbs : List X → Type 0
  Climbs [] = Unit {0}
  Climbs (x ∷ xs) = AllByRecursion (λ y. behind x y ≡ true) xs × Climbs xs

  less : (r : Ordering) → is_eq r ≡ false → is_gt r ≡ false → is_lt r ≡ true
  less Less a b = refl
  less Equal a b = absurd (false≢true (sym a))
  less Greater a b = absurd (false≢true (sym b))

  climbs : (xs : List X) → Apart R key xs → Rises R key xs → Climbs xs
  climbs [] apart up = tt
  climbs (x ∷ xs) apart up =
      (each_both (λ y. eq_by_cmp R (key x) (key y) ≡ false) (λ y. is_gt (R (key x) (key y)) ≡ false) (λ y. behind x y ≡ true) (λ y a b. less (R (key x) (key y)) a b) xs apart.0 up.0, climbs xs apart.1 up.1)

  module _ (o : IsTotalOrder R) where
    not_itself : (x : X) → behind x x ≡ false
    not_itself x = ap is_lt (tied_itself o (key x))

    turned : (r : Ordering) → is_lt r ≡ true → is_lt (ordering_reverse r) ≡ false
    turned Less h = refl
    turned Equal h = absurd (false≢true h)
    turned Greater h = absurd (false≢true h)

    not_back : (x y : X) → behind x y ≡ true → behind y x ≡ false
    not_back x y h = ap is_lt (o.antisymm (key y) (key x)) ∙ turned (R (key x) (key y)) h

    skipped : (c x : X) (xs : List X) → behind c x ≡ false → filter (behind c) (x ∷ xs) ≡ filter (behind c) xs
    skipped c x xs h = ap (λ b. cond b (x ∷ filter (behind c) xs) (filter (behind c) xs)) h

    -- behind the last of the first k stand the others
    others : (k : ℕ) (xs : List X) (c : X) → Climbs xs → last_of (take k xs) ≡ Some c → filter (behind c) xs ≡ drop k xs
    others zero xs c up h = absurd (none-some c h)
    others (suc k) [] c up h = absurd (none-some c h)
    others (suc zero) (x ∷ xs) c up h =
        subst (λ v. filter (behind v) (x ∷ xs) ≡ xs) (same_Some x c h) (skipped x x xs (not_itself x) ∙ filter_all (behind x) xs up.0)
    others (suc (suc k)) (x ∷ []) c up h = subst (λ v. filter (behind v) (x ∷ []) ≡ []) (same_Some x c h) (skipped x x [] (not_itself x))
    others (suc (suc k)) (x ∷ y ∷ xs) c up h =
        let here : In c (y ∷ xs) = in_take (suc k) c (y ∷ xs) (in_last (y ∷ take k xs) c h) in
        skipped c x (y ∷ xs) (not_back x c (each_in (λ z. behind x z ≡ true) (y ∷ xs) up.0 c here)) ∙ others (suc k) (y ∷ xs) c up.1 h

    -- also where some stand before these
    others_from : (n k : ℕ) (xs : List X) (c : X) → Climbs xs → last_of (take k (drop n xs)) ≡ Some c → filter (behind c) xs ≡ drop k (drop n xs)
    others_from zero k xs c up h = others k xs c up h
    others_from (suc n) k [] c up h = others k [] c up h
    others_from (suc n) k (x ∷ xs) c up h =
        let here : In c xs = in_drop n c xs (in_take k c (drop n xs) (in_last (take k (drop n xs)) c h)) in
        skipped c x xs (not_back x c (each_in (λ z. behind x z ≡ true) xs up.0 c here)) ∙ others_from n k xs c up.1 h

-- ---- pages, where the positions climb

module _ (q : Question) (k : ℕ) (o : IsTotalOrder (by_position q)) (up : Climbs (by_position q) (position q) (whole q)) (size : stop_size q.query.stop ≡ Some k) where
  -- what the first n pages leave
  abbrev left : ℕ → List (List (List Value))
  left n = drop n (whole q)

  page_is : (n : ℕ) (after : Option (List Value)) → past q after (whole q) ≡ left n → answered q after ≡ take k (left n)
  page_is n after begins = ap (λ (s : Option ℕ). stopped q s after (whole q)) size ∙ ap (take k) begins

  next_left : (n : ℕ) (after : Option (List Value)) (combo : List (List Value)) → past q after (whole q) ≡ left n → last_of (answered q after) ≡ Some combo → past q (Some (position q combo)) (whole q) ≡ left (n + k)
  next_left n after combo begins at =
      others_from (by_position q) (position q) o n k (whole q) combo up (sym (ap last_of (page_is n after begins)) ∙ at) ∙ drop-drop k n (whole q)

  joined_from : {Y : Type 0} (f : List (List Value) → Y) (n : ℕ) (after : Option (List Value)) (pages : List (List (List (List Value)))) → past q after (whole q) ≡ left n → ArePages q k after pages → flat_map (map f) pages ≡ map f (left n)
  joined_from f n _ _ begins (last after few) =
      let is = page_is n after begins in
      append-nil (map f (answered q after)) ∙ ap (map f) (is ∙ all_taken k (left n) (subst (λ (l : List (List (List Value))). length l < k) is few))
  joined_from f n _ _ begins (next after combo pages full at more) =
      let is = page_is n after begins in
      let rest = joined_from f (n + k) (Some (position q combo)) pages (next_left n after combo begins at) more in
      (λ i. map f (is i) ++ rest i)
      ∙ ap (λ (l : List (List (List Value))). map f (take k (left n)) ++ map f l) (sym (drop-drop k n (whole q)))
      ∙ sym (map-append f (take k (left n)) (drop k (left n)))
      ∙ ap (map f) (take-append-drop k (left n))

  module _ (some : 1 ≤ k) where
    pages_from : (fuel n : ℕ) (after : Option (List Value)) → length (left n) ≤ fuel → past q after (whole q) ≡ left n → (pages : List (List (List (List Value)))) × ArePages q k after pages
    pages_from zero n after short begins =
        let is = page_is n after begins in
        elim (taken k (left n)) [
          | inl few ↦ (answered q after ∷ [], last after (subst (λ (l : List (List (List Value))). length l < k) (sym is) few))
          | inr full ↦ absurd (omega (arith, full.1))
        ]
    pages_from (suc fuel) n after short begins =
        let is = page_is n after begins in
        elim (taken k (left n)) [
          | inl few ↦ (answered q after ∷ [], last after (subst (λ (l : List (List (List Value))). length l < k) (sym is) few))
          | inr full ↦
              let long : length (answered q after) ≡ k = ap length is ∙ full.0 in
              let end = some_last (answered q after) (omega arith) in
              let less_left : length (left (n + k)) ≤ fuel = let e = ap length (drop-drop k n (whole q)) in let l = length-drop k (left n) in omega arith in
              let rest = pages_from fuel (n + k) (Some (position q end.0)) less_left (next_left n after end.0 begins end.1) in
              (answered q after ∷ rest.0, next after end.0 rest.0 long end.1 rest.1)
        ]

-- ---- positions climb where the rows keep the definitions

module _ (m : Model) (query : Query) (params : List Value) (k : ℕ) (paged : IsPaged m query k) where
  abbrev q : Question
  q = question_of m query params

  pub sound : IsQuery m.schema.tables query
  sound = valid_query m.schema query paged.valid paged.resolved

  keep : Keeps q (bound_at m.schema.tables query)
  keep = keeps_over m.schema.tables query m.rows params sound paged.keeps.schema

  total : IsTotalOrder (by_position q)
  total = by_total q (bound_at m.schema.tables query) keep

  up : Climbs (by_position q) (position q) (whole q)
  up =
      let d = bound_at m.schema.tables query in
      let count = length query.relations in
      let found = reads q count in
      let apart : Apart (by_position q) (position q) found = apart_positions q d keep count (omega arith) found (distinct_reads q d keep count) (λ c i. i) in
      let sorted : Apart (by_position q) (position q) (in_order q found) = apart_permuted (by_position q) (position q) total (only q d keep) found (in_order q found) (IsPermutation-sort_by (by_position q) (position q) found) apart in
      subst (λ (cs : List (List (List Value))). Climbs (by_position q) (position q) (in_order q cs)) (sym (combos_are q keep.predicates))
      (climbs (by_position q) (position q) (in_order q found) sorted (Rises-sort_by (by_position q) (position q) total found))

  size : stop_size query.stop ≡ Some k
  size = ap stop_size paged.size

  pub some : 1 ≤ k
  some = (subst (λ (s : Option ℕ). IfSome s (λ n. (1 ≤ n) × (n ≤ 1000))) size paged.resolved.stop).0

  -- whatever is made of each combination
  pub pages_each : {Y : Type 0} (f : List (List Value) → Y) (pages : List (List (List (List Value)))) → ArePages q k None pages → flat_map (map f) pages ≡ map f (whole q)
  pages_each f pages are = joined_from q k total up size f 0 None pages refl are

  pub pages_all : (pages : List (List (List (List Value)))) → ArePages q k None pages → flat_map (map (selected_values query)) pages ≡ map (selected_values query) (whole q)
  pages_all pages are = pages_each (selected_values query) pages are

  pub pages_end : (pages : List (List (List (List Value)))) × ArePages q k None pages
  pages_end = pages_from q k total up size some (length (whole q)) 0 None (omega arith) refl
