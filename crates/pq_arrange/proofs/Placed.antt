-- The order in which relations are placed has each of them once.
use Rattle.std.proofs.Common.{◌≡◌, ℕ, zero, suc, Bool, true, false, cond, ◌==◌, inl, inr, List, [], ◌∷◌, ◌++◌, length, append_assoc, flat_map, unwrap_or, Option, Some, None, IsPermutation, refl, sym, ap, ◌∙◌, subst, arith}
use Rattle.std.specs.List.{range_with_len, list_any, find}
use Rattle.std.specs.Option.{option_and_then, option_map_or}
use Rattle.std.proofs.lemmas.Bool.{eqb-true, false≢true, eq-eqb}
use Rattle.std.proofs.lemmas.List.FromFn.{length-range_with_len}
use Rattle.pq_base.specs.Members.{In}
use Rattle.pq_schema.specs.declared.table.Table.{Table}
use Rattle.pq_schema.specs.declared.query.Query.{Query}
use Rattle.pq_schema.specs.Tables.{least_of}
use Rattle.pq_arrange.specs.Placing.{without, bound_list, bound_next, least_bound, first_ordered, first_of_rest, next, placed_after, arranged_order}
use Rattle.pq_arrange.specs.Laws.{PlacesEach}
use Rattle.pq_base.proofs.Shuffles.{Shuffle, keep, swap, then, equal, before, permutation}

find_in : {X : Type 0} (p : X → Bool) (xs : List X) (x : X) → find p xs ≡ Some x → In x xs
find_in p [] x e = absurd (none_some e)
  where
    none_some : {X : Type 0} {x : X} → None ≡ Some x → ⊥
    none_some e = cc
find_in p (y ∷ ys) x e =
    elim (p y) as (λ b. cond b (Some y) (find p ys) ≡ Some x → In x (y ∷ ys)) [
      | true ↦ λ e. inl (some e)
      | false ↦ λ e. inr (find_in p ys x e)
    ] e
  where
    some : {X : Type 0} {x y : X} → Some y ≡ Some x → y ≡ x
    some e = cc

taken : (k : ℕ) (rest : List ℕ) → In k rest → Shuffle rest (k ∷ without k rest)
taken k [] i = absurd i
taken k (j ∷ rest) i =
    elim (j == k) as (λ b. (j == k) ≡ b → Shuffle (j ∷ rest) (k ∷ cond b rest (j ∷ without k rest))) [
      | true ↦ λ e. equal (j ∷ rest) (k ∷ rest) (ap (λ (n : ℕ). n ∷ rest) (eqb-true j k e))
      | false ↦ λ e.
          let r : Shuffle rest (k ∷ without k rest) = taken k rest (elim i [ inl s ↦ absurd (false≢true (sym e ∙ eq-eqb j k s)) | inr r ↦ r ]) in
          then (j ∷ rest) (j ∷ k ∷ without k rest) (k ∷ j ∷ without k rest) (keep j rest (k ∷ without k rest) r) (swap j k (without k rest))
    ] refl

shorter : (k n : ℕ) (rest : List ℕ) → In k rest → length rest ≡ suc n → length (without k rest) ≡ n
shorter k n [] i l = absurd i
shorter k n (j ∷ rest) i l =
    elim (j == k) as (λ b. (j == k) ≡ b → length (cond b rest (j ∷ without k rest)) ≡ n) [
      | true ↦ λ e. omega (arith, l)
      | false ↦ λ e. more n rest (elim i [ inl s ↦ absurd (false≢true (sym e ∙ eq-eqb j k s)) | inr r ↦ r ]) (omega (arith, l))
    ] refl
  where
    more : (n : ℕ) (rest : List ℕ) → In k rest → length rest ≡ n → suc (length (without k rest)) ≡ n
    more n [] i l = absurd i
    more n (j ∷ rest) i l =
        elim (j == k) as (λ b. (j == k) ≡ b → suc (length (cond b rest (j ∷ without k rest))) ≡ n) [
          | true ↦ λ e. omega (arith, l)
          | false ↦ λ e. let h : suc (length (without k rest)) ≡ length rest = more (length rest) rest (elim i [ inl s ↦ absurd (false≢true (sym e ∙ eq-eqb j k s)) | inr r ↦ r ]) refl in omega (arith, l, h)
        ] refl

module _ (tables : List Table) (query : Query) (close : Bool) where
  -- an optional relation of the rest, or another of it
  else_in : (o : Option ℕ) (d : ℕ) (rest : List ℕ) → ((k : ℕ) → o ≡ Some k → In k rest) → In d rest → In (unwrap_or o d) rest
  else_in None d rest h there = there
  else_in (Some k) d rest h there = h k refl

  first_in : (rest : List ℕ) (n : ℕ) → length rest ≡ suc n → In (first_of_rest rest) rest
  first_in [] n l = absurd (omega (arith, l))
  first_in (k ∷ rest) n l = inl refl

  least_in : (placed rest : List ℕ) (k : ℕ) → least_bound tables query close placed rest ≡ Some k → In k rest
  least_in placed rest k e = at_least (least_of (flat_map (λ rel. bound_list (bound_next tables query close placed rel)) rest)) e
    where
      at_least : (o : Option ℕ) → option_and_then (λ n. find (λ rel. option_map_or (λ m. m == n) (bound_next tables query close placed rel) false) rest) o ≡ Some k → In k rest
      at_least None e = let no : ⊥ = cc in absurd no
      at_least (Some n) e = find_in (λ rel. option_map_or (λ m. m == n) (bound_next tables query close placed rel) false) rest k e

  next_in : (placed rest : List ℕ) (n : ℕ) → length rest ≡ suc n → In (next tables query close placed rest) rest
  next_in placed rest n l =
      else_in (least_bound tables query close placed rest) (unwrap_or (first_ordered tables query close rest) (first_of_rest rest)) rest (least_in placed rest)
      (else_in (first_ordered tables query close rest) (first_of_rest rest) rest (λ k e. find_in (λ rel. list_any (λ item. item.col.rel == rel) query.order) rest k e) (first_in rest n l))

  all_placed : (n : ℕ) (placed rest : List ℕ) → length rest ≡ n → Shuffle (placed ++ rest) (placed_after tables query close n placed rest)
  all_placed zero placed [] l = equal (placed ++ []) placed (nothing placed)
    where
      nothing : (l : List ℕ) → l ++ [] ≡ l
      nothing [] = refl
      nothing (x ∷ l) = ap (λ k. x ∷ k) (nothing l)
  all_placed zero placed (k ∷ rest) l = absurd (omega (arith, l))
  all_placed (suc n) placed rest l =
      let k : ℕ = next tables query close placed rest in
      let here : In k rest = next_in placed rest n l in
      then (placed ++ rest) (placed ++ k ∷ without k rest) (placed_after tables query close n (placed ++ k ∷ []) (without k rest))
      (before placed rest (k ∷ without k rest) (taken k rest here))
      (subst (λ (l : List ℕ). Shuffle l (placed_after tables query close n (placed ++ k ∷ []) (without k rest))) (append_assoc placed (k ∷ []) (without k rest))
      (all_placed n (placed ++ k ∷ []) (without k rest) (shorter k n rest here l)))

  pub is_order : IsPermutation (range_with_len 1 (length query.relations)) (arranged_order tables query close)
  is_order = permutation _ _ (all_placed (length query.relations) [] (range_with_len 1 (length query.relations)) (length-range_with_len 1 (length query.relations)))

pub places_each : PlacesEach
places_each tables query close = is_order tables query close
