-- Look-ups in lists of pairs.
use Rattle.std.proofs.Common.{◌≡◌, Bool, true, false, cond, List, [], ◌∷◌, ◌++◌, Option, Some, None, filter, flat_map, refl, sym, ap, ◌∙◌, subst, All}
use Rattle.std.specs.declared.cmp.Ordering.{Ordering}
use Rattle.std.specs.Ordering.{eq_by_cmp}
use Rattle.std.specs.FinMap.{find}
use Rattle.std.proofs.lemmas.List.Elements.{All-head, All-tail}

module _ {K X : Type 0} (R : K → K → Ordering) where
  -- what is not in the front is looked up in the rest
  pub find_rest : (q : K) (xs ys : List (K × X)) → find R q xs ≡ None → find R q (xs ++ ys) ≡ find R q ys
  find_rest q [] ys h = refl
  find_rest q (x ∷ xs) ys h =
      elim (eq_by_cmp R q x.0) as (λ b. cond b (Some x.1) (find R q xs) ≡ None → cond b (Some x.1) (find R q (xs ++ ys)) ≡ find R q ys) [
        | true ↦ λ e. absurd (subst (λ (o : Option X). elim o as (λ _. Type 0) [ None ↦ ⊥ | Some v ↦ Unit {0} ]) e tt)
        | false ↦ λ e. find_rest q xs ys e
      ] h

  -- what is not in the rest is looked up in the front
  pub find_front : (q : K) (xs ys : List (K × X)) → find R q ys ≡ None → find R q (xs ++ ys) ≡ find R q xs
  find_front q [] ys h = h
  find_front q (x ∷ xs) ys h = ap (cond (eq_by_cmp R q x.0) (Some x.1)) (find_front q xs ys h)

  -- fronts that answer alike
  pub find_alike : (q : K) (xs ys zs : List (K × X)) → find R q ys ≡ find R q zs → find R q (xs ++ ys) ≡ find R q (xs ++ zs)
  find_alike q [] ys zs h = h
  find_alike q (x ∷ xs) ys zs h = ap (cond (eq_by_cmp R q x.0) (Some x.1)) (find_alike q xs ys zs h)

  -- no piece that is kept has the key
  pub find_none : {E : Type 0} (f : E → List (K × X)) (p : E → Bool) (q : K) (es : List E) → ((e : E) → p e ≡ true → find R q (f e) ≡ None) → find R q (flat_map f (filter p es)) ≡ None
  find_none f p q [] h = refl
  find_none f p q (e ∷ es) h =
      elim (p e) as (λ b. p e ≡ b → find R q (flat_map f (cond b (e ∷ filter p es) (filter p es))) ≡ None) [
        | true ↦ λ is. find_rest q (f e) _ (h e is) ∙ find_none f p q es h
        | false ↦ λ is. find_none f p q es h
      ] refl

  -- no piece that is left out has the key
  pub find_kept : {E : Type 0} (f : E → List (K × X)) (p : E → Bool) (q : K) (es : List E) → ((e : E) → p e ≡ false → find R q (f e) ≡ None) → find R q (flat_map f (filter p es)) ≡ find R q (flat_map f es)
  find_kept f p q [] h = refl
  find_kept f p q (e ∷ es) h =
      elim (p e) as (λ b. p e ≡ b → find R q (flat_map f (cond b (e ∷ filter p es) (filter p es))) ≡ find R q (f e ++ flat_map f es)) [
        | true ↦ λ is. find_alike q (f e) _ _ (find_kept f p q es h)
        | false ↦ λ is. find_kept f p q es h ∙ sym (find_rest q (f e) _ (h e is))
      ] refl

abbrev pub or_else : {X : Type 0} → Option X → Option X → Option X
or_else None o = o
or_else (Some x) o = Some x

module _ {K X : Type 0} (R : K → K → Ordering) where
  pub find-or_else : (q : K) (xs ys : List (K × X)) → find R q (xs ++ ys) ≡ or_else (find R q xs) (find R q ys)
  find-or_else q [] ys = refl
  find-or_else q (x ∷ xs) ys =
      elim (eq_by_cmp R q x.0) as (λ b. cond b (Some x.1) (find R q (xs ++ ys)) ≡ or_else (cond b (Some x.1) (find R q xs)) (find R q ys)) [ true ↦ refl | false ↦ find-or_else q xs ys ]

  -- the same, where what is said is said of the pieces in the list
  pub find_none_in : {E : Type 0} (f : E → List (K × X)) (p : E → Bool) (q : K) (es : List E) → All (λ e. p e ≡ true → find R q (f e) ≡ None) es → find R q (flat_map f (filter p es)) ≡ None
  find_none_in {E} f p q [] h = refl
  find_none_in {E} f p q (e ∷ es) h =
      let P : E → Type 0 = λ e. p e ≡ true → find R q (f e) ≡ None in
      elim (p e) as (λ b. p e ≡ b → find R q (flat_map f (cond b (e ∷ filter p es) (filter p es))) ≡ None) [
        | true ↦ λ is. find_rest R q (f e) _ (All-head P e es h is) ∙ find_none_in f p q es (All-tail P e es h)
        | false ↦ λ is. find_none_in f p q es (All-tail P e es h)
      ] refl

  pub find_kept_in : {E : Type 0} (f : E → List (K × X)) (p : E → Bool) (q : K) (es : List E) → All (λ e. p e ≡ false → find R q (f e) ≡ None) es → find R q (flat_map f (filter p es)) ≡ find R q (flat_map f es)
  find_kept_in {E} f p q [] h = refl
  find_kept_in {E} f p q (e ∷ es) h =
      let P : E → Type 0 = λ e. p e ≡ false → find R q (f e) ≡ None in
      elim (p e) as (λ b. p e ≡ b → find R q (flat_map f (cond b (e ∷ filter p es) (filter p es))) ≡ find R q (f e ++ flat_map f es)) [
        | true ↦ λ is. find_alike R q (f e) _ _ (find_kept_in f p q es (All-tail P e es h))
        | false ↦ λ is. find_kept_in f p q es (All-tail P e es h) ∙ sym (find_rest R q (f e) _ (All-head P e es h is))
      ] refl
