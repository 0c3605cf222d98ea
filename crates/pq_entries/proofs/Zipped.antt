-- Two lists, place by place.
use Rattle.std.proofs.Common.{◌≡◌, ℕ, zero, suc, ◌<◌, inl, inr, List, [], ◌∷◌, length, get_or, refl, sym, ap, subst, arith}
use Rattle.std.specs.Prelude.{zip}
use Rattle.std.specs.List.{AllZip}
use Rattle.pq_base.specs.Members.{In}

pub zipped_length : {A B : Type 0} (R : A → B → Type 0) (xs : List A) (ys : List B) → AllZip R xs ys → length ys ≡ length xs
zipped_length R [] [] h = refl
zipped_length R [] (y ∷ ys) h = absurd h
zipped_length R (x ∷ xs) [] h = absurd h
zipped_length R (x ∷ xs) (y ∷ ys) h = ap suc (zipped_length R xs ys h.1)

-- what holds of each holds at a place
pub zipped_at : {A B : Type 0} (R : A → B → Type 0) (xs : List A) (ys : List B) (i : ℕ) (x : A) (y : B) → AllZip R xs ys → i < length xs → x ≡ get_or xs i x → y ≡ get_or ys i y → R x y
zipped_at R [] ys i x y h less at at' = absurd (omega arith)
zipped_at R (w ∷ xs) [] i x y h less at at' = absurd h
zipped_at R (w ∷ xs) (z ∷ ys) zero x y h less at at' = subst (λ a. R a y) (sym at) (subst (λ b. R w b) (sym at') h.0)
zipped_at R (w ∷ xs) (z ∷ ys) (suc i) x y h less at at' = zipped_at R xs ys i x y h.1 (omega arith) at at'

-- and of two that stand beside one another
pub zipped_in : {X Y : Type 0} (R : X → Y → Type 0) (xs : List X) (ys : List Y) (one : X × Y) → AllZip R xs ys → In one (zip xs ys) → R one.0 one.1
zipped_in R [] ys one h here = absurd here
zipped_in R (x ∷ xs) [] one h here = absurd here
zipped_in {X} {Y} R (x ∷ xs) (y ∷ ys) one h (inl same) = subst (λ (p : X × Y). R p.0 p.1) same h.0
zipped_in R (x ∷ xs) (y ∷ ys) one h (inr later) = zipped_in R xs ys one h.1 later

-- those at a place stand beside one another
pub at_in_zip : {X Y : Type 0} (xs : List X) (ys : List Y) (i : ℕ) (x : X) (y : Y) → i < length xs → length ys ≡ length xs → x ≡ get_or xs i x → y ≡ get_or ys i y → In (x, y) (zip xs ys)
at_in_zip [] ys i x y less long at at' = absurd (omega arith)
at_in_zip (w ∷ xs) [] i x y less long at at' = absurd (omega arith)
at_in_zip (w ∷ xs) (z ∷ ys) zero x y less long at at' = inl (λ i. (sym at i, sym at' i))
at_in_zip (w ∷ xs) (z ∷ ys) (suc i) x y less long at at' = inr (at_in_zip xs ys i x y (omega arith) (omega arith) at at')
