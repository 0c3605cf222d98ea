-- The members of a class, one relation more.
use Rattle.std.proofs.Common.{◌≡◌, ℕ, suc, ◌+◌, ◌<◌, Bool, List, [], ◌∷◌, ◌++◌, length, take, filter, flat_map, get_or, append-nil, ap, ◌∙◌, arith}
use Rattle.std.proofs.Math.Seq.{take-suc}
use Rattle.std.proofs.lemmas.List.Elements.{filter-append}
use Rattle.std.proofs.lemmas.Grind.{flat_map-append}

pub kept_next : {X : Type 0} (p : X → Bool) (f : ℕ → List X) (l : List ℕ) (i : ℕ) → i < length l
    → filter p (flat_map f (take (i + 1) l)) ≡ filter p (flat_map f (take i l)) ++ filter p (f (get_or l i 0))
kept_next p f l i within =
    let one : i + 1 ≡ suc i = omega arith in
    ap (λ (n : ℕ). filter p (flat_map f (take n l))) one
    ∙ ap (λ (xs : List ℕ). filter p (flat_map f xs)) (take-suc l i 0 within)
    ∙ ap (filter p) (flat_map-append f (take i l) (get_or l i 0 ∷ []) ∙ ap (λ ys. flat_map f (take i l) ++ ys) (append-nil (f (get_or l i 0))))
    ∙ filter-append p (flat_map f (take i l)) (f (get_or l i 0))
