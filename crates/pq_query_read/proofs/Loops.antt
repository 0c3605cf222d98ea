-- Lists over numbers from one on, and the items of lists.
use Rattle.std.proofs.Common.{◌≡◌, ℕ, zero, suc, ◌+◌, ◌-◌, ◌≤◌, List, [], ◌∷◌, ◌++◌, ap, ◌∙◌, arith}
use Rattle.std.specs.Prelude.{flat_map}
use Rattle.std.specs.List.{range_with_len}
use Rattle.std.proofs.lemmas.Grind.{flat_map-append}
use Rattle.std.proofs.lemmas.List.{append-nil}

pub range_push : (a n : ℕ) → range_with_len a (n + 1) ≡ range_with_len a n ++ (a + n) ∷ []
range_push a n = more a n
  where
    long : (a n : ℕ) → range_with_len a (suc n) ≡ range_with_len a n ++ (a + n) ∷ []
    long a zero = let e : a ≡ a + 0 = omega arith in ap (λ m. m ∷ []) e
    long a (suc n) = let e : a + 1 + n ≡ a + suc n = omega arith in ap (λ ys. a ∷ ys) (long (a + 1) n ∙ ap (λ m. range_with_len (a + 1) n ++ m ∷ []) e)

    more : (a n : ℕ) → range_with_len a (n + 1) ≡ range_with_len a n ++ (a + n) ∷ []
    more a n = let e : n + 1 ≡ suc n = omega arith in ap (range_with_len a) e ∙ long a n

pub range_split : (a k m : ℕ) → range_with_len a (k + m) ≡ range_with_len a k ++ range_with_len (a + k) m
range_split a zero m = let n : 0 + m ≡ m = omega arith in let b : a ≡ a + 0 = omega arith in ap (range_with_len a) n ∙ ap (λ b. range_with_len b m) b
range_split a (suc k) m =
    let n : suc k + m ≡ suc (k + m) = omega arith in
    let b : a + 1 + k ≡ a + suc k = omega arith in
    ap (range_with_len a) n ∙ ap (λ ys. a ∷ ys) (range_split (a + 1) k m ∙ ap (λ b. range_with_len (a + 1) k ++ range_with_len b m) b)

pub flat_map_more : {X : Type 0} (f : ℕ → List X) (b : ℕ) → 1 ≤ b → flat_map f (range_with_len 1 (b + 1 - 1)) ≡ flat_map f (range_with_len 1 (b - 1)) ++ f b
flat_map_more f b low =
    let n : b + 1 - 1 ≡ b - 1 + 1 = omega (arith, low) in
    let at : 1 + (b - 1) ≡ b = omega (arith, low) in
    ap (λ m. flat_map f (range_with_len 1 m)) n ∙ ap (flat_map f) (range_push 1 (b - 1)) ∙ flat_map-append f (range_with_len 1 (b - 1)) ((1 + (b - 1)) ∷ [])
    ∙ ap (λ ys. flat_map f (range_with_len 1 (b - 1)) ++ ys) (append-nil (f (1 + (b - 1)))) ∙ ap (λ m. flat_map f (range_with_len 1 (b - 1)) ++ f m) at
