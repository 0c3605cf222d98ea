-- Numbers from one to another.
use Rattle.std.proofs.Common.{◌≡◌, ℕ, zero, suc, ◌+◌, ◌-◌, ◌<◌, ◌≤◌, Bool, ◌&&◌, ◌||◌, [], ◌∷◌, ◌++◌, ap, ◌∙◌, arith}
use Rattle.std.specs.Prelude.{fold}
use Rattle.std.specs.List.{list_all, list_any, range_with_len}
use Rattle.std.proofs.lemmas.List.Sums.{fold_push}

pub all_after : (p : ℕ → Bool) (a b : ℕ) → a < b → list_all p (range_with_len a (b - a)) ≡ (p a && list_all p (range_with_len (a + 1) (b - (a + 1))))
all_after p a b lt = let e : b - a ≡ suc (b - (a + 1)) = omega arith in rw e

range_push : (a n : ℕ) → range_with_len a (suc n) ≡ range_with_len a n ++ (a + n) ∷ []
range_push a zero = let e : a ≡ a + 0 = omega arith in ap (λ m. m ∷ []) e
range_push a (suc n) = let e : a + 1 + n ≡ a + suc n = omega arith in ap (λ xs. a ∷ xs) (range_push (a + 1) n ∙ ap (λ m. range_with_len (a + 1) n ++ m ∷ []) e)

pub fold_next : {A : Type 0} (f : A → ℕ → A) (s : A) (b : ℕ) → 1 ≤ b → fold f s (range_with_len 1 (b + 1 - 1)) ≡ f (fold f s (range_with_len 1 (b - 1))) b
fold_next f s b one =
    let n : b + 1 - 1 ≡ suc (b - 1) = omega arith in
    let e : 1 + (b - 1) ≡ b = omega arith in
    ap (λ m. fold f s (range_with_len 1 m)) n ∙ ap (fold f s) (range_push 1 (b - 1)) ∙ fold_push f s (range_with_len 1 (b - 1)) (1 + (b - 1)) ∙ ap (f (fold f s (range_with_len 1 (b - 1)))) e

pub any_after : (p : ℕ → Bool) (a b : ℕ) → a < b → list_any p (range_with_len a (b - a)) ≡ (p a || list_any p (range_with_len (a + 1) (b - (a + 1))))
any_after p a b lt = let e : b - a ≡ suc (b - (a + 1)) = omega arith in rw e
