-- Numbers from one to another.
use Rattle.std.proofs.Common.{◌≡◌, ℕ, zero, suc, ◌+◌, ◌-◌, ◌<◌, ◌≤◌, Bool, ◌||◌, List, ◌++◌, ap, sym, ◌∙◌, arith, append-nil, append_assoc}
use Rattle.std.specs.Prelude.{flat_map}
use Rattle.std.specs.List.{list_any, range_with_len}

pub any_after : (p : ℕ → Bool) (a b : ℕ) → a < b → list_any p (range_with_len a (b - a)) ≡ (p a || list_any p (range_with_len (a + 1) (b - (a + 1))))
any_after p a b lt = let e : b - a ≡ suc (b - (a + 1)) = omega arith in rw e

flat_map_step : {X : Type 0} (f : ℕ → List X) (a n : ℕ) → flat_map f (range_with_len a (suc n)) ≡ flat_map f (range_with_len a n) ++ f (a + n)
flat_map_step f a zero = let e : a ≡ a + 0 = omega arith in append-nil (f a) ∙ ap f e
flat_map_step f a (suc n) =
    let e : a + 1 + n ≡ a + suc n = omega arith in
    ap (λ ys. f a ++ ys) (flat_map_step f (a + 1) n ∙ ap (λ m. flat_map f (range_with_len (a + 1) n) ++ f m) e)
    ∙ sym (append_assoc (f a) (flat_map f (range_with_len (a + 1) n)) (f (a + suc n)))

pub flat_map_more : {X : Type 0} (f : ℕ → List X) (a b : ℕ) → a ≤ b → flat_map f (range_with_len a (b + 1 - a)) ≡ flat_map f (range_with_len a (b - a)) ++ f b
flat_map_more f a b le =
    let n : b + 1 - a ≡ suc (b - a) = omega arith in
    let e : a + (b - a) ≡ b = omega arith in
    ap (λ m. flat_map f (range_with_len a m)) n ∙ flat_map_step f a (b - a) ∙ ap (λ m. flat_map f (range_with_len a (b - a)) ++ f m) e
