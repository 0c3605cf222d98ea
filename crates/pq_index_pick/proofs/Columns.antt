-- The columns of a table, one more at a time.
use Rattle.std.proofs.Common.{◌≡◌, ℕ, zero, suc, ◌+◌, Bool, cond, [], ◌∷◌, ◌++◌, ap, ◌∙◌, arith, add-one}
use Rattle.std.specs.Prelude.{filter}
use Rattle.std.specs.List.{range_with_len}
use Rattle.std.proofs.lemmas.List.Elements.{filter-append}

range_push : (a n : ℕ) → range_with_len a (suc n) ≡ range_with_len a n ++ (a + n) ∷ []
range_push a zero = let e : a ≡ a + 0 = omega arith in ap (λ m. m ∷ []) e
range_push a (suc n) = let e : a + 1 + n ≡ a + suc n = omega arith in ap (λ xs. a ∷ xs) (range_push (a + 1) n ∙ ap (λ m. range_with_len (a + 1) n ++ m ∷ []) e)

pub columns_more : (p : ℕ → Bool) (n : ℕ) → filter p (range_with_len 0 (n + 1)) ≡ filter p (range_with_len 0 n) ++ cond (p n) (n ∷ []) []
columns_more p n =
    let e : 0 + n ≡ n = omega arith in
    ap (λ m. filter p (range_with_len 0 m)) (add-one n) ∙ ap (filter p) (range_push 0 n ∙ ap (λ m. range_with_len 0 n ++ m ∷ []) e) ∙ filter-append p (range_with_len 0 n) (n ∷ [])
