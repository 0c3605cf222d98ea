-- What stands before the fields, by whether some value is NULL.
use Rattle.std.proofs.Common.{◌≡◌, ℕ, ◌+◌, ◌≤◌, ◌<◌, Bool, true, false, cond, List, [], ◌∷◌, length, drop, get_or, refl, sym, ap, ◌∙◌, arith}
use Rattle.std.proofs.lemmas.Bool.{false≢true, ne_eqb}
use Rattle.std.proofs.lemmas.List.{length-append, drop_more, drop_all}
use Rattle.pq_base.specs.declared.value.Value.{Value}
use Rattle.pq_base.specs.declared.value.Value.TheVariants as values
use Rattle.pq_base.specs.Values.{is_null, has_null}
use Rattle.pq_row_code.specs.RowCode.{fields, null_marks, mark_bytes, row_front, row_code}

no_marks : (xs : List Value) → has_null xs ≡ false → null_marks xs ≡ 0
no_marks [] none = refl
no_marks (values.Null ∷ xs) none = absurd (false≢true (sym none))
no_marks (values.Int z ∷ xs) none = omega (arith, no_marks xs none)
no_marks (values.Bool b ∷ xs) none = omega (arith, no_marks xs none)
no_marks (values.Text t ∷ xs) none = omega (arith, no_marks xs none)

some_marks : (xs : List Value) → has_null xs ≡ true → 1 ≤ null_marks xs
some_marks [] some = absurd (false≢true some)
some_marks (values.Null ∷ xs) some = omega arith
some_marks (values.Int z ∷ xs) some = omega (arith, some_marks xs some)
some_marks (values.Bool b ∷ xs) some = omega (arith, some_marks xs some)
some_marks (values.Text t ∷ xs) some = omega (arith, some_marks xs some)

front_by : (xs : List Value) (b : Bool) → has_null xs ≡ b → row_front (length xs) (null_marks xs) ≡ cond b ((length xs + 64) ∷ mark_bytes (null_marks xs)) (length xs ∷ [])
front_by xs false none = ap (row_front (length xs)) (no_marks xs none)
front_by xs true some = rw (ne_eqb (null_marks xs) 0 (λ e. absurd (omega (arith, e, some_marks xs some)))) refl

-- the marks by the front's length
pub plain_marks : (xs : List Value) (n : ℕ) → n ≡ cond (has_null xs) 5 1 → n ≡ 1 → null_marks xs ≡ 0
plain_marks xs n is one = by (has_null xs) refl is
  where
    by : (b : Bool) → has_null xs ≡ b → n ≡ cond b 5 1 → null_marks xs ≡ 0
    by false none len = no_marks xs none
    by true some len = absurd (omega (arith, one, len))

front_len : (xs : List Value) (b : Bool) → has_null xs ≡ b → length (row_front (length xs) (null_marks xs)) ≡ cond b 5 1
front_len xs false none = ap length (front_by xs false none)
front_len xs true some = ap length (front_by xs true some)

-- the code by the lengths of its two parts
pub code_len : (xs : List Value) (front rest : ℕ) → front ≡ cond (has_null xs) 5 1 → rest ≡ length (fields xs) → front + rest ≡ length (row_code xs)
code_len xs front rest is len = omega (arith, is, len, front_len xs (has_null xs) refl, length-append (row_front (length xs) (null_marks xs)) (fields xs))

-- ---- as the loop counts: of the values that it has seen NULL is told by 5

abbrev front_from : List Value → ℕ → ℕ
front_from xs front = cond (has_null xs) 5 front

front_step : (x : Value) (xs : List Value) (front : ℕ) → front_from (x ∷ xs) front ≡ front_from xs (cond (is_null x) 5 front)
front_step values.Null xs front = same 5 (has_null xs)
  where
    same : (n : ℕ) (b : Bool) → n ≡ cond b n n
    same n true = refl
    same n false = refl
front_step (values.Int z) xs front = refl
front_step (values.Bool b) xs front = refl
front_step (values.Text t) xs front = refl

pub front_more : (xs : List Value) (i : ℕ) (x : Value) (front total : ℕ) → i < length xs → front_from (drop i xs) front ≡ total → front_from (drop (i + 1) xs) (cond (is_null (get_or xs i x)) 5 front) ≡ total
front_more xs i x front total lt so_far = sym (front_step (get_or xs i x) (drop (i + 1) xs) front) ∙ ap (λ (rest : List Value). front_from rest front) (sym (drop_more xs i x lt)) ∙ so_far

pub front_end : (xs : List Value) (i front total : ℕ) → length xs ≤ i → front_from (drop i xs) front ≡ total → front ≡ total
front_end xs i front total le so_far = ap (λ (rest : List Value). front_from rest front) (sym (drop_all i xs le)) ∙ so_far
