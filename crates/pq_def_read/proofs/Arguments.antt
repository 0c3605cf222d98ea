-- Values in parentheses are read by the mark that closes them.
use Rattle.std.proofs.Common.{◌≡◌, ℕ, Bool, true, false, cond, eqb, List, [], ◌∷◌, length, Option, Some, None, Result, Ok, Err, refl, ap}
use Rattle.pq_base.specs.declared.value.Value.{Value}
use Rattle.pq_base.specs.declared.value.Value.TheVariants as value
use Rattle.pq_grammar.specs.Reader.{◌>>=◌, begins, option_items, close_at, picked_token}
use Rattle.pq_shape.specs.declared.keyword.TheConstants.{FALSE, TRUE}
use Rattle.pq_shape.specs.declared.mark.TheConstants.{CLOSE}
use Rattle.pq_shape.specs.Front.{constant_in, is_constant, is_mark_shape, is_soft_shape, is_value, mark_at, truth_of, value_in, value_shape_at}
use Rattle.pq_shape.specs.Shape.{Shape}
use Rattle.pq_shape.specs.Shape as shape
use Rattle.pq_shape.specs.declared.soft.Soft.TheVariants as soft_word
use Rattle.pq_shape.proofs.Passing.{test_stops}
use Rattle.pq_def_read.specs.Reading.{listed_values_at}
use Rattle.pq_def_read.specs.Writes.{values_clause_at}

truth_none : (k : ℕ) → is_constant (shape.Keyword k) ≡ false → truth_of k ≡ None
unfolding is_constant truth_of
truth_none k isnt = neither (eqb k TRUE) (eqb k FALSE) isnt
  where
    neither : (a b : Bool) → cond a true b ≡ false → cond a (Some (value.Bool true)) (cond b (Some (value.Bool false)) None) ≡ None
    neither true b e = absurd cc
    neither false true e = absurd cc
    neither false false e = refl

constant_none : (t : Shape) → is_constant t ≡ false → constant_in t ≡ None
unfolding is_constant constant_in
constant_none (shape.Number z) isnt = absurd cc
constant_none (shape.Text t) isnt = absurd cc
constant_none (shape.Keyword k) isnt = truth_none k isnt
constant_none (shape.Name n) isnt = refl
constant_none (shape.Mark c) isnt = refl
constant_none shape.Other isnt = refl

value_none : (t : Shape) → is_value t ≡ false → value_in t ≡ None
value_none t isnt = by_null (is_soft_shape soft_word.Null t) isnt
  where
    by_null : (b : Bool) → cond b true (is_constant t) ≡ false → cond b (Some value.Null) (constant_in t) ≡ None
    by_null true e = absurd cc
    by_null false e = constant_none t e

value_stops : (ts : List Shape) → begins is_value ts ≡ false → value_shape_at ts ≡ Err (length ts)
value_stops [] isnt = refl
value_stops (t ∷ ts) isnt = ap (λ (o : Option Value). picked_token o ts) (value_none t isnt)

closed_is : (t : Shape) → is_mark_shape CLOSE t ≡ true → is_value t ≡ false
unfolding is_mark_shape is_soft_shape is_constant
closed_is (shape.Mark c) is = refl
closed_is (shape.Keyword k) is = absurd cc
closed_is (shape.Name n) is = absurd cc
closed_is (shape.Number z) is = absurd cc
closed_is (shape.Text t) is = absurd cc
closed_is shape.Other is = absurd cc

abbrev Values : Type 0
Values = List Value × List Shape

abbrev some_values : Values → Result (Option (List Value) × List Shape) ℕ
some_values a = Ok (Some a.0, a.1)

abbrev listed : Option (List Value) × List Shape → Result Values ℕ
listed a = Ok (option_items a.0, a.1)

abbrev pub with_mark : List Value → Unit {0} × List Shape → Result Values ℕ
with_mark vs b = Ok (vs, b.1)

abbrev closed : Values → Result Values ℕ
closed a = mark_at CLOSE a.1 >>= with_mark a.0

same_list : (read : Result Values ℕ) → ((read >>= some_values) >>= listed) ≡ read
same_list (Ok x) = refl
same_list (Err n) = refl

-- no value stands before the mark
pub closes_none : (ts : List Shape) → begins (is_mark_shape CLOSE) ts ≡ true
    → close_at listed_values_at (mark_at CLOSE) ts ≡ (mark_at CLOSE ts >>= with_mark [])
unfolding listed_values_at
closes_none [] is = absurd cc
closes_none (t ∷ ts) is = rw (closed_is t is) refl

-- a value stands before the mark, or reading stops here
pub closes_values : (ts : List Shape) → begins (is_mark_shape CLOSE) ts ≡ false
    → close_at listed_values_at (mark_at CLOSE) ts ≡ close_at values_clause_at (mark_at CLOSE) ts
unfolding listed_values_at values_clause_at
closes_values ts isnt = by_value (begins is_value ts) refl
  where
    by_value : (b : Bool) → begins is_value ts ≡ b → close_at listed_values_at (mark_at CLOSE) ts ≡ close_at values_clause_at (mark_at CLOSE) ts
    by_value true e = rw e (ap (λ (read : Result Values ℕ). read >>= closed) (same_list (values_clause_at ts)))
    by_value false e = rw (e, value_stops ts e, test_stops (is_mark_shape CLOSE) ts isnt) refl
