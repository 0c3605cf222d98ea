-- Equality of values by their order.
use Rattle.std.proofs.Common.{◌≡◌, Bool, true, false, refl, sym, ap, subst}
use Rattle.std.specs.declared.cmp.Ordering.TheVariants.{Equal}
use Rattle.std.specs.Ordering.{is_eq, nat_cmp, int_cmp, bool_cmp}
use Rattle.std.specs.Cmp.{Equal-is}
use Rattle.std.specs.Cmp.Lexicographic.{slice_cmp}
use Rattle.std.proofs.lemmas.Bool.{false≢true}
use Rattle.std.proofs.lemmas.Cmp.{int_ranked, int_cmp_total, nat_list_cmp_total, tied_itself}
use Rattle.std.proofs.lemmas.Map.Lookups.{exact_bytes}
use Rattle.pq_base.specs.declared.value.Value.{Value}
use Rattle.pq_base.specs.declared.value.Value.TheVariants as value
use Rattle.pq_base.specs.Order.{value_cmp}

bool_same : (a b : Bool) → is_eq (bool_cmp a b) ≡ true → a ≡ b
bool_same true true e = refl
bool_same true false e = absurd (false≢true e)
bool_same false true e = absurd (false≢true e)
bool_same false false e = refl

bool_itself : (a : Bool) → is_eq (bool_cmp a a) ≡ true
bool_itself true = refl
bool_itself false = refl

value_from_same : (x y : Value) → is_eq (value_cmp x y) ≡ true → x ≡ y
value_from_same value.Null value.Null e = refl
value_from_same value.Null (value.Int b) e = absurd (false≢true e)
value_from_same value.Null (value.Bool b) e = absurd (false≢true e)
value_from_same value.Null (value.Text b) e = absurd (false≢true e)
value_from_same (value.Int a) value.Null e = absurd (false≢true e)
value_from_same (value.Bool a) value.Null e = absurd (false≢true e)
value_from_same (value.Text a) value.Null e = absurd (false≢true e)
value_from_same (value.Int a) (value.Int b) e = ap value.Int (int_ranked a b Equal (sym ((Equal-is (int_cmp a b)).0 e)))
value_from_same (value.Int a) (value.Bool b) e = absurd (false≢true e)
value_from_same (value.Int a) (value.Text b) e = absurd (false≢true e)
value_from_same (value.Bool a) (value.Int b) e = absurd (false≢true e)
value_from_same (value.Bool a) (value.Bool b) e = ap value.Bool (bool_same a b e)
value_from_same (value.Bool a) (value.Text b) e = absurd (false≢true e)
value_from_same (value.Text a) (value.Int b) e = absurd (false≢true e)
value_from_same (value.Text a) (value.Bool b) e = absurd (false≢true e)
value_from_same (value.Text a) (value.Text b) e = ap value.Text (exact_bytes a b ((Equal-is (slice_cmp nat_cmp a b)).0 e))

same_value_itself : (x : Value) → is_eq (value_cmp x x) ≡ true
same_value_itself value.Null = refl
same_value_itself (value.Int a) = ap is_eq (tied_itself int_cmp_total a)
same_value_itself (value.Bool a) = bool_itself a
same_value_itself (value.Text a) = ap is_eq (tied_itself nat_list_cmp_total a)

pub value_decides : (x y : Value) → (is_eq (value_cmp x y) ≡ true → x ≡ y) × (x ≡ y → is_eq (value_cmp x y) ≡ true)
value_decides x y = (value_from_same x y, λ e. subst (λ (z : Value). is_eq (value_cmp x z) ≡ true) e (same_value_itself x))
