-- The order of values is total, and ties only equal values.
use Rattle.std.proofs.Common.{◌≡◌, Bool, true, false, refl, ap}
use Rattle.std.specs.declared.cmp.Ordering.TheVariants.{Less, Equal}
use Rattle.std.specs.Ordering.{ordering_reverse, bool_cmp}
use Rattle.std.specs.Cmp.{IsTotalOrder, int_cmp_total, bool_cmp_total}
use Rattle.std.specs.Cmp.Lexicographic.{nat_list_cmp_total}
use Rattle.std.specs.FinMap.{IsAntisymmetric, int_cmp-IsAntisymmetric, nat_cmp-IsAntisymmetric, slice_cmp-IsAntisymmetric}
use Rattle.pq_base.specs.declared.value.Value.{Value}
use Rattle.pq_base.specs.declared.value.Value.TheVariants as value
use Rattle.pq_base.specs.Order.{value_cmp}
use Rattle.std.proofs.lemmas.Cmp.{lists_total}
use Rattle.pq_plan.specs.Kept.{row_cmp}
use Rattle.pq_plan.specs.Meaning.{combo_cmp}

antisymm : (x y : Value) → value_cmp x y ≡ ordering_reverse (value_cmp y x)
antisymm value.Null value.Null = refl
antisymm value.Null (value.Int b) = refl
antisymm value.Null (value.Bool b) = refl
antisymm value.Null (value.Text b) = refl
antisymm (value.Int a) value.Null = refl
antisymm (value.Bool a) value.Null = refl
antisymm (value.Text a) value.Null = refl
antisymm (value.Int a) (value.Int b) = int_cmp_total.antisymm a b
antisymm (value.Bool a) (value.Bool b) = bool_cmp_total.antisymm a b
antisymm (value.Text a) (value.Text b) = nat_list_cmp_total.antisymm a b
antisymm (value.Int a) (value.Bool b) = refl
antisymm (value.Int a) (value.Text b) = refl
antisymm (value.Bool a) (value.Int b) = refl
antisymm (value.Bool a) (value.Text b) = refl
antisymm (value.Text a) (value.Int b) = refl
antisymm (value.Text a) (value.Bool b) = refl

trans : (x y z : Value) → value_cmp x y ≡ Less → value_cmp y z ≡ Less → value_cmp x z ≡ Less
trans value.Null y (value.Int c) p r = refl
trans value.Null y (value.Bool c) p r = refl
trans value.Null y (value.Text c) p r = refl
trans value.Null value.Null value.Null p r = cc
trans value.Null (value.Int b) value.Null p r = cc
trans value.Null (value.Bool b) value.Null p r = cc
trans value.Null (value.Text b) value.Null p r = cc
trans (value.Int a) value.Null z p r = cc
trans (value.Bool a) value.Null z p r = cc
trans (value.Text a) value.Null z p r = cc
trans (value.Int a) (value.Int b) value.Null p r = cc
trans (value.Int a) (value.Bool b) value.Null p r = cc
trans (value.Int a) (value.Text b) value.Null p r = cc
trans (value.Bool a) (value.Bool b) value.Null p r = cc
trans (value.Bool a) (value.Text b) value.Null p r = cc
trans (value.Text a) (value.Text b) value.Null p r = cc
trans (value.Int a) (value.Int b) (value.Int c) p r = int_cmp_total.trans a b c p r
trans (value.Bool a) (value.Bool b) (value.Bool c) p r = bool_cmp_total.trans a b c p r
trans (value.Text a) (value.Text b) (value.Text c) p r = nat_list_cmp_total.trans a b c p r
trans (value.Int a) y (value.Bool c) p r = refl
trans (value.Int a) y (value.Text c) p r = refl
trans (value.Bool a) y (value.Text c) p r = refl
trans (value.Int a) (value.Bool b) (value.Int c) p r = cc
trans (value.Int a) (value.Text b) (value.Int c) p r = cc
trans (value.Bool a) (value.Int b) z p r = cc
trans (value.Bool a) (value.Text b) (value.Bool c) p r = cc
trans (value.Bool a) (value.Text b) (value.Int c) p r = cc
trans (value.Bool a) (value.Bool b) (value.Int c) p r = cc
trans (value.Text a) (value.Int b) z p r = cc
trans (value.Text a) (value.Bool b) z p r = cc
trans (value.Text a) (value.Text b) (value.Int c) p r = cc
trans (value.Text a) (value.Text b) (value.Bool c) p r = cc

congr : (x y z : Value) → value_cmp x y ≡ Equal → value_cmp x z ≡ value_cmp y z
congr value.Null value.Null z p = refl
congr value.Null (value.Int b) z p = cc
congr value.Null (value.Bool b) z p = cc
congr value.Null (value.Text b) z p = cc
congr (value.Int a) value.Null z p = cc
congr (value.Bool a) value.Null z p = cc
congr (value.Text a) value.Null z p = cc
congr (value.Int a) (value.Int b) value.Null p = refl
congr (value.Bool a) (value.Bool b) value.Null p = refl
congr (value.Text a) (value.Text b) value.Null p = refl
congr (value.Int a) (value.Int b) (value.Int c) p = int_cmp_total.congr a b c p
congr (value.Bool a) (value.Bool b) (value.Bool c) p = bool_cmp_total.congr a b c p
congr (value.Text a) (value.Text b) (value.Text c) p = nat_list_cmp_total.congr a b c p
congr (value.Int a) (value.Int b) (value.Bool c) p = refl
congr (value.Int a) (value.Int b) (value.Text c) p = refl
congr (value.Bool a) (value.Bool b) (value.Int c) p = refl
congr (value.Bool a) (value.Bool b) (value.Text c) p = refl
congr (value.Text a) (value.Text b) (value.Int c) p = refl
congr (value.Text a) (value.Text b) (value.Bool c) p = refl
congr (value.Int a) (value.Bool b) z p = cc
congr (value.Int a) (value.Text b) z p = cc
congr (value.Bool a) (value.Int b) z p = cc
congr (value.Bool a) (value.Text b) z p = cc
congr (value.Text a) (value.Int b) z p = cc
congr (value.Text a) (value.Bool b) z p = cc

pub value_cmp_total : IsTotalOrder value_cmp
value_cmp_total = record { antisymm = antisymm; trans = trans; congr = congr }

bool_only : (a b : Bool) → bool_cmp a b ≡ Equal → a ≡ b
bool_only true true h = refl
bool_only false false h = refl
bool_only true false h = cc
bool_only false true h = cc

pub value_cmp_only : IsAntisymmetric value_cmp
value_cmp_only value.Null value.Null p = refl
value_cmp_only value.Null (value.Int b) p = cc
value_cmp_only value.Null (value.Bool b) p = cc
value_cmp_only value.Null (value.Text b) p = cc
value_cmp_only (value.Int a) value.Null p = cc
value_cmp_only (value.Bool a) value.Null p = cc
value_cmp_only (value.Text a) value.Null p = cc
value_cmp_only (value.Int a) (value.Int b) p = ap value.Int (int_cmp-IsAntisymmetric a b p)
value_cmp_only (value.Bool a) (value.Bool b) p = ap value.Bool (bool_only a b p)
value_cmp_only (value.Text a) (value.Text b) p = ap value.Text (slice_cmp-IsAntisymmetric nat_cmp-IsAntisymmetric a b p)
value_cmp_only (value.Int a) (value.Bool b) p = cc
value_cmp_only (value.Int a) (value.Text b) p = cc
value_cmp_only (value.Bool a) (value.Int b) p = cc
value_cmp_only (value.Bool a) (value.Text b) p = cc
value_cmp_only (value.Text a) (value.Int b) p = cc
value_cmp_only (value.Text a) (value.Bool b) p = cc

-- ---- rows and combinations
pub row_total : IsTotalOrder row_cmp
row_total = lists_total value_cmp_total

pub row_only : IsAntisymmetric row_cmp
row_only = slice_cmp-IsAntisymmetric value_cmp_only

pub combo_total : IsTotalOrder combo_cmp
combo_total = lists_total row_total

pub combo_only : IsAntisymmetric combo_cmp
combo_only = slice_cmp-IsAntisymmetric row_only
