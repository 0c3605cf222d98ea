-- Values that fit types.
use Rattle.std.proofs.Common.{◌≡◌, T, suc, Bool, true, false, List, [], ◌∷◌, length, refl, ap}
use Rattle.std.specs.Prelude.{Some}
use Rattle.std.proofs.lemmas.Bool.{leb-true, le-leb, false≢true, and_from, and_parts}
use Rattle.pq_base.specs.declared.value.ColType.{ColType}
use Rattle.pq_base.specs.declared.value.DataKind.{DataKind}
use Rattle.pq_base.specs.declared.value.DataKind.TheVariants as kind
use Rattle.pq_base.specs.declared.value.Value.{Value}
use Rattle.pq_base.specs.declared.value.Value.TheVariants as value
use Rattle.pq_base.specs.Values.{IsValue, IsOfDataKind, Admits, FitsType, AllFit, SameKind, kind_of, kind_of_type, is_kind, is_beside, is_nullable, room_of, admits, fits_type}

pub length_from_fits : (ts : List ColType) (xs : List Value) → AllFit ts xs → length xs ≡ length ts
length_from_fits [] [] fits = refl
length_from_fits [] (x ∷ xs) fits = absurd fits
length_from_fits (t ∷ ts) [] fits = absurd fits
length_from_fits (t ∷ ts) (x ∷ xs) fits = ap suc (length_from_fits ts xs fits.1)

-- ---- kinds

pub kind_is : (k l : DataKind) → is_kind k l ≡ true → k ≡ l
kind_is kind.Int kind.Int h = refl
kind_is kind.Bool kind.Bool h = refl
kind_is kind.Text kind.Text h = refl
kind_is kind.Int kind.Bool h = absurd (false≢true h)
kind_is kind.Int kind.Text h = absurd (false≢true h)
kind_is kind.Bool kind.Int h = absurd (false≢true h)
kind_is kind.Bool kind.Text h = absurd (false≢true h)
kind_is kind.Text kind.Int h = absurd (false≢true h)
kind_is kind.Text kind.Bool h = absurd (false≢true h)

pub kind_itself : (k : DataKind) → is_kind k k ≡ true
kind_itself kind.Int = refl
kind_itself kind.Bool = refl
kind_itself kind.Text = refl

pub value_of_kind : (k : DataKind) (x : Value) → IsOfDataKind k x → IsValue x
value_of_kind k value.Null h = tt
value_of_kind kind.Int (value.Int n) h = h
value_of_kind kind.Bool (value.Bool b) h = tt
value_of_kind kind.Text (value.Text s) h = h
value_of_kind kind.Int (value.Bool b) h = absurd h
value_of_kind kind.Int (value.Text s) h = absurd h
value_of_kind kind.Bool (value.Int n) h = absurd h
value_of_kind kind.Bool (value.Text s) h = absurd h
value_of_kind kind.Text (value.Int n) h = absurd h
value_of_kind kind.Text (value.Bool b) h = absurd h

pub of_kind_by : (k : DataKind) (x : Value) → IsValue x → is_beside (Some k) (kind_of x) ≡ true → IsOfDataKind k x
of_kind_by k value.Null known h = tt
of_kind_by kind.Int (value.Int n) known h = known
of_kind_by kind.Bool (value.Bool b) known h = tt
of_kind_by kind.Text (value.Text s) known h = known
of_kind_by kind.Int (value.Bool b) known h = absurd (false≢true h)
of_kind_by kind.Int (value.Text s) known h = absurd (false≢true h)
of_kind_by kind.Bool (value.Int n) known h = absurd (false≢true h)
of_kind_by kind.Bool (value.Text s) known h = absurd (false≢true h)
of_kind_by kind.Text (value.Int n) known h = absurd (false≢true h)
of_kind_by kind.Text (value.Bool b) known h = absurd (false≢true h)

of_kind_test : (k : DataKind) (x : Value) → IsOfDataKind k x → is_beside (Some k) (kind_of x) ≡ true
of_kind_test k value.Null h = refl
of_kind_test kind.Int (value.Int n) h = refl
of_kind_test kind.Bool (value.Bool b) h = refl
of_kind_test kind.Text (value.Text s) h = refl
of_kind_test kind.Int (value.Bool b) h = absurd h
of_kind_test kind.Int (value.Text s) h = absurd h
of_kind_test kind.Bool (value.Int n) h = absurd h
of_kind_test kind.Bool (value.Text s) h = absurd h
of_kind_test kind.Text (value.Int n) h = absurd h
of_kind_test kind.Text (value.Bool b) h = absurd h

alike_by : (k : DataKind) (x y : Value) → is_beside (Some k) (kind_of x) ≡ true → is_beside (Some k) (kind_of y) ≡ true → SameKind x y
alike_by k value.Null y f g = tt
alike_by k (value.Int a) value.Null f g = tt
alike_by k (value.Bool a) value.Null f g = tt
alike_by k (value.Text a) value.Null f g = tt
alike_by k (value.Int a) (value.Int b) f g = tt
alike_by k (value.Bool a) (value.Bool b) f g = tt
alike_by k (value.Text a) (value.Text b) f g = tt
alike_by k (value.Int a) (value.Bool b) f g = absurd (other (kind_is k kind.Int f) (kind_is k kind.Bool g))
  where
    other : k ≡ kind.Int → k ≡ kind.Bool → ⊥
    other p q = cc
alike_by k (value.Int a) (value.Text b) f g = absurd (other (kind_is k kind.Int f) (kind_is k kind.Text g))
  where
    other : k ≡ kind.Int → k ≡ kind.Text → ⊥
    other p q = cc
alike_by k (value.Bool a) (value.Int b) f g = absurd (other (kind_is k kind.Bool f) (kind_is k kind.Int g))
  where
    other : k ≡ kind.Bool → k ≡ kind.Int → ⊥
    other p q = cc
alike_by k (value.Bool a) (value.Text b) f g = absurd (other (kind_is k kind.Bool f) (kind_is k kind.Text g))
  where
    other : k ≡ kind.Bool → k ≡ kind.Text → ⊥
    other p q = cc
alike_by k (value.Text a) (value.Int b) f g = absurd (other (kind_is k kind.Text f) (kind_is k kind.Int g))
  where
    other : k ≡ kind.Text → k ≡ kind.Int → ⊥
    other p q = cc
alike_by k (value.Text a) (value.Bool b) f g = absurd (other (kind_is k kind.Text f) (kind_is k kind.Bool g))
  where
    other : k ≡ kind.Text → k ≡ kind.Bool → ⊥
    other p q = cc

-- two values of one kind
pub same_kind_from : (k : DataKind) (x y : Value) → IsOfDataKind k x → IsOfDataKind k y → SameKind x y
same_kind_from k x y f g = alike_by k x y (of_kind_test k x f) (of_kind_test k y g)

-- ---- types

pub value_from_fit : (t : ColType) (x : Value) → FitsType t x → IsValue x
value_from_fit t x fits = value_of_kind (kind_of_type t) x fits.0

truth : (b : Bool) → b ≡ true → T b
truth true h = tt
truth false h = absurd (false≢true h)

admits_exact : (t : ColType) (x : Value) → admits t x ≡ true → Admits t x
admits_exact t value.Null h = truth (is_nullable t) h
admits_exact t (value.Int n) h = tt
admits_exact t (value.Bool b) h = tt
admits_exact t (value.Text s) h = leb-true (length s) (room_of t) h

-- a value in its kind's range fits where the test says so
pub fits_exact : (t : ColType) (x : Value) → IsValue x → fits_type t x ≡ true → FitsType t x
fits_exact t x known fits =
    let parts = and_parts (is_beside (Some (kind_of_type t)) (kind_of x)) (admits t x) fits in
    (of_kind_by (kind_of_type t) x known parts.0, admits_exact t x parts.1)

truth_again : (b : Bool) → T b → b ≡ true
truth_again true h = refl
truth_again false h = absurd h

admits_again : (t : ColType) (x : Value) → Admits t x → admits t x ≡ true
admits_again t value.Null h = truth_again (is_nullable t) h
admits_again t (value.Int n) h = refl
admits_again t (value.Bool b) h = refl
admits_again t (value.Text s) h = le-leb (length s) (room_of t) h

-- the test holds of a value that fits
pub fits_again : (t : ColType) (x : Value) → FitsType t x → fits_type t x ≡ true
fits_again t x fits = and_from _ _ (of_kind_test (kind_of_type t) x fits.0) (admits_again t x fits.1)
