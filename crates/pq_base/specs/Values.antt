-- Values: their ranges, their kinds, and when a value fits a type.
use Rattle.std.specs.Prelude.{T, ℕ, ◌≤◌, ◌<◌, ◌^◌, Bool, true, false, ◌&&◌, ◌||◌, nat_le, Option, Some, None, List, [], ◌∷◌, length, IsUtf8, FitsSigned}
use Rattle.std.specs.Int.{w64}
use Rattle.pq_base.specs.declared.value.Value.{Value}
use Rattle.pq_base.specs.declared.value.Value.TheVariants as value
use Rattle.pq_base.specs.declared.value.ColType.{ColType}
use Rattle.pq_base.specs.declared.value.ColType.TheVariants as type
use Rattle.pq_base.specs.declared.value.DataKind.{DataKind}
use Rattle.pq_base.specs.declared.value.DataKind.TheVariants as kind
use Rattle.pq_base.specs.declared.value.Dir.{Dir}

-- NULL, a number of 64 bits, a truth value, or a text of UTF-8 bytes
abbrev pub IsValue : Value → Type 0
IsValue value.Null = Unit {0}
IsValue (value.Int n) = FitsSigned w64 n
IsValue (value.Bool b) = Unit {0}
IsValue (value.Text t) = IsUtf8 t

abbrev pub is_null : Value → Bool
is_null value.Null = true
is_null (value.Int n) = false
is_null (value.Bool b) = false
is_null (value.Text t) = false

-- one of them is NULL
abbrev pub has_null : List Value → Bool
has_null [] = false
has_null (x ∷ xs) = is_null x || has_null xs

abbrev pub AreValues : List Value → Type 0
AreValues [] = Unit {0}
AreValues (x ∷ xs) = IsValue x × AreValues xs

-- whether NULL is of the type
abbrev pub is_nullable : ColType → Bool
is_nullable type.Int = false
is_nullable type.Bool = false
is_nullable (type.Text n) = false
is_nullable type.NullInt = true
is_nullable type.NullBool = true
is_nullable (type.NullText n) = true

-- the most bytes of a text of the type
abbrev pub room_of : ColType → ℕ
room_of type.Int = 0
room_of type.Bool = 0
room_of (type.Text n) = n
room_of type.NullInt = 0
room_of type.NullBool = 0
room_of (type.NullText n) = n

-- a text's greatest length is of 16 bits
abbrev pub IsType : ColType → Type 0
IsType t = room_of t < 2 ^ 16

-- the kind of a value but NULL, and of a type's values
abbrev pub kind_of : Value → Option DataKind
kind_of value.Null = None
kind_of (value.Int n) = Some kind.Int
kind_of (value.Bool b) = Some kind.Bool
kind_of (value.Text t) = Some kind.Text

abbrev pub kind_of_type : ColType → DataKind
kind_of_type type.Int = kind.Int
kind_of_type type.Bool = kind.Bool
kind_of_type (type.Text n) = kind.Text
kind_of_type type.NullInt = kind.Int
kind_of_type type.NullBool = kind.Bool
kind_of_type (type.NullText n) = kind.Text

abbrev pub is_kind : DataKind → DataKind → Bool
is_kind kind.Int kind.Int = true
is_kind kind.Int kind.Bool = false
is_kind kind.Int kind.Text = false
is_kind kind.Bool kind.Int = false
is_kind kind.Bool kind.Bool = true
is_kind kind.Bool kind.Text = false
is_kind kind.Text kind.Int = false
is_kind kind.Text kind.Bool = false
is_kind kind.Text kind.Text = true

-- NULL stands beside any kind
abbrev pub is_beside : Option DataKind → Option DataKind → Bool
is_beside None k = true
is_beside (Some k) None = true
is_beside (Some k) (Some l) = is_kind k l

-- both are numbers, both truth values or both texts, or one is NULL
abbrev pub SameKind : Value → Value → Type 0
SameKind x y = T (is_beside (kind_of x) (kind_of y))

-- the same of types, whatever the lengths of texts
abbrev pub same_kind : ColType → ColType → Bool
same_kind t u = is_kind (kind_of_type t) (kind_of_type u)

-- the kinds are equal at each place that both have
abbrev pub SameKinds : List Value → List Value → Type 0
SameKinds (x ∷ xs) (y ∷ ys) = SameKind x y × SameKinds xs ys
SameKinds _ _ = Unit {0}

-- three equal lengths, and the kinds are equal place by place
abbrev pub AreAlike : List Value → List Value → List Dir → Type 0
AreAlike [] [] [] = Unit {0}
AreAlike (x ∷ xs) (y ∷ ys) (d ∷ ds) = SameKind x y × AreAlike xs ys ds
AreAlike _ _ _ = ⊥

-- a value of this kind, in its range; NULL is of each kind
abbrev pub IsOfDataKind : DataKind → Value → Type 0
IsOfDataKind k value.Null = Unit {0}
IsOfDataKind kind.Int (value.Int n) = FitsSigned w64 n
IsOfDataKind kind.Bool (value.Bool b) = Unit {0}
IsOfDataKind kind.Text (value.Text t) = IsUtf8 t
IsOfDataKind kind.Int (value.Bool b) = ⊥
IsOfDataKind kind.Int (value.Text t) = ⊥
IsOfDataKind kind.Bool (value.Int n) = ⊥
IsOfDataKind kind.Bool (value.Text t) = ⊥
IsOfDataKind kind.Text (value.Int n) = ⊥
IsOfDataKind kind.Text (value.Bool b) = ⊥

-- what a type asks besides the kind: that NULL is of it, that a text has at most its bytes
abbrev pub Admits : ColType → Value → Type 0
Admits t value.Null = T (is_nullable t)
Admits t (value.Int n) = Unit {0}
Admits t (value.Bool b) = Unit {0}
Admits t (value.Text s) = length s ≤ room_of t

-- a value of the type's kind, a text of at most the type's bytes, NULL exactly where it is of the type
abbrev pub FitsType : ColType → Value → Type 0
FitsType t x = IsOfDataKind (kind_of_type t) x × Admits t x

-- as many values as types, and each fits
abbrev pub AllFit : List ColType → List Value → Type 0
AllFit [] [] = Unit {0}
AllFit (t ∷ ts) (x ∷ xs) = FitsType t x × AllFit ts xs
AllFit _ _ = ⊥

-- the same as a test, for a value in its kind's range
abbrev pub admits : ColType → Value → Bool
admits t value.Null = is_nullable t
admits t (value.Int n) = true
admits t (value.Bool b) = true
admits t (value.Text s) = nat_le (length s) (room_of t)

abbrev pub fits_type : ColType → Value → Bool
fits_type t x = is_beside (Some (kind_of_type t)) (kind_of x) && admits t x

abbrev pub all_fit : List ColType → List Value → Bool
all_fit [] [] = true
all_fit (t ∷ ts) (x ∷ xs) = fits_type t x && all_fit ts xs
all_fit _ _ = false
