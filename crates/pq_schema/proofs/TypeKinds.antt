-- Types of one kind, and values that are of a type's kind.
use Rattle.std.proofs.Common.{◌≡◌, ◌≤◌, suc, true, List, [], ◌∷◌, length, refl, sym, ap, subst, ◌∙◌, arith}
use Rattle.std.proofs.lemmas.Bool.{and_parts, false≢true}
use Rattle.pq_base.specs.declared.value.ColType.{ColType}
use Rattle.pq_base.specs.declared.value.ColType.TheVariants as type
use Rattle.pq_base.specs.declared.value.DataKind.{DataKind}
use Rattle.pq_base.specs.declared.value.DataKind.TheVariants as kind
use Rattle.pq_base.specs.declared.value.Value.{Value}
use Rattle.pq_base.specs.Values.{IsValue, IsType, SameKind, same_kind, IsOfDataKind, FitsType, AllFit, kind_of_type, is_kind, room_of}
use Rattle.pq_base.proofs.TypeFits.{kind_is, kind_itself, value_of_kind, same_kind_from}
use Rattle.pq_schema.specs.Keys.{IsOfKind, AllOfKinds}
use Rattle.pq_schema.specs.Sound.{IsSized}
use Rattle.pq_schema.specs.Resolved.{param_of, param_type}
use Rattle.pq_schema.specs.Tables.{same_kinds}

-- ---- types of one kind

is_kind_flip : (k l : DataKind) → is_kind k l ≡ is_kind l k
is_kind_flip kind.Int kind.Int = refl
is_kind_flip kind.Int kind.Bool = refl
is_kind_flip kind.Int kind.Text = refl
is_kind_flip kind.Bool kind.Int = refl
is_kind_flip kind.Bool kind.Bool = refl
is_kind_flip kind.Bool kind.Text = refl
is_kind_flip kind.Text kind.Int = refl
is_kind_flip kind.Text kind.Bool = refl
is_kind_flip kind.Text kind.Text = refl

pub kind_flip : (t u : ColType) → same_kind t u ≡ same_kind u t
kind_flip t u = is_kind_flip (kind_of_type t) (kind_of_type u)

pub kinds_flip : (ts us : List ColType) → same_kinds ts us ≡ same_kinds us ts
kinds_flip [] [] = refl
kinds_flip [] (u ∷ us) = refl
kinds_flip (t ∷ ts) [] = refl
kinds_flip (t ∷ ts) (u ∷ us) = rw (kind_flip t u, kinds_flip ts us) refl

pub same_length : (ts us : List ColType) → same_kinds ts us ≡ true → length ts ≡ length us
same_length [] [] same = refl
same_length [] (u ∷ us) same = absurd (false≢true same)
same_length (t ∷ ts) [] same = absurd (false≢true same)
same_length (t ∷ ts) (u ∷ us) same = ap suc (same_length ts us (and_parts (same_kind t u) (same_kinds ts us) same).1)

-- ---- values of a type's kind

pub value_from_kind : (t : ColType) (x : Value) → IsOfKind t x → IsValue x
value_from_kind t x h = value_of_kind (kind_of_type t) x h

pub kinds_alike : (t : ColType) (x y : Value) → IsOfKind t x → IsOfKind t y → SameKind x y
kinds_alike t x y f g = same_kind_from (kind_of_type t) x y f g

pub kind_from_fit : (t : ColType) (x : Value) → FitsType t x → IsOfKind t x
kind_from_fit t x h = h.0

pub kinds_from_fit : (ts : List ColType) (xs : List Value) → AllFit ts xs → AllOfKinds ts xs
kinds_from_fit [] [] h = tt
kinds_from_fit [] (x ∷ xs) h = absurd h
kinds_from_fit (t ∷ ts) [] h = absurd h
kinds_from_fit (t ∷ ts) (x ∷ xs) h = (kind_from_fit t x h.0, kinds_from_fit ts xs h.1)

-- a value of one type's kind is of the kind of each type that is like it
pub kind_as : (t u : ColType) (x : Value) → same_kind t u ≡ true → IsOfKind u x → IsOfKind t x
kind_as t u x same h = subst (λ (k : DataKind). IsOfDataKind k x) (sym (kind_is (kind_of_type t) (kind_of_type u) same)) h

pub kinds_as : (ts us : List ColType) (xs : List Value) → same_kinds ts us ≡ true → AllOfKinds us xs → AllOfKinds ts xs
kinds_as [] [] xs same h = h
kinds_as [] (u ∷ us) xs same h = absurd (false≢true same)
kinds_as (t ∷ ts) [] xs same h = absurd (false≢true same)
kinds_as (t ∷ ts) (u ∷ us) [] same h = absurd h
kinds_as (t ∷ ts) (u ∷ us) (x ∷ xs) same h =
    let parts = and_parts (same_kind t u) (same_kinds ts us) same in
    (kind_as t u x parts.0 h.0, kinds_as ts us xs parts.1 h.1)

kind_of_param : (k : DataKind) → is_kind k (kind_of_type (param_of k)) ≡ true
kind_of_param kind.Int = refl
kind_of_param kind.Bool = refl
kind_of_param kind.Text = refl

pub param_kind : (t : ColType) → same_kind t (param_type t) ≡ true
param_kind t = kind_of_param (kind_of_type t)

-- a value that fits a parameter of a type's kind
pub kind_from_param : (t : ColType) (x : Value) → FitsType (param_type t) x → IsOfKind t x
kind_from_param t x h = kind_as t (param_type t) x (param_kind t) (kind_from_fit (param_type t) x h)

-- ---- sizes

pub room_sized : (t : ColType) → IsSized t → room_of t ≤ 1000
room_sized type.Int sized = omega arith
room_sized type.Bool sized = omega arith
room_sized (type.Text n) sized = sized.1
room_sized type.NullInt sized = omega arith
room_sized type.NullBool sized = omega arith
room_sized (type.NullText n) sized = sized.1

-- the lengths of texts are of 16 bits
pub type_sized : (t : ColType) → IsSized t → IsType t
type_sized t sized = let most = room_sized t sized in omega (arith, most)

-- ---- types of parameters

kind_back : (k : DataKind) → kind_of_type (param_of k) ≡ k
kind_back kind.Int = refl
kind_back kind.Bool = refl
kind_back kind.Text = refl

-- columns of one kind have parameters of one type, and only they
pub param_same : (a b : ColType) → same_kind a b ≡ true → param_type a ≡ param_type b
param_same a b same = ap param_of (kind_is (kind_of_type a) (kind_of_type b) same)

pub same_from_params : (a b : ColType) → param_type a ≡ param_type b → same_kind a b ≡ true
same_from_params a b e =
    let kinds : kind_of_type a ≡ kind_of_type b = sym (kind_back (kind_of_type a)) ∙ ap kind_of_type e ∙ kind_back (kind_of_type b) in
    subst (λ (k : DataKind). is_kind (kind_of_type a) k ≡ true) kinds (kind_itself (kind_of_type a))

pub params_alike : (a b : ColType) → same_kind (param_type a) (param_type b) ≡ true → param_type a ≡ param_type b
params_alike a b same =
    ap param_of (sym (kind_back (kind_of_type a)) ∙ kind_is (kind_of_type (param_type a)) (kind_of_type (param_type b)) same ∙ kind_back (kind_of_type b))

pub same_kind_itself : (t : ColType) → same_kind t t ≡ true
same_kind_itself t = kind_itself (kind_of_type t)
