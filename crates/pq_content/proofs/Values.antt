-- Equality of values by test, and the types and kinds of values that fit.
use Rattle.std.proofs.Common.{◌≡◌, ℕ, zero, suc, Bool, true, false, List, [], ◌∷◌, length, refl, sym, ap, subst}
use Rattle.std.specs.Prelude.{slice_index_or}
use Rattle.std.specs.Cmp.Lexicographic.{pointwise_decides}
use Rattle.pq_base.proofs.SameValues.{value_decides}
use Rattle.pq_base.specs.declared.value.ColType.{ColType}
use Rattle.pq_base.specs.declared.value.ColType.TheVariants as type
use Rattle.pq_base.specs.declared.value.Value.{Value}
use Rattle.pq_base.specs.Values.{AreValues, SameKinds, FitsType, AllFit}
use Rattle.pq_schema.proofs.TypeKinds.{kinds_alike, kinds_from_fit, value_from_kind}
use Rattle.pq_schema.specs.declared.table.KeyPart.{KeyPart}
use Rattle.pq_schema.specs.declared.table.Table.{Table}
use Rattle.pq_schema.specs.Sequences.{columns_of}
use Rattle.pq_content.specs.Tables.{AllOfKinds, same_values, value_of, cells, values_of, key_of, types_of, types_at, key_types}

-- ---- equality by test

-- the test of two lists of values decides whether they are equal
pub same_values_decides : (xs ys : List Value) → (same_values xs ys ≡ true → xs ≡ ys) × (xs ≡ ys → same_values xs ys ≡ true)
same_values_decides = pointwise_decides value_decides

pub same_from_test : (xs ys : List Value) → same_values xs ys ≡ true → xs ≡ ys
same_from_test xs ys = (same_values_decides xs ys).0

pub same_values_itself : (xs : List Value) → same_values xs xs ≡ true
same_values_itself xs = (same_values_decides xs xs).1 refl

pub both_ways : (s t : Bool) → (s ≡ true → t ≡ true) → (t ≡ true → s ≡ true) → s ≡ t
both_ways true t f g = sym (f refl)
both_ways false true f g = g refl
both_ways false false f g = refl

pub same_values_sym : (xs ys : List Value) → same_values xs ys ≡ same_values ys xs
same_values_sym xs ys = both_ways (same_values xs ys) (same_values ys xs) (turned xs ys) (turned ys xs)
  where
    turned : (xs ys : List Value) → same_values xs ys ≡ true → same_values ys xs ≡ true
    turned xs ys e = (same_values_decides ys xs).1 (sym (same_from_test xs ys e))

-- ---- values that fit, or are of the types' kinds

pub AreValues_from_kinds : (ts : List ColType) (xs : List Value) → AllOfKinds ts xs → AreValues xs
AreValues_from_kinds [] [] h = tt
AreValues_from_kinds [] (x ∷ xs) h = absurd h
AreValues_from_kinds (t ∷ ts) [] h = absurd h
AreValues_from_kinds (t ∷ ts) (x ∷ xs) h = (value_from_kind t x h.0, AreValues_from_kinds ts xs h.1)

pub SameKinds_from_kinds : (ts : List ColType) (xs ys : List Value) → AllOfKinds ts xs → AllOfKinds ts ys → SameKinds xs ys
SameKinds_from_kinds [] [] [] f g = tt
SameKinds_from_kinds [] [] (y ∷ ys) f g = absurd g
SameKinds_from_kinds [] (x ∷ xs) ys f g = absurd f
SameKinds_from_kinds (t ∷ ts) [] ys f g = absurd f
SameKinds_from_kinds (t ∷ ts) (x ∷ xs) [] f g = absurd g
SameKinds_from_kinds (t ∷ ts) (x ∷ xs) (y ∷ ys) f g = (kinds_alike t x y f.0 g.0, SameKinds_from_kinds ts xs ys f.1 g.1)

pub length_from_kinds : (ts : List ColType) (xs : List Value) → AllOfKinds ts xs → length xs ≡ length ts
length_from_kinds [] [] h = refl
length_from_kinds [] (x ∷ xs) h = absurd h
length_from_kinds (t ∷ ts) [] h = absurd h
length_from_kinds (t ∷ ts) (x ∷ xs) h = ap suc (length_from_kinds ts xs h.1)

-- at each place the value fits the type, and past the end too
fits_at : (ts : List ColType) (row : List Value) (col : ℕ) → AllFit ts row → FitsType (slice_index_or ts col type.Bool) (value_of row col)
fits_at [] [] col h = (tt, tt)
fits_at [] (x ∷ xs) col h = absurd h
fits_at (t ∷ ts) [] col h = absurd h
fits_at (t ∷ ts) (x ∷ xs) zero h = h.0
fits_at (t ∷ ts) (x ∷ xs) (suc col) h = fits_at ts xs col h.1

-- a row's values at some columns fit their types
pub fit_at : (table : Table) (cols : List ℕ) (row : List Value) → AllFit (types_of table) row → AllFit (types_at table.columns cols) (cells cols row)
fit_at table [] row h = tt
fit_at table (col ∷ cols) row h = (fits_at (types_of table) row col h, fit_at table cols row h)

pub key_of_kinds : (table : Table) (row : List Value) → AllFit (types_of table) row → AllOfKinds (key_types table) (key_of table row)
key_of_kinds table row h = kinds_from_fit (key_types table) (key_of table row) (fit_at table table.key row h)

pub key_fits : (table : Table) (row : List Value) → AllFit (types_of table) row → AllFit (key_types table) (key_of table row)
key_fits table row h = fit_at table table.key row h

-- the values of a sequence are those at its columns
pub values_of-columns_of : (parts : List KeyPart) (row : List Value) → values_of parts row ≡ cells (columns_of parts) row
values_of-columns_of [] row = refl
values_of-columns_of (part ∷ parts) row = ap (λ (xs : List Value). value_of row part.col ∷ xs) (values_of-columns_of parts row)

pub sequence_fits : (table : Table) (parts : List KeyPart) (row : List Value) → AllFit (types_of table) row → AllFit (types_at table.columns (columns_of parts)) (values_of parts row)
sequence_fits table parts row h =
    subst (AllFit (types_at table.columns (columns_of parts))) (sym (values_of-columns_of parts row)) (fit_at table (columns_of parts) row h)
