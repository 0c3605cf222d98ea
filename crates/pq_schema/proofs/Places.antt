-- Places of a sequence, and the columns there.
use Rattle.std.proofs.Common.{◌≡◌, add-one, drop-cons, drop, suc, length-append, ℕ, ◌+◌, ◌<◌, ◌≤◌, length, take, map, List, [], ◌∷◌, ◌++◌, Some, None, sym, refl, ap, ◌∙◌, subst, arith, inl, inr, false, not, ◌==◌}
use Rattle.std.specs.Prelude.{slice_get, option_map}
use Rattle.std.proofs.lemmas.List.{take_more, take_all, drop_all, length-map}
use Rattle.std.proofs.lemmas.List.Elements.{All-append, All-map, All-filter}
use Rattle.std.proofs.lemmas.List.Sums.{length-filter, count_by-le-length}
use Rattle.std.proofs.lemmas.Option.{slice_get-map, slice_get_within, get_or_from_slice_get, slice_get_cases}
use Rattle.std.specs.Int.{bit_at}
use Rattle.pq_base.specs.Columns.{has_col}
use Rattle.pq_schema.specs.declared.table.KeyPart.{KeyPart}
use Rattle.pq_schema.specs.Sound.{AreColumns, AreParts}
use Rattle.pq_schema.specs.Sequences.{then_key, without, ascending_part}

pub past : {X : Type 0} (xs : List X) (i : ℕ) → slice_get xs i ≡ None → length xs ≤ i
past xs i none = elim ((slice_get_cases xs i).1) [
  | inl found ↦ let e : Some (found.0) ≡ None = sym found.2 ∙ none in cc
  | inr end ↦ end.0
]

pub all_taken : {X Y : Type 0} (f : X → Y) (xs : List X) (i n : ℕ) → slice_get xs i ≡ None → i ≤ n → take n (map f xs) ≡ take i (map f xs)
all_taken f xs i n none le =
    let end : length (map f xs) ≤ i = rw (length-map xs f) (past xs i none) in
    let more : length (map f xs) ≤ n = omega arith in
    take_all n (map f xs) more ∙ sym (take_all i (map f xs) end)

pub one_more : {X Y : Type 0} (f : X → Y) (xs : List X) (i : ℕ) (x : X) → slice_get xs i ≡ Some x → take (i + 1) (map f xs) ≡ take i (map f xs) ++ f x ∷ []
one_more f xs i x is =
    let at' : slice_get (map f xs) i ≡ Some (f x) = slice_get-map f xs i ∙ ap (option_map f) is in
    take_more (map f xs) i (f x) (slice_get_within (map f xs) i (f x) at') ∙ ap (λ y. take i (map f xs) ++ y ∷ []) (get_or_from_slice_get (map f xs) i (f x) (f x) at')

pub sequence_columns : (parts : List KeyPart) (set : ℕ) (key : List ℕ) → AreParts parts → AreColumns key → AreParts (then_key parts set key)
sequence_columns parts set key p k =
    All-append (λ part. part.col < 32) parts (map ascending_part (without set key)) p
    (All-map (λ part. part.col < 32) ascending_part (without set key) (All-filter (λ col. not (has_col set col)) (λ col. col < 32) key k))

pub column_at : (parts : List KeyPart) (i : ℕ) (part : KeyPart) → AreParts parts → slice_get parts i ≡ Some part → part.col < 32
column_at parts i part all is =
    subst (λ (p : KeyPart). p.col < 32) (get_or_from_slice_get parts i part part is) (all i part (slice_get_within parts i part is))

pub drop_some : {X : Type 0} (xs : List X) (i : ℕ) (x : X) → slice_get xs i ≡ Some x → drop i xs ≡ x ∷ drop (i + 1) xs
drop_some xs i x is = rw (add-one i, drop-cons xs i x (slice_get_within xs i x is)) (ap (λ y. y ∷ drop (suc i) xs) (get_or_from_slice_get xs i x x is))

pub drop_none : {X : Type 0} (xs : List X) (i : ℕ) → slice_get xs i ≡ None → drop i xs ≡ []
drop_none xs i is = drop_all i xs (past xs i is)

pub length_then_key : (parts : List KeyPart) (set : ℕ) (key : List ℕ) → length (then_key parts set key) ≤ length parts + length key
length_then_key parts set key =
    simp (length-append, length-map) (omega (arith, length-filter (λ col. not (has_col set col)) key, count_by-le-length (λ col. not (has_col set col)) key))

-- the empty set leaves no column out
no_column : (col : ℕ) → has_col 0 col ≡ false
no_column col = ap (λ b. b == 1) (no_bit col)
  where
    no_bit : (col : ℕ) → bit_at 0 col ≡ 0
    no_bit col = omega arith

pub all_left : (key : List ℕ) → without 0 key ≡ key
all_left [] = refl
all_left (col ∷ key) = rw (no_column col) (ap (λ rest. col ∷ rest) (all_left key))
