-- Sets of different columns have as many columns as are named.
use Rattle.std.proofs.Common.{◌≡◌, ℕ, ◌+◌, ◌*◌, ◌/◌, ◌%◌, ◌^◌, ◌<◌, Bool, true, false, not, cond, ◌||◌, ◌⊎◌, inl, inr, List, [], ◌∷◌, ◌++◌, fold, length, get_or, count_ones, bit_and, Option, Some, None, refl, sym, ap, ◌∙◌, subst, arith, add-zero}
use lib.Count.{ones, ones_cat, ones_step}
use Rattle.std.specs.Prelude.{All, position, unwrap_or, is_none}
use Rattle.std.specs.List.{list_any, position_or_len}
use Rattle.std.specs.Int.{bit_at}
use Rattle.std.specs.Str.{bytes_eq}
use Rattle.std.proofs.Math.Nat.{mod-lt, add-mul}
use Rattle.std.proofs.lemmas.Bool.{cases_eq, false≢true, both_ways, or_left, or_right, lt-ltb}
use Rattle.std.proofs.lemmas.Nat.{pow_pos, or_disjoint, div-add-mod'}
use Rattle.std.proofs.lemmas.Nat.Bits.{and_pow, bit_at_or, bit_at-pow_other, bit_at-zero, bit_at-lt}
use Rattle.std.proofs.lemmas.List.{length-map}
use Rattle.std.proofs.lemmas.List.Elements.{All-nil, All-cons}
use Rattle.std.proofs.lemmas.List.Folds.{list_any-append}
use Rattle.std.proofs.lemmas.List.Quantifiers.{position-Some}
use Rattle.std.proofs.lemmas.Option.{none-some}
use Rattle.std.proofs.lemmas.Slice.Eq.{bytes_eq-Decides}
use Rattle.pq_base.specs.Columns.{with_col, set_of}
use Rattle.pq_base.specs.declared.value.ColType.TheVariants as type
use Rattle.pq_schema.specs.declared.table.Column.{Column}
use Rattle.pq_schema.specs.ColumnNames.{is_unknown, place_of, places_of, repeated_after, first_repeated}
use Rattle.pq_schema.specs.Schema.{has_name, find_column}

-- ---- one more column

next_odd : (q : ℕ) → q % 2 ≡ 0 → count_ones (q + 1) ≡ count_ones q + 1
next_odd q even =
    let odd : (q + 1) % 2 ≡ 1 = omega arith in
    let half : (q + 1) / 2 ≡ q / 2 = omega arith in
    let more : count_ones (q + 1) ≡ 1 + count_ones (q / 2) = ones_step (q + 1) ∙ ap (λ x. x + count_ones ((q + 1) / 2)) odd ∙ ap (λ x. 1 + count_ones x) half in
    let here : count_ones q ≡ q % 2 + count_ones (q / 2) = ones_step q in
    omega (arith, more, here)

zero_ones : count_ones 0 ≡ 0
unfolding ones
zero_ones = refl

count_even : (q k r : ℕ) → r < 2 ^ k → q % 2 ≡ 0 → count_ones ((q + 1) * 2 ^ k + r) ≡ count_ones (q * 2 ^ k + r) + 1
count_even q k r small even =
    let more = ones_cat k (q + 1) r small in
    let here = ones_cat k q r small in
    let next = next_odd q even in
    omega (arith, more, here, next)

pub count_with : (s c : ℕ) → bit_at s c ≡ 0 → count_ones (with_col s c) ≡ count_ones s + 1
count_with s c none =
    let q : ℕ = s / 2 ^ c in
    let r : ℕ = s % 2 ^ c in
    let small : r < 2 ^ c = mod-lt s (pow_pos c) in
    let apart : bit_and s (2 ^ c) ≡ 0 = and_pow s c ∙ ap (λ b. b * 2 ^ c) none ∙ omega arith in
    let parts : q * 2 ^ c + r ≡ s = div-add-mod' s (2 ^ c) in
    let wide : (q + 1) * 2 ^ c ≡ q * 2 ^ c + 1 * 2 ^ c = add-mul q 1 (2 ^ c) in
    let sum : with_col s c ≡ (q + 1) * 2 ^ c + r = or_disjoint s (2 ^ c) apart ∙ omega (arith, parts, wide) in
    ap count_ones sum ∙ count_even q c r small none ∙ ap (λ n. count_ones n + 1) parts

-- a column of a set with one more was there, or is that one
pub bit_with : (s c k : ℕ) → bit_at (with_col s c) k ≡ 1 → (bit_at s k ≡ 1) ⊎ (k ≡ c)
bit_with s c k h = elim (cases_eq k c) [
  | inl same ↦ inr same
  | inr other ↦
      let none = bit_at-pow_other c k other in
      let both = bit_at_or s (2 ^ c) k in
      inl (omega (arith, none, both, h))
]

-- ---- the places of different names

abbrev none_there : Column
none_there = record { name = []; ty = type.Int }

abbrev pub IsKnown : List Column → List ℕ → Type 0
IsKnown columns name = is_unknown columns name ≡ false

abbrev pub AreKnown : List Column → List (List ℕ) → Type 0
AreKnown columns [] = Unit {0}
AreKnown columns (name ∷ names) = IsKnown columns name × AreKnown columns names

place_in : {X : Type 0} (p : X → Bool) (xs : List X) → list_any p xs ≡ true → position_or_len p xs < length xs
place_in p [] any = absurd (false≢true any)
place_in p (x ∷ xs) any =
    elim (p x) as (λ b. (b || list_any p xs) ≡ true → cond (not b) (1 + position_or_len p xs) 0 < length (x ∷ xs)) [
      | true ↦ λ _. omega arith
      | false ↦ λ more. let h = place_in p xs more in omega arith
    ] any

pub position_is : {X : Type 0} (p : X → Bool) (xs : List X) → list_any p xs ≡ true → position p xs ≡ Some (position_or_len p xs)
position_is p xs any = ap (λ b. cond b (Some (position_or_len p xs)) None) (lt-ltb (position_or_len p xs) (length xs) (place_in p xs any))

-- the place of a known name is that of a column that passes
pub found_place : {X : Type 0} (p : X → Bool) (xs : List X) (d : X) → list_any p xs ≡ true → (unwrap_or (position p xs) 0 < length xs) × (p (get_or xs (unwrap_or (position p xs) 0) d) ≡ true)
found_place p xs d any =
    let is = position_is p xs any in
    let found = position-Some p xs (position_or_len p xs) d is in
    subst (λ (o : Option ℕ). (unwrap_or o 0 < length xs) × (p (get_or xs (unwrap_or o 0) d) ≡ true)) (sym is) (found.0, found.1)

pub same_bytes : (xs ys : List ℕ) → bytes_eq xs ys ≡ true → xs ≡ ys
same_bytes xs ys h = (bytes_eq-Decides xs ys).0 h

pub bytes_same : (xs ys : List ℕ) → xs ≡ ys → bytes_eq xs ys ≡ true
bytes_same xs ys h = (bytes_eq-Decides xs ys).1 h

-- the column at a place that is found
place_there : (columns : List Column) (name : List ℕ) (o : Option ℕ) → find_column columns name ≡ o → is_none o ≡ false
    → (unwrap_or o 0 < length columns) × ((get_or columns (unwrap_or o 0) none_there).name ≡ name)
place_there columns name None is known = absurd (false≢true (sym known))
place_there columns name (Some place) is known =
    let found = position-Some (has_name name) columns place none_there is in (found.0, same_bytes _ name found.1)

module _ (columns : List Column) where
  pub place_within : (name : List ℕ) → IsKnown columns name → place_of columns name < length columns
  place_within name known = (place_there columns name (find_column columns name) refl known).0

  pub name_there : (name : List ℕ) → IsKnown columns name → (get_or columns (place_of columns name) none_there).name ≡ name
  name_there name known = (place_there columns name (find_column columns name) refl known).1

  same_place : (a b : List ℕ) → IsKnown columns a → IsKnown columns b → place_of columns a ≡ place_of columns b → a ≡ b
  same_place a b ka kb same = sym (name_there a ka) ∙ ap (λ n. (get_or columns n none_there).name) same ∙ name_there b kb

  pub places_within : (names : List (List ℕ)) → AreKnown columns names → All (λ col. col < length columns) (places_of columns names)
  places_within [] known = All-nil (λ col. col < length columns)
  places_within (name ∷ names) known =
      All-cons (λ col. col < length columns) (place_of columns name) (places_of columns names) (place_within name known.0) (places_within names known.1)

  -- a known name whose place is in the set is among these
  Seen : ℕ → List (List ℕ) → Type 0
  Seen s before = (name : List ℕ) → IsKnown columns name → bit_at s (place_of columns name) ≡ 1 → list_any (bytes_eq name) before ≡ true

  seen_more : (s : ℕ) (before : List (List ℕ)) (n : List ℕ) → IsKnown columns n → Seen s before → Seen (with_col s (place_of columns n)) (before ++ n ∷ [])
  unfolding Seen
  seen_more s before n kn seen name known bit =
      list_any-append (bytes_eq name) before (n ∷ []) ∙ elim (bit_with s (place_of columns n) (place_of columns name) bit) [
        | inl old ↦ or_left (list_any (bytes_eq name) before) (list_any (bytes_eq name) (n ∷ [])) (seen name known old)
        | inr same ↦ or_right (list_any (bytes_eq name) before) (list_any (bytes_eq name) (n ∷ [])) (or_left (bytes_eq name n) false (bytes_same name n (same_place name n known kn same)))
      ]

  unseen_bit : (s : ℕ) (before : List (List ℕ)) (n : List ℕ) → IsKnown columns n → Seen s before → list_any (bytes_eq n) before ≡ false → bit_at s (place_of columns n) ≡ 0
  unfolding Seen
  unseen_bit s before n kn seen none =
      let low = bit_at-lt s (place_of columns n) in
      elim (cases_eq (bit_at s (place_of columns n)) 1) [
        | inl one ↦ absurd (both_ways (list_any (bytes_eq n) before) none (seen n kn one))
        | inr other ↦ omega (arith, low, other)
      ]

  count_from : (names before : List (List ℕ)) (s : ℕ) → Seen s before → AreKnown columns names → repeated_after before names ≡ None → count_ones (fold with_col s (places_of columns names)) ≡ count_ones s + length names
  count_from [] before s seen known none = sym (add-zero (count_ones s))
  count_from (n ∷ ns) before s seen known none =
      elim (list_any (bytes_eq n) before) as (λ b. list_any (bytes_eq n) before ≡ b → cond b (Some n) (repeated_after (before ++ n ∷ []) ns) ≡ None → count_ones (fold with_col s (places_of columns (n ∷ ns))) ≡ count_ones s + length (n ∷ ns)) [
        | true ↦ λ _ none. absurd (none-some n (sym none))
        | false ↦ λ is none.
            let one = count_with s (place_of columns n) (unseen_bit s before n known.0 seen is) in
            let rest = count_from ns (before ++ n ∷ []) (with_col s (place_of columns n)) (seen_more s before n known.0 seen) known.1 none in
            omega (arith, one, rest)
      ] refl none

  -- names of which none is repeated have as many places
  pub different_places : (names : List (List ℕ)) → AreKnown columns names → first_repeated names ≡ None → count_ones (set_of (places_of columns names)) ≡ length (places_of columns names)
  unfolding Seen
  different_places names known none =
      let from_zero : count_ones (set_of (places_of columns names)) ≡ count_ones 0 + length names = count_from names [] 0 (λ name k bit. absurd (no_bit (place_of columns name) bit)) known none in
      let long : length (places_of columns names) ≡ length names = length-map names (place_of columns) in
      omega (arith, from_zero, zero_ones, long)
    where
      no_bit : (c : ℕ) → bit_at 0 c ≡ 1 → ⊥
      no_bit c h = let none = bit_at-zero c in omega (arith, none, h)
