-- The values at rising columns of one row, moved to its front.
use Rattle.std.proofs.Common.{◌≡◌, ℕ, ◌+◌, ◌-◌, ◌≤◌, ◌<◌, ◌==◌, true, nat_le, nat_lt, List, [], ◌∷◌, ◌++◌, length, map, take, drop, set, get_or, append_assoc, refl, sym, ap, ◌∙◌, subst, arith}
use Rattle.std.specs.List.{SwappedAt}
use Rattle.std.proofs.lemmas.Bool.{eqb-true, leb-true, le-leb, ltb-true, lt-ltb, and_parts, and_from}
use Rattle.std.proofs.lemmas.List.{append-nil, take_all, take_more, take-set-le}
use Rattle.pq_base.specs.declared.value.Value.{Value}
use Rattle.pq_schema.specs.declared.query.ColRef.{ColRef}
use Rattle.pq_schema.specs.Rows.{no_value}
use Rattle.pq_plan.specs.Answer.{row_of, values_at}
use Rattle.pq_local_ops.specs.Rising.{are_of, are_rising, value_in}

module _ (from end : ℕ) (col : ColRef) (rest : List ColRef) (is : are_rising from end (col ∷ rest) ≡ true) where
  parts : (nat_le from col.col ≡ true) × (nat_lt col.col end ≡ true)
  parts = and_parts (nat_le from col.col) (nat_lt col.col end) (and_parts _ _ is).0

  pub first_from : from ≤ col.col
  first_from = leb-true from col.col parts.0

  pub first_within : col.col < end
  first_within = ltb-true col.col end parts.1

  pub rest_rising : are_rising (col.col + 1) end rest ≡ true
  rest_rising = (and_parts _ _ is).1

-- rising from a place, they rise from each place before it
pub rising_before : (low from end : ℕ) (cols : List ColRef) → low ≤ from → are_rising from end cols ≡ true → are_rising low end cols ≡ true
rising_before low from end [] before is = refl
rising_before low from end (col ∷ rest) before is =
    let start : nat_le low col.col ≡ true = le-leb low col.col (let high = first_from from end col rest is in omega (arith, high, before)) in
    and_from _ _ (and_from _ _ start (lt-ltb col.col end (first_within from end col rest is))) (rest_rising from end col rest is)

-- where two rows have the same values from a place on, they have the same at the columns
same_values : (from end : ℕ) (cols : List ColRef) (a b : List Value) → are_rising from end cols ≡ true → ((k : ℕ) → from ≤ k → get_or a k no_value ≡ get_or b k no_value) → map (value_in a) cols ≡ map (value_in b) cols
same_values from end [] a b is same = refl
same_values from end (col ∷ rest) a b is same =
    let low = first_from from end col rest is in
    ap (λ (v : Value). v ∷ map (value_in a) rest) (same col.col low)
    ∙ ap (λ (l : List Value). value_in b col ∷ l) (same_values (col.col + 1) end rest a b (rest_rising from end col rest is) (λ k high. same k (omega (arith, low, high))))

module _ (at : ℕ) (row next : List Value) (col : ColRef) (rest : List ColRef) (is : are_rising at (length row) (col ∷ rest) ≡ true) (swapped : SwappedAt row next at col.col) (long : length next ≡ length row) where
  low : at ≤ col.col
  low = first_from at (length row) col rest is

  within : col.col < length row
  within = first_within at (length row) col rest is

  -- what the rest asks for
  pub rising_next : are_rising (at + 1) (length next) rest ≡ true
  rising_next = subst (λ (n : ℕ). are_rising (at + 1) n rest ≡ true) (sym long)
      (rising_before (at + 1) (col.col + 1) (length row) rest (let first = low in omega (arith, first)) (rest_rising at (length row) col rest is))

  front : take at next ≡ take at row
  front = ap (take at) (swapped.3 no_value)
      ∙ take-set-le at (set row at (get_or row col.col no_value)) col.col (get_or row at no_value) low
      ∙ take-set-le at row at (get_or row col.col no_value) (omega arith)

  one_more : take (at + 1) next ≡ take at row ++ value_in row col ∷ []
  one_more = take_more next at no_value (let first = low in let high = within in omega (arith, first, high, long))
      ∙ ap (λ (l : List Value). l ++ get_or next at no_value ∷ []) front
      ∙ ap (λ (v : Value). take at row ++ v ∷ []) (swapped.0 no_value)

  behind : map (value_in next) rest ≡ map (value_in row) rest
  behind = same_values (col.col + 1) (length row) rest next row (rest_rising at (length row) col rest is)
      (λ k high. swapped.2 k no_value (λ same. let first = low in omega (arith, first, high, same)) (λ same. omega (arith, high, same)))

  -- the value at the first column stands behind the front, and the others behind it
  pub gathered_one : (moved : List Value) → moved ≡ take (at + 1) next ++ map (value_in next) rest → moved ≡ take at row ++ map (value_in row) (col ∷ rest)
  gathered_one moved h =
      h ∙ ap (λ (l : List Value). l ++ map (value_in next) rest) one_more
      ∙ ap (λ (l : List Value). (take at row ++ value_in row col ∷ []) ++ l) behind
      ∙ append_assoc (take at row) (value_in row col ∷ []) (map (value_in row) rest)

-- without columns nothing comes behind the front
pub gathered_none : (at : ℕ) (row moved : List Value) → moved ≡ take at row → moved ≡ take at row ++ []
gathered_none at row moved is = is ∙ sym (append-nil (take at row))

-- columns of one relation have the values of its row
pub values_in : (rel : ℕ) (combo : List (List Value)) (cols : List ColRef) → are_of rel cols ≡ true → values_at combo cols ≡ map (value_in (row_of rel combo)) cols
values_in rel combo [] is = refl
values_in rel combo (col ∷ rest) is =
    let own = and_parts (col.rel == rel) (are_of rel rest) is in
    ap (λ (r : ℕ). get_or (row_of r combo) col.col no_value ∷ values_at combo rest) (eqb-true col.rel rel own.0)
    ∙ ap (λ (l : List Value). value_in (row_of rel combo) col ∷ l) (values_in rel combo rest own.1)

pub gathered_more : (at : ℕ) (row next moved : List Value) (cols : List ColRef) (d : ColRef) → 1 ≤ length cols → are_rising at (length row) cols ≡ true → SwappedAt row next at (get_or cols 0 d).col → length next ≡ length row → moved ≡ take (at + 1) next ++ map (value_in next) (take (length cols - 1) (drop 1 cols)) → moved ≡ take at row ++ map (value_in row) cols
gathered_more at row next moved [] d some is swapped long h = absurd (omega (arith, some))
gathered_more at row next moved (col ∷ rest) d some is swapped long h =
    gathered_one at row next col rest is swapped long moved
    (h ∙ ap (λ (cols : List ColRef). take (at + 1) next ++ map (value_in next) cols) (take_all (length (col ∷ rest) - 1) rest (omega arith)))
