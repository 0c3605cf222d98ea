-- How many pairs of a sequence the changes of a write remove.
use Rattle.std.proofs.Common.{◌≡◌, ℕ, ◌+◌, ◌≤◌, ◌<◌, ◌==◌, Bool, true, false, cond, ◌&&◌, List, [], ◌∷◌, ◌++◌, Some, None, refl, arith}
use Rattle.std.specs.List.{count_by}
use Rattle.std.proofs.lemmas.Bool.{eqb-true}
use Rattle.pq_base.specs.declared.value.Value.{Value}
use Rattle.pq_key_code.specs.KeyCode.{row_key}
use Rattle.pq_schema.specs.declared.table.Access.TheVariants.{Primary, Secondary}
use Rattle.pq_schema.specs.declared.table.Index.{Index}
use Rattle.pq_schema.specs.declared.table.Table.{Table}
use Rattle.pq_schema.specs.Sequences.{index_sequence}
use Rattle.pq_content.specs.Pairs.{Change, Pair, entry_pair, entries_from, entry_changes, puts, removals}
use Rattle.pq_content.specs.Tables.{same_values, values_of}
use Rattle.pq_pending.specs.Pending.{is_removal_of, RemovesAtMost}
use Rattle.pq_pending.proofs.Lists.{count-cons}

-- an INSERT removes none
pub puts_remove : (pairs : List Pair) → RemovesAtMost 0 (puts pairs)
puts_remove [] t access = omega arith
puts_remove (pair ∷ pairs) t access = omega (arith, count-cons (is_removal_of t access) (pair.0, Some pair.1) (puts pairs), puts_remove pairs t access)

at_most_one : (b : Bool) → cond b 1 0 ≤ 1
at_most_one true = omega arith
at_most_one false = omega arith

none_of : (a b : Bool) → (b ≡ true → ⊥) → cond (a && b) 1 0 ≤ 0
none_of false b none = omega arith
none_of true false none = omega arith
none_of true true none = absurd (none refl)

one_of : (a b : Bool) (rest : ℕ) → (b ≡ true → rest ≤ 0) → rest ≤ 1 → cond (a && b) 1 0 + rest ≤ 1
one_of false b rest none most = omega (arith, most)
one_of true false rest none most = omega (arith, most)
one_of true true rest none most = omega (arith, none refl)

-- of changes of the entries of table u in an index of number j, and behind them those in the indexes after it
module _ (t i u : ℕ) (table : Table) where
  abbrev removed : List Change → ℕ
  removed changes = count_by (is_removal_of t (Secondary i)) changes

  abbrev own : ℕ → Bool
  own j = (u == t) && (j == i)

  no_removal : (j : ℕ) → i < j → cond (own j) 1 0 ≤ 0
  no_removal j later = none_of (u == t) (j == i) (λ is. let same = eqb-true j i is in absurd (omega (arith, same, later)))

  entry_removed : (j : ℕ) (index : Index) (row : List Value) (rest : List Change) → removed (((entry_pair u j (index_sequence table index) row).0, None) ∷ rest) ≡ cond (own j) 1 0 + removed rest
  entry_removed j index row rest = count-cons (is_removal_of t (Secondary i)) ((entry_pair u j (index_sequence table index) row).0, None) rest

  entry_put : (j : ℕ) (index : Index) (row : List Value) (rest : List Change) → removed (((entry_pair u j (index_sequence table index) row).0, Some []) ∷ rest) ≡ removed rest
  entry_put j index row rest = omega (arith, count-cons (is_removal_of t (Secondary i)) ((entry_pair u j (index_sequence table index) row).0, Some []) rest)

  later_removals : (j : ℕ) (indexes : List Index) (row : List Value) → i < j → removed (removals (entries_from u j table indexes row)) ≤ 0
  later_removals j [] row later = omega arith
  later_removals j (x ∷ xs) row later =
      omega (arith, entry_removed j x row (removals (entries_from u (j + 1) table xs row)), no_removal j later, later_removals (j + 1) xs row (omega (arith, later)))

  entry_removals : (j : ℕ) (indexes : List Index) (row : List Value) → removed (removals (entries_from u j table indexes row)) ≤ 1
  entry_removals j [] row = omega arith
  entry_removals j (x ∷ xs) row =
      let rest = removals (entries_from u (j + 1) table xs row) in
      let one = one_of (u == t) (j == i) (removed rest) (λ is. later_removals (j + 1) xs row (let same = eqb-true j i is in omega (arith, same))) (entry_removals (j + 1) xs row) in
      omega (arith, entry_removed j x row rest, one)

  abbrev moved : ℕ → Index → List Value → List Value → List Change → Bool → List Change
  moved j index old new rest same =
      cond same [] (((entry_pair u j (index_sequence table index) old).0, None) ∷ ((entry_pair u j (index_sequence table index) new).0, Some []) ∷ []) ++ rest

  later_moves : (j : ℕ) (indexes : List Index) (old new : List Value) → i < j → removed (entry_changes u j table indexes old new) ≤ 0
  later_moves j [] old new later = omega arith
  later_moves j (x ∷ xs) old new later =
      let rest = entry_changes u (j + 1) table xs old new in
      let none = later_moves (j + 1) xs old new (omega (arith, later)) in
      elim (same_values (values_of (index_sequence table x) old) (values_of (index_sequence table x) new)) as (λ b. removed (moved j x old new rest b) ≤ 0) [
        | true ↦ none
        | false ↦ omega (arith, entry_removed j x old (((entry_pair u j (index_sequence table x) new).0, Some []) ∷ rest), entry_put j x new rest, no_removal j later, none)
      ]

  entry_moves : (j : ℕ) (indexes : List Index) (old new : List Value) → removed (entry_changes u j table indexes old new) ≤ 1
  entry_moves j [] old new = omega arith
  entry_moves j (x ∷ xs) old new =
      let rest = entry_changes u (j + 1) table xs old new in
      let most = entry_moves (j + 1) xs old new in
      let one = one_of (u == t) (j == i) (removed rest) (λ is. later_moves (j + 1) xs old new (let same = eqb-true j i is in omega (arith, same))) most in
      elim (same_values (values_of (index_sequence table x) old) (values_of (index_sequence table x) new)) as (λ b. removed (moved j x old new rest b) ≤ 1) [
        | true ↦ most
        | false ↦ omega (arith, entry_removed j x old (((entry_pair u j (index_sequence table x) new).0, Some []) ∷ rest), entry_put j x new rest, one)
      ]

-- none of them is of the rows
module _ (t u : ℕ) (table : Table) where
  abbrev rows_removed : List Change → ℕ
  rows_removed changes = count_by (is_removal_of t Primary) changes

  no_row_removals : (j : ℕ) (indexes : List Index) (row : List Value) → rows_removed (removals (entries_from u j table indexes row)) ≤ 0
  no_row_removals j [] row = omega arith
  no_row_removals j (x ∷ xs) row =
      let rest = removals (entries_from u (j + 1) table xs row) in
      let first : rows_removed (((entry_pair u j (index_sequence table x) row).0, None) ∷ rest) ≡ rows_removed rest = omega (arith, count-cons (is_removal_of t Primary) ((entry_pair u j (index_sequence table x) row).0, None) rest) in
      omega (arith, first, no_row_removals (j + 1) xs row)

  no_row_moves : (j : ℕ) (indexes : List Index) (old new : List Value) → rows_removed (entry_changes u j table indexes old new) ≤ 0
  no_row_moves j [] old new = omega arith
  no_row_moves j (x ∷ xs) old new =
      let rest = entry_changes u (j + 1) table xs old new in
      let none = no_row_moves (j + 1) xs old new in
      let put = ((entry_pair u j (index_sequence table x) new).0, Some []) ∷ rest in
      let first : rows_removed (((entry_pair u j (index_sequence table x) old).0, None) ∷ put) ≡ rows_removed put = omega (arith, count-cons (is_removal_of t Primary) ((entry_pair u j (index_sequence table x) old).0, None) put) in
      let second : rows_removed put ≡ rows_removed rest = omega (arith, count-cons (is_removal_of t Primary) ((entry_pair u j (index_sequence table x) new).0, Some []) rest) in
      elim (same_values (values_of (index_sequence table x) old) (values_of (index_sequence table x) new)) as (λ b. rows_removed (cond b [] (((entry_pair u j (index_sequence table x) old).0, None) ∷ ((entry_pair u j (index_sequence table x) new).0, Some []) ∷ []) ++ rest) ≤ 0) [
        | true ↦ none
        | false ↦ omega (arith, first, second, none)
      ]

-- a DELETE removes its row's own pair and one of each index
pub removal_removes : (u : ℕ) (table : Table) (indexes : List Index) (key row : List Value) → RemovesAtMost 1 ((row_key u key, None) ∷ removals (entries_from u 1 table indexes row))
removal_removes u table indexes key row t Primary =
    let rest = removals (entries_from u 1 table indexes row) in
    let first : rows_removed t u table ((row_key u key, None) ∷ rest) ≡ cond (u == t) 1 0 + rows_removed t u table rest = omega (arith, count-cons (is_removal_of t Primary) (row_key u key, None) rest) in
    omega (arith, first, at_most_one (u == t), no_row_removals t u table 1 indexes row)
removal_removes u table indexes key row t (Secondary i) =
    let rest = removals (entries_from u 1 table indexes row) in
    let first : removed t i u table ((row_key u key, None) ∷ rest) ≡ removed t i u table rest = omega (arith, count-cons (is_removal_of t (Secondary i)) (row_key u key, None) rest) in
    omega (arith, first, entry_removals t i u table 1 indexes row)

-- an UPDATE removes one of each index at most
pub update_removes : (u : ℕ) (table : Table) (indexes : List Index) (at : List ℕ) (code : List ℕ) (old new : List Value) → RemovesAtMost 1 ((at, Some code) ∷ entry_changes u 1 table indexes old new)
update_removes u table indexes at code old new t Primary =
    let rest = entry_changes u 1 table indexes old new in
    let first : rows_removed t u table ((at, Some code) ∷ rest) ≡ rows_removed t u table rest = omega (arith, count-cons (is_removal_of t Primary) (at, Some code) rest) in
    omega (arith, first, no_row_moves t u table 1 indexes old new)
update_removes u table indexes at code old new t (Secondary i) =
    let rest = entry_changes u 1 table indexes old new in
    let first : removed t i u table ((at, Some code) ∷ rest) ≡ removed t i u table rest = omega (arith, count-cons (is_removal_of t (Secondary i)) (at, Some code) rest) in
    omega (arith, first, entry_moves t i u table 1 indexes old new)
