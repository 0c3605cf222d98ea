-- The changes of a row's entries, one index after the other.
use Rattle.std.proofs.Common.{◌≡◌, ℕ, zero, suc, ◌+◌, ◌<◌, List, [], ◌∷◌, ◌++◌, length, take, map, get_or, Option, Some, None, refl, sym, ap, ◌∙◌, arith, append_assoc, add-one}
use Rattle.std.proofs.lemmas.List.{map-append}
use Rattle.pq_base.specs.declared.value.Value.{Value}
use Rattle.pq_key_code.specs.KeyCode.{row_key}
use Rattle.pq_row_code.specs.declared.changes.Change.{Change as Coded}
use Rattle.pq_schema.specs.declared.table.Index.{Index}
use Rattle.pq_schema.specs.declared.table.Table.{Table}
use Rattle.pq_schema.specs.Sequences.{index_sequence}
use Rattle.pq_content.specs.Pairs.{Change, entry_pair, entries_from, pairs_of_row, entry_changes, puts, removals, update_changes}
use Rattle.pq_content.specs.Standing.{change_of}
use Rattle.pq_content.specs.Tables.{key_of, stored_code}
use Rattle.pq_index_keep.specs.Moved.{moved_entry_changes}

each_from : (ℕ → Index → List Change) → ℕ → List Index → List Change
each_from f i [] = []
each_from f i (x ∷ xs) = f i x ++ each_from f (i + 1) xs

each_more : (f : ℕ → Index → List Change) (i : ℕ) (xs : List Index) (k : ℕ) (x : Index) → k < length xs → x ≡ get_or xs k x → each_from f i (take (suc k) xs) ≡ each_from f i (take k xs) ++ f (i + k) x
unfolding each_from
each_more f i [] k x less at = absurd (omega arith)
each_more f i (y ∷ ys) zero x less at =
    let none : f i y ++ [] ≡ f i y = append_nil (f i y) in
    let number : i + 0 ≡ i = omega arith in
    none ∙ ap (f i) (sym at) ∙ ap (λ (n : ℕ). f n x) (sym number)
  where
    append_nil : (xs : List Change) → xs ++ [] ≡ xs
    append_nil [] = refl
    append_nil (x ∷ xs) = ap (λ (ys : List Change). x ∷ ys) (append_nil xs)
each_more f i (y ∷ ys) (suc k) x less at =
    let number : i + 1 + k ≡ i + suc k = omega arith in
    ap (λ (rest : List Change). f i y ++ rest) (each_more f (i + 1) ys k x (omega arith) at)
    ∙ sym (append_assoc (f i y) (each_from f (i + 1) (take k ys)) (f (i + 1 + k) x))
    ∙ ap (λ (n : ℕ). f i y ++ each_from f (i + 1) (take k ys) ++ f n x) number

-- one index more
stepped : (f : ℕ → Index → List Change) (xs : List Index) (k : ℕ) (x : Index) (first before after : List Change) → k < length xs → x ≡ get_or xs k x → before ≡ first ++ each_from f 1 (take k xs) → after ≡ before ++ f (k + 1) x → after ≡ first ++ each_from f 1 (take (k + 1) xs)
stepped f xs k x first before after less at so_far more =
    let number : k + 1 ≡ 1 + k = omega arith in
    let taken : k + 1 ≡ suc k = add-one k in
    more
    ∙ ap (λ (l : List Change). l ++ f (k + 1) x) so_far
    ∙ append_assoc first (each_from f 1 (take k xs)) (f (k + 1) x)
    ∙ ap (λ (n : ℕ). first ++ (each_from f 1 (take k xs) ++ f n x)) number
    ∙ ap (λ (l : List Change). first ++ l) (sym (each_more f 1 xs k x less at))
    ∙ ap (λ (n : ℕ). first ++ each_from f 1 (take n xs)) (sym taken)

module _ (t : ℕ) (table : Table) (row : List Value) where
  abbrev put : ℕ → Index → List Change
  put i index = ((entry_pair t i (index_sequence table index) row).0, Some []) ∷ []

  abbrev removed : ℕ → Index → List Change
  removed i index = ((entry_pair t i (index_sequence table index) row).0, None) ∷ []

  puts_are : (i : ℕ) (xs : List Index) → each_from put i xs ≡ puts (entries_from t i table xs row)
  unfolding each_from
  puts_are i [] = refl
  puts_are i (x ∷ xs) = ap (λ (l : List Change). put i x ++ l) (puts_are (i + 1) xs)

  removals_are : (i : ℕ) (xs : List Index) → each_from removed i xs ≡ removals (entries_from t i table xs row)
  unfolding each_from
  removals_are i [] = refl
  removals_are i (x ∷ xs) = ap (λ (l : List Change). removed i x ++ l) (removals_are (i + 1) xs)

  one_more : (before after : List Coded) (change : Coded) → after ≡ before ++ change ∷ [] → map change_of after ≡ map change_of before ++ change_of change ∷ []
  one_more before after change is = ap (map change_of) is ∙ map-append change_of before (change ∷ [])

  pub put_step : (xs : List Index) (k : ℕ) (x : Index) (key : List ℕ) (first before after : List Coded) → k < length xs → x ≡ get_or xs k x → key ≡ (entry_pair t (k + 1) (index_sequence table x) row).0
      → map change_of before ≡ map change_of first ++ puts (entries_from t 1 table (take k xs) row) → after ≡ before ++ record { key = key; new = Some [] } ∷ []
      → map change_of after ≡ map change_of first ++ puts (entries_from t 1 table (take (k + 1) xs) row)
  put_step xs k x key first before after less at is so_far more =
      stepped put xs k x (map change_of first) (map change_of before) (map change_of after) less at
      (so_far ∙ ap (λ (l : List Change). map change_of first ++ l) (sym (puts_are 1 (take k xs))))
      (one_more before after (record { key = key; new = Some [] }) more ∙ ap (λ (b : List ℕ). map change_of before ++ (b, Some []) ∷ []) is)
      ∙ ap (λ (l : List Change). map change_of first ++ l) (puts_are 1 (take (k + 1) xs))

  pub remove_step : (xs : List Index) (k : ℕ) (x : Index) (key : List ℕ) (first before after : List Coded) → k < length xs → x ≡ get_or xs k x → key ≡ (entry_pair t (k + 1) (index_sequence table x) row).0
      → map change_of before ≡ map change_of first ++ removals (entries_from t 1 table (take k xs) row) → after ≡ before ++ record { key = key; new = None } ∷ []
      → map change_of after ≡ map change_of first ++ removals (entries_from t 1 table (take (k + 1) xs) row)
  remove_step xs k x key first before after less at is so_far more =
      stepped removed xs k x (map change_of first) (map change_of before) (map change_of after) less at
      (so_far ∙ ap (λ (l : List Change). map change_of first ++ l) (sym (removals_are 1 (take k xs))))
      (one_more before after (record { key = key; new = None }) more ∙ ap (λ (b : List ℕ). map change_of before ++ (b, None) ∷ []) is)
      ∙ ap (λ (l : List Change). map change_of first ++ l) (removals_are 1 (take (k + 1) xs))

  module _ (new : List Value) where
    abbrev moved : ℕ → Index → List Change
    moved i index = moved_entry_changes t i table index row new

    moves_are : (i : ℕ) (xs : List Index) → each_from moved i xs ≡ entry_changes t i table xs row new
    unfolding each_from
    moves_are i [] = refl
    moves_are i (x ∷ xs) = ap (λ (l : List Change). moved i x ++ l) (moves_are (i + 1) xs)

    pub move_step : (xs : List Index) (k : ℕ) (x : Index) (first before after : List Coded) → k < length xs → x ≡ get_or xs k x
        → map change_of before ≡ map change_of first ++ entry_changes t 1 table (take k xs) row new → map change_of after ≡ map change_of before ++ moved_entry_changes t (k + 1) table x row new
        → map change_of after ≡ map change_of first ++ entry_changes t 1 table (take (k + 1) xs) row new
    move_step xs k x first before after less at so_far more =
        stepped moved xs k x (map change_of first) (map change_of before) (map change_of after) less at
        (so_far ∙ ap (λ (l : List Change). map change_of first ++ l) (sym (moves_are 1 (take k xs))))
        more
        ∙ ap (λ (l : List Change). map change_of first ++ l) (moves_are 1 (take (k + 1) xs))

-- ---- the change at the row's own key, and those of its entries

pub first_at : (t : ℕ) (key : List Value) (at : List ℕ) (value : Option (List ℕ)) (changes rest : List Change) → at ≡ row_key t key → changes ≡ (at, value) ∷ rest → changes ≡ (row_key t key, value) ∷ rest
first_at t key at value changes rest is made = made ∙ ap (λ (k : List ℕ). (k, value) ∷ rest) is

pub own_puts : (t : ℕ) (table : Table) (row : List Value) (at : List ℕ) (changes : List Change) → at ≡ row_key t (key_of table row) → changes ≡ (at, Some (stored_code table row)) ∷ puts (entries_from t 1 table table.indexes row)
    → changes ≡ puts (pairs_of_row t table row)
own_puts t table row at changes = first_at t (key_of table row) at (Some (stored_code table row)) changes (puts (entries_from t 1 table table.indexes row))

pub own_removals : (t : ℕ) (table : Table) (row : List Value) (at : List ℕ) (changes : List Change) → at ≡ row_key t (key_of table row) → changes ≡ (at, None) ∷ removals (entries_from t 1 table table.indexes row)
    → changes ≡ removals (pairs_of_row t table row)
own_removals t table row at changes = first_at t (key_of table row) at None changes (removals (entries_from t 1 table table.indexes row))

pub own_updates : (t : ℕ) (table : Table) (old new : List Value) (at : List ℕ) (changes : List Change) → at ≡ row_key t (key_of table new) → changes ≡ (at, Some (stored_code table new)) ∷ entry_changes t 1 table table.indexes old new
    → changes ≡ update_changes t table old new
own_updates t table old new at changes = first_at t (key_of table new) at (Some (stored_code table new)) changes (entry_changes t 1 table table.indexes old new)
