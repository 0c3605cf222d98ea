-- How many changes a write has, and how long the key of a short row's entry is.
use Rattle.std.proofs.Common.{◌≡◌, ℕ, zero, suc, ◌+◌, ◌*◌, ◌≤◌, Bool, true, false, cond, List, [], ◌∷◌, ◌++◌, length, Some, None, refl, sym, ap, subst, arith}
use Rattle.std.specs.Prelude.{filter}
use Rattle.std.specs.List.{AllByRecursion}
use Rattle.std.proofs.lemmas.List.{length-append, length-map}
use Rattle.std.proofs.Math.Nat.{suc-mul}
use Rattle.std.specs.Int.{w16, to_be_bytes}
use Rattle.pq_base.specs.declared.value.Dir.{Dir}
use Rattle.pq_base.specs.declared.value.Value.{Value}
use Rattle.pq_base.specs.declared.value.Value.TheVariants as value
use Rattle.pq_key_code.specs.KeyCode.{escaped_text, payload, turned_byte, component, code_of}
use Rattle.pq_row_code.specs.RowCode.{field, fields, null_marks, row_front, row_code}
use Rattle.pq_schema.specs.declared.table.Index.{Index}
use Rattle.pq_schema.specs.declared.table.KeyPart.{KeyPart}
use Rattle.pq_schema.specs.declared.table.Table.{Table}
use Rattle.pq_schema.specs.Sequences.{columns_of, index_sequence}
use Rattle.pq_content.specs.Pairs.{Pair, Change, puts, removals, entry_pair, entries_from, pairs_of_row, entry_changes, update_changes}
use Rattle.pq_content.specs.Tables.{value_of, cells, values_of, dirs_of, same_values}
use Rattle.pq_content.proofs.Values.{same_values_decides, values_of-columns_of}

-- ---- the number of changes

pub length-puts : (ps : List Pair) → length (puts ps) ≡ length ps
length-puts [] = refl
length-puts (p ∷ ps) = ap suc (length-puts ps)

pub length-removals : (ps : List Pair) → length (removals ps) ≡ length ps
length-removals [] = refl
length-removals (p ∷ ps) = ap suc (length-removals ps)

length-entries_from : (t i : ℕ) (table : Table) (indexes : List Index) (row : List Value) → length (entries_from t i table indexes row) ≡ length indexes
length-entries_from t i table [] row = refl
length-entries_from t i table (index ∷ indexes) row = ap suc (length-entries_from t (i + 1) table indexes row)

-- a row has a pair of its own and one for each index
pub length-pairs_of_row : (t : ℕ) (table : Table) (row : List Value) → length (pairs_of_row t table row) ≡ suc (length table.indexes)
length-pairs_of_row t table row = ap suc (length-entries_from t 1 table table.indexes row)

-- two for each index whose sequence may have other values
length-entry_changes : (may_change : Index → Bool) (t i : ℕ) (table : Table) (indexes : List Index) (old new : List Value) → ((index : Index) → may_change index ≡ false → values_of (index_sequence table index) old ≡ values_of (index_sequence table index) new) → length (entry_changes t i table indexes old new) ≤ 2 * length (filter may_change indexes)
length-entry_changes may_change t i table [] old new stays = omega arith
length-entry_changes may_change t i table (index ∷ indexes) old new stays =
    let sequence = index_sequence table index in
    let rest = length-entry_changes may_change t (i + 1) table indexes old new stays in
    let two : List Change = ((entry_pair t i sequence old).0, None) ∷ ((entry_pair t i sequence new).0, Some []) ∷ [] in
    let more = entry_changes t (i + 1) table indexes old new in
    elim (may_change index) as (λ b. may_change index ≡ b → length (cond (same_values (values_of sequence old) (values_of sequence new)) [] two ++ more) ≤ 2 * length (cond b (index ∷ filter may_change indexes) (filter may_change indexes))) [
      | true ↦ λ _. elim (same_values (values_of sequence old) (values_of sequence new)) as (λ c. length (cond c [] two ++ more) ≤ 2 * suc (length (filter may_change indexes))) [ true ↦ omega arith | false ↦ omega arith ]
      | false ↦ λ is.
          let same : same_values (values_of sequence old) (values_of sequence new) ≡ true = (same_values_decides (values_of sequence old) (values_of sequence new)).1 (stays index is) in
          subst (λ c. length (cond c [] two ++ more) ≤ 2 * length (filter may_change indexes)) (sym same) rest
    ] refl

pub length-update_changes : (may_change : Index → Bool) (t : ℕ) (table : Table) (old new : List Value) → ((index : Index) → may_change index ≡ false → values_of (index_sequence table index) old ≡ values_of (index_sequence table index) new) → length (update_changes t table old new) ≤ 1 + 2 * length (filter may_change table.indexes)
length-update_changes may_change t table old new stays =
    let rest = length-entry_changes may_change t 1 table table.indexes old new stays in
    omega arith

-- ---- the length of keys

-- a text has at most so many bytes
abbrev pub IsWithinLength : ℕ → Value → Type 0
IsWithinLength n value.Null = Unit {0}
IsWithinLength n (value.Int z) = Unit {0}
IsWithinLength n (value.Bool b) = Unit {0}
IsWithinLength n (value.Text t) = length t ≤ n

within_field : (n : ℕ) (x : Value) → length (field x) ≤ n → IsWithinLength n x
within_field n value.Null h = tt
within_field n (value.Int z) h = tt
within_field n (value.Bool b) h = tt
within_field n (value.Text t) h = let parts = length-append (to_be_bytes w16 (length t)) t in omega arith

within_fields : (n : ℕ) (xs : List Value) → length (fields xs) ≤ n → AllByRecursion (IsWithinLength n) xs
within_fields n [] h = tt
within_fields n (x ∷ xs) h =
    let parts = length-append (field x) (fields xs) in
    (within_field n x (omega arith), within_fields n xs (omega arith))

value_within : (n : ℕ) (row : List Value) (col : ℕ) → AllByRecursion (IsWithinLength n) row → IsWithinLength n (value_of row col)
value_within n [] col h = tt
value_within n (x ∷ row) zero h = h.0
value_within n (x ∷ row) (suc col) h = value_within n row col h.1

-- each value of a row with a short code is short
pub values_within : (n : ℕ) (row : List Value) (cols : List ℕ) → length (row_code row) ≤ n → AllByRecursion (IsWithinLength n) (cells cols row)
values_within n row cols h =
    let parts = length-append (row_front (length row) (null_marks row)) (fields row) in
    each cols (within_fields n row (omega arith))
  where
    each : (cols : List ℕ) → AllByRecursion (IsWithinLength n) row → AllByRecursion (IsWithinLength n) (cells cols row)
    each [] short = tt
    each (col ∷ cols) short = (value_within n row col short, each cols short)

length-escaped : (t : List ℕ) → length (escaped_text t) ≤ 2 * length t
length-escaped [] = omega arith
length-escaped (zero ∷ t) = let rest = length-escaped t in omega arith
length-escaped (suc b ∷ t) = let rest = length-escaped t in omega arith

length-payload : (n : ℕ) (x : Value) → IsWithinLength n x → length (payload x) ≤ 2 * n + 8
length-payload n value.Null h = omega arith
length-payload n (value.Int z) h = let eight : length (payload (value.Int z)) ≡ 8 = refl in omega arith
length-payload n (value.Bool b) h = omega arith
length-payload n (value.Text t) h =
    let parts = length-append (escaped_text t) (0 ∷ 1 ∷ []) in
    let most = length-escaped t in
    omega arith

length-component : (n : ℕ) (d : Dir) (x : Value) → IsWithinLength n x → length (component d x) ≤ 2 * n + 9
length-component n d x h =
    let same = length-map (payload x) (turned_byte d) in
    let most = length-payload n x h in
    omega arith

-- a code has at most so many bytes for each value
pub length-code_of : (n : ℕ) (ds : List Dir) (xs : List Value) → AllByRecursion (IsWithinLength n) xs → length (code_of ds xs) ≤ length xs * (2 * n + 9)
length-code_of n [] xs h = omega arith
length-code_of n (d ∷ ds) [] h = omega arith
length-code_of n (d ∷ ds) (x ∷ xs) h =
    let parts = length-append (component d x) (code_of ds xs) in
    let first = length-component n d x h.0 in
    let rest = length-code_of n ds xs h.1 in
    omega (arith, suc-mul (length xs) (2 * n + 9))

-- the key of a row's entry, where the code of the whole row has at most so many bytes
pub length-entry_key : (n t i : ℕ) (sequence : List KeyPart) (row : List Value) → length (row_code row) ≤ n → length (entry_pair t i sequence row).0 ≤ 3 + length sequence * (2 * n + 9)
length-entry_key n t i sequence row h =
    let xs = values_of sequence row in
    let within : AllByRecursion (IsWithinLength n) xs = subst (AllByRecursion (IsWithinLength n)) (sym (values_of-columns_of sequence row)) (values_within n row (columns_of sequence) h) in
    let short = length-code_of n (dirs_of sequence) xs within in
    let same : length xs ≡ length sequence = length-map sequence (λ (part : KeyPart). value_of row part.col) in
    let most : length (code_of (dirs_of sequence) xs) ≤ length sequence * (2 * n + 9) = subst (λ (k : ℕ). length (code_of (dirs_of sequence) xs) ≤ k * (2 * n + 9)) same short in
    omega arith
