-- Values that are put one after the other, each in the direction of its place in a sequence.
use Rattle.std.proofs.Common.{◌≡◌, ℕ, suc, ◌+◌, ◌<◌, ◌≤◌, List, [], ◌∷◌, ◌++◌, length, drop, get_or, Some, None, refl, sym, ap, ◌∙◌, append_assoc, add-one, drop-cons, map}
use Rattle.std.specs.Prelude.{slice_get, replicate}
use Rattle.std.proofs.lemmas.List.{drop_all, append-nil, length-map}
use Rattle.pq_base.specs.declared.value.Dir.{Dir}
use Rattle.pq_base.specs.declared.value.Dir.TheVariants.{Asc}
use Rattle.pq_base.specs.declared.value.Value.{Value}
use Rattle.pq_key_code.specs.KeyCode.{component, code_of, entry_key, row_key}
use Rattle.pq_schema.specs.declared.table.KeyPart.{KeyPart}
use Rattle.pq_schema.specs.Keys.{dirs_of}
use Rattle.pq_schema.proofs.Places.{drop_some, drop_none}

drop_one : (values : List Value) (i : ℕ) (value : Value) → i < length values → value ≡ get_or values i value → drop i values ≡ value ∷ drop (i + 1) values
drop_one values i value less at = rw (add-one i, drop-cons values i value less) (ap (λ (v : Value). v ∷ drop (suc i) values) (sym at))

pub value_put : (sequence : List KeyPart) (values : List Value) (i : ℕ) (part : KeyPart) (value : Value) (before after all : List ℕ) → slice_get sequence i ≡ Some part → i < length values → value ≡ get_or values i value
    → after ≡ before ++ component part.dir value → before ++ code_of (dirs_of (drop i sequence)) (drop i values) ≡ all → after ++ code_of (dirs_of (drop (i + 1) sequence)) (drop (i + 1) values) ≡ all
value_put sequence values i part value before after all is less at more so_far =
    let one = component part.dir value in
    let rest = code_of (dirs_of (drop (i + 1) sequence)) (drop (i + 1) values) in
    let here : code_of (dirs_of (drop i sequence)) (drop i values) ≡ one ++ rest = rw (drop_some sequence i part is, drop_one values i value less at) refl in
    ap (λ (bytes : List ℕ). bytes ++ rest) more
    ∙ append_assoc before one rest
    ∙ ap (λ (bytes : List ℕ). before ++ bytes) (sym here)
    ∙ so_far

code_nil : (dirs : List Dir) → code_of dirs [] ≡ []
code_nil [] = refl
code_nil (d ∷ ds) = refl

-- behind the end of the sequence, and of the values, nothing is put
pub sequence_end : (sequence : List KeyPart) (values : List Value) (i : ℕ) (before all : List ℕ) → slice_get sequence i ≡ None → before ++ code_of (dirs_of (drop i sequence)) (drop i values) ≡ all → before ≡ all
sequence_end sequence values i before all none so_far =
    let here : code_of (dirs_of (drop i sequence)) (drop i values) ≡ [] = rw (drop_none sequence i none) refl in
    sym (append-nil before) ∙ ap (λ (bytes : List ℕ). before ++ bytes) (sym here) ∙ so_far

pub values_end : (sequence : List KeyPart) (values : List Value) (i : ℕ) (before all : List ℕ) → length values ≤ i → before ++ code_of (dirs_of (drop i sequence)) (drop i values) ≡ all → before ≡ all
values_end sequence values i before all end so_far =
    let here : code_of (dirs_of (drop i sequence)) (drop i values) ≡ [] = rw (drop_all i values end) (code_nil (dirs_of (drop i sequence))) in
    sym (append-nil before) ∙ ap (λ (bytes : List ℕ). before ++ bytes) (sym here) ∙ so_far

pub behind_front : (t i : ℕ) (sequence : List KeyPart) (values : List Value) (front all : List ℕ) → front ≡ entry_key t i [] [] → all ≡ front ++ code_of (dirs_of sequence) values → all ≡ entry_key t i (dirs_of sequence) values
behind_front t i sequence values front all is made = made ∙ ap (λ (bytes : List ℕ). bytes ++ code_of (dirs_of sequence) values) is

pub behind_row_front : {A : Type 0} (t : ℕ) (f : A → Value) (key : List A) (front all : List ℕ) → front ≡ row_key t [] → all ≡ front ++ code_of (replicate (length key) Asc) (map f key) → all ≡ row_key t (map f key)
behind_row_front t f key front all is made =
    made ∙ ap (λ (bytes : List ℕ). bytes ++ code_of (replicate (length key) Asc) (map f key)) is
    ∙ ap (λ (n : ℕ). 2 ∷ t ∷ code_of (replicate n Asc) (map f key)) (sym (length-map key f))
