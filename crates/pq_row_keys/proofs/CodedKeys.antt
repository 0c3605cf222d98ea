-- Keys that are coded straight from the values.
use Rattle.std.proofs.Common.{◌≡◌, ℕ, zero, suc, ◌+◌, ◌≤◌, Bool, true, false, ◌&&◌, List, [], ◌∷◌, ◌++◌, length, take, map, replicate, Some, None, refl, sym, ap, ◌∙◌, arith, append_assoc}
use Rattle.std.specs.Prelude.{slice_get}
use Rattle.std.proofs.lemmas.List.{append-nil, take_more, take_all}
use Rattle.std.proofs.lemmas.Option.{slice_get_within, get_or_from_slice_get}
use Rattle.pq_base.specs.Columns.{set_of}
use Rattle.pq_base.specs.declared.value.Dir.TheVariants.{Asc}
use Rattle.pq_base.specs.declared.value.Value.{Value}
use Rattle.pq_key_code.specs.KeyCode.{component, code_of, row_key, entry_key}
use Rattle.pq_schema.specs.declared.table.Index.{Index}
use Rattle.pq_schema.specs.declared.table.KeyPart.{KeyPart}
use Rattle.pq_schema.specs.declared.table.Table.{Table}
use Rattle.pq_schema.specs.Sequences.{ascending_part, columns_of, then_key, primary_sequence, index_sequence, index_numbered}
use Rattle.pq_schema.proofs.Places.{past, all_left}
use Rattle.pq_content.specs.Pairs.{entry_pair}
use Rattle.pq_content.specs.Tables.{value_of, values_of, dirs_of, same_value, same_values}
use Rattle.pq_row_keys.specs.Coded.{sequence_code}

code_append : (value : ℕ → Value) (xs ys : List KeyPart) → sequence_code value (xs ++ ys) ≡ sequence_code value xs ++ sequence_code value ys
code_append value [] ys = refl
code_append value (x ∷ xs) ys =
    let first = component x.dir (value x.col) in
    ap (λ (bytes : List ℕ). first ++ bytes) (code_append value xs ys) ∙ sym (append_assoc first (sequence_code value xs) (sequence_code value ys))

-- the columns of the index and then the key columns that are left are the sequence of the index
sequence_is : (table : Table) (index : Index) (parts : List KeyPart) (set : ℕ) (key : List ℕ) → parts ≡ index.cols → set ≡ set_of (columns_of parts) → key ≡ table.key → then_key parts set key ≡ index_sequence table index
sequence_is table index parts set key is_parts is_set is_key =
    ap (λ (s : ℕ). then_key parts s key) is_set
    ∙ ap (λ (ps : List KeyPart). then_key ps (set_of (columns_of ps)) key) is_parts
    ∙ ap (λ (cols : List ℕ). then_key index.cols (set_of (columns_of index.cols)) cols) is_key

pub entry_made : (t i : ℕ) (table : Table) (index : Index) (row : List Value) (parts : List KeyPart) (set : ℕ) (key : List ℕ) (front middle all : List ℕ) → parts ≡ index.cols → set ≡ set_of (columns_of parts) → key ≡ table.key
    → front ≡ entry_key t i [] [] → middle ≡ front ++ sequence_code (value_of row) parts → all ≡ middle ++ sequence_code (value_of row) (then_key [] set key)
    → all ≡ (entry_pair t i (index_sequence table index) row).0
entry_made t i table index row parts set key front middle all is_parts is_set is_key is_front is_middle is_all =
    let value = value_of row in
    is_all
    ∙ ap (λ (bytes : List ℕ). bytes ++ sequence_code value (then_key [] set key)) (is_middle ∙ ap (λ (bytes : List ℕ). bytes ++ sequence_code value parts) is_front)
    ∙ ap (λ (bytes : List ℕ). 3 ∷ t ∷ i ∷ bytes) (sym (code_append value parts (then_key [] set key)))
    ∙ ap (λ (sequence : List KeyPart). 3 ∷ t ∷ i ∷ sequence_code value sequence) (sequence_is table index parts set key is_parts is_set is_key)

-- ---- the first places of a sequence

taken_one : {X : Type 0} (xs : List X) (i : ℕ) (x : X) → slice_get xs i ≡ Some x → take (i + 1) xs ≡ take i xs ++ x ∷ []
taken_one {X} xs i x is =
    take_more xs i x (slice_get_within xs i x is) ∙ ap (λ (y : X). take i xs ++ y ∷ []) (get_or_from_slice_get xs i x x is)

taken_end : {X : Type 0} (xs : List X) (i n : ℕ) → slice_get xs i ≡ None → i ≤ n → take i xs ≡ take n xs
taken_end xs i n none le =
    let end = past xs i none in
    take_all i xs end ∙ sym (take_all n xs (omega arith))

pub place_put : (value : ℕ → Value) (sequence : List KeyPart) (i : ℕ) (part : KeyPart) (first before after : List ℕ) → slice_get sequence i ≡ Some part → before ≡ first ++ sequence_code value (take i sequence)
    → after ≡ before ++ component part.dir (value part.col) → after ≡ first ++ sequence_code value (take (i + 1) sequence)
place_put value sequence i part first before after is so_far more =
    let one = component part.dir (value part.col) in
    let taken : sequence_code value (take (i + 1) sequence) ≡ sequence_code value (take i sequence) ++ one = ap (sequence_code value) (taken_one sequence i part is) ∙ code_append value (take i sequence) (part ∷ []) ∙ ap (λ (bytes : List ℕ). sequence_code value (take i sequence) ++ bytes) (append-nil one) in
    more
    ∙ ap (λ (bytes : List ℕ). bytes ++ one) so_far
    ∙ append_assoc first (sequence_code value (take i sequence)) one
    ∙ ap (λ (bytes : List ℕ). first ++ bytes) (sym taken)

-- behind the end of the sequence nothing is put
pub place_end : (value : ℕ → Value) (sequence : List KeyPart) (i n : ℕ) (first before : List ℕ) → slice_get sequence i ≡ None → i ≤ n → before ≡ first ++ sequence_code value (take i sequence) → before ≡ first ++ sequence_code value (take n sequence)
place_end value sequence i n first before none le so_far = so_far ∙ ap (λ (parts : List KeyPart). first ++ sequence_code value parts) (taken_end sequence i n none le)

-- the first values of a sequence have no more directions than there are values
first_code : (value : ℕ → Value) (sequence : List KeyPart) (n : ℕ) → sequence_code value (take n sequence) ≡ code_of (dirs_of sequence) (map value (take n (columns_of sequence)))
first_code value [] zero = refl
first_code value [] (suc n) = refl
first_code value (x ∷ xs) zero = refl
first_code value (x ∷ xs) (suc n) = ap (λ (bytes : List ℕ). component x.dir (value x.col) ++ bytes) (first_code value xs n)

ascending_code : (value : ℕ → Value) (key : List ℕ) (n : ℕ) → let values = map value (take n (columns_of (map ascending_part key))) in sequence_code value (take n (map ascending_part key)) ≡ code_of (replicate (length values) Asc) values
ascending_code value [] zero = refl
ascending_code value [] (suc n) = refl
ascending_code value (c ∷ key) zero = refl
ascending_code value (c ∷ key) (suc n) = ap (λ (bytes : List ℕ). component Asc (value c) ++ bytes) (ascending_code value key n)

pub primary_made : (value : ℕ → Value) (t : ℕ) (table : Table) (n set : ℕ) (key front all : List ℕ) → set ≡ 0 → key ≡ table.key → front ≡ row_key t [] → all ≡ front ++ sequence_code value (take n (then_key [] set key))
    → all ≡ row_key t (map value (take n (columns_of (primary_sequence table))))
primary_made value t table n set key front all is_set is_key is_front is_all =
    is_all
    ∙ ap (λ (bytes : List ℕ). bytes ++ sequence_code value (take n (then_key [] set key))) is_front
    ∙ ap (λ (s : ℕ). 2 ∷ t ∷ sequence_code value (take n (then_key [] s key))) is_set
    ∙ ap (λ (cols : List ℕ). 2 ∷ t ∷ sequence_code value (take n (map ascending_part cols))) (all_left key ∙ is_key)
    ∙ ap (λ (bytes : List ℕ). 2 ∷ t ∷ bytes) (ascending_code value table.key n)

pub secondary_made : (value : ℕ → Value) (t i : ℕ) (table : Table) (n : ℕ) (index : Index) (parts : List KeyPart) (set : ℕ) (key front all : List ℕ) → index ≡ index_numbered table i → parts ≡ index.cols → set ≡ set_of (columns_of parts) → key ≡ table.key
    → front ≡ entry_key t i [] [] → all ≡ front ++ sequence_code value (take n (then_key parts set key))
    → all ≡ entry_key t i (dirs_of (index_sequence table (index_numbered table i))) (map value (take n (columns_of (index_sequence table (index_numbered table i)))))
secondary_made value t i table n index parts set key front all is_index is_parts is_set is_key is_front is_all =
    let sequence = index_sequence table (index_numbered table i) in
    is_all
    ∙ ap (λ (bytes : List ℕ). bytes ++ sequence_code value (take n (then_key parts set key))) is_front
    ∙ ap (λ (parts : List KeyPart). 3 ∷ t ∷ i ∷ sequence_code value (take n parts)) (sequence_is table index parts set key is_parts is_set is_key ∙ ap (index_sequence table) is_index)
    ∙ ap (λ (bytes : List ℕ). 3 ∷ t ∷ i ∷ bytes) (first_code value sequence n)

-- ---- equal values

same_append : (xs ys : List KeyPart) (a b : List Value) → (same_values (values_of xs a) (values_of xs b) && same_values (values_of ys a) (values_of ys b)) ≡ same_values (values_of (xs ++ ys) a) (values_of (xs ++ ys) b)
same_append [] ys a b = refl
same_append (x ∷ xs) ys a b =
    elim (same_value (value_of a x.col) (value_of b x.col)) as (λ c. ((c && same_values (values_of xs a) (values_of xs b)) && same_values (values_of ys a) (values_of ys b)) ≡ (c && same_values (values_of (xs ++ ys) a) (values_of (xs ++ ys) b))) [
      | true ↦ same_append xs ys a b
      | false ↦ refl
    ]

module _ (table : Table) (index : Index) (a b : List Value) (parts : List KeyPart) (set : ℕ) (key : List ℕ) (is_parts : parts ≡ index.cols) (is_set : set ≡ set_of (columns_of parts)) (is_key : key ≡ table.key) (first : Bool) (is_first : first ≡ same_values (values_of parts a) (values_of parts b)) where
  whole : (same_values (values_of parts a) (values_of parts b) && same_values (values_of (then_key [] set key) a) (values_of (then_key [] set key) b)) ≡ same_values (values_of (index_sequence table index) a) (values_of (index_sequence table index) b)
  whole =
      same_append parts (then_key [] set key) a b
      ∙ ap (λ (sequence : List KeyPart). same_values (values_of sequence a) (values_of sequence b)) (sequence_is table index parts set key is_parts is_set is_key)

  pub same_then : (second : Bool) → first ≡ true → second ≡ same_values (values_of (then_key [] set key) a) (values_of (then_key [] set key) b) → second ≡ same_values (values_of (index_sequence table index) a) (values_of (index_sequence table index) b)
  same_then second is_true is_second = is_second ∙ ap (λ c. c && same_values (values_of (then_key [] set key) a) (values_of (then_key [] set key) b)) (sym is_true ∙ is_first) ∙ whole

  pub same_else : first ≡ false → first ≡ same_values (values_of (index_sequence table index) a) (values_of (index_sequence table index) b)
  same_else is_false = is_false ∙ ap (λ c. c && same_values (values_of (then_key [] set key) a) (values_of (then_key [] set key) b)) (sym is_false ∙ is_first) ∙ whole
