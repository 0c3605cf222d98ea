-- The pairs that stand for rows in a store, and the changes of a write.
use Rattle.std.specs.Prelude.{◌≡◌, ℕ, ◌+◌, Bool, true, false, ◌==◌, if◌then◌else◌, List, [], ◌∷◌, ◌++◌, flat_map, Option, Some, None, ◌||◌, filter, not}
use Rattle.std.specs.List.{AllByRecursion}
use Rattle.std.specs.FinMap.{from_entries, entries}
use Rattle.pq_base.specs.declared.value.Value.{Value}
use Rattle.pq_schema.specs.declared.table.KeyPart.{KeyPart}
use Rattle.pq_schema.specs.declared.table.Index.{Index}
use Rattle.pq_schema.specs.declared.table.Table.{Table}
use Rattle.pq_schema.specs.Sequences.{index_sequence}
use Rattle.pq_schema.specs.Tables.{table_at}
use Rattle.pq_content.specs.Tables.{Rows, Keeps, key_of, values_of, dirs_of, same_values, stored_code}
use Rattle.pq_key_code.specs.KeyCode.{row_key, entry_key}
use Rattle.pq_store.specs.Content.{Content, written_content}

-- a key and its value
abbrev pub Pair : Type 0
Pair = List ℕ × List ℕ

-- a key and its new value, or none where it is removed
abbrev pub Change : Type 0
Change = List ℕ × Option (List ℕ)

-- the changes, one after the other
abbrev pub changed_content : List Change → Content → Content
changed_content [] content = content
changed_content (change ∷ changes) content = changed_content changes (written_content change.0 change.1 content)

-- the changes that write the pairs, and those that remove them
abbrev pub puts : List Pair → List Change
puts [] = []
puts (pair ∷ pairs) = (pair.0, Some pair.1) ∷ puts pairs

abbrev pub removals : List Pair → List Change
removals [] = []
removals (pair ∷ pairs) = (pair.0, None) ∷ removals pairs

-- whether the first byte of a key is this one
abbrev pub is_in_space : ℕ → List ℕ → Bool
is_in_space space [] = false
is_in_space space (byte ∷ bytes) = byte == space

-- pairs of the space 01, which the catalog has
abbrev pub AreCatalog : List Pair → Type 0
AreCatalog pairs = AllByRecursion (λ pair. is_in_space 1 pair.0 ≡ true) pairs

-- whether a key is of the groups of counters (space 05)
abbrev pub is_of_counters : List ℕ → Bool
is_of_counters key = is_in_space 5 key

-- pairs of that space
abbrev pub AreOfCounters : List Pair → Type 0
AreOfCounters pairs = AllByRecursion (λ pair. is_of_counters pair.0 ≡ true) pairs

-- whether a key is of the rows (space 02) or of their entries (space 03)
abbrev pub is_of_rows : List ℕ → Bool
is_of_rows key = is_in_space 2 key || is_in_space 3 key

-- any pairs whose keys are of neither; of two with one key the first one stands
abbrev pub AreBeside : List Pair → Type 0
AreBeside pairs = AllByRecursion (λ pair. is_of_rows pair.0 ≡ false) pairs

abbrev pub row_pair : ℕ → Table → List Value → Pair
row_pair t table row = (row_key t (key_of table row), stored_code table row)

abbrev pub entry_pair : ℕ → ℕ → List KeyPart → List Value → Pair
entry_pair t i sequence row = (entry_key t i (dirs_of sequence) (values_of sequence row), [])

-- the entries of a row in these indexes, which are numbered from i
abbrev pub entries_from : ℕ → ℕ → Table → List Index → List Value → List Pair
entries_from t i table [] row = []
entries_from t i table (index ∷ indexes) row =
    entry_pair t i (index_sequence table index) row ∷ entries_from t (i + 1) table indexes row

-- a row's own pair and its entries
abbrev pub pairs_of_row : ℕ → Table → List Value → List Pair
pairs_of_row t table row = row_pair t table row ∷ entries_from t 1 table table.indexes row

abbrev pub row_pairs : List Table → Rows → List Pair
row_pairs tables rows = flat_map (λ e. pairs_of_row e.0 (table_at tables e.0) e.1) rows

-- the content that has the pairs of the rows, and other pairs beside them
unfoldable pub content_pairs : List Table → Rows → List Pair → Content
content_pairs tables rows others = from_entries (row_pairs tables rows ++ others)

-- a told content has just the pairs of these rows, which keep their tables, and any others beside them
pub record HoldsRows (told : Option Content) (tables : List Table) (rows : Rows) (others : List Pair) : Type 0 where
  pub keeps : Keeps tables rows
  pub beside : AreBeside others
  pub is : told ≡ Some (content_pairs tables rows others)

-- the pairs of a content that are of rows and entries, and those beside them
abbrev pub pairs_of_rows : Content → List Pair
pairs_of_rows content = filter (λ pair. is_of_rows pair.0) (entries content)

abbrev pub pairs_beside : Content → List Pair
pairs_beside content = filter (λ pair. not (is_of_rows pair.0)) (entries content)

-- the changes of an UPDATE: the row's pair, and the old and the new entry where they differ
abbrev pub entry_changes : ℕ → ℕ → Table → List Index → List Value → List Value → List Change
entry_changes t i table [] old new = []
entry_changes t i table (index ∷ indexes) old new =
    (if same_values (values_of (index_sequence table index) old) (values_of (index_sequence table index) new) then []
    else ((entry_pair t i (index_sequence table index) old).0, None)
    ∷ ((entry_pair t i (index_sequence table index) new).0, Some []) ∷ [])
    ++ entry_changes t (i + 1) table indexes old new

abbrev pub update_changes : ℕ → Table → List Value → List Value → List Change
update_changes t table old new =
    (row_key t (key_of table new), Some (stored_code table new)) ∷ entry_changes t 1 table table.indexes old new
