-- Changes that are not made yet, and what a store is seen to hold with them.
use Rattle.std.specs.Prelude.{◌≡◌, ℕ, ◌≤◌, Bool, false, ◌&&◌, ◌==◌, List, [], ◌∷◌, Option, Some, None, is_none, is_some, option_map, min, ◌+◌, if◌then◌else◌}
use Rattle.std.specs.List.{count_by}
use Rattle.std.specs.Ordering.{eq_by_cmp}
use Rattle.pq_schema.specs.declared.table.Access.{Access}
use Rattle.pq_schema.specs.declared.table.Access.TheVariants.{Primary, Secondary}
use Rattle.pq_content.specs.Pairs.{Change, Pair, changed_content}
use Rattle.pq_content.specs.Standing.{is_entry_of}
use Rattle.pq_store.specs.Content.{Content, is_within, key_cmp}

-- the changes, each of a key of its own, and of how many writes they are that remove pairs
pub record Ahead : Type 0 where
  pub changes : List Change
  pub removers : ℕ

abbrev pub nothing_ahead : Ahead
nothing_ahead = record { changes = []; removers = 0 }

-- with one change more: of each key the last change stands, at the place of its first one
abbrev pub with_change : List Change → Change → List Change
with_change [] change = change ∷ []
with_change (first ∷ rest) change =
    if eq_by_cmp key_cmp first.0 change.0 then change ∷ rest else first ∷ with_change rest change

-- with more changes, one after the other
abbrev pub with_changes : List Change → List Change → List Change
with_changes changes [] = changes
with_changes changes (change ∷ rest) = with_changes (with_change changes change) rest

-- what the changes give a key, where one of them is of it
abbrev pub changed_value : List Change → List ℕ → Option (Option (List ℕ))
changed_value [] key = None
changed_value (change ∷ rest) key = if eq_by_cmp key_cmp change.0 key then Some change.1 else changed_value rest key

-- what a key has: what a change gives it, or what it had
abbrev pub value_or : Option (Option (List ℕ)) → Option (List ℕ) → Option (List ℕ)
value_or None old = old
value_or (Some new) old = new

-- no key has two of them
abbrev pub AreDistinct : List Change → Type 0
AreDistinct [] = Unit {0}
AreDistinct (change ∷ rest) = (changed_value rest change.0 ≡ None) × AreDistinct rest

-- ---- what is seen with the changes

-- the content with the changes made, where the store tells it
abbrev pub seen_content : List Change → Option Content → Option Content
seen_content changes told = option_map (changed_content changes) told

-- what a call may answer for a key: what a change gives it, or else what the store may answer
abbrev pub seen_value : (Option (List ℕ) → Type 0) → Option (Option (List ℕ)) → Option (List ℕ) → Type 0
seen_value answers None value = answers value
seen_value answers (Some new) value = value ≡ new

abbrev pub seen_answers : (List ℕ → Option (List ℕ) → Type 0) → List Change → List ℕ → Option (List ℕ) → Type 0
seen_answers answers changes key value = seen_value (answers key) (changed_value changes key) value

-- ---- removals

-- low ≤ key < high
abbrev pub lies_within : List ℕ → List ℕ → List ℕ → Bool
lies_within low high key = is_within low high (key, [])

abbrev pub is_removal_within : List ℕ → List ℕ → Change → Bool
is_removal_within low high change = is_none change.1 && lies_within low high change.0

-- how many pairs of the range are removed
abbrev pub removals_within : List ℕ → List ℕ → List Change → ℕ
removals_within low high changes = count_by (is_removal_within low high) changes

-- whether a key is of the rows of this table
abbrev pub is_row_of : ℕ → List ℕ → Bool
is_row_of t (space ∷ table ∷ code) = (space == 2) && (table == t)
is_row_of t _ = false

-- whether a key is of this sequence of a table: of its rows, or of the entries of an index
abbrev pub is_of_sequence : ℕ → Access → List ℕ → Bool
is_of_sequence t Primary key = is_row_of t key
is_of_sequence t (Secondary i) key = is_entry_of t i key

abbrev pub is_removal_of : ℕ → Access → Change → Bool
is_removal_of t access change = is_none change.1 && is_of_sequence t access change.0

-- of each sequence at most so many pairs are removed
abbrev pub RemovesAtMost : ℕ → List Change → Type 0
RemovesAtMost most changes = (t : ℕ) (access : Access) → count_by (is_removal_of t access) changes ≤ most

-- ---- a count with the changes made

-- how many pairs of the range are written
abbrev pub is_put_within : List ℕ → List ℕ → Change → Bool
is_put_within low high change = is_some change.1 && lies_within low high change.0

abbrev pub puts_within : List ℕ → List ℕ → List Change → ℕ
puts_within low high changes = count_by (is_put_within low high) changes

-- whether no change is of the pair's key
abbrev pub is_unchanged : List Change → Pair → Bool
is_unchanged changes pair = is_none (changed_value changes pair.0)

-- of these pairs of the range those that stay, and those that are written, at most cap
abbrev pub counted_with : List ℕ → List ℕ → ℕ → List Change → List Pair → ℕ
counted_with low high cap changes pairs =
    min cap (count_by (is_unchanged changes) pairs + puts_within low high changes)
