-- What a content settles to, and a content in which an index is being filled.
use Rattle.std.specs.Prelude.{◌≡◌, ℕ, Bool, false, true, ◌&&◌, ◌||◌, ◌==◌, List, [], ◌∷◌, map, MatchOption, ◌+◌, if◌then◌else◌}
use Rattle.std.specs.List.{AllByRecursion}
use Rattle.std.specs.FinMap.{get, remove, retain_keys}
use Rattle.pq_row_code.specs.declared.changes.Change.{Change as Coded}
use Rattle.pq_row_code.specs.Changes.{changes_code, AreChanges}
use Rattle.pq_content.specs.Pairs.{Change, changed_content, is_of_rows, is_of_counters}
use Rattle.pq_store.specs.Content.{Content}
use Rattle.pq_key_code.specs.KeyCode.{intent_key}

abbrev pub change_of : Coded → Change
change_of change = (change.key, change.new)

-- changes that a write may make: of rows and entries alone
abbrev pub AreOfRows : List Change → Type 0
AreOfRows changes = AllByRecursion (λ change. is_of_rows change.0 ≡ true) changes

-- whether an intent may hold a change of this key: one of rows, entries and counters
abbrev pub may_intend : List ℕ → Bool
may_intend key = is_of_rows key || is_of_counters key

-- changes that an intent may hold
abbrev pub AreIntended : List Change → Type 0
AreIntended changes = AllByRecursion (λ change. may_intend change.0 ≡ true) changes

-- an intent with this value, whose changes make this content of the other
pub record IsIntent (content settled : Content) (value : List ℕ) : Type 0 where
  pub changes : List Coded
  pub code : value ≡ changes_code changes
  pub coded : AreChanges changes
  pub intended : AreIntended (map change_of changes)
  pub makes : settled ≡ remove (changed_content (map change_of changes) content) intent_key

-- the content itself where it has no intent, and else with the intent's changes made and without its key
unfoldable pub SettlesTo : Content → Content → Type 0
SettlesTo content settled = MatchOption (get content intent_key) (settled ≡ content) (IsIntent content settled)

-- the whole content, but that some of the keys that may be missing are
abbrev pub IsFilledPartOf : (List ℕ → Bool) → Content → Content → Type 0
IsFilledPartOf may_miss whole part = (keep : List ℕ → Bool)
    × ((key : List ℕ) → may_miss key ≡ false → keep key ≡ true) × (part ≡ retain_keys whole keep)

-- the operations of a commit: one change is one write, and more have an intent, which is written and removed
abbrev pub write_ops : ℕ → ℕ
write_ops changes = if changes == 1 then 1 else changes + 2

-- whether bytes begin with these two numbers
abbrev pub is_numbered : ℕ → ℕ → List ℕ → Bool
is_numbered t i (table ∷ index ∷ code) = (table == t) && (index == i)
is_numbered t i _ = false

-- whether the key is of the entries of this index
abbrev pub is_entry_of : ℕ → ℕ → List ℕ → Bool
is_entry_of t i [] = false
is_entry_of t i (space ∷ rest) = (space == 3) && is_numbered t i rest
