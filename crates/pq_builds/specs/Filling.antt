-- Entries of one index that are written for rows, one after the other.
use Rattle.std.specs.Prelude.{◌≡◌, ◌≢◌, ◌⊎◌, ℕ, ◌+◌, ◌/◌, ◌≤◌, List, [], ◌∷◌, ◌++◌, map, take, drop, length, Contains, Option, Some, None, IsSome}
use Rattle.std.specs.List.{AllByRecursion}
use Rattle.pq_base.specs.declared.value.Value.{Value}
use Rattle.pq_base.specs.Shapes.{RowShape, row_shape}
use Rattle.pq_base.specs.Values.{AllFit}
use Rattle.pq_key_code.specs.KeyCode.{row_key, entry_key, past_code}
use Rattle.pq_row_code.specs.StoredRow.{code_as, IsNoRowCode}
use Rattle.pq_store.specs.Breaks.{IfDamaged}
use Rattle.pq_store.specs.Content.{Content, pairs_within}
use Rattle.pq_store.specs.declared.damage.Broke.{Broke}
use Rattle.pq_store.specs.declared.damage.Damage.{Damage}
use Rattle.pq_content.specs.Pairs.{Pair, Change, changed_content}
use Rattle.pq_content.specs.Tables.{dirs_of, values_of}
use Rattle.pq_builds.specs.declared.target.Target.{Target}

-- how the target's table stores its rows
abbrev pub target_shape : Target → RowShape
target_shape target = row_shape target.types target.fillers

-- the key of a row's entry
abbrev pub entry_at : Target → List Value → List ℕ
entry_at target row = entry_key target.table target.index (dirs_of target.parts) (values_of target.parts row)

abbrev pub entry_change : Target → List Value → Change
entry_change target row = (entry_at target row, Some [])

-- the content with the entries of these rows
abbrev pub entered_rows : Target → List (List Value) → Content → Content
entered_rows target rows content = changed_content (map (entry_change target) rows) content

-- the rows' space of a table, from its first key up to one past it
abbrev pub first_key : ℕ → List ℕ
first_key table = row_key table []

abbrev pub past_key : ℕ → List ℕ
past_key table = past_code (first_key table)

abbrev pub row_pairs_in : ℕ → Content → List Pair
row_pairs_in table content = pairs_within content (first_key table) (past_key table)

-- rows that fit the types, and whose codes are the values of these pairs
pub record AreDecoded (shape : RowShape) (pairs : List Pair) (rows : List (List Value)) : Type 0 where
  pub fit : AllByRecursion (AllFit shape.types) rows
  pub codes : map (code_as shape) rows ≡ map (λ pair. pair.1) pairs

-- the entries of the rows of these pairs were written
pub record Enters (target : Target) (pairs : List Pair) (old : Content) (now : Option Content) : Type 0 where
  pub rows : List (List Value)
  pub decoded : AreDecoded (target_shape target) pairs rows
  pub is : now ≡ Some (entered_rows target rows old)

-- of some of them, from the first on
pub record EntersSome (target : Target) (pairs : List Pair) (old : Content) (now : Option Content) : Type 0 where
  pub many : ℕ
  pub enters : Enters target (take many pairs) old now

-- ---- what shows damage

-- a pair whose value is the code of no row that fits
pub record IsNoRowPair (shape : RowShape) (pair : Pair) (damage : Damage) : Type 0 where
  pub at : damage.key ≡ pair.0
  pub has : damage.value ≡ Some pair.1
  pub no_row : IsNoRowCode shape pair.1

-- one of some pairs
pub record IsNoRowAmong (shape : RowShape) (pairs : List Pair) (damage : Damage) : Type 0 where
  pub pair : Pair
  pub there : Contains pairs pair
  pub no_row : IsNoRowPair shape pair damage

-- a range has not as many pairs as were counted
pub record IsMiscounted (number : ℕ) (pairs : List Pair) (damage : Damage) : Type 0 where
  pub has : damage.value ≡ None
  pub other : length (take 256 pairs) ≢ number

abbrev pub ShowsRange : RowShape → ℕ → List Pair → Broke → Type 0
ShowsRange shape number pairs = IfDamaged (λ damage. IsMiscounted number pairs damage ⊎ IsNoRowAmong shape pairs damage)

-- damage has a value; or it has none, and names this key
abbrev pub HasValue : Broke → Type 0
HasValue = IfDamaged (λ damage. IsSome damage.value)

abbrev pub NamesKey : List ℕ → Broke → Type 0
NamesKey key = IfDamaged (λ damage. damage.value ≡ None → damage.key ≡ key)

-- ---- one entry, and one range

-- the key of the entry of the row of a pair
pub record IsEntryIn (target : Target) (pair : Pair) (key : List ℕ) : Type 0 where
  pub row : List Value
  pub fits : AllFit target.types row
  pub code : code_as (target_shape target) row ≡ pair.1
  pub is : key ≡ entry_at target row

-- a key is the first one past the last of some pairs, or where there are none it is as it was
pub record IsPast (low : List ℕ) (pairs : List Pair) (next : List ℕ) : Type 0 where
  pub none : pairs ≡ [] → next ≡ low
  pub last : (front : List Pair) (last : Pair) → pairs ≡ front ++ last ∷ [] → next ≡ last.0 ++ 0 ∷ []

-- the entries of so many pairs from a key on were written, and the others come from the next key on
pub record Follows (target : Target) (low : List ℕ) (number : ℕ) (old : Content) (now : Option Content)
    (next : List ℕ) : Type 0 where
  pub many : number ≤ length (pairs_within old low (past_key target.table))
  pub enters : Enters target (take number (pairs_within old low (past_key target.table))) old now
  pub rest : pairs_within old next (past_key target.table) ≡ drop number (pairs_within old low (past_key target.table))

-- the ranges of so many rows: one of 256 each, and one that has fewer
abbrev pub fill_ops : ℕ → ℕ
fill_ops count = count + count / 256 + 1
