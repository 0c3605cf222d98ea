-- Ranges of one sequence's keys, and pairs that are the code of nothing.
use Rattle.std.specs.Prelude.{◌≡◌, ◌≢◌, ℕ, List, [], ◌∷◌, ◌++◌, map, take, drop, zip, Option, Some, IfSome, IsSome}
use Rattle.std.specs.List.{AllByRecursion}
use Rattle.std.specs.FinMap.{get}
use Rattle.pq_base.specs.Members.{In}
use Rattle.pq_base.specs.Shapes.{RowShape}
use Rattle.pq_base.specs.Values.{AllFit}
use Rattle.pq_base.specs.declared.value.ColType.{ColType}
use Rattle.pq_base.specs.declared.value.Dir.{Dir}
use Rattle.pq_base.specs.declared.value.Value.{Value}
use Rattle.pq_key_code.specs.KeyCode.{IsBytes, code_of, row_key}
use Rattle.pq_row_code.specs.StoredRow.{IsNoRowCode}
use Rattle.pq_schema.specs.declared.table.Access.{Access}
use Rattle.pq_schema.specs.declared.table.Access.TheVariants.{Primary, Secondary}
use Rattle.pq_schema.specs.declared.table.Table.{Table}
use Rattle.pq_schema.specs.Rows.{IsTableNumber, types_of}
use Rattle.pq_schema.specs.Sequences.{IsAccess, index_sequence, index_numbered, sequence_of}
use Rattle.pq_schema.specs.Tables.{table_at}
use Rattle.pq_store.specs.Content.{Content, IsPartOf, pairs_within}
use Rattle.pq_store.specs.Content.{entry as entry_of}
use Rattle.pq_store.specs.declared.store.Pair.{Pair as StoredPair}
use Rattle.pq_store.specs.declared.damage.Broke.{Broke}
use Rattle.pq_store.specs.declared.damage.Broke.TheVariants as broke
use Rattle.pq_store.specs.declared.damage.Damage.{Damage}
use Rattle.pq_calls.specs.Keys.{sequence_key, sequence_types, named_key}
use Rattle.pq_content.specs.Pairs.{Pair, row_pair, entry_pair}
use Rattle.pq_content.specs.Tables.{values_of, stored_code}

-- a sequence of a table that is there
pub record IsSequence (tables : List Table) (t : ℕ) (access : Access) : Type 0 where
  pub number : IsTableNumber tables t
  pub is_access : IsAccess (table_at tables t) access

-- what the keys of a sequence begin with: the space, and the numbers of the table and the index
abbrev pub key_front : ℕ → Access → List ℕ
key_front t Primary = 2 ∷ t ∷ []
key_front t (Secondary index) = 3 ∷ t ∷ index ∷ []

abbrev pub Begins : List ℕ → List ℕ → Type 0
Begins front bytes = (rest : List ℕ) × (bytes ≡ front ++ rest)

-- both ends of a range begin as the keys of the sequence do
pub record AreEnds (t : ℕ) (access : Access) (low high : List ℕ) : Type 0 where
  pub from : Begins (key_front t access) low
  pub upto : Begins (key_front t access) high

-- pairs of a store are those of a range of the sequence, the first of them: its first ones where the content is told
pub record AreOfRange (t : ℕ) (access : Access) (told : Option Content) (low high : List ℕ) (limit : ℕ)
    (pairs : List StoredPair) : Type 0 where
  pub ends : AreEnds t access low high
  pub part : IsPartOf low high limit (map entry_of pairs)
  pub are : IfSome told (λ content. map entry_of pairs ≡ take limit (pairs_within content low high))

-- whatever range and content the pairs are of
abbrev pub OfEachRange : ℕ → Access → List StoredPair → (Option Content → List ℕ → List ℕ → ℕ → Type 0) → Type 0
OfEachRange t access pairs holds = (told : Option Content) (low high : List ℕ) (limit : ℕ)
    → AreOfRange t access told low high limit pairs → holds told low high limit

-- ---- pairs that are the code of nothing

-- an error of reading alone: want of memory, or damage that shows
abbrev pub IsUnread : (Damage → Type 0) → Broke → Type 0
IsUnread shows broke.Failed = ⊥
IsUnread shows broke.NoMem = Unit {0}
IsUnread shows (broke.Damaged damage) = shows damage

-- the pair is told as damage
pub record TellsPair (pair : Pair) (damage : Damage) : Type 0 where
  pub bytes : IsBytes pair.0
  pub at : damage.key ≡ pair.0
  pub has : damage.value ≡ Some pair.1

-- its value is the code of no row of this shape
pub record IsNoRowPair (shape : RowShape) (pair : Pair) (damage : Damage) : Type 0 where
  pub tells : TellsPair pair damage
  pub no_row : IsNoRowCode shape pair.1

-- its key, behind the first bytes, is the code of no values of these types
pub record IsNoKeyPair (types : List ColType) (dirs : List Dir) (skipped : ℕ) (pair : Pair) (damage : Damage) :
    Type 0 where
  pub tells : TellsPair pair damage
  pub no_values : (values : List Value) → AllFit types values → code_of dirs values ≢ drop skipped pair.0

-- one of the pairs shows it
abbrev pub OneShows : (Pair → Damage → Type 0) → List Pair → Damage → Type 0
OneShows shows pairs damage = (pair : Pair) × In pair pairs × shows pair damage

-- the key in the store of the row that the entry with these values names
abbrev pub named_at : ℕ → Table → ℕ → List Value → Option (List ℕ)
named_at t table index values = Some (row_key t (named_key table (Secondary index) values))

-- a key that was asked for and its value are told: none stands there, or the code of no row of this shape
pub record IsNoNamedRow (shape : RowShape) (asked code : Option (List ℕ)) (damage : Damage) : Type 0 where
  pub at : Some damage.key ≡ asked
  pub has : damage.value ≡ code
  pub no_row : IfSome code (IsNoRowCode shape)

-- one of the keys, and its value, shows it
abbrev pub OneNamesNoRow : RowShape → List (Option (List ℕ)) → List (Option (List ℕ)) → Damage → Type 0
OneNamesNoRow shape asked codes damage = (one : Option (List ℕ) × Option (List ℕ)) × In one (zip asked codes)
    × IsNoNamedRow shape one.0 one.1 damage

-- ---- what is read of any content

-- the rows whose codes are the values of the first pairs of a range, in their order
abbrev pub AreRowsWithin : Table → List ℕ → List ℕ → ℕ → List (List Value) → Content → Type 0
AreRowsWithin table low high limit found content =
    map (stored_code table) found ≡ map (λ pair. pair.1) (take limit (pairs_within content low high))

-- the values whose keys in the sequence are the keys of the first pairs of a range, in their order
abbrev pub AreKeysWithin : ℕ → Table → Access → List ℕ → List ℕ → ℕ → List (List Value) → Content → Type 0
AreKeysWithin t table access low high limit found content =
    map (sequence_key t table access) found ≡ map (λ pair. pair.0) (take limit (pairs_within content low high))

-- the value at the key that the entry with these values names
abbrev pub named_value : ℕ → Table → ℕ → Content → List Value → Option (List ℕ)
named_value t table index content values = get content (row_key t (named_key table (Secondary index) values))

-- the row that stands at the key that the entry with these values names
abbrev pub IsNamedRow : ℕ → Table → ℕ → List Value → List Value → Content → Type 0
IsNamedRow t table index values row content = named_value t table index content values ≡ Some (stored_code table row)

-- the rows that stand at the keys that the entries with these values name, one for each
abbrev pub AreNamedRows : ℕ → Table → ℕ → List (List Value) → List (List Value) → Content → Type 0
AreNamedRows t table index values found content =
    map (named_value t table index content) values ≡ map (λ row. Some (stored_code table row)) found

-- the rows that the entries of the first pairs of a range name
pub record AreRowsOfEntries (t : ℕ) (table : Table) (index : ℕ) (low high : List ℕ) (limit : ℕ)
    (found : List (List Value)) (content : Content) : Type 0 where
  pub values : List (List Value)
  pub fit : AllByRecursion (AllFit (sequence_types table (Secondary index))) values
  pub within : AreKeysWithin t table (Secondary index) low high limit values content
  pub named : AreNamedRows t table index values found content

-- the rows of the first pairs of a range of a sequence
abbrev pub AreSequenceRows : ℕ → Table → Access → List ℕ → List ℕ → ℕ → List (List Value) → Content → Type 0
AreSequenceRows t table Primary low high limit found content = AreRowsWithin table low high limit found content
AreSequenceRows t table (Secondary index) low high limit found content =
    AreRowsOfEntries t table index low high limit found content

-- ---- what is read of pairs that are those of rows

-- where the pairs of a range are those of some rows, the first rows of them
abbrev pub AreFirstRows : ℕ → Table → List ℕ → List ℕ → ℕ → List (List Value) → Content → Type 0
AreFirstRows t table low high limit found content =
    (rows : List (List Value)) → AllByRecursion (AllFit (types_of table)) rows
    → pairs_within content low high ≡ map (row_pair t table) rows
    → found ≡ take limit rows

-- the pair of a row in a sequence
abbrev pub pair_of : ℕ → Table → Access → List Value → Pair
pair_of t table Primary row = row_pair t table row
pair_of t table (Secondary index) row = entry_pair t index (index_sequence table (index_numbered table index)) row

-- the values of the first rows of them in the sequence
abbrev pub AreFirstValues : ℕ → Table → Access → List ℕ → List ℕ → ℕ → List (List Value) → Content → Type 0
AreFirstValues t table access low high limit found content =
    (rows : List (List Value)) → AllByRecursion (AllFit (types_of table)) rows
    → pairs_within content low high ≡ map (pair_of t table access) rows
    → found ≡ map (values_of (sequence_of table access)) (take limit rows)

-- a key of the sequence with these values is there
abbrev pub IsKeyThere : ℕ → Table → Access → Option Content → List Value → Type 0
IsKeyThere t table access told values = IfSome told
    (λ content. IsSome (get content (sequence_key t table access values)))

-- an entry of the index with these values is there
abbrev pub IsEntryThere : ℕ → Table → ℕ → Option Content → List Value → Type 0
IsEntryThere t table index told values = IsKeyThere t table (Secondary index) told values
