-- What holds at each moment of a run: who holds which keys, which entries are there, and how full groups are.
use Rattle.std.specs.Prelude.{◌≡◌, ℕ, ◌^◌, ◌<◌, ◌≤◌, ◌⊎◌, Bool, true, false, ◌&&◌, ◌||◌, ◌==◌, not, nat_lt, if◌then◌else◌, List, [], ◌∷◌, length, Option, Some, None, is_some, option_map, option_and_then, All}
use Rattle.std.specs.List.{list_any}
use Rattle.std.specs.Ordering.{eq_by_cmp}
use Rattle.std.specs.FinMap.{get}
use Rattle.pq_base.specs.Values.{AllFit, has_null}
use Rattle.pq_base.specs.declared.value.Value.{Value}
use Rattle.pq_key_code.specs.KeyCode.{row_key}
use Rattle.pq_schema.specs.declared.table.Table.{Table}
use Rattle.pq_schema.specs.Tables.{table_at}
use Rattle.pq_content.specs.Pairs.{is_in_space, is_of_rows}
use Rattle.pq_content.specs.Tables.{IsTableNumber, types_of, key_of, agrees, stored_code}
use Rattle.pq_store.specs.Content.{Content, key_cmp}
use Rattle.pq_index_keep.specs.Effects.{limit_at}
use Rattle.pq_row_keys.specs.Groups.{group_key}
use Rattle.pq_index_keep.specs.Sound.{IsWrite}
use Rattle.pq_clients.specs.declared.outcome.Outcome.{Outcome}
use Rattle.pq_clients.specs.Held.{Cell, Free, Held, cell_of, present_in, decoded_row, held_value}
use Rattle.pq_clients.specs.Flights.{Flight, IsGranted, flight_key, new_code, entry_keys, keys_of_row, has_entry, flight_tests}
pub use Rattle.pq_clients.specs.Clients.{present_of, may_show}
use Rattle.pq_clients.specs.Clients.{Stage, Checking, Adding, Testing, Putting, Clearing, Freeing, Undoing, Releasing, Next, Reading, Taking, Looking, Flying, View, write_at}

-- ---- rows by their codes

abbrev pub key_table : List ℕ → ℕ
key_table [] = 0
key_table (space ∷ []) = 0
key_table (space ∷ t ∷ rest) = t

-- the row of this code at a row's key
unfoldable pub code_row : List Table → List ℕ → Option (List ℕ) → Option (List Value)
code_row tables k code =
    if is_in_space 2 k then option_and_then (decoded_row (table_at tables (key_table k))) code else None

-- whether a key is of an entry of the row with this code
unfoldable pub has_code_entry : List Table → List ℕ → Option (List ℕ) → List ℕ → Bool
has_code_entry tables k code e =
    has_entry e (keys_of_row (key_table k) (table_at tables (key_table k)) (code_row tables k code))

-- a row's code stands at the row's own key
pub record IsRowAt (tables : List Table) (k code : List ℕ) : Type 0 where
  pub table : ℕ
  pub row : List Value
  pub number : IsTableNumber tables table
  pub fits : AllFit (types_of (table_at tables table)) row
  pub short : length (stored_code (table_at tables table) row) ≤ 4096
  pub code_is : stored_code (table_at tables table) row ≡ code
  pub key_is : row_key table (key_of (table_at tables table) row) ≡ k

abbrev pub MayStandAt : List Table → List ℕ → Option (List ℕ) → Type 0
MayStandAt tables k None = Unit {0}
MayStandAt tables k (Some code) = IsRowAt tables k code

-- an entry of some row at the key
pub record Names (tables : List Table) (k e : List ℕ) : Type 0 where
  pub table : ℕ
  pub row : List Value
  pub number : IsTableNumber tables table
  pub fits : AllFit (types_of (table_at tables table)) row
  pub key_is : row_key table (key_of (table_at tables table) row) ≡ k
  pub among : has_entry e (entry_keys table (table_at tables table) row) ≡ true

-- ---- groups

-- the rows of a table with these values at the columns of the limit at this place; with NULL among them it has none
pub record Group : Type 0 where
  pub table : ℕ
  pub place : ℕ
  pub values : List Value

abbrev pub is_limit : List Table → Group → Bool
is_limit tables g = nat_lt g.place (length (table_at tables g.table).limits)

-- the row has these values at the columns, of which none is NULL
abbrev pub shares : List ℕ → List Value → List Value → Bool
shares cols values row = not (has_null values) && agrees cols values row

abbrev pub row_in_group : List Table → Group → ℕ → Option (List Value) → Bool
row_in_group tables g t None = false
row_in_group tables g t (Some row) =
    t == g.table && (is_limit tables g && shares (limit_at (table_at tables g.table) g.place).cols g.values row)

unfoldable pub in_group : List Table → Group → List ℕ → Option (List ℕ) → Bool
in_group tables g k code = row_in_group tables g (key_table k) (code_row tables k code)

abbrev pub group_bound : List Table → Group → ℕ
group_bound tables g = (limit_at (table_at tables g.table) g.place).n

-- the beginning of the keys under which its rows are counted
abbrev pub front_of_group : List Table → Group → List ℕ
front_of_group tables g =
    group_key g.table (table_at tables g.table) (limit_at (table_at tables g.table) g.place).cols g.values

-- ---- what a client's step says of the key that it holds

abbrev pub is_old : List Table → Flight → List ℕ → Bool
is_old tables f e = has_code_entry tables (flight_key tables f) f.read e

abbrev pub is_new : List Table → Flight → List ℕ → Bool
is_new tables f e = has_code_entry tables (flight_key tables f) (new_code tables f) e

-- entries that are there beside those of the present row: those that were added, and those that are still to be removed
abbrev pub is_due : List Table → Flight → Stage → List ℕ → Bool
is_due tables f (Checking check left) e = false
is_due tables f (Adding entry left added) e = has_entry e added
is_due tables f (Testing place left passed) e = is_new tables f e
is_due tables f Putting e = is_new tables f e
is_due tables f (Clearing entry left) e = has_entry e (entry ∷ left)
is_due tables f Freeing e = false
is_due tables f (Undoing entry left refusal) e = has_entry e (entry ∷ left)
is_due tables f (Releasing refusal) e = false

abbrev pub has_place : ℕ → List ℕ → Bool
has_place place places = list_any (λ other. place == other) places

-- limits that were passed, and hold until the put
abbrev pub is_passed : List Table → Flight → Stage → Group → Bool
is_passed tables f (Checking check left) g = false
is_passed tables f (Adding entry left added) g = false
is_passed tables f (Testing place left passed) g =
    has_place g.place passed && in_group tables g (flight_key tables f) (new_code tables f)
is_passed tables f Putting g = in_group tables g (flight_key tables f) (new_code tables f)
is_passed tables f (Clearing entry left) g = false
is_passed tables f Freeing g = false
is_passed tables f (Undoing entry left refusal) g = false
is_passed tables f (Releasing refusal) g = false

-- ---- stances

-- the key that a client holds, and what is there
pub record Hold : Type 0 where
  pub key : List ℕ
  pub at : ℕ
  pub present : Option (List ℕ)
  pub due : List ℕ → Bool
  pub passed : Group → Bool

-- what a client that ended may have left: a key that it held, one of two rows present, and entries
pub record Remains : Type 0 where
  pub key : List ℕ
  pub at : ℕ
  pub one : Option (List ℕ)
  pub two : Option (List ℕ)
  pub extra : List ℕ → Bool

pub data Stance : Type 0 where
  Idle : Stance
  Holds : (hold : Hold) → Stance
  Left : (remains : Remains) → Stance

abbrev pub hold_of : List Table → ℕ → Flight → Stage → Hold
hold_of tables at f stage = record {
  key = flight_key tables f;
  at = at;
  present = present_of tables f stage;
  due = is_due tables f stage;
  passed = is_passed tables f stage;
}

abbrev pub remains_of : List Table → ℕ → Flight → Stage → Remains
remains_of tables at f stage = record {
  key = flight_key tables f;
  at = at;
  one = present_of tables f stage;
  two = may_show tables f stage;
  extra = λ e. is_old tables f e || is_new tables f e;
}

abbrev pub taken_remains : List Table → ℕ → Flight → Remains
taken_remains tables at f = record {
  key = flight_key tables f;
  at = at;
  one = f.read;
  two = f.read;
  extra = λ e. is_old tables f e || is_new tables f e;
}

abbrev pub stance_at : List Table → ℕ → Option Outcome → Next → Stance
stance_at tables at over Reading = Idle
stance_at tables at over (Looking f) = Idle
stance_at tables at None (Taking f) = Idle
stance_at tables at (Some end) (Taking f) = Left (taken_remains tables at f)
stance_at tables at None (Flying f stage) = Holds (hold_of tables at f stage)
stance_at tables at (Some end) (Flying f stage) = Left (remains_of tables at f stage)

abbrev pub stance_of : List Table → View → Stance
stance_of tables v = stance_at tables v.at v.over v.next

-- ---- Holders

-- the pair of a row
unfoldable pub cell_at : Content → List ℕ → Option Cell
cell_at c k = if is_in_space 2 k then option_map cell_of (get c k) else None

-- the stance names this key, this write and this present row
abbrev pub IsHolder : Stance → List ℕ → ℕ → Option (List ℕ) → Type 0
IsHolder Idle k m p = ⊥
IsHolder (Holds h) k m p = (h.key ≡ k) × (h.at ≡ m) × (h.present ≡ p)
IsHolder (Left l) k m p = (l.key ≡ k) × (l.at ≡ m) × ((p ≡ l.one) ⊎ (p ≡ l.two))

abbrev pub HeldWell : Option Cell → (ℕ → Stance) → List ℕ → Type 0
HeldWell None stances k = Unit {0}
HeldWell (Some (Free code)) stances k = Unit {0}
HeldWell (Some (Held i m p)) stances k = IsHolder (stances i) k m p

-- a client that is not over holds its key
abbrev pub Owns : Content → ℕ → Stance → Type 0
Owns c j Idle = Unit {0}
Owns c j (Holds h) =
    (is_in_space 2 h.key ≡ true) × (get c h.key ≡ Some (held_value j h.at h.present))
    × (cell_of (held_value j h.at h.present) ≡ Held j h.at h.present)
Owns c j (Left l) = Unit {0}

-- ---- Entries

abbrev pub present_at_cell : Option Cell → Option (List ℕ)
present_at_cell None = None
present_at_cell (Some x) = present_in x

abbrev pub due_by : Stance → List ℕ → Bool
due_by Idle e = false
due_by (Holds h) e = h.due e
due_by (Left l) e = false

abbrev pub extra_by : Stance → List ℕ → Bool
extra_by Idle e = false
extra_by (Holds h) e = h.due e
extra_by (Left l) e = l.extra e

abbrev pub due_at : Option Cell → (ℕ → Stance) → List ℕ → Bool
due_at None stances e = false
due_at (Some (Free code)) stances e = false
due_at (Some (Held i m p)) stances e = due_by (stances i) e

abbrev pub extra_at : Option Cell → (ℕ → Stance) → List ℕ → Bool
extra_at None stances e = false
extra_at (Some (Free code)) stances e = false
extra_at (Some (Held i m p)) stances e = extra_by (stances i) e

abbrev pub is_there : Content → List ℕ → Bool
is_there c e = is_some (get c e)

-- what is known at one key
pub record KeyGood (tables : List Table) (x : Option Cell) (marks : List ℕ → Bool) (stances : ℕ → Stance)
    (k : List ℕ) : Type 0 where
  pub held : HeldWell x stances k
  pub lower : (e : List ℕ) → Names tables k e
      → (has_code_entry tables k (present_at_cell x) e || due_at x stances e) ≡ true → marks e ≡ true
  pub upper : (e : List ℕ) → Names tables k e → marks e ≡ true
      → (has_code_entry tables k (present_at_cell x) e || extra_at x stances e) ≡ true

-- ---- Limits

abbrev pub is_key : List ℕ → List ℕ → Bool
is_key k other = eq_by_cmp key_cmp k other

abbrev pub Different : List (List ℕ) → Type 0
Different [] = Unit {0}
Different (k ∷ ks) = (has_entry k ks ≡ false) × Different ks

abbrev pub Each : (List ℕ → Bool) → List (List ℕ) → Type 0
Each p [] = Unit {0}
Each p (k ∷ ks) = (p k ≡ true) × Each p ks

-- different keys that pass the test are at most n
abbrev pub AtMost : ℕ → (List ℕ → Bool) → Type 0
AtMost n p = (ks : List (List ℕ)) → Different ks → Each p ks → length ks ≤ n

abbrev pub passed_by : Stance → Group → Bool
passed_by Idle g = false
passed_by (Holds h) g = h.passed g
passed_by (Left l) g = false

abbrev pub passed_at : Option Cell → (ℕ → Stance) → Group → Bool
passed_at None stances g = false
passed_at (Some (Free code)) stances g = false
passed_at (Some (Held i m p)) stances g = passed_by (stances i) g

-- the present row is in the group, or the writer has passed the group's test for the new one
abbrev pub claims_at : List Table → Option Cell → (ℕ → Stance) → Group → List ℕ → Bool
claims_at tables x stances g k = in_group tables g k (present_at_cell x) || passed_at x stances g

abbrev pub claims : List Table → Content → (ℕ → Stance) → Group → List ℕ → Bool
claims tables c stances g k = claims_at tables (cell_at c k) stances g k

pub record Good (tables : List Table) (c : Content) (stances : ℕ → Stance) : Type 0 where
  pub owns : (j : ℕ) → Owns c j (stances j)
  pub keys : (k : List ℕ) → KeyGood tables (cell_at c k) (is_there c) stances k
  pub limits : (g : Group) → AtMost (group_bound tables g) (claims tables c stances g)

-- ---- what each client's view says by itself

pub record FlightFits (tables : List Table) (f : Flight) : Type 0 where
  pub write : IsWrite tables f.write
  pub read : MayStandAt tables (flight_key tables f) f.read
  pub granted : IsGranted tables f
  pub new : MayStandAt tables (flight_key tables f) (new_code tables f)

abbrev pub StageFits : List Table → Flight → Stage → Type 0
StageFits tables f (Checking check left) = Unit {0}
StageFits tables f (Adding entry left added) = (e : List ℕ)
    → (is_new tables f e ≡ true → (is_old tables f e || (has_entry e added || has_entry e (entry ∷ left))) ≡ true)
    × (has_entry e added ≡ true → is_new tables f e ≡ true)
    × (has_entry e (entry ∷ left) ≡ true → is_new tables f e ≡ true)
StageFits tables f (Testing place left passed) = (l : ℕ)
    → (has_place l (flight_tests tables f) ≡ true → (has_place l passed || has_place l (place ∷ left)) ≡ true)
StageFits tables f Putting = Unit {0}
StageFits tables f (Clearing entry left) = ((e : List ℕ) → has_entry e (entry ∷ left) ≡ true
    → (is_new tables f e ≡ false) × (is_old tables f e ≡ true)) × Different (entry ∷ left)
StageFits tables f Freeing = Unit {0}
StageFits tables f (Undoing entry left refusal) = ((e : List ℕ) → has_entry e (entry ∷ left) ≡ true
    → (is_old tables f e ≡ false) × (is_new tables f e ≡ true)) × Different (entry ∷ left)
StageFits tables f (Releasing refusal) = Unit {0}

abbrev pub NextFits : List Table → View → Next → Type 0
NextFits tables v Reading = Unit {0}
NextFits tables v (Taking f) = FlightFits tables f × (write_at v.writes v.at ≡ Some f.write)
NextFits tables v (Looking f) = FlightFits tables f × (write_at v.writes v.at ≡ Some f.write)
NextFits tables v (Flying f stage) =
    FlightFits tables f × (write_at v.writes v.at ≡ Some f.write) × StageFits tables f stage

pub record ViewFits (tables : List Table) (v : View) : Type 0 where
  pub small : v.number < 2 ^ 32
  pub from_one : 1 ≤ v.at
  pub writes : All (IsWrite tables) v.writes
  pub few : length v.writes < 2 ^ 32
  pub next : NextFits tables v v.next

-- ---- the pairs of a content

-- each pair of a row has a row's code there, free or held, or is held with nothing; each entry is one of some row and
-- has no value; all other pairs are as at entry
pub record IsShaped (tables : List Table) (c : Content) (others : List ℕ → Option (List ℕ)) : Type 0 where
  pub rows : (k value : List ℕ) → is_in_space 2 k ≡ true → get c k ≡ Some value
      → MayStandAt tables k (present_in (cell_of value))
  pub entries : (e value : List ℕ) → is_in_space 3 e ≡ true → get c e ≡ Some value
      → ((k : List ℕ) × Names tables k e) × (value ≡ [])
  pub beside : (q : List ℕ) → is_of_rows q ≡ false → get c q ≡ others q
