-- The groups that a write moves, and what it makes of the values that are found for them.
use Rattle.std.specs.Prelude.{◌≡◌, ◌⊎◌, ℕ, ◌+◌, ◌-◌, ◌≤◌, ◌<◌, Bool, true, false, List, [], ◌∷◌, ◌++◌, map, length, Option, Some, None}
use Rattle.std.specs.List.{AllZip}
use Rattle.std.specs.FinMap.{get}
use Rattle.pq_base.specs.declared.refusal.Refusal.{Refusal}
use Rattle.pq_base.specs.declared.value.Value.{Value}
use Rattle.pq_schema.specs.Counters.{IsCounterNumber}
use Rattle.pq_schema.specs.Schema.{Schema}
use Rattle.pq_content.specs.Pairs.{Change, is_of_counters}
use Rattle.pq_content.specs.Standing.{change_of}
use Rattle.pq_store.specs.Content.{Content}
use Rattle.pq_store.specs.Rounds.{IsValueOf}
use Rattle.pq_store.specs.declared.damage.Broke.{Broke}
use Rattle.pq_store.specs.declared.damage.Broke.TheVariants as broke
use Rattle.pq_store.specs.declared.damage.Damage.{Damage}
use Rattle.pq_index_keep.specs.declared.plan.Planned.{Planned}
use Rattle.pq_index_keep.specs.declared.plan.Planned.TheVariants as planned
use Rattle.pq_tallies.specs.Counters.{most_count, stored_count, IsNoCountCode}
use Rattle.pq_tallies.specs.Defined.{NumberedCounter, counter_numbered}
use Rattle.pq_tallies.specs.Moves.{group_key, move_in}
use Rattle.pq_tallies.specs.Writes.{counter_full}
use Rattle.pq_counters.specs.Evidence.{IsCounted}
use Rattle.pq_counters.specs.declared.moved.MovedGroup.{MovedGroup}

-- ---- what is asked

-- the group with this key, where there is one
abbrev pub group_with : Bool → ℕ → Option (List ℕ) → List MovedGroup
group_with comes number None = []
group_with comes number (Some key) = record { at = key; number = number; comes = comes } ∷ []

-- the group that a row leaves, and behind it the one that a row comes into
abbrev pub groups_of : ℕ → Option (List Value) → Option (List Value) → NumberedCounter → List MovedGroup
groups_of t old new counter =
    group_with false counter.number (group_key counter.number (move_in t old new counter).from)
    ++ group_with true counter.number (group_key counter.number (move_in t old new counter).to)

-- those of the counter with this number
abbrev pub groups_at : Schema → ℕ → Option (List Value) → Option (List Value) → ℕ → List MovedGroup
groups_at schema t old new number = groups_of t old new (counter_numbered schema number)

-- what the store is asked for
abbrev pub asked_key : MovedGroup → Option (List ℕ)
asked_key group = Some group.at

-- a group of a counter of the schema, with a key that an intent can hold
pub record IsMovedGroup (schema : Schema) (group : MovedGroup) : Type 0 where
  pub number : IsCounterNumber schema group.number
  pub small : length group.at ≤ 9000
  pub of_counters : is_of_counters group.at ≡ true

-- ---- what is made of the values that are found

-- one row more or one row less than this number
abbrev pub TurnsTo : Bool → List ℕ → ℕ → Change → Type 0
TurnsTo true key n change = (n < most_count) × (change ≡ (key, stored_count (n + 1)))
TurnsTo false key n change = (1 ≤ n) × (n ≤ most_count) × (change ≡ (key, stored_count (n - 1)))

-- the change of the group's pair, of which this value is found
abbrev pub IsTurned : MovedGroup → Option (List ℕ) → Change → Type 0
IsTurned group found change = (n : ℕ) × IsCounted found n × TurnsTo group.comes group.at n change

-- no row more may come into the group
abbrev pub IsFull : MovedGroup → Option (List ℕ) → Type 0
IsFull group found = (group.comes ≡ true) × IsCounted found most_count

-- behind the changes before, those of the groups in turn, up to the first that is full
abbrev pub PlansFound : Schema → List MovedGroup → List (Option (List ℕ)) → List Change → List Change → Option Refusal
    → Type 0
PlansFound schema [] found before after full = (full ≡ None) × (after ≡ before)
PlansFound schema (group ∷ groups) [] before after full = ⊥
PlansFound schema (group ∷ groups) (value ∷ found) before after full =
    (IsFull group value × (full ≡ Some (counter_full (counter_numbered schema group.number))))
    ⊎ ((change : Change) × IsTurned group value change
    × PlansFound schema groups found (before ++ change ∷ []) after full)

-- the same as a plan
abbrev pub PlansGroups : Schema → List MovedGroup → List (Option (List ℕ)) → Planned → Type 0
PlansGroups schema groups found (planned.Changes changes) =
    PlansFound schema groups found [] (map change_of changes) None
PlansGroups schema groups found (planned.Refused why) =
    (after : List Change) × PlansFound schema groups found [] after (Some why)

-- the value at the group's key
abbrev pub value_in : Content → MovedGroup → Option (List ℕ)
value_in content group = get content group.at

-- ---- damage

-- no number is found
abbrev pub SpoilsCount : Option (List ℕ) → Type 0
SpoilsCount None = ⊥
SpoilsCount (Some code) = IsNoCountCode code

-- no number is found, or nothing where a row leaves the group
abbrev pub SpoilsValue : Bool → Option (List ℕ) → Type 0
SpoilsValue comes None = comes ≡ false
SpoilsValue comes (Some code) = IsNoCountCode code

-- what is told is what was found at the group's key
pub record SpoilsGroup (group : MovedGroup) (found : Option (List ℕ)) (damage : Damage) : Type 0 where
  pub at : damage.key ≡ group.at
  pub has : damage.value ≡ found
  pub spoilt : SpoilsValue group.comes found

-- the same of one of the groups
abbrev pub SpoilsFound : List MovedGroup → List (Option (List ℕ)) → Damage → Type 0
SpoilsFound [] found damage = ⊥
SpoilsFound (group ∷ groups) [] damage = ⊥
SpoilsFound (group ∷ groups) (value ∷ found) damage = SpoilsGroup group value damage ⊎ SpoilsFound groups found damage

-- no memory, or damage like this
abbrev pub IsSpoilt : (Damage → Type 0) → Broke → Type 0
IsSpoilt spoils broke.Failed = ⊥
IsSpoilt spoils broke.NoMem = Unit {0}
IsSpoilt spoils (broke.Damaged damage) = spoils damage

-- what was found for one of the groups, in the content where that is told
abbrev pub SpoilsGroups : List MovedGroup → Option Content → Damage → Type 0
SpoilsGroups groups told damage = (found : List (Option (List ℕ)))
    × AllZip (IsValueOf told) (map asked_key groups) found × SpoilsFound groups found damage
