-- What a write makes of the groups of counters: which group a row leaves and into which one it comes.
use Rattle.std.specs.Prelude.{ℕ, ◌+◌, ◌-◌, Bool, false, nat_le, ◌==◌, if◌then◌else◌, List, [], ◌∷◌, ◌++◌, flat_map, Option, Some, None, option_map}
use Rattle.std.specs.List as lists
use Rattle.pq_base.specs.declared.value.Value.{Value}
use Rattle.pq_base.specs.Values.{has_null}
use Rattle.pq_content.specs.Pairs.{Change}
use Rattle.pq_content.specs.Tables.{Rows, cells, same_values}
use Rattle.pq_tallies.specs.Counters.{most_count, tally, counter_key, stored_count}
use Rattle.pq_tallies.specs.Defined.{NumberedCounter}
use Rattle.pq_tallies.specs.declared.moves.MovedKeys.{MovedKeys}

-- ---- groups

-- the values of the group that a row leaves, and of the one that a row comes into
pub record GroupMove : Type 0 where
  pub from : Option (List Value)
  pub to : Option (List Value)

abbrev pub no_move : GroupMove
no_move = record { from = None; to = None }

-- the values of the group that a row is in; one with NULL at the columns is in none
abbrev pub group_in : NumberedCounter → List Value → Option (List Value)
group_in counter row = if has_null (cells counter.cols row) then None else Some (cells counter.cols row)

-- of the row that goes and the one that comes; where the values stay, nothing moves
abbrev pub moved : NumberedCounter → Option (List Value) → Option (List Value) → GroupMove
moved counter (Some old) (Some new) =
    if same_values (cells counter.cols old) (cells counter.cols new) then no_move
    else record { from = group_in counter old; to = group_in counter new }
moved counter (Some old) None = record { from = group_in counter old; to = None }
moved counter None (Some new) = record { from = None; to = group_in counter new }
moved counter None None = no_move

-- only counters of the written table
abbrev pub move_in : ℕ → Option (List Value) → Option (List Value) → NumberedCounter → GroupMove
move_in t old new counter = if t == counter.table then moved counter old new else no_move

-- the key of a group, and those of a move
abbrev pub group_key : ℕ → Option (List Value) → Option (List ℕ)
group_key number group = option_map (counter_key number) group

abbrev pub moved_keys : ℕ → GroupMove → MovedKeys
moved_keys number move = record { from = group_key number move.from; to = group_key number move.to }

-- ---- the changes of pairs

abbrev pub left_changes : Rows → NumberedCounter → Option (List Value) → List Change
left_changes rows counter None = []
left_changes rows counter (Some values) =
    (counter_key counter.number values, stored_count (tally rows counter values - 1)) ∷ []

abbrev pub joined_changes : Rows → NumberedCounter → Option (List Value) → List Change
joined_changes rows counter None = []
joined_changes rows counter (Some values) =
    (counter_key counter.number values, stored_count (tally rows counter values + 1)) ∷ []

abbrev pub move_changes : Rows → NumberedCounter → GroupMove → List Change
move_changes rows counter move = left_changes rows counter move.from ++ joined_changes rows counter move.to

abbrev pub moves_changes : List NumberedCounter → Rows → ℕ → Option (List Value) → Option (List Value) → List Change
moves_changes counters rows t old new =
    flat_map (λ counter. move_changes rows counter (move_in t old new counter)) counters

-- ---- a group that is full

abbrev pub is_full_group : Rows → NumberedCounter → Option (List Value) → Bool
is_full_group rows counter None = false
is_full_group rows counter (Some values) = nat_le most_count (tally rows counter values)

abbrev pub lacks_count : Rows → ℕ → Option (List Value) → Option (List Value) → NumberedCounter → Bool
lacks_count rows t old new counter = is_full_group rows counter (move_in t old new counter).to

-- the first counter, in the order of definition, of which a group would grow that is full
abbrev pub first_full : List NumberedCounter → Rows → ℕ → Option (List Value) → Option (List Value)
    → Option NumberedCounter
first_full counters rows t old new = lists.find (lacks_count rows t old new) counters
