-- Values that are asked for at once, where changes give some of them.
use Rattle.std.specs.Prelude.{ℕ, List, [], ◌∷◌, Option, None, Some, is_none, if◌then◌else◌}
use Rattle.pq_content.specs.Pairs.{Change}
use Rattle.pq_pending.specs.Pending.{changed_value, value_or}

-- what is asked of the store for a key: nothing where a change gives its value
abbrev pub open_key : List Change → Option (List ℕ) → Option (List ℕ)
open_key changes None = None
open_key changes (Some key) = if is_none (changed_value changes key) then Some key else None

-- the value of a key: what a change gives it, or else what the store answered
abbrev pub joined_value : List Change → Option (List ℕ) → Option (List ℕ) → Option (List ℕ)
joined_value changes None stored = None
joined_value changes (Some key) stored = value_or (changed_value changes key) stored

-- the values of keys, one by one
abbrev pub joined_values : List Change → List (Option (List ℕ)) → List (Option (List ℕ)) → List (Option (List ℕ))
joined_values changes (key ∷ keys) (stored ∷ rest) = joined_value changes key stored ∷ joined_values changes keys rest
joined_values changes _ _ = []
