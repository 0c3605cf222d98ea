-- Changes that are found by their keys.
use Rattle.std.specs.Prelude.{◌≡◌, ℕ, nat_eq, Bool, List}
use Rattle.std.specs.Cmp.Lexicographic.{pointwise}
use Rattle.std.specs.List.{position_from}
use Rattle.std.specs.Map.{lookup}
use Rattle.std.specs.Ordering.{eq_by_cmp}
use Rattle.std.specs.Global.{Vec}
use Rattle.pq_row_code.specs.declared.changes.Change.{Change as Coded}
use Rattle.pq_store.specs.Content.{key_cmp}

-- whether a change is of this key
abbrev pub is_of : List ℕ → Coded → Bool
is_of key change = eq_by_cmp key_cmp change.key key

-- the map has of each key the place of its change
abbrev pub HavePlaces : List (Vec ℕ × ℕ) → List Coded → Type 0
HavePlaces places changes =
    (key : List ℕ) → lookup (λ (held : Vec ℕ). pointwise nat_eq key held.items) places ≡ position_from (is_of key) 0 changes
