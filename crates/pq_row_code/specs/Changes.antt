-- The change list: each key with its new value, or its removal.
use Rattle.std.specs.Prelude.{ℕ, ◌<◌, ◌^◌, List, [], ◌∷◌, ◌++◌, length, Option, Some, None, IfSome, All}
use Rattle.std.specs.List.{flat_map}
use Rattle.std.specs.Int.{w16, w32, to_be_bytes}
use Rattle.pq_row_code.specs.declared.changes.Change.{Change}

-- four bytes of length and the bytes
abbrev pub sized_bytes : List ℕ → List ℕ
sized_bytes bytes = to_be_bytes w32 (length bytes) ++ bytes

-- 00 for a removal, or 01 and the value
abbrev pub new_code : Option (List ℕ) → List ℕ
new_code None = 0 ∷ []
new_code (Some bytes) = 1 ∷ sized_bytes bytes

abbrev pub change_code : Change → List ℕ
change_code c = sized_bytes c.key ++ new_code c.new

-- two bytes with the number of changes, and the changes
abbrev pub changes_code : List Change → List ℕ
changes_code cs = to_be_bytes w16 (length cs) ++ flat_map change_code cs

-- key and value have lengths of four bytes
pub record IsChange (c : Change) : Type 0 where
  pub key : length c.key < 2 ^ 32
  pub new : IfSome c.new (λ v. length v < 2 ^ 32)

-- what a change list can hold: at most 65,535 changes
pub record AreChanges (cs : List Change) : Type 0 where
  pub few : length cs < 2 ^ 16
  pub each : All IsChange cs
