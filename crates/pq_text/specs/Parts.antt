-- A script in parts.
use Rattle.std.specs.Prelude.{ℕ, List, [], ◌∷◌, ◌++◌}
use Rattle.std.specs.Borrow.{Bor}

-- the parts, one behind the other
abbrev pub joined_parts : List (Bor (List ℕ)) → List ℕ
joined_parts [] = []
joined_parts (part ∷ parts) = part.now ++ joined_parts parts
