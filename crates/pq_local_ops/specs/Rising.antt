-- Columns whose values can be moved out of the one row that has them.
use Rattle.std.specs.Prelude.{ℕ, ◌+◌, Bool, true, ◌&&◌, ◌==◌, nat_le, nat_lt, List, [], ◌∷◌, slice_index_or}
use Rattle.std.specs.List.{list_all}
use Rattle.pq_base.specs.declared.value.Value.{Value}
use Rattle.pq_schema.specs.declared.query.ColRef.{ColRef}
use Rattle.pq_schema.specs.Rows.{no_value}

-- all are of this relation
abbrev pub are_of : ℕ → List ColRef → Bool
are_of rel cols = list_all (λ col. col.rel == rel) cols

-- each stands behind the one before it, the first not before this place, and none beyond the end
abbrev pub are_rising : ℕ → ℕ → List ColRef → Bool
are_rising from end [] = true
are_rising from end (col ∷ rest) = (nat_le from col.col && nat_lt col.col end) && are_rising (col.col + 1) end rest

-- the value at a column of its row
abbrev pub value_in : List Value → ColRef → Value
value_in row col = slice_index_or row col.col no_value
