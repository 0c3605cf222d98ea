-- The rows of a table that has one more column: each has the column's default behind its values.
use Rattle.std.specs.Prelude.{ℕ, ◌==◌, if◌then◌else◌, List, [], ◌∷◌, ◌++◌, map}
use Rattle.pq_base.specs.declared.value.Value.{Value}
use Rattle.pq_schema.specs.Rows.{Rows}

-- a row of the table of number u, where that of number t has the column
abbrev pub grown_row : ℕ → Value → ℕ → List Value → List Value
grown_row t filler u row = if u == t then row ++ filler ∷ [] else row

-- the same with the table's number
abbrev pub with_filler : ℕ → Value → ℕ × List Value → ℕ × List Value
with_filler t filler e = (e.0, grown_row t filler e.0 e.1)

abbrev pub grown_rows : ℕ → Value → Rows → Rows
grown_rows t filler rows = map (with_filler t filler) rows
