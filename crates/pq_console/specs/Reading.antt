-- What was read of a source.
use Rattle.std.specs.Prelude.{◌≡◌, ℕ, ◌+◌, ◌≤◌, List, [], ◌∷◌, ◌++◌, length, Option}
use Rattle.std.specs.Io.KnownBytes.{prepend_known, IsAtEnd}
use Rattle.pq_console.specs.declared.reading.Ending.{Ending}
use Rattle.pq_console.specs.declared.reading.Ending.TheVariants.{Whole, Faulted, TooLong}

-- the bytes that a script may have
abbrev pub script_limit : ℕ
script_limit = 16777216

-- these bytes of the source were read: to its end, up to a fault or a stop, or up to the limit with one byte besides
abbrev pub TookBytes : Ending → Option (List ℕ) → Option (List ℕ) → List ℕ → Type 0
TookBytes Whole left left_now bytes = (left ≡ prepend_known bytes left_now) × IsAtEnd left_now
    × (length bytes ≤ script_limit)
TookBytes Faulted left left_now bytes = (left ≡ prepend_known bytes left_now) × (length bytes ≤ script_limit)
TookBytes TooLong left left_now bytes = (next : ℕ) × (left ≡ prepend_known (bytes ++ next ∷ []) left_now)
    × (length bytes ≡ script_limit)

-- between these counts of a source, told or not: one byte more than a script may have where there were more,
-- and else at most as many
abbrev pub CountsBytes : Ending → ℕ → ℕ → Type 0
CountsBytes Whole count count_now = count_now ≤ count + script_limit
CountsBytes Faulted count count_now = count_now ≤ count + script_limit
CountsBytes TooLong count count_now = count_now ≡ count + (script_limit + 1)

-- how many bytes were taken behind the limit
abbrev pub bytes_past : Ending → ℕ
bytes_past Whole = 0
bytes_past Faulted = 0
bytes_past TooLong = 1
