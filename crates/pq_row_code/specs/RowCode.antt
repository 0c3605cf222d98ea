-- The row code: the number of columns, which of them are NULL, and each other column's bytes.
use Rattle.std.specs.Prelude.{ℕ, ◌≤◌, ◌+◌, ◌*◌, ◌/◌, ◌%◌, ◌==◌, if◌then◌else◌, List, [], ◌∷◌, ◌++◌, length}
use Rattle.std.specs.List.{flat_map}
use Rattle.std.specs.Int.{w16, w64, to_be_bytes, cast_unsigned}
use Rattle.pq_base.specs.declared.value.Value.{Value}
use Rattle.pq_base.specs.declared.value.Value.TheVariants as values
use Rattle.pq_key_code.specs.KeyCode.{truth_byte}

-- eight bytes in two's complement, one byte, or two bytes of length and the bytes; a NULL has none
abbrev pub field : Value → List ℕ
field values.Null = []
field (values.Int z) = to_be_bytes w64 (cast_unsigned w64 z)
field (values.Bool b) = truth_byte b ∷ []
field (values.Text t) = to_be_bytes w16 (length t) ++ t

abbrev pub fields : List Value → List ℕ
fields xs = flat_map field xs

abbrev pub mark_of : Value → ℕ
mark_of values.Null = 1
mark_of (values.Int z) = 0
mark_of (values.Bool b) = 0
mark_of (values.Text t) = 0

-- the number whose bit i is set exactly where column i is NULL
abbrev pub null_marks : List Value → ℕ
null_marks [] = 0
null_marks (x ∷ xs) = mark_of x + 2 * null_marks xs

-- four bytes, the highest first; of more than 32 columns the first is no byte
abbrev pub mark_bytes : ℕ → List ℕ
mark_bytes n = (n / 16777216) ∷ ((n / 65536) % 256) ∷ ((n / 256) % 256) ∷ (n % 256) ∷ []

-- where some column is NULL, 40 more (hexadecimal) and the marks follow the number of columns
abbrev pub row_front : ℕ → ℕ → List ℕ
row_front columns marks = if marks == 0 then columns ∷ [] else (columns + 64) ∷ mark_bytes marks

abbrev pub row_code : List Value → List ℕ
row_code xs = row_front (length xs) (null_marks xs) ++ fields xs

-- a text has at most 1,000 bytes
abbrev pub IsShort : Value → Type 0
IsShort values.Null = Unit {0}
IsShort (values.Int z) = Unit {0}
IsShort (values.Bool b) = Unit {0}
IsShort (values.Text t) = length t ≤ 1000
