-- Reading a row code from left to right: what is read and the bytes after it, or None.
use Rattle.std.specs.Prelude.{ℕ, ◌+◌, ◌*◌, ◌/◌, ◌%◌, Bool, true, false, List, [], ◌∷◌, length, take, drop, Option, Some, None, nat_lt, ◌==◌, if◌then◌else◌}
use Rattle.std.specs.Int.{Width, w16, w64, byte_len, from_be_bytes, cast_signed}
use Rattle.pq_base.specs.declared.value.Value.{Value}
use Rattle.pq_base.specs.declared.value.Value.TheVariants as values
use Rattle.pq_base.specs.declared.value.ColType.{ColType}
use Rattle.pq_base.specs.declared.value.DataKind.{DataKind}
use Rattle.pq_base.specs.declared.value.DataKind.TheVariants as kinds
use Rattle.pq_base.specs.Values.{kind_of_type, is_nullable, room_of}
use Rattle.pq_key_code.specs.KeyReading.{◌>>=◌, text_within}

-- a number in as many bytes as the width has
abbrev pub bits_at : Width → List ℕ → Option (ℕ × List ℕ)
bits_at w bytes = if nat_lt (length bytes) (byte_len w) then None
    else Some (from_be_bytes w (take (byte_len w) bytes), drop (byte_len w) bytes)

abbrev pub flag_at : List ℕ → Option (Bool × List ℕ)
flag_at [] = None
flag_at (b ∷ rest) = if b == 0 then Some (false, rest) else if b == 1 then Some (true, rest) else None

-- two bytes of length and that many bytes of text, at most n
unfoldable pub string_at : ℕ → List ℕ → Option (List ℕ × List ℕ)
string_at n bytes = bits_at w16 bytes >>= λ k. if nat_lt (length k.1) k.0 then None
    else (text_within n (take k.0 k.1) >>= λ t. Some (t, drop k.0 k.1))

-- a value of a kind, a text of at most n bytes
unfoldable pub field_at : DataKind → ℕ → List ℕ → Option (Value × List ℕ)
field_at kinds.Int n bytes = bits_at w64 bytes >>= λ x. Some (values.Int (cast_signed w64 x.0), x.1)
field_at kinds.Bool n bytes = flag_at bytes >>= λ x. Some (values.Bool x.0, x.1)
field_at kinds.Text n bytes = string_at n bytes >>= λ x. Some (values.Text x.0, x.1)

-- a column with its mark
unfoldable pub cell_at : ColType → ℕ → List ℕ → Option (Value × List ℕ)
cell_at t mark bytes = if mark == 1 then (if is_nullable t then Some (values.Null, bytes) else None)
    else field_at (kind_of_type t) (room_of t) bytes

unfoldable pub fields_at : List ColType → ℕ → List ℕ → Option (List Value × List ℕ)
fields_at [] marks bytes = if marks == 0 then Some ([], bytes) else None
fields_at (t ∷ ts) marks bytes = cell_at t (marks % 2) bytes >>= λ x. fields_at ts (marks / 2) x.1
    >>= λ y. Some (x.0 ∷ y.0, y.1)

abbrev pub marks_at : List ℕ → Option (ℕ × List ℕ)
marks_at (a ∷ b ∷ c ∷ d ∷ rest) = Some (a * 16777216 + b * 65536 + c * 256 + d, rest)
marks_at _ = None

-- the marks of a row with NULL, behind the first byte
abbrev pub marked_front : ℕ → ℕ → List ℕ → Option (ℕ × List ℕ)
marked_front columns k bytes = if k == columns + 64
    then (marks_at bytes >>= λ m. if m.0 == 0 then None else Some m) else None

-- the marks, behind the first byte
unfoldable pub front_at : ℕ → ℕ → List ℕ → Option (ℕ × List ℕ)
front_at columns k bytes = if k == columns then Some (0, bytes) else marked_front columns k bytes

-- all of the bytes
unfoldable pub row_decoded : List ColType → List ℕ → Option (List Value)
row_decoded ts [] = None
row_decoded ts (k ∷ bytes) = front_at (length ts) k bytes >>= λ m. fields_at ts m.0 m.1 >>= λ x. if length x.1 == 0
    then Some x.0 else None

-- the same in two: whether the first byte is that of a row without NULL, and what such a row and one with NULL are

abbrev pub is_plain : List ColType → List ℕ → Bool
is_plain ts [] = false
is_plain ts (k ∷ bytes) = k == length ts

unfoldable pub plain_decoded : List ColType → List ℕ → Option (List Value)
plain_decoded ts [] = None
plain_decoded ts (k ∷ bytes) = fields_at ts 0 bytes >>= λ x. if length x.1 == 0 then Some x.0 else None

unfoldable pub marked_decoded : List ColType → List ℕ → Option (List Value)
marked_decoded ts [] = None
marked_decoded ts (k ∷ bytes) = marked_front (length ts) k bytes >>= λ m. fields_at ts m.0 m.1 >>= λ x. if length x.1 == 0
    then Some x.0 else None
