-- Reading a key code from left to right: what is read and the bytes after it, or None.
use Rattle.std.specs.Prelude.{ℕ, suc, ℤ, pos, negsuc, ◌-◌, ◌^◌, Bool, true, false, List, [], ◌∷◌, length, map, take, drop, Option, Some, None, nat_lt, ◌==◌, ◌&&◌, if◌then◌else◌}
use Rattle.std.specs.Int.{w64, from_be_bytes}
use Rattle.std.specs.Str.{is_utf8}
use Rattle.pq_base.specs.declared.value.ColType.{ColType}
use Rattle.pq_base.specs.declared.value.DataKind.{DataKind}
use Rattle.pq_base.specs.declared.value.DataKind.TheVariants as kinds
use Rattle.pq_base.specs.declared.value.Dir.{Dir}
use Rattle.pq_base.specs.declared.value.Value.{Value}
use Rattle.pq_base.specs.declared.value.Value.TheVariants as values
use Rattle.pq_base.specs.Values.{kind_of_type, is_nullable, room_of}
use Rattle.pq_key_code.specs.KeyCode.{turned_byte, null_marker}

infixl 10 ◌>>=◌
abbrev pub ◌>>=◌ : {A B : Type 0} → Option A → (A → Option B) → Option B
None >>= f = None
(Some x) >>= f = f x

-- the number that is so far above the least one
abbrev pub from_least : ℕ → ℤ
from_least n = if nat_lt n (2 ^ 63) then negsuc (2 ^ 63 - suc n) else pos (n - 2 ^ 63)

abbrev pub number_at : Dir → List ℕ → Option (ℤ × List ℕ)
number_at d bytes = if nat_lt (length bytes) 8 then None
    else Some (from_least (from_be_bytes w64 (map (turned_byte d) (take 8 bytes))), drop 8 bytes)

abbrev pub truth_at : Dir → List ℕ → Option (Bool × List ℕ)
truth_at d [] = None
truth_at d (b ∷ rest) = if turned_byte d b == 0 then Some (false, rest) else if turned_byte d b == 1
    then Some (true, rest) else None

-- a byte in front of a text that is read
abbrev pub value_behind : ℕ → Option (List ℕ × List ℕ) → Option (List ℕ × List ℕ)
value_behind b read = read >>= λ x. Some (b ∷ x.0, x.1)

unfoldable pub text_value_at : Dir → List ℕ → Option (List ℕ × List ℕ)
text_value_at d [] = None
text_value_at d (b ∷ []) = None
text_value_at d (b ∷ c ∷ rest) =
    if turned_byte d b == 0 then (if turned_byte d c == 1 then Some ([], rest) else if turned_byte d c == 255
    then value_behind 0 (text_value_at d rest) else None)
    else value_behind (turned_byte d b) (text_value_at d (c ∷ rest))

-- a text of at most n bytes
abbrev pub text_within : ℕ → List ℕ → Option (List ℕ)
text_within n t = if nat_lt n (length t) then None else if is_utf8 t then Some t else None

-- a value of a kind, a text of at most n bytes
unfoldable pub payload_at : DataKind → ℕ → Dir → List ℕ → Option (Value × List ℕ)
payload_at kinds.Int n d bytes = number_at d bytes >>= λ x. Some (values.Int x.0, x.1)
payload_at kinds.Bool n d bytes = truth_at d bytes >>= λ x. Some (values.Bool x.0, x.1)
payload_at kinds.Text n d bytes = text_value_at d bytes >>= λ x. text_within n x.0 >>= λ t. Some (values.Text t, x.1)

unfoldable pub component_at : ColType → Dir → List ℕ → Option (Value × List ℕ)
component_at t d [] = None
component_at t d (m ∷ bytes) = if m == 16 then payload_at (kind_of_type t) (room_of t) d bytes
    else if m == null_marker d && is_nullable t then Some (values.Null, bytes) else None

unfoldable pub row_key_at : List ColType → List Dir → List ℕ → Option (List Value × List ℕ)
row_key_at [] ds bytes = Some ([], bytes)
row_key_at (t ∷ ts) [] bytes = Some ([], bytes)
row_key_at (t ∷ ts) (d ∷ ds) bytes = component_at t d bytes >>= λ x. row_key_at ts ds x.1 >>= λ y. Some (x.0 ∷ y.0, y.1)

-- all of the bytes
unfoldable pub key_at : List ColType → List Dir → List ℕ → Option (List Value)
key_at ts ds bytes = row_key_at ts ds bytes >>= λ x. if length x.1 == 0 then Some x.0 else None
