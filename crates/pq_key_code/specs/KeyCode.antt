-- The key code: bytes whose order is the order of the values, and the keys of the store.
use Rattle.std.specs.Prelude.{ℕ, zero, suc, ℤ, pos, negsuc, ◌+◌, ◌-◌, ◌^◌, ◌<◌, Bool, true, false, List, [], ◌∷◌, ◌++◌, map, length, replicate}
use Rattle.std.specs.Int.{w16, w64, to_be_bytes}
use Rattle.pq_base.specs.declared.value.Dir.{Dir}
use Rattle.pq_base.specs.declared.value.Dir.TheVariants.{Asc, Desc}
use Rattle.pq_base.specs.declared.value.Value.{Value}
use Rattle.pq_base.specs.declared.value.Value.TheVariants as values

-- each is a byte
abbrev pub IsBytes : List ℕ → Type 0
IsBytes [] = Unit {0}
IsBytes (b ∷ bs) = (b < 256) × IsBytes bs

-- the 64 bits of a number with the sign bit flipped: how far it is above the least one
abbrev pub above_least : ℤ → ℕ
above_least (pos n) = 2 ^ 63 + n
above_least (negsuc n) = 2 ^ 63 - suc n

abbrev pub truth_byte : Bool → ℕ
truth_byte false = 0
truth_byte true = 1

-- 00 is written 00 FF
abbrev pub escaped_text : List ℕ → List ℕ
escaped_text [] = []
escaped_text (zero ∷ bs) = 0 ∷ 255 ∷ escaped_text bs
escaped_text (suc b ∷ bs) = suc b ∷ escaped_text bs

-- no byte, eight bytes, one byte, or the escaped bytes and 00 01
abbrev pub payload : Value → List ℕ
payload values.Null = []
payload (values.Int z) = to_be_bytes w64 (above_least z)
payload (values.Bool b) = truth_byte b ∷ []
payload (values.Text t) = escaped_text t ++ 0 ∷ 1 ∷ []

-- a descending component complements each payload byte, and not the marker
abbrev pub turned_byte : Dir → ℕ → ℕ
turned_byte Asc b = b
turned_byte Desc b = 255 - b

-- NULL comes first where values ascend, and last where they descend
abbrev pub null_marker : Dir → ℕ
null_marker Asc = 8
null_marker Desc = 24

-- the marker of NULL, and 10 of each other value
abbrev pub marker : Dir → Value → ℕ
marker d values.Null = null_marker d
marker d (values.Int z) = 16
marker d (values.Bool b) = 16
marker d (values.Text t) = 16

abbrev pub component : Dir → Value → List ℕ
component d x = marker d x ∷ map (turned_byte d) (payload x)

-- a component for each place that has a direction
abbrev pub code_of : List Dir → List Value → List ℕ
code_of (d ∷ ds) (x ∷ xs) = component d x ++ code_of ds xs
code_of _ _ = []

-- above every code that goes on from this one
abbrev pub past_code : List ℕ → List ℕ
past_code code = code ++ 32 ∷ []

-- the key of a definition: space 01 and the number in two bytes
abbrev pub catalog_key : ℕ → List ℕ
catalog_key number = 1 ∷ to_be_bytes w16 number

-- the key of a row: space 02, the table's number, and the code of the primary key
abbrev pub row_key : ℕ → List Value → List ℕ
row_key table key = 2 ∷ table ∷ code_of (replicate (length key) Asc) key

-- the key of an index entry: space 03, the table's and the index's number, and the code of the sequence
abbrev pub entry_key : ℕ → ℕ → List Dir → List Value → List ℕ
entry_key table index dirs row = 3 ∷ table ∷ index ∷ code_of dirs row

-- the key of the intent
abbrev pub intent_key : List ℕ
intent_key = 4 ∷ []
