-- The cursor of a page: the number of the query's definition and a position, as a text.
use Rattle.std.specs.Prelude.{◌≡◌, ℕ, List, ◌∷◌, ◌++◌, take, drop, Option, None, if◌then◌else◌}
use Rattle.std.specs.Option.{option_and_then}
use Rattle.std.specs.Int.{w16, to_be_bytes}
use Rattle.std.specs.Str.{bytes_eq}
use Rattle.base64.specs.Engines.{url_safe_no_pad}
use Rattle.base64.specs.GeneralPurpose.{encode_of, decoded_of}
use Rattle.pq_base.specs.Values.{AllFit}
use Rattle.pq_base.specs.declared.refusal.Refusal.TheVariants as refusal
use Rattle.pq_base.specs.declared.refusal.Stopped.{Stopped}
use Rattle.pq_base.specs.declared.refusal.Stopped.TheVariants as stopped
use Rattle.pq_base.specs.declared.value.ColType.{ColType}
use Rattle.pq_base.specs.declared.value.Dir.{Dir}
use Rattle.pq_base.specs.declared.value.Value.{Value}
use Rattle.pq_key_code.specs.KeyCode.{code_of}
use Rattle.pq_key_code.specs.KeyReading.{key_at}

-- the format, and the number of the query's definition in two bytes
abbrev pub cursor_head : ℕ → List ℕ
cursor_head number = 1 ∷ to_be_bytes w16 number

-- and behind these the key code of the position
abbrev pub cursor_bytes : ℕ → List Dir → List Value → List ℕ
cursor_bytes number dirs position = cursor_head number ++ code_of dirs position

-- as the URL-safe engine without padding encodes them
unfoldable pub cursor_text : ℕ → List Dir → List Value → List ℕ
cursor_text number dirs position = encode_of url_safe_no_pad (cursor_bytes number dirs position)

-- the text is the cursor of this position, which fits the types
pub record IsCursorOf (number : ℕ) (types : List ColType) (dirs : List Dir) (text : List ℕ)
    (position : List Value) : Type 0 where
  pub fits : AllFit types position
  pub is : text ≡ cursor_text number dirs position

-- the position that bytes hold behind the query's head
abbrev pub position_behind : ℕ → List ColType → List Dir → List ℕ → Option (List Value)
position_behind number types dirs bytes =
    if bytes_eq (take 3 bytes) (cursor_head number) then key_at types dirs (drop 3 bytes) else None

-- the position whose cursor the text is, where it is one
unfoldable pub position_in : ℕ → List ColType → List Dir → List ℕ → Option (List Value)
position_in number types dirs text =
    option_and_then (position_behind number types dirs) (decoded_of url_safe_no_pad text)

-- the text is the cursor of no position that fits the types
pub record IsNoCursor (number : ℕ) (types : List ColType) (dirs : List Dir) (text : List ℕ) : Type 0 where
  pub none : (position : List Value) → IsCursorOf number types dirs text position → ⊥
  pub unread : position_in number types dirs text ≡ None

-- why a text is not read: it is refused as no cursor, and is none, or there was no memory
abbrev pub WhyUnread : ℕ → List ColType → List Dir → List ℕ → Stopped → Type 0
WhyUnread number types dirs text (stopped.Refused why) = (why ≡ refusal.Cursor) × IsNoCursor number types dirs text
WhyUnread number types dirs text stopped.NoMem = Unit {0}
