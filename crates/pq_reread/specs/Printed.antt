-- Printed texts, piece by piece, and the shapes of their tokens.
use Rattle.std.specs.Prelude.{◌≡◌, ℕ, ℤ, ◌==◌, true, false, Bool, List, [], ◌∷◌, flat_map, FitsSigned, IsUtf8}
use Rattle.std.specs.Int.{w64}
use Rattle.std.specs.Fmt.{signed_decimal}
use Rattle.std.specs.Char.{is_ascii_digit}
use Rattle.pq_text.specs.Bytes.{next_is, is_word_byte, is_double_mark}
use Rattle.pq_text.specs.Forms.{is_word_form, is_whole_mark}
use Rattle.pq_shape.specs.Shapes.{word_shape, mark_code}
use Rattle.pq_shape.specs.Shape.{Shape}
use Rattle.pq_shape.specs.Shape as shape
use Rattle.pq_print.specs.Values.{quoted_text}

pub data Piece : Type 0 where
  Word : List ℕ → Piece
  Number : ℤ → Piece
  Text : List ℕ → Piece
  Mark : List ℕ → Piece
  Space : Piece

abbrev pub piece_text : Piece → List ℕ
piece_text (Word w) = w
piece_text (Number z) = signed_decimal z
piece_text (Text t) = quoted_text t
piece_text (Mark m) = m
piece_text Space = 32 ∷ []

abbrev pub piece_shapes : Piece → List Shape
piece_shapes (Word w) = word_shape w ∷ []
piece_shapes (Number z) = shape.Number z ∷ []
piece_shapes (Text t) = shape.Text t ∷ []
piece_shapes (Mark m) = shape.Mark (mark_code m) ∷ []
piece_shapes Space = []

abbrev pub printed_pieces : List Piece → List ℕ
printed_pieces pieces = flat_map piece_text pieces

abbrev pub shapes_printed : List Piece → List Shape
shapes_printed pieces = flat_map piece_shapes pieces

-- no byte
abbrev pub joins_none : ℕ → Bool
joins_none b = false

abbrev pub is_quote : ℕ → Bool
is_quote b = b == 39

-- the bytes that make a mark of one byte one of two
abbrev pub joins_mark : List ℕ → ℕ → Bool
joins_mark [] b = false
joins_mark (a ∷ []) b = is_double_mark a b
joins_mark (a ∷ c ∷ m) b = false

-- the bytes that would join the piece, right behind it
abbrev pub joins : Piece → ℕ → Bool
joins (Word w) b = is_word_byte b
joins (Number z) b = is_ascii_digit b
joins (Text t) b = is_quote b
joins (Mark m) b = joins_mark m b
joins Space b = false

-- a word, a number of 64 bits, a text of UTF-8 bytes, a mark or a space
abbrev pub IsPiece : Piece → Type 0
IsPiece (Word w) = is_word_form w ≡ true
IsPiece (Number z) = FitsSigned w64 z
IsPiece (Text t) = IsUtf8 t
IsPiece (Mark m) = is_whole_mark m ≡ true
IsPiece Space = Unit {0}

-- pieces, of which none joins the one before it; these bytes would join what stands before the first
abbrev pub ArePieces : (ℕ → Bool) → List Piece → Type 0
ArePieces before [] = Unit {0}
ArePieces before (piece ∷ pieces) = IsPiece piece × (next_is before (piece_text piece) ≡ false)
    × ArePieces (joins piece) pieces
