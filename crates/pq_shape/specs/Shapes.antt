-- What a token stands for.
use Rattle.std.specs.Prelude.{ℕ, ℤ, suc, ◌+◌, ◌-◌, ◌*◌, ◌==◌, Bool, false, nat_le, List, [], ◌∷◌, ◌++◌, length, map, slice_index, slice_range, bytes_eq, Option, Some, None, if◌then◌else◌}
use Rattle.std.specs.Option.{option_map}
use Rattle.std.specs.Char.{to_ascii_lowercase}
use Rattle.std.specs.Str.{is_utf8}
use Rattle.pq_base.specs.Words.{uppercase_byte, keywords}
use Rattle.pq_text.specs.declared.token.Kind.{Kind}
use Rattle.pq_text.specs.declared.token.Kind.TheVariants as kind
use Rattle.pq_text.specs.declared.token.Token.{Token}
use Rattle.pq_shape.specs.Numbers.{digits_number}
use Rattle.pq_shape.specs.Shape.{Shape}
use Rattle.pq_shape.specs.Shape as shape

-- the bytes of a token
abbrev pub bytes_of : List ℕ → Token → List ℕ
bytes_of text t = slice_range text t.from t.to

-- the place of a word in a list of words
unfoldable pub word_place : List (List ℕ) → List ℕ → Option ℕ
word_place [] w = None
word_place (v ∷ vs) w = if bytes_eq v w then Some 0 else option_map suc (word_place vs w)

abbrev pub lowercase_bytes : List ℕ → List ℕ
lowercase_bytes bs = map to_ascii_lowercase bs

-- the bytes, if they are UTF-8
unfoldable pub utf8_text : List ℕ → Option (List ℕ)
utf8_text bs = if is_utf8 bs then Some bs else None

abbrev pub named_shape : Option (List ℕ) → Shape
named_shape None = shape.Other
named_shape (Some n) = shape.Name n

abbrev pub text_shape : Option (List ℕ) → Shape
text_shape None = shape.Other
text_shape (Some t) = shape.Text t

-- a name has at most 32 bytes, and is read in small letters
abbrev pub name_shape : List ℕ → Shape
name_shape bs = if nat_le (length bs) 32 then named_shape (utf8_text (lowercase_bytes bs)) else shape.Other

abbrev pub keyword_or : Shape → Option ℕ → Shape
keyword_or name None = name
keyword_or name (Some k) = shape.Keyword k

-- a word that the keyword table holds, in any letter case, is no name
abbrev pub word_shape : List ℕ → Shape
word_shape bs = keyword_or (name_shape bs) (word_place keywords (map uppercase_byte bs))

abbrev pub number_or_other : Option ℤ → Shape
number_or_other None = shape.Other
number_or_other (Some z) = shape.Number z

-- a quote behind a quote that stays is left out
abbrev pub kept_byte : Bool → ℕ → List ℕ
kept_byte text_shape b = if text_shape then (if b == 39 then [] else b ∷ []) else b ∷ []

-- the byte is a quote that stays
abbrev pub is_kept_quote : Bool → ℕ → Bool
is_kept_quote text_shape b = if text_shape then false else b == 39

-- each doubled quote once: the flag says that the byte before is a quote that stays
unfoldable pub undoubled_quotes : Bool → List ℕ → List ℕ
undoubled_quotes text_shape [] = []
undoubled_quotes text_shape (b ∷ bs) = kept_byte text_shape b ++ undoubled_quotes (is_kept_quote text_shape b) bs

-- what stands between the quotes of a text
abbrev pub between_quotes : List ℕ → List ℕ
between_quotes bs = undoubled_quotes false (slice_range bs 1 (length bs - 1))

-- a mark by its code: its byte, or 256 times the first of two bytes and the second
abbrev pub mark_code : List ℕ → ℕ
mark_code bs = if nat_le 2 (length bs) then slice_index bs 0 * 256 + slice_index bs 1 else slice_index bs 0

abbrev pub kind_shape : Kind → List ℕ → Shape
kind_shape kind.Word bs = word_shape bs
kind_shape kind.Number bs = number_or_other (digits_number bs)
kind_shape kind.Text bs = text_shape (utf8_text (between_quotes bs))
kind_shape kind.Mark bs = shape.Mark (mark_code bs)
kind_shape kind.Other bs = shape.Other

-- what a token of this text stands for
unfoldable pub shape_of : List ℕ → Token → Shape
shape_of text t = kind_shape t.kind (bytes_of text t)

abbrev pub shapes_of : List ℕ → List Token → List Shape
shapes_of text ts = map (shape_of text) ts
