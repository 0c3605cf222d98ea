-- What a cursor shows: what the tokens that are left stand for.
use Rattle.std.specs.Prelude.{ℕ, ◌+◌, ◌<◌, ◌≤◌, ◌^◌, List, [], ◌∷◌, length, drop, Option, Some, None}
use Rattle.std.specs.Bool.{IsTrue}
use Rattle.std.specs.Str.{is_utf8}
use Rattle.pq_text.specs.Tokens.{text_limit, tokens_from}
use Rattle.pq_text.specs.declared.token.Token.{Token}
use Rattle.pq_shape.specs.Numbers.{digits_number}
use Rattle.pq_shape.specs.Shape.{Shape}
use Rattle.pq_shape.specs.Shape as shape
use Rattle.pq_shape.specs.Shapes.{between_quotes, lowercase_bytes, number_or_other, shapes_of, text_shape, utf8_text}
use Rattle.pq_shape.specs.declared.behind.Behind.{Behind}
use Rattle.pq_shape.specs.declared.behind.Behind.TheVariants as behind
use Rattle.pq_shape.specs.declared.next.Sort.{Sort}
use Rattle.pq_shape.specs.declared.next.Sort.TheVariants as sort

-- what bytes of this sort stand for
abbrev pub shape_seen : Sort → List ℕ → Shape
shape_seen (sort.Keyword k) bs = shape.Keyword k
shape_seen sort.Name bs = shape.Name (lowercase_bytes bs)
shape_seen sort.Number bs = number_or_other (digits_number bs)
shape_seen sort.Text bs = text_shape (utf8_text (between_quotes bs))
shape_seen (sort.Mark c) bs = shape.Mark c
shape_seen sort.Other bs = shape.Other

-- the bytes of a name are UTF-8 in small letters
abbrev pub IsNamed : Sort → List ℕ → Type 0
IsNamed (sort.Keyword k) bs = Unit {0}
IsNamed sort.Name bs = IsTrue (is_utf8 (lowercase_bytes bs))
IsNamed sort.Number bs = Unit {0}
IsNamed sort.Text bs = Unit {0}
IsNamed (sort.Mark c) bs = Unit {0}
IsNamed sort.Other bs = Unit {0}

-- the tokens behind the next one
abbrev pub tokens_behind : List ℕ → Behind → List Token
tokens_behind text (behind.Text at) = tokens_from 0 at (drop at text)
tokens_behind text (behind.Tokens ts) = ts.now

-- places and counts stay within their words
abbrev pub IsWithin : List ℕ → Behind → Type 0
IsWithin text (behind.Text at) = (length text ≤ text_limit) × (at ≤ length text)
IsWithin text (behind.Tokens ts) = length ts.now + 1 < 2 ^ 64

-- the next token, if there is one, and those behind it
abbrev pub shapes_left : List ℕ → Option Shape → Behind → List Shape
shapes_left text None b = []
shapes_left text (Some s) b = s ∷ shapes_of text (tokens_behind text b)
