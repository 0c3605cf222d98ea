-- What stands first, found from its first bytes.
use Rattle.std.specs.Prelude.{ℕ, ◌+◌, not, ◌==◌, ◌||◌, ◌&&◌, List, length, take_while, Option, Some, None, if◌then◌else◌, min}
use Rattle.std.specs.Char.{is_ascii_digit}
use Rattle.pq_text.specs.Bytes.{next_is, is_white, is_letter, is_word_byte, is_mark, is_double_mark}
use Rattle.pq_text.specs.Forms.{text_end}
use Rattle.pq_text.specs.Tokens.{char_len}
use Rattle.pq_text.specs.declared.token.Kind.{Kind}
use Rattle.pq_text.specs.declared.token.Kind.TheVariants as kind

abbrev pub text_or_open : Option ℕ → ℕ → Kind × ℕ
text_or_open None len = (kind.Other, len)
text_or_open (Some n) len = (kind.Text, n + 1)

-- the first token of b ∷ bs, where none of it is left out, and how many bytes it has
unfoldable pub first_token : ℕ → List ℕ → Kind × ℕ
first_token b bs =
    if is_letter b then (kind.Word, length (take_while is_word_byte bs) + 1)
    else if is_ascii_digit b || (b == 45 && next_is is_ascii_digit bs) then (kind.Number, length (take_while is_ascii_digit bs) + 1)
    else if b == 39 then text_or_open (text_end bs) (length bs + 1)
    else if is_mark b then (kind.Mark, if next_is (is_double_mark b) bs then 2 else 1)
    else (kind.Other, min (char_len b) (length bs + 1))

-- how many bytes of b ∷ bs are left out
unfoldable pub left_out : ℕ → List ℕ → ℕ
left_out b bs =
    if is_white b then 1
    else if b == 45 && next_is (λ c. c == 45) bs then length (take_while (λ c. not (c == 10)) bs) + 1
    else 0
