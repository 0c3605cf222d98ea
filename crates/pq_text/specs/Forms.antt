-- The forms of tokens and of what stands between them, as tests on the bytes of one token.
use Rattle.std.specs.Prelude.{ℕ, ◌+◌, Bool, true, false, not, ◌==◌, ◌&&◌, ◌||◌, List, [], ◌∷◌, length, take, Option, Some, None, if◌then◌else◌}
use Rattle.std.specs.List.{list_all}
use Rattle.std.specs.Option.{option_map}
use Rattle.std.specs.Char.{is_ascii_digit}
use Rattle.pq_text.specs.Bytes.{is_white, is_letter, is_word_byte, is_mark, is_double_mark}
use Rattle.pq_text.specs.declared.token.Kind.{Kind}
use Rattle.pq_text.specs.declared.token.Kind.TheVariants as kind

-- a letter, then letters and digits
abbrev pub is_word_form : List ℕ → Bool
is_word_form [] = false
is_word_form (b ∷ bs) = is_letter b && list_all is_word_byte bs

-- one or more digits
abbrev pub is_digits : List ℕ → Bool
is_digits [] = false
is_digits (b ∷ bs) = is_ascii_digit b && list_all is_ascii_digit bs

-- digits, with a dash before them or not
abbrev pub is_number : List ℕ → Bool
is_number [] = false
is_number (b ∷ bs) = if b == 45 then is_digits bs else is_digits (b ∷ bs)

-- how many bytes stand up to and with the first quote that isn't written twice
unfoldable pub text_end : List ℕ → Option ℕ
text_end [] = None
text_end (b ∷ []) = if b == 39 then Some 1 else None
text_end (b ∷ c ∷ bs) =
    if b == 39
    then (if c == 39 then option_map (λ n. n + 2) (text_end bs) else Some 1)
    else option_map (λ n. n + 1) (text_end (c ∷ bs))

abbrev pub is_at : Option ℕ → ℕ → Bool
is_at None n = false
is_at (Some m) n = m == n

abbrev pub is_nowhere : Option ℕ → Bool
is_nowhere None = true
is_nowhere (Some m) = false

-- a quote, then bytes with each quote written twice, then a quote
abbrev pub is_text : List ℕ → Bool
is_text [] = false
is_text (b ∷ bs) = b == 39 && is_at (text_end bs) (length bs)

-- a quote, then bytes with each quote written twice
abbrev pub is_open_text : List ℕ → Bool
is_open_text [] = false
is_open_text (b ∷ bs) = b == 39 && is_nowhere (text_end bs)

-- a mark of one byte or of two
abbrev pub is_whole_mark : List ℕ → Bool
is_whole_mark [] = false
is_whole_mark (b ∷ []) = is_mark b
is_whole_mark (b ∷ c ∷ []) = is_double_mark b c
is_whole_mark (b ∷ c ∷ d ∷ bs) = false

-- two dashes, then bytes without a line feed
abbrev pub is_comment : List ℕ → Bool
is_comment [] = false
is_comment (b ∷ []) = false
is_comment (b ∷ c ∷ bs) = b == 45 && (c == 45 && list_all (λ d. not (d == 10)) bs)

-- one white byte
abbrev pub is_blank : List ℕ → Bool
is_blank [] = false
is_blank (b ∷ []) = is_white b
is_blank (b ∷ c ∷ bs) = false

-- what bytes are as a whole: left out, or a token of a kind
pub data Form : Type 0 where
  LeftOut : Form
  Of : Kind → Form

-- the form of these bytes, which are all up to the end or not; another single character isn't among the forms
abbrev pub form_of : Bool → List ℕ → Option Form
form_of last w =
    if is_blank w || is_comment w then Some LeftOut
    else if is_word_form w then Some (Of kind.Word)
    else if is_number w then Some (Of kind.Number)
    else if is_text w then Some (Of kind.Text)
    else if is_whole_mark w then Some (Of kind.Mark)
    else if is_open_text w && last then Some (Of kind.Other)
    else None

-- the form of the first n bytes
abbrev pub form_at : ℕ → List ℕ → Option Form
form_at n rest = form_of (n == length rest) (take n rest)
