-- Which bytes are white, letters and marks.
use Rattle.std.specs.Char.{is_ascii_alphabetic, is_ascii_digit}
use Rattle.std.specs.Prelude.{ℕ, Bool, false, List, [], ◌∷◌, ◌==◌, ◌||◌, ◌&&◌, nat_le}

-- space, tab, line feed, carriage return
abbrev pub is_white : ℕ → Bool
is_white b = b == 32 || b == 9 || b == 10 || b == 13

-- A to Z, a to z, or _
abbrev pub is_letter : ℕ → Bool
is_letter b = is_ascii_alphabetic b || b == 95

-- what a word goes on with
abbrev pub is_word_byte : ℕ → Bool
is_word_byte b = is_letter b || is_ascii_digit b

-- ( ) * , . : ; < = > [ ]
abbrev pub is_mark : ℕ → Bool
is_mark b = (nat_le 40 b && nat_le b 42) || b == 44 || b == 46 || (nat_le 58 b && nat_le b 62) || b == 91 || b == 93

-- <= <> >=
abbrev pub is_double_mark : ℕ → ℕ → Bool
is_double_mark a b = (a == 60 && (b == 61 || b == 62)) || (a == 62 && b == 61)

-- whether the first of these bytes passes
abbrev pub next_is : (ℕ → Bool) → List ℕ → Bool
next_is p [] = false
next_is p (b ∷ bs) = p b
