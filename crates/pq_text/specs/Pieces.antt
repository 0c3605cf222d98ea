-- The pieces of a script: where it is cut, what is told of each piece, and when the rest is unfinished.
use Rattle.std.specs.Prelude.{ℕ, Bool, true, false, not, List, [], ◌∷◌, ◌++◌, length, Option, Some, None, ◌==◌, ◌||◌, ◌&&◌, nat_lt, if◌then◌else◌}
use Rattle.std.specs.Str.{is_utf8}
use Rattle.pq_text.specs.Bytes.{is_white, next_is}
use Rattle.pq_text.specs.declared.piece.Piece.{Piece}
use Rattle.pq_text.specs.declared.piece.Piece.TheVariants as piece

-- where a byte stands
pub data Place : Type 0 where
  Plain : Place
  Text : Place
  Comment : Place

-- a dash with another behind it
abbrev pub is_two_dashes : ℕ → List ℕ → Bool
is_two_dashes b rest = b == 45 && next_is (λ c. c == 45) rest

-- the place behind a byte, which these follow: a quote begins and ends a text, two dashes begin a comment, a
-- line feed ends it
abbrev pub behind : Place → ℕ → List ℕ → Place
behind Plain b rest = if b == 39 then Text else if is_two_dashes b rest then Comment else Plain
behind Text b rest = if b == 39 then Plain else Text
behind Comment b rest = if b == 10 then Plain else Comment

-- a semicolon outside texts and comments cuts
abbrev pub is_cut : Place → ℕ → Bool
is_cut Plain b = b == 59
is_cut Text b = false
is_cut Comment b = false

-- a byte outside comments that is neither white nor a cut
abbrev pub is_content : Place → ℕ → List ℕ → Bool
is_content Plain b rest = not (is_white b || b == 59 || is_two_dashes b rest)
is_content Text b rest = true
is_content Comment b rest = false

-- the pieces, each up to and with its cut, and the rest behind the last cut
pub record Split : Type 0 where
  pub pieces : List (List ℕ)
  pub rest : List ℕ

abbrev pub joined_split : List ℕ → List (List ℕ) → List ℕ → Split
joined_split front [] rest = record { pieces = []; rest = front ++ rest }
joined_split front (w ∷ ws) rest = record { pieces = (front ++ w) ∷ ws; rest = rest }

-- bytes without a cut stand before
abbrev pub after_front : List ℕ → Split → Split
after_front front s = joined_split front s.pieces s.rest

-- a piece stands before
abbrev pub after_piece : List ℕ → Split → Split
after_piece w s = record { pieces = w ∷ s.pieces; rest = s.rest }

unfoldable pub split_from : Place → List ℕ → Split
split_from place [] = record { pieces = []; rest = [] }
split_from place (b ∷ bs) =
    if is_cut place b then after_piece (b ∷ []) (split_from Plain bs)
    else after_front (b ∷ []) (split_from (behind place b bs) bs)

-- some byte is content
unfoldable pub has_content : Place → List ℕ → Bool
has_content place [] = false
has_content place (b ∷ bs) = is_content place b bs || has_content (behind place b bs) bs

-- a piece that is no longer has its bytes looked at
abbrev pub piece_limit : ℕ
piece_limit = 65536

-- a piece that isn't blank and isn't too long
abbrev pub statement : List ℕ → Piece
statement w = if is_utf8 w then piece.Statement w else piece.NotUtf8

-- what is told of a piece: nothing of a blank one
abbrev pub told_piece : List ℕ → Option Piece
told_piece w =
    if nat_lt piece_limit (length w) then Some piece.TooLong
    else if has_content Plain w then Some (statement w)
    else None

abbrev pub piece_list : Option Piece → List Piece
piece_list None = []
piece_list (Some p) = p ∷ []

abbrev pub all_told : List (List ℕ) → List Piece
all_told [] = []
all_told (w ∷ ws) = piece_list (told_piece w) ++ all_told ws

-- the pieces of a script that aren't blank
unfoldable pub pieces_of : List ℕ → List Piece
pieces_of script = all_told (split_from Plain script).pieces

-- what stands behind the last cut
unfoldable pub rest_of : List ℕ → List ℕ
rest_of script = (split_from Plain script).rest

-- a rest is unfinished where a byte outside comments isn't white
abbrev pub is_unfinished : List ℕ → Bool
is_unfinished rest = has_content Plain rest
