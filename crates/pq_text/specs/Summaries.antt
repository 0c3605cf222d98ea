-- What a splitter knows of the bytes since the last cut, and what it will tell.
use Rattle.std.specs.Prelude.{ℕ, ◌+◌, Bool, false, List, [], ◌∷◌, ◌++◌, length, take, Option, Some, None, nat_lt, ◌||◌, if◌then◌else◌}
use Rattle.pq_text.specs.Cutting.{state_behind, is_solid, first_cut, cuts, is_dash}
use Rattle.pq_text.specs.Pieces.{piece_limit, statement, piece_list}
use Rattle.pq_text.specs.declared.piece.Piece.{Piece}
use Rattle.pq_text.specs.declared.piece.Piece.TheVariants as piece
use Rattle.pq_text.specs.declared.state.State.{State}
use Rattle.pq_text.specs.declared.state.State.TheVariants as state

-- the state, the bytes where they aren't too long, and whether content was seen
pub record Summary : Type 0 where
  pub state : State
  pub kept : List ℕ
  pub long : Bool
  pub solid : Bool

-- of no bytes
abbrev pub start_summary : Summary
start_summary = record { state = state.Plain; kept = []; long = false; solid = false }

abbrev pub is_long : Summary → ℕ → Bool
is_long s n = s.long || nat_lt piece_limit (length s.kept + n)

-- of more bytes
unfoldable pub grown_summary : Summary → List ℕ → Summary
grown_summary s part = record {
  state = state_behind s.state part;
  kept = if is_long s (length part) then [] else s.kept ++ part;
  long = is_long s (length part);
  solid = s.solid || is_solid s.state part;
}

-- what is told of these bytes as a piece
abbrev pub told_of : Summary → Option Piece
told_of s = if s.long then Some piece.TooLong else if s.solid then Some (statement s.kept) else None

-- the pieces that aren't blank, where more bytes follow
unfoldable pub pieces_from : Summary → List ℕ → List Piece
pieces_from s [] = []
pieces_from s (b ∷ bs) =
    if cuts s.state b then piece_list (told_of (grown_summary s (b ∷ []))) ++ pieces_from start_summary bs
    else pieces_from (grown_summary s (b ∷ [])) bs

-- whether the rest is unfinished, where more bytes follow
unfoldable pub unfinished_from : Summary → List ℕ → Bool
unfinished_from s [] = s.solid || is_dash s.state
unfinished_from s (b ∷ bs) = if cuts s.state b then unfinished_from start_summary bs
    else unfinished_from (grown_summary s (b ∷ [])) bs

abbrev pub upto : Option ℕ → ℕ → ℕ
upto None len = len
upto (Some n) len = n

-- how many bytes are taken: up to and with the first cut, else all
abbrev pub taken_of : Summary → List ℕ → ℕ
taken_of s bytes = upto (first_cut s.state bytes) (length bytes)

abbrev pub told_at : Option ℕ → Summary → List ℕ → Option Piece
told_at None s bytes = None
told_at (Some n) s bytes = told_of (grown_summary s (take n bytes))

-- what is told: of the piece, where there is a cut
abbrev pub piece_in : Summary → List ℕ → Option Piece
piece_in s bytes = told_at (first_cut s.state bytes) s bytes

abbrev pub left_at : Option ℕ → Summary → List ℕ → Summary
left_at None s bytes = grown_summary s bytes
left_at (Some n) s bytes = start_summary

-- what is known behind the taken bytes
abbrev pub left_in : Summary → List ℕ → Summary
left_in s bytes = left_at (first_cut s.state bytes) s bytes
