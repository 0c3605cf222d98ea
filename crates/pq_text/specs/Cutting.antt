-- The scan for the end of a piece, byte by byte. Dash is the plain state behind a dash that may begin a comment.
use Rattle.std.specs.Prelude.{ℕ, ◌+◌, Bool, true, false, not, List, [], ◌∷◌, Option, Some, None, ◌==◌, ◌||◌, if◌then◌else◌}
use Rattle.std.specs.Option.{option_map}
use Rattle.pq_text.specs.Bytes.{is_white}
use Rattle.pq_text.specs.declared.state.State.{State}
use Rattle.pq_text.specs.declared.state.State.TheVariants as state

abbrev pub next_plain : ℕ → State
next_plain b = if b == 39 then state.Text else if b == 45 then state.Dash else state.Plain

abbrev pub next : State → ℕ → State
next state.Plain b = next_plain b
next state.Dash b = if b == 45 then state.Comment else next_plain b
next state.Text b = if b == 39 then state.Plain else state.Text
next state.Comment b = if b == 10 then state.Plain else state.Comment

-- the piece is cut behind this byte
abbrev pub cuts : State → ℕ → Bool
cuts state.Plain b = b == 59
cuts state.Dash b = b == 59
cuts state.Text b = false
cuts state.Comment b = false

-- this byte shows one outside comments that is neither white nor the cut: itself, or the dash before it
abbrev pub shows : State → ℕ → Bool
shows state.Plain b = not (is_white b || b == 45 || b == 59)
shows state.Dash b = not (b == 45)
shows state.Text b = true
shows state.Comment b = false

-- this byte leaves the state as it is, and no piece ends with it
abbrev pub is_quiet : State → ℕ → Bool
is_quiet state.Plain b = not (b == 39 || b == 45 || b == 59)
is_quiet state.Dash b = false
is_quiet state.Text b = not (b == 39)
is_quiet state.Comment b = not (b == 10)

abbrev pub is_dash : State → Bool
is_dash state.Plain = false
is_dash state.Dash = true
is_dash state.Text = false
is_dash state.Comment = false

-- the state behind bytes
unfoldable pub state_behind : State → List ℕ → State
state_behind s [] = s
state_behind s (b ∷ bs) = state_behind (next s b) bs

-- whether some byte shows one
unfoldable pub is_solid : State → List ℕ → Bool
is_solid s [] = false
is_solid s (b ∷ bs) = shows s b || is_solid (next s b) bs

-- how many bytes stand up to and with the first cut
unfoldable pub first_cut : State → List ℕ → Option ℕ
first_cut s [] = None
first_cut s (b ∷ bs) = if cuts s b then Some 1 else option_map (λ n. n + 1) (first_cut (next s b) bs)
