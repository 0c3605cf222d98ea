-- Positions whose constants are coded.
use Rattle.std.specs.Prelude.{ℕ, List, [], ◌∷◌, ◌++◌, drop, count_ones, Option, None, Some}
use Rattle.pq_base.specs.declared.value.Dir.{Dir}
use Rattle.pq_base.specs.declared.value.Value.{Value}
use Rattle.pq_key_code.specs.KeyCode.{component}
use Rattle.pq_scan.specs.declared.forms.FormPart.{FormPart}
use Rattle.pq_scan.specs.declared.forms.PlaceForm.{PlaceForm}
use Rattle.pq_scan.specs.declared.prepared.Scan.{Scan}
use Rattle.pq_scan.specs.Asked.{constants_asked}
use Rattle.pq_scan.specs.Candidates.{Candidate, shown_values}

-- the constants before each value of the row, as one code
abbrev pub form_parts : List ℕ → List (Option Value) → List Dir → List FormPart
form_parts code [] ds = []
form_parts code (g ∷ gs) [] = []
form_parts code (Some v ∷ gs) (d ∷ ds) = form_parts (code ++ component d v) gs ds
form_parts code (None ∷ gs) (d ∷ ds) = record { before = code; dir = d } ∷ form_parts [] gs ds

-- and those behind the last value
abbrev pub form_behind : List ℕ → List (Option Value) → List Dir → List ℕ
form_behind code [] ds = code
form_behind code (g ∷ gs) [] = code
form_behind code (Some v ∷ gs) (d ∷ ds) = form_behind (code ++ component d v) gs ds
form_behind code (None ∷ gs) (d ∷ ds) = form_behind [] gs ds

-- the form behind parts and behind the code of constants
abbrev pub form_with : List FormPart → List ℕ → List (Option Value) → List Dir → PlaceForm
form_with parts code constants dirs =
    record { parts = parts ++ form_parts code constants dirs; behind = form_behind code constants dirs }

abbrev pub form_of : List (Option Value) → List Dir → PlaceForm
form_of constants dirs = record { parts = form_parts [] constants dirs; behind = form_behind [] constants dirs }

-- the code with the values of a row between the constants
abbrev pub filled_code : List FormPart → List ℕ → List Value → List ℕ
filled_code [] behind xs = behind
filled_code (p ∷ ps) behind [] = p.before
filled_code (p ∷ ps) behind (x ∷ xs) = p.before ++ component p.dir x ++ filled_code ps behind xs

-- the form of the positions of an input's rows
abbrev pub form_asked : Scan → List (List Value) → PlaceForm
form_asked scan combo = form_of (constants_asked scan combo) scan.position_dirs

-- the code of the position of what was kept of a row
abbrev pub formed_code : Scan → PlaceForm → List Value → List ℕ
formed_code scan form held =
    filled_code form.parts form.behind (drop (count_ones scan.fixed) (shown_values scan.access scan.sequence held))

abbrev pub formed_at : Scan → PlaceForm → ℕ → List Value → Candidate
formed_at scan form input held =
    record { place = formed_code scan form held; item = record { input = input; held = held } }
