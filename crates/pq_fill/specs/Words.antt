-- The words of a run.
use Rattle.std.specs.Prelude.{◌≡◌, ℕ, ◌≤◌, List, [], ◌∷◌, codes, decimal}
use Rattle.pq_fill.specs.declared.words.Form.{Form}
use Rattle.pq_fill.specs.declared.words.Form.TheVariants.{Run, Check, Fill}

-- these words spell the form: `run`; `check`; or `fill` and a number from 1 to 20,000 in decimal
abbrev pub IsForm : Form → List (List ℕ) → Type 0
IsForm Run words = words ≡ codes "run" ∷ []
IsForm Check words = words ≡ codes "check" ∷ []
IsForm (Fill n) words = (1 ≤ n) × (n ≤ 20000) × (words ≡ codes "fill" ∷ decimal n ∷ [])
