-- The words of a run of clients.
use Rattle.std.specs.Prelude.{◌≡◌, ℕ, ◌≤◌, List, [], ◌∷◌, codes, decimal}

-- these words spell it: `clients` and a number from 1 to 16 in decimal
abbrev pub AreWords : ℕ → List (List ℕ) → Type 0
AreWords k words = (1 ≤ k) × (k ≤ 16) × (words ≡ codes "clients" ∷ decimal k ∷ [])
