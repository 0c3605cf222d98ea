use Rattle.std.proofs.Common.{◌≡◌, ℕ, List, ◌∷◌, codes}
use Rattle.piql_clients.proofs.all_words.Given as goal

abbrev pub invariant-loop-word : goal.invariant-loop-word
invariant-loop-word l = (rest : List (List ℕ)) × (l.words ≡ codes "clients" ∷ rest)
