-- What stood first stands first still.
use Rattle.std.proofs.Common.{◌≡◌, ℕ, List, ◌++◌, length, take, drop, refl, sym, ap, ◌∙◌, append_assoc}
use Rattle.std.proofs.lemmas.List.{take_at, take-append-drop}

-- where something was put behind it
pub front_stays : (old more : List ℕ) → take (length old) (old ++ more) ≡ old
front_stays old more = take_at old more (length old) refl

-- and where it and what was put behind it stand first
pub front_kept : (old more new : List ℕ) → take (length (old ++ more)) new ≡ old ++ more → take (length old) new ≡ old
front_kept old more new kept =
    let behind : List ℕ = drop (length (old ++ more)) new in
    let whole : new ≡ old ++ (more ++ behind) = sym (take-append-drop (length (old ++ more)) new) ∙ ap (λ (front : List ℕ). front ++ behind) kept ∙ append_assoc old more behind in
    ap (take (length old)) whole ∙ front_stays old (more ++ behind)
