-- Members of a list, and lists whose keys differ.
use Rattle.std.specs.Prelude.{◌≡◌, false, ◌⊎◌, List, [], ◌∷◌}
use Rattle.std.specs.declared.cmp.Ordering.{Ordering}
use Rattle.std.specs.Ordering.{eq_by_cmp}
use Rattle.std.specs.List.{AllByRecursion}

abbrev pub In : {X : Type 0} → X → List X → Type 0
In v [] = ⊥
In v (x ∷ xs) = (x ≡ v) ⊎ In v xs

-- no two have one key
abbrev pub Apart : {K X : Type 0} → (K → K → Ordering) → (X → K) → List X → Type 0
Apart R key [] = Unit {0}
Apart R key (x ∷ xs) = AllByRecursion (λ y. eq_by_cmp R (key x) (key y) ≡ false) xs × Apart R key xs
