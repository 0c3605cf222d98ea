-- The texts of lists.
use Rattle.std.specs.Prelude.{ℕ, List, [], ◌∷◌, ◌++◌, flat_map}

-- for each item, this text and then the item's
abbrev pub each_after : {X : Type 0} → List ℕ → (X → List ℕ) → List X → List ℕ
each_after before text items = flat_map (λ item. before ++ text item) items

-- the texts of the items, with this one between them
abbrev pub separate_texts : {X : Type 0} → List ℕ → (X → List ℕ) → List X → List ℕ
separate_texts between text [] = []
separate_texts between text (item ∷ items) = text item ++ each_after between text items

-- a clause of a statement: its keyword and then its items, nothing without items
abbrev pub clause : {X : Type 0} → List ℕ → List ℕ → (X → List ℕ) → List X → List ℕ
clause keyword between text [] = []
clause keyword between text (item ∷ items) = keyword ++ separate_texts between text (item ∷ items)
