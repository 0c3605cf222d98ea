-- Sets of token lists: how something may be spelled. T is the type of the tokens.
use Rattle.std.specs.Prelude.{◌≡◌, ℕ, ◌+◌, ◌≤◌, ◌<◌, List, [], ◌∷◌, ◌++◌, length, take, Option, Some, None}

-- a list of the first set, and then one of the second
pub record Then {T : Type 0} (A B : List T → Type 0) (w : List T) : Type 0 where
  pub front : List T
  pub back : List T
  pub fits_front : A front
  pub fits_back : B back
  pub parts : w ≡ front ++ back

infixr 30 ◌⋅◌
abbrev pub ◌⋅◌ : {T : Type 0} → (List T → Type 0) → (List T → Type 0) → List T → Type 0
A ⋅ B = λ w. Then A B w

-- nothing
abbrev pub nothing : {T : Type 0} → List T → Type 0
nothing w = w ≡ []

-- just this token
abbrev pub one : {T : Type 0} → T → List T → Type 0
one t w = w ≡ t ∷ []

-- one after the other
abbrev pub each : {T X : Type 0} → (X → List T → Type 0) → List X → List T → Type 0
each S [] = nothing
each S (x ∷ xs) = S x ⋅ each S xs

-- an option
abbrev pub optional : {T X : Type 0} → (X → List T → Type 0) → Option X → List T → Type 0
optional S None = nothing
optional S (Some x) = S x

-- any tokens at all
abbrev pub anything : {T : Type 0} → List T → Type 0
anything w = Unit {0}

-- one or more, with a list of the first set between them
abbrev pub separated_by : {T X : Type 0} → (List T → Type 0) → (X → List T → Type 0) → List X → List T → Type 0
separated_by B S [] w = ⊥
separated_by B S (x ∷ xs) w = (S x ⋅ each (λ y. B ⋅ S y) xs) w

-- none, or one or more with a list of the first set between them
abbrev pub listed_by : {T X : Type 0} → (List T → Type 0) → (X → List T → Type 0) → List X → List T → Type 0
listed_by B S [] = nothing
listed_by B S (x ∷ xs) = separated_by B S (x ∷ xs)

-- what f makes of what a set spells
abbrev pub made_from : {T A B : Type 0} → (A → B) → (A → List T → Type 0) → B → List T → Type 0
made_from {T} {A} f S y w = (x : A) × (f x ≡ y) × S x w

-- something begins with these tokens
abbrev pub IsViable : {T X : Type 0} → (X → List T → Type 0) → List T → Type 0
IsViable {T} {X} S front = (x : X) × (rest : List T) × S x (front ++ rest)

-- The place of the first token up to and with which nothing begins so, or the length where there is no such token.
pub record IsFaultPlace {T X : Type 0} (S : X → List T → Type 0) (tokens : List T) (place : ℕ) : Type 0 where
  pub within : place ≤ length tokens
  pub before : (j : ℕ) → j < place → IsViable S (take (j + 1) tokens)
  pub at : place < length tokens → IsViable S (take (place + 1) tokens) → ⊥
