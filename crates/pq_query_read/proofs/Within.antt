-- What is spelled by shapes that each have something has something too.
use Rattle.std.proofs.Common.{List, [], ◌∷◌, ◌++◌, subst}
use Rattle.std.specs.List.{AllByRecursion}
use Rattle.pq_grammar.specs.Language.{◌⋅◌, each, separated_by}
use Rattle.pq_shape.specs.Shape.{Shape}

module _ (Q : Shape → Type 0) where
  split : (a b : List Shape) → AllByRecursion Q (a ++ b) → AllByRecursion Q a × AllByRecursion Q b
  split [] b h = (tt, h)
  split (s ∷ a) b h = let parts = split a b h.1 in ((h.0, parts.0), parts.1)

  -- the parts of two in a row
  pub both_within : (A B : List Shape → Type 0) (w : List Shape) (h : (A ⋅ B) w) → AllByRecursion Q w → AllByRecursion Q h.front × AllByRecursion Q h.back
  both_within A B w h all = split h.front h.back (subst (AllByRecursion Q) h.parts all)

  -- what S spells of such shapes has this
  abbrev pub GivesWithin : {X : Type 0} → (X → List Shape → Type 0) → (X → Type 0) → Type 0
  GivesWithin {X} S P = (x : X) (w : List Shape) → S x w → AllByRecursion Q w → P x

  pub each_gives : {X : Type 0} (B : List Shape → Type 0) (S : X → List Shape → Type 0) (P : X → Type 0) → GivesWithin S P → GivesWithin (each (λ x. B ⋅ S x)) (AllByRecursion P)
  each_gives B S P g [] w h all = tt
  each_gives B S P g (x ∷ xs) w h all =
      let parts = both_within (B ⋅ S x) (each (λ y. B ⋅ S y) xs) w h all in
      (g x h.fits_front.back h.fits_front.fits_back (both_within B (S x) h.front h.fits_front parts.0).1, each_gives B S P g xs h.back h.fits_back parts.1)

  pub separated_gives : {X : Type 0} (B : List Shape → Type 0) (S : X → List Shape → Type 0) (P : X → Type 0) → GivesWithin S P → GivesWithin (separated_by B S) (AllByRecursion P)
  separated_gives B S P g [] w h all = absurd h
  separated_gives B S P g (x ∷ xs) w h all =
      let parts = both_within (S x) (each (λ y. B ⋅ S y) xs) w h all in
      (g x h.front h.fits_front parts.0, each_gives B S P g xs h.back h.fits_back parts.1)
