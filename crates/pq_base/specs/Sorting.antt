-- Lists in the order of a key.
use Rattle.std.specs.Prelude.{cond, List, [], ◌∷◌}
use Rattle.std.specs.declared.cmp.Ordering.{Ordering}
use Rattle.std.specs.Ordering.{is_gt}

module _ {K X : Type 0} (R : K → K → Ordering) (key : X → K) where
  -- before the first whose key isn't lower
  abbrev pub placed : X → List X → List X
  placed x [] = x ∷ []
  placed x (y ∷ ys) = cond (is_gt (R (key x) (key y))) (y ∷ placed x ys) (x ∷ y ∷ ys)

  -- keys rise, and items of one key keep their order
  abbrev pub sort_by : List X → List X
  sort_by [] = []
  sort_by (x ∷ xs) = placed x (sort_by xs)
