-- Lists of which each says what stands at the same place of another.
use Rattle.std.proofs.Common.{List, [], ◌∷◌, map}
use Rattle.std.specs.List.{AllByRecursion}
use Rattle.pq_reread.specs.Said.{Pairwise}

pub pairs_of : {X Y : Type 0} (f : Y → X) (R : X → Y → Type 0) (P : Y → Type 0) → ((y : Y) → P y → R (f y) y) → (ys : List Y) → AllByRecursion P ys → Pairwise R (map f ys) ys
pairs_of f R P each [] all = tt
pairs_of f R P each (y ∷ ys) all = (each y all.0, pairs_of f R P each ys all.1)
