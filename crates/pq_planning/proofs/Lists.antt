-- What holds of each item of a list, said in two ways.
use Rattle.std.proofs.Common.{zero, suc, List, [], ◌∷◌, arith}
use Rattle.std.specs.Prelude.{All}
use Rattle.std.specs.List.{AllByRecursion}

pub each_is : {X : Type 0} (P : X → Type 0) (xs : List X) → AllByRecursion P xs → All P xs
each_is P [] h zero d lt = absurd (omega arith)
each_is P [] h (suc k) d lt = absurd (omega arith)
each_is P (x ∷ xs) h zero d lt = h.0
each_is P (x ∷ xs) h (suc k) d lt = each_is P xs h.1 k d (omega arith)

pub each_by : {X : Type 0} (P : X → Type 0) (xs : List X) → All P xs → AllByRecursion P xs
each_by P [] h = tt
each_by P (x ∷ xs) h = (h zero x (omega arith), each_by P xs (λ k d lt. h (suc k) d (omega arith)))

pub each_weaker : {X : Type 0} (P Q : X → Type 0) → ((x : X) → P x → Q x) → (xs : List X) → AllByRecursion P xs → AllByRecursion Q xs
each_weaker P Q f [] h = tt
each_weaker P Q f (x ∷ xs) h = (f x h.0, each_weaker P Q f xs h.1)
