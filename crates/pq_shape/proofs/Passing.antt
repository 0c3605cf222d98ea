-- A token that is tested, and then gone over.
use Rattle.std.proofs.Common.{◌≡◌, Bool, true, false, List, [], ◌∷◌, length, drop, Ok, Err, refl}
use Rattle.pq_grammar.specs.Reader.{begins, test_at}
use Rattle.pq_shape.specs.Shape.{Shape}

pub test_passes : (p : Shape → Bool) (ts : List Shape) → begins p ts ≡ true → test_at p ts ≡ Ok (tt, drop 1 ts)
test_passes p [] is = absurd cc
test_passes p (t ∷ ts) is = rw is refl

pub test_stops : (p : Shape → Bool) (ts : List Shape) → begins p ts ≡ false → test_at p ts ≡ Err (length ts)
test_stops p [] is = refl
test_stops p (t ∷ ts) is = rw is refl
