-- What the tokens from a place on stand for.
use Rattle.std.proofs.Common.{◌≡◌, ℕ, zero, suc, List, [], ◌∷◌, drop, refl}
use Rattle.pq_shape.specs.Shapes.{shapes_of}
use Rattle.pq_text.specs.declared.token.Token.{Token}

pub shapes_after : (text : List ℕ) (from : ℕ) (ts : List Token) → drop from (shapes_of text ts) ≡ shapes_of text (drop from ts)
shapes_after text zero ts = refl
shapes_after text (suc n) [] = refl
shapes_after text (suc n) (t ∷ ts) = shapes_after text n ts
