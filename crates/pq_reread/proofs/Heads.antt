-- The head of a PREPARE, and what stands behind it.
use Rattle.std.proofs.Common.{◌≡◌, ℕ, List, ◌∷◌, ◌++◌, drop, sym, ap, subst, ◌∙◌}
use Rattle.pq_grammar.specs.Language.{◌⋅◌, anything}
use Rattle.pq_shape.specs.Parts.{word, name as a_name}
use Rattle.pq_shape.specs.declared.keyword.TheConstants.{AS, PREPARE}
use Rattle.pq_shape.specs.Shape.{Shape}
use Rattle.pq_shape.specs.Shape as shape

-- it has three tokens
pub head_and_rest : (name : List ℕ) (S : List Shape → Type 0) (w : List Shape) → (word PREPARE ⋅ a_name name ⋅ word AS ⋅ S) w → (word PREPARE ⋅ a_name name ⋅ word AS ⋅ anything) w × S (drop 3 w)
head_and_rest name S w h =
    let second = h.fits_back in
    let third = second.fits_back in
    let parts : w ≡ shape.Keyword PREPARE ∷ shape.Name name ∷ shape.Keyword AS ∷ third.back =
    h.parts ∙ ap (λ (v : List Shape). v ++ h.back) h.fits_front
    ∙ ap (λ (v : List Shape). shape.Keyword PREPARE ∷ v) (second.parts ∙ ap (λ (v : List Shape). v ++ second.back) second.fits_front)
    ∙ ap (λ (v : List Shape). shape.Keyword PREPARE ∷ shape.Name name ∷ v) (third.parts ∙ ap (λ (v : List Shape). v ++ third.back) third.fits_front) in (
      record {
        front = h.front;
        back = h.back;
        fits_front = h.fits_front;
        fits_back = record {
          front = second.front;
          back = second.back;
          fits_front = second.fits_front;
          fits_back = record { front = third.front; back = third.back; fits_front = third.fits_front; fits_back = tt; parts = third.parts };
          parts = second.parts;
        };
        parts = h.parts;
      },
      subst S (sym (ap (drop 3) parts)) third.fits_back,
    )
