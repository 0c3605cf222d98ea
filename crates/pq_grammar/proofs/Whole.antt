-- Reading a whole list: what is found, that it is the only one, and the place of the fault.
use Rattle.std.proofs.Common.{◌≡◌, ℕ, ◌+◌, ◌-◌, ◌≤◌, ◌<◌, Bool, List, [], ◌∷◌, ◌++◌, length, take, drop, Ok, Err, inl, inr, refl, sym, ap, subst, ◌∙◌, append_assoc, arith, length-append}
use Rattle.std.proofs.lemmas.List.{append-nil, take-append-le, take-append-drop, take_at}
use Rattle.pq_grammar.specs.Language.{IsViable, IsFaultPlace}
use Rattle.pq_grammar.specs.Reader.{Reader, ended_read, all_at}
use Rattle.pq_grammar.proofs.Steps.{bind_ok, bind_err, first_of_list, Reads, ok_is}

-- what was read to the end
ended_ok : {T X : Type 0} (x y : X) (rest : List T) → ended_read x rest ≡ Ok y → (x ≡ y) × (rest ≡ [])
ended_ok x y [] e = (cc, refl)
ended_ok x y (t ∷ rest) e = absurd cc

ended_err : {T X : Type 0} (x : X) (rest : List T) (n : ℕ) → ended_read x rest ≡ Err n → (n ≡ length rest) × (t : T) × (a : List T) × (rest ≡ t ∷ a)
ended_err x [] n e = absurd cc
ended_err x (t ∷ rest) n e = (cc, t, rest, refl)

pub whole_found : {T X : Type 0} (S : X → List T → Type 0) (m : T → Bool) (r : Reader T X) → Reads S m r → (ts : List T) (x : X) → all_at r ts ≡ Ok x → S x ts
whole_found {T} {X} S m r h ts x e =
    let a = bind_ok (r ts) (λ a. ended_read a.0 a.1) x e in
    let f = h.found ts a.0.0 a.0.1 a.1 in
    let g = ended_ok a.0.0 x a.0.1 a.2 in
    let whole : f.front ≡ ts = sym (f.parts ∙ ap (λ (v : List T). f.front ++ v) g.1 ∙ append-nil f.front) in
    subst (λ (v : List T). S x v) whole (subst (λ (y : X). S y f.front) g.0 f.spells)

pub whole_only : {T X : Type 0} (S : X → List T → Type 0) (m : T → Bool) (r : Reader T X) → Reads S m r → (ts : List T) (x : X) → S x ts → r ts ≡ Ok (x, [])
whole_only S m r h ts x s = ap r (sym (append-nil ts)) ∙ h.only x ts [] s refl

pub whole_again : {T X : Type 0} (S : X → List T → Type 0) (m : T → Bool) (r : Reader T X) → Reads S m r → (ts : List T) (x : X) → S x ts → all_at r ts ≡ Ok x
whole_again S m r h ts x s = rw (whole_only S m r h ts x s) refl

place_is : {T X : Type 0} (S : X → List T → Type 0) (ts front rest : List T) (n : ℕ) → ts ≡ front ++ rest → n ≡ length rest → IsViable S front
    → ((t : T) (a : List T) → rest ≡ t ∷ a → IsViable S (front ++ t ∷ []) → ⊥) → IsFaultPlace S ts (length ts - n)
place_is {T} {X} S ts front rest n parts left viable stuck =
    let len : length ts ≡ length front + length rest = ap length parts ∙ length-append front rest in
    let place : length ts - n ≡ length front = omega arith in
    subst (λ (i : ℕ). IsFaultPlace S ts i) (sym place)
    (record {
      within = omega arith;
      before = λ j lt.
          let front_is : take (j + 1) ts ≡ take (j + 1) front = ap (take (j + 1)) parts ∙ take-append-le (j + 1) front rest (omega arith) in
          let split : take (j + 1) front ++ (drop (j + 1) front ++ viable.1) ≡ front ++ viable.1 = sym (append_assoc (take (j + 1) front) (drop (j + 1) front) viable.1) ∙ ap (λ (v : List T). v ++ viable.1) (take-append-drop (j + 1) front) in
          (viable.0, drop (j + 1) front ++ viable.1, subst (λ (v : List T). S viable.0 v) (sym (ap (λ (v : List T). v ++ (drop (j + 1) front ++ viable.1)) front_is ∙ split)) viable.2);
      at = λ lt more. at_rest S ts front rest parts lt stuck more;
    })
  where
    at_rest : {T X : Type 0} (S : X → List T → Type 0) (ts front rest : List T) → ts ≡ front ++ rest → length front < length ts → ((t : T) (a : List T) → rest ≡ t ∷ a → IsViable S (front ++ t ∷ []) → ⊥)
        → IsViable S (take (length front + 1) ts) → ⊥
    at_rest {T} S ts front [] parts lt stuck more = absurd (omega (arith, ap length (parts ∙ append-nil front)))
    at_rest {T} S ts front (t ∷ a) parts lt stuck more =
        let regrouped : ts ≡ (front ++ t ∷ []) ++ a = parts ∙ sym (append_assoc front (t ∷ []) a) in
        let front_is : take (length front + 1) ts ≡ front ++ t ∷ [] = ap (take (length front + 1)) regrouped ∙ take_at (front ++ t ∷ []) a (length front + 1) (length-append front (t ∷ [])) in
        stuck t a refl (subst (λ (v : List T). IsViable S v) front_is more)

-- what S spells from a front and a next token is read to its end
viable_read : {T X : Type 0} (S : X → List T → Type 0) (m : T → Bool) (r : Reader T X) → Reads S m r → (front : List T) (t : T) (more : IsViable S (front ++ t ∷ [])) → r (front ++ t ∷ more.1) ≡ Ok (more.0, [])
viable_read S m r h front t more = ap r (sym (append_assoc front (t ∷ []) more.1)) ∙ whole_only S m r h ((front ++ t ∷ []) ++ more.1) more.0 more.2

pub whole_place : {T X : Type 0} (S : X → List T → Type 0) (m : T → Bool) (r : Reader T X) → Reads S m r → (ts : List T) (n : ℕ) → all_at r ts ≡ Err n → (n ≤ length ts) × IsFaultPlace S ts (length ts - n)
whole_place {T} {X} S m r h ts n e =
    elim (bind_err (r ts) (λ a. ended_read a.0 a.1) n e) [
      | inl first ↦
          let g = h.stuck ts n first in (
            omega (arith, ap length g.parts, length-append g.front g.rest, g.left),
            place_is S ts g.front g.rest n g.parts g.left (g.value, g.completion, g.spells)
                (λ t a is more.
                let one = viable_read S m r h g.front t more in
                let two = g.kept (t ∷ more.1) (sym (ap first_of_list is)) in
                absurd cc),
          )
      | inr a ↦
          let f = h.found ts a.0.0 a.0.1 a.1 in
          let g = ended_err a.0.0 a.0.1 n a.2 in (
            omega (arith, ap length f.parts, length-append f.front a.0.1, g.0),
            place_is S ts f.front a.0.1 n f.parts g.0 (a.0.0, [], subst (λ (v : List T). S a.0.0 v) (sym (append-nil f.front)) f.spells)
                (λ t b is more.
                let one = viable_read S m r h f.front t more in
                let two = f.kept (t ∷ more.1) (sym (ap first_of_list is)) in
                let none : [] ≡ t ∷ more.1 = ap (λ (q : X × List T). q.1) (ok_is (more.0, []) (a.0.0, t ∷ more.1) (sym one ∙ two)) in
                absurd cc),
          )
    ]
