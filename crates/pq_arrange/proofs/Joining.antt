-- The equalities of a class, by the first of its members that is of a later relation.
use Rattle.std.proofs.Common.{◌≡◌, Bool, true, false, cond, not, List, [], ◌∷◌, ◌++◌, map, filter, flat_map, Some, None, refl, sym, ap, ◌∙◌, append_assoc}
use Rattle.std.specs.List.{find}
use Rattle.std.proofs.lemmas.List.{append-nil}
use Rattle.std.proofs.lemmas.List.Concat.{flat_map_single}
use Rattle.pq_schema.specs.declared.query.ColRef.{ColRef}
use Rattle.pq_schema.specs.declared.query.Pred.{Pred}
use Rattle.pq_schema.specs.declared.query.Operand.TheVariants as operand
use Rattle.pq_arrange.specs.Classes.{equality_of, is_later, beside, class_joins}

no_some : {X : Type 0} {x : X} → None ≡ Some x → ⊥
no_some e = cc

one_some : {X : Type 0} {x y : X} → Some x ≡ Some y → x ≡ y
one_some e = cc

filter_none : {X : Type 0} (p : X → Bool) (xs : List X) → find p xs ≡ None → filter p xs ≡ []
filter_none p [] e = refl
filter_none p (x ∷ xs) e =
    elim (p x) as (λ b. cond b (Some x) (find p xs) ≡ None → cond b (x ∷ filter p xs) (filter p xs) ≡ []) [
      | true ↦ λ e. absurd (no_some (sym e))
      | false ↦ λ e. filter_none p xs e
    ] e

filter_some : {X : Type 0} (p : X → Bool) (xs : List X) (x : X) → find p xs ≡ Some x → (more : List X) × (filter p xs ≡ x ∷ more)
filter_some p [] x e = absurd (no_some e)
filter_some {X = X} p (y ∷ ys) x e =
    elim (p y) as (λ b. cond b (Some y) (find p ys) ≡ Some x → (more : List X) × (cond b (y ∷ filter p ys) (filter p ys) ≡ x ∷ more)) [
      | true ↦ λ e. (filter p ys, ap (λ (z : X). z ∷ filter p ys) (one_some e))
      | false ↦ λ e. filter_some p ys x e
    ] e

none_beside : (refs : List ColRef) → flat_map (beside []) refs ≡ []
none_beside [] = refl
none_beside (ref ∷ refs) = none_beside refs

-- no member is of a later relation
pub joins_alone : (first : ColRef) (rest : List ColRef) → find (is_later first) rest ≡ None → class_joins (first ∷ rest) ≡ map (equality_of (operand.Col first)) (filter (is_later first) rest)
joins_alone first rest e =
    let same = map (equality_of (operand.Col first)) (filter (is_later first) rest) in
    let own = filter (λ ref. not (is_later first ref)) rest in
    ap (λ (later : List ColRef). same ++ flat_map (beside later) own) (filter_none (is_later first) rest e) ∙ ap (λ (l : List Pred). same ++ l) (none_beside own) ∙ append-nil same

-- the first of the members that are
pub joins_beside : (first later : ColRef) (rest : List ColRef) → find (is_later first) rest ≡ Some later → class_joins (first ∷ rest) ≡ map (equality_of (operand.Col first)) (filter (is_later first) rest) ++ map (λ ref. equality_of (operand.Col ref) later) (filter (λ ref. not (is_later first ref)) rest)
joins_beside first later rest e =
    let same = map (equality_of (operand.Col first)) (filter (is_later first) rest) in
    let own = filter (λ ref. not (is_later first ref)) rest in
    let found = filter_some (is_later first) rest later e in
    ap (λ (later : List ColRef). same ++ flat_map (beside later) own) found.1 ∙ ap (λ (l : List Pred). same ++ l) (flat_map_single (λ ref. equality_of (operand.Col ref) later) own)

-- behind what was there before
pub joins_found : (first later : ColRef) (rest : List ColRef) (old half all : List Pred) → find (is_later first) rest ≡ Some later → half ≡ old ++ map (equality_of (operand.Col first)) (filter (is_later first) rest)
    → all ≡ half ++ map (λ ref. equality_of (operand.Col ref) later) (filter (λ ref. not (is_later first ref)) rest) → all ≡ old ++ class_joins (first ∷ rest)
joins_found first later rest old half all e half_is all_is =
    let same = map (equality_of (operand.Col first)) (filter (is_later first) rest) in
    let own = map (λ ref. equality_of (operand.Col ref) later) (filter (λ ref. not (is_later first ref)) rest) in
    all_is ∙ ap (λ (l : List Pred). l ++ own) half_is ∙ append_assoc old same own ∙ ap (λ (l : List Pred). old ++ l) (sym (joins_beside first later rest e))
