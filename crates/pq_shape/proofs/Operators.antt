-- The reader of an operator other than "=" reads its mark.
use Rattle.std.proofs.Common.{◌≡◌, ℕ, true, false, List, ◌++◌, inl, inr, refl, sym, subst}
use Rattle.std.proofs.lemmas.Bool.{false≢true}
use Rattle.pq_base.specs.Comparing.{is_null_test}
use Rattle.pq_base.specs.declared.op.Op.{Op}
use Rattle.pq_base.specs.declared.op.Op.TheVariants as op
use Rattle.pq_grammar.specs.Language.{made_from}
use Rattle.pq_grammar.specs.Reader.{begins, map_at}
use Rattle.pq_grammar.proofs.Steps.{Reads, never}
use Rattle.pq_grammar.proofs.Lists.{one_opens, one_shuts}
use Rattle.pq_grammar.proofs.Choices.{made_reads, choice_reads, one_or_other}
use Rattle.pq_shape.specs.Front.{is_mark_shape, mark_at}
use Rattle.pq_shape.specs.Operators.{operator, op_at}
use Rattle.pq_shape.specs.Parts.{mark}
use Rattle.pq_shape.specs.declared.mark.TheConstants.{EQUAL, GREATER, LESS, LESS_EQUAL, UNEQUAL}
use Rattle.pq_shape.specs.Shape.{Shape}
use Rattle.pq_shape.specs.Shape as shape
use Rattle.pq_shape.proofs.Tokens.{mark_reads}

abbrev pub op_made : Op → Op → List Shape → Type 0
op_made o = made_from (λ (u : Unit {0}). o) (λ u. mark (operator o))

pub op_made_reads : (o : Op) → Reads (op_made o) never (map_at (λ u. o) (mark_at (operator o)))
op_made_reads o = made_reads (λ u. o) (λ u. mark (operator o)) never (mark_at (operator o)) (mark_reads (operator o))

abbrev from_greater : Op → List Shape → Type 0
from_greater = one_or_other (op_made op.Gt) (op_made op.Ge)

abbrev from_less_equal : Op → List Shape → Type 0
from_less_equal = one_or_other (op_made op.Le) from_greater

abbrev from_less : Op → List Shape → Type 0
from_less = one_or_other (op_made op.Lt) from_less_equal

-- the marks other than "="
abbrev pub others : Op → List Shape → Type 0
others = one_or_other (op_made op.Ne) from_less

-- such an operator is not this mark
other_mark : (c : ℕ) (o x : Op) (w rest : List Shape) → is_mark_shape c (shape.Mark (operator o)) ≡ false → op_made o x w → begins (is_mark_shape c) (w ++ rest) ≡ false
other_mark c o x w rest e h = one_shuts (is_mark_shape c) (shape.Mark (operator o)) e w rest h.2

no_less_equal : (x : Op) (w rest : List Shape) → from_greater x w → begins (is_mark_shape LESS_EQUAL) (w ++ rest) ≡ false
unfolding is_mark_shape
no_less_equal x w rest (inl h) = other_mark LESS_EQUAL op.Gt x w rest refl h
no_less_equal x w rest (inr h) = other_mark LESS_EQUAL op.Ge x w rest refl h

no_less : (x : Op) (w rest : List Shape) → from_less_equal x w → begins (is_mark_shape LESS) (w ++ rest) ≡ false
unfolding is_mark_shape
no_less x w rest (inl h) = other_mark LESS op.Le x w rest refl h
no_less x w rest (inr (inl h)) = other_mark LESS op.Gt x w rest refl h
no_less x w rest (inr (inr h)) = other_mark LESS op.Ge x w rest refl h

no_unequal : (x : Op) (w rest : List Shape) → from_less x w → begins (is_mark_shape UNEQUAL) (w ++ rest) ≡ false
unfolding is_mark_shape
no_unequal x w rest (inl h) = other_mark UNEQUAL op.Lt x w rest refl h
no_unequal x w rest (inr (inl h)) = other_mark UNEQUAL op.Le x w rest refl h
no_unequal x w rest (inr (inr (inl h))) = other_mark UNEQUAL op.Gt x w rest refl h
no_unequal x w rest (inr (inr (inr h))) = other_mark UNEQUAL op.Ge x w rest refl h

others_shut : (c : ℕ) → ((o : Op) → (o ≡ op.Eq → ⊥) → is_mark_shape c (shape.Mark (operator o)) ≡ false) → (x : Op) (w rest : List Shape) → others x w → begins (is_mark_shape c) (w ++ rest) ≡ false
others_shut c e x w rest (inl h) = other_mark c op.Ne x w rest (e op.Ne (λ q. absurd cc)) h
others_shut c e x w rest (inr (inl h)) = other_mark c op.Lt x w rest (e op.Lt (λ q. absurd cc)) h
others_shut c e x w rest (inr (inr (inl h))) = other_mark c op.Le x w rest (e op.Le (λ q. absurd cc)) h
others_shut c e x w rest (inr (inr (inr (inl h)))) = other_mark c op.Gt x w rest (e op.Gt (λ q. absurd cc)) h
others_shut c e x w rest (inr (inr (inr (inr h)))) = other_mark c op.Ge x w rest (e op.Ge (λ q. absurd cc)) h

not_equal : (o : Op) → (o ≡ op.Eq → ⊥) → is_mark_shape EQUAL (shape.Mark (operator o)) ≡ false
unfolding is_mark_shape
not_equal op.Eq n = absurd (n refl)
not_equal op.Ne n = refl
not_equal op.Lt n = refl
not_equal op.Le n = refl
not_equal op.Gt n = refl
not_equal op.Ge n = refl
not_equal op.IsNull n = refl

-- such a mark is not "="
pub others_not_equal : (x : Op) (w rest : List Shape) → others x w → begins (is_mark_shape EQUAL) (w ++ rest) ≡ false
others_not_equal x w rest h = others_shut EQUAL not_equal x w rest h

opens_op : (o x : Op) (w : List Shape) → is_mark_shape (operator o) (shape.Mark (operator o)) ≡ true → op_made o x w → begins (is_mark_shape (operator o)) w ≡ true
opens_op o x w e h = one_opens (is_mark_shape (operator o)) (shape.Mark (operator o)) e w h.2

pub op_reads : Reads others never op_at
unfolding op_at is_mark_shape
op_reads =
    choice_reads (op_made op.Ne) from_less (is_mark_shape UNEQUAL) _ _ never (op_made_reads op.Ne)
    (choice_reads (op_made op.Lt) from_less_equal (is_mark_shape LESS) _ _ never (op_made_reads op.Lt)
    (choice_reads (op_made op.Le) from_greater (is_mark_shape LESS_EQUAL) _ _ never (op_made_reads op.Le)
    (choice_reads (op_made op.Gt) (op_made op.Ge) (is_mark_shape GREATER) _ _ never (op_made_reads op.Gt) (op_made_reads op.Ge)
    (λ x w h. opens_op op.Gt x w refl h) (λ x w rest h e. other_mark GREATER op.Ge x w rest refl h))
    (λ x w h. opens_op op.Le x w refl h) (λ x w rest h e. no_less_equal x w rest h))
    (λ x w h. opens_op op.Lt x w refl h) (λ x w rest h e. no_less x w rest h))
    (λ x w h. opens_op op.Ne x w refl h) (λ x w rest h e. no_unequal x w rest h)

op_is : (p o : Op) (w : List Shape) → op_made p o w → mark (operator o) w
op_is p o w h = subst (λ (q : Op). mark (operator q) w) h.1 h.2

-- an operator with a mark other than "="
abbrev pub IsOther : Op → Type 0
IsOther o = (o ≡ op.Eq → ⊥) × (is_null_test o ≡ false)

pub others_is : (o : Op) (w : List Shape) → others o w → mark (operator o) w
others_is o w (inl h) = op_is op.Ne o w h
others_is o w (inr (inl h)) = op_is op.Lt o w h
others_is o w (inr (inr (inl h))) = op_is op.Le o w h
others_is o w (inr (inr (inr (inl h)))) = op_is op.Gt o w h
others_is o w (inr (inr (inr (inr h)))) = op_is op.Ge o w h

pub others_from : (o : Op) (w : List Shape) → IsOther o → mark (operator o) w → others o w
others_from op.Eq w n h = absurd (n.0 refl)
others_from op.Ne w n h = inl (tt, refl, h)
others_from op.Lt w n h = inr (inl (tt, refl, h))
others_from op.Le w n h = inr (inr (inl (tt, refl, h)))
others_from op.Gt w n h = inr (inr (inr (inl (tt, refl, h))))
others_from op.Ge w n h = inr (inr (inr (inr (tt, refl, h))))
others_from op.IsNull w n h = absurd (false≢true (sym n.1))

op_marked : (p o : Op) (w : List Shape) → is_null_test p ≡ false → op_made p o w → is_null_test o ≡ false
op_marked p o w test h = subst (λ (q : Op). is_null_test q ≡ false) h.1 test

pub others_marked : (o : Op) (w : List Shape) → others o w → is_null_test o ≡ false
others_marked o w (inl h) = op_marked op.Ne o w refl h
others_marked o w (inr (inl h)) = op_marked op.Lt o w refl h
others_marked o w (inr (inr (inl h))) = op_marked op.Le o w refl h
others_marked o w (inr (inr (inr (inl h)))) = op_marked op.Gt o w refl h
others_marked o w (inr (inr (inr (inr h)))) = op_marked op.Ge o w refl h
