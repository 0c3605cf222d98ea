-- The readers of predicates read what the grammar says.
use Rattle.std.proofs.Common.{◌≡◌, ℕ, ℤ, Bool, true, false, List, [], ◌∷◌, ◌++◌, Option, inl, inr, refl, sym, ap, subst, ◌∙◌, append_assoc}
use Rattle.std.proofs.lemmas.Bool.{false≢true}
use Rattle.pq_base.specs.declared.value.Value.{Value}
use Rattle.pq_base.specs.declared.value.Value.TheVariants as value
use Rattle.pq_base.specs.Comparing.{is_null_test}
use Rattle.pq_shape.specs.declared.soft.Soft.TheVariants as soft_word
use Rattle.pq_grammar.specs.Language.{◌⋅◌, optional, made_from}
use Rattle.pq_grammar.specs.Reader.{begins, pair_at, skip_at}
use Rattle.pq_grammar.proofs.Steps.{Reads, never}
use Rattle.pq_grammar.proofs.Readers.{pair_reads, close_reads, map_reads}
use Rattle.pq_grammar.proofs.Options.{option_reads}
use Rattle.pq_grammar.proofs.Lists.{then_opens, one_shuts, then_shuts, pair_free, skip_free, same_set}
use Rattle.pq_grammar.proofs.Choices.{made_reads, choice_reads, one_or_other}
use Rattle.pq_shape.specs.Front.{is_mark_shape, is_name_shape, is_constant, is_soft_shape, soft_name, soft_at, mark_at, name_at, number_at, constant_shape_at}
use Rattle.pq_shape.specs.Operators.{operator, op_at}
use Rattle.pq_shape.specs.Parts.{mark, soft, name, number, a_constant}
use Rattle.pq_shape.proofs.Operators.{others, op_reads, IsOther, others_is, others_from, others_marked, others_not_equal}
use Rattle.pq_shape.proofs.Tokens.{soft_reads, soft_passes, mark_reads, name_reads, number_reads, constant_reads, constant_opens}
use Rattle.pq_shape.specs.Shape.{Shape}
use Rattle.pq_shape.specs.Shape as shape
use Rattle.pq_base.specs.declared.op.Op.{Op}
use Rattle.pq_base.specs.declared.op.Op.TheVariants as op
use Rattle.pq_shape.specs.declared.mark.TheConstants.{CLOSE_SQUARE, COLON, EQUAL, OPEN_SQUARE, POINT}
use Rattle.pq_query_read.specs.Grammar.{ref, param, compare, null_test, comparison, pred}
use Rattle.pq_query_read.specs.Reading.{ref_at, label_at, param_at, plain_at, operand_at, equality_at, compare_at, null_test_at, comparison_at, pred_at}
use Rattle.pq_query_read.specs.declared.select.OperandDef.{OperandDef}
use Rattle.pq_query_read.specs.declared.select.OperandDef.TheVariants as operand
use Rattle.pq_query_read.specs.declared.select.RefDef.{RefDef}
use Rattle.pq_query_read.proofs.Elements.{wide, ref_reads, ref_opens}

-- ---- predicates

abbrev labelled : ℤ × Option (List ℕ) → List Shape → Type 0
labelled x = number x.0 ⋅ optional (λ n. mark COLON ⋅ name n) x.1

label_reads : Reads (optional (λ n. mark COLON ⋅ name n)) (is_mark_shape COLON) label_at
unfolding label_at is_mark_shape
label_reads =
    option_reads (λ n. mark COLON ⋅ name n) (is_mark_shape COLON) (is_mark_shape COLON) (skip_at (mark_at COLON) name_at)
    (wide (λ n. mark COLON ⋅ name n) (is_mark_shape COLON) _ (skip_free (mark COLON) name never (mark_at COLON) name_at (mark_reads COLON) name_reads))
    (λ n w h. then_opens (is_mark_shape COLON) (shape.Mark COLON) (name n) refl w h) (λ rest e. e)

abbrev bracketed : ℤ × Option (List ℕ) → List Shape → Type 0
bracketed x = mark OPEN_SQUARE ⋅ labelled x ⋅ mark CLOSE_SQUARE

abbrev param_made : OperandDef → List Shape → Type 0
param_made = made_from (λ (x : ℤ × Option (List ℕ)). operand.Param x.0) bracketed

param_reads : Reads param_made never param_at
unfolding param_at is_mark_shape
param_reads =
    made_reads (λ (x : ℤ × Option (List ℕ)). operand.Param x.0) bracketed never _
    (skip_free (mark OPEN_SQUARE) (λ x. labelled x ⋅ mark CLOSE_SQUARE) never (mark_at OPEN_SQUARE) _ (mark_reads OPEN_SQUARE)
    (close_reads labelled (mark CLOSE_SQUARE) (is_mark_shape COLON) never (pair_at number_at label_at) (mark_at CLOSE_SQUARE)
    (pair_free number (optional (λ n. mark COLON ⋅ name n)) (is_mark_shape COLON) number_at label_at number_reads label_reads) (mark_reads CLOSE_SQUARE)
    (λ v rest h e. one_shuts (is_mark_shape COLON) (shape.Mark CLOSE_SQUARE) refl v rest h)))

abbrev const_made : OperandDef → List Shape → Type 0
const_made = made_from (λ v. operand.Const v) a_constant

abbrev plain : OperandDef → List Shape → Type 0
plain = one_or_other param_made const_made

value_apart : (t : Shape) → is_constant t ≡ true → is_mark_shape OPEN_SQUARE t ≡ false
unfolding is_constant is_mark_shape
value_apart (shape.Number z) e = refl
value_apart (shape.Text u) e = refl
value_apart (shape.Keyword k) e = refl
value_apart (shape.Name n) e = refl
value_apart (shape.Mark c) e = absurd cc
value_apart shape.Other e = refl

shut_by_value : (w rest : List Shape) → begins is_constant w ≡ true → begins (is_mark_shape OPEN_SQUARE) (w ++ rest) ≡ false
shut_by_value [] rest e = absurd cc
shut_by_value (t ∷ w) rest e = value_apart t e

value_apart_name : (t : Shape) → is_constant t ≡ true → is_name_shape t ≡ false
unfolding is_constant is_name_shape
value_apart_name (shape.Number z) e = refl
value_apart_name (shape.Text u) e = refl
value_apart_name (shape.Keyword k) e = refl
value_apart_name (shape.Name n) e = absurd cc
value_apart_name (shape.Mark c) e = refl
value_apart_name shape.Other e = refl

no_name_by_value : (w rest : List Shape) → begins is_constant w ≡ true → begins is_name_shape (w ++ rest) ≡ false
no_name_by_value [] rest e = absurd cc
no_name_by_value (t ∷ w) rest e = value_apart_name t e

plain_reads : Reads plain never plain_at
unfolding plain_at is_mark_shape
plain_reads =
    choice_reads param_made const_made (is_mark_shape OPEN_SQUARE) param_at _ never param_reads (made_reads (λ v. operand.Const v) a_constant never constant_shape_at constant_reads)
    (λ x w h. then_opens (is_mark_shape OPEN_SQUARE) (shape.Mark OPEN_SQUARE) _ refl w h.2) (λ x w rest h e. shut_by_value w rest (constant_opens h.0 w h.2))

plain_no_name : (x : OperandDef) (w rest : List Shape) → plain x w → begins is_name_shape (w ++ rest) ≡ false
unfolding is_name_shape
plain_no_name x w rest (inl h) = then_shuts is_name_shape (shape.Mark OPEN_SQUARE) _ refl w rest h.2
plain_no_name x w rest (inr h) = no_name_by_value w rest (constant_opens h.0 w h.2)

abbrev ref_made : OperandDef → List Shape → Type 0
ref_made = made_from (λ r. operand.Ref r) ref

abbrev any_operand : OperandDef → List Shape → Type 0
any_operand = one_or_other ref_made plain

operand_reads : Reads any_operand (is_mark_shape POINT) operand_at
unfolding operand_at
operand_reads =
    choice_reads ref_made plain is_name_shape _ plain_at (is_mark_shape POINT) (made_reads (λ r. operand.Ref r) ref (is_mark_shape POINT) ref_at ref_reads) (wide plain (is_mark_shape POINT) plain_at plain_reads)
    (λ x w h. ref_opens h.0 w h.2) (λ x w rest h e. plain_no_name x w rest h)

-- ---- comparisons

abbrev operand_set : OperandDef → List Shape → Type 0
operand_set (operand.Const v) = a_constant v
operand_set (operand.Param z) = param z
operand_set (operand.Ref r) = ref r

const_is : (u v : Value) → operand.Const u ≡ operand.Const v → u ≡ v
const_is u v e = cc

param_is : (y z : ℤ) → operand.Param y ≡ operand.Param z → y ≡ z
param_is y z e = cc

ref_is : (q r : RefDef) → operand.Ref q ≡ operand.Ref r → q ≡ r
ref_is q r e = cc

params : (y z : ℤ) (label : Option (List ℕ)) (w : List Shape) → y ≡ z → bracketed (y, label) w → param z w
params y z label w e h = subst (λ (v : ℤ). param v w) e (label, h)

plain_is : (o : OperandDef) (w : List Shape) → plain o w → operand_set o w
plain_is (operand.Const v) w (inl h) = absurd cc
plain_is (operand.Const v) w (inr h) = subst (λ (u : Value). a_constant u w) (const_is h.0 v h.1) h.2
plain_is (operand.Param z) w (inl h) = params h.0.0 z h.0.1 w (param_is h.0.0 z h.1) h.2
plain_is (operand.Param z) w (inr h) = absurd cc
plain_is (operand.Ref r) w (inl h) = absurd cc
plain_is (operand.Ref r) w (inr h) = absurd cc

operand_is : (o : OperandDef) (w : List Shape) → any_operand o w → operand_set o w
operand_is o w (inr h) = plain_is o w h
operand_is (operand.Const v) w (inl h) = absurd cc
operand_is (operand.Param z) w (inl h) = absurd cc
operand_is (operand.Ref r) w (inl h) = subst (λ (q : RefDef). ref q w) (ref_is h.0 r h.1) h.2

operand_from : (o : OperandDef) (w : List Shape) → operand_set o w → any_operand o w
operand_from (operand.Const v) w h = inr (inr (v, refl, h))
operand_from (operand.Param z) w h = inr (inl ((z, h.0), refl, h.1))
operand_from (operand.Ref r) w h = inl (r, refl, h)

abbrev equality : OperandDef → List Shape → Type 0
equality o = mark EQUAL ⋅ any_operand o

abbrev eq_made : Op × OperandDef → List Shape → Type 0
eq_made = made_from (λ (o : OperandDef). (op.Eq, o)) equality

abbrev other_pair : Op × OperandDef → List Shape → Type 0
other_pair y = others y.0 ⋅ plain y.1

abbrev compares : Op × OperandDef → List Shape → Type 0
compares y = compare y.0 y.1

eq_to : (o : OperandDef) (w : List Shape) → equality o w → compare op.Eq o w
eq_to (operand.Const v) w h = record { front = h.front; back = h.back; fits_front = h.fits_front; fits_back = operand_is (operand.Const v) h.back h.fits_back; parts = h.parts }
eq_to (operand.Param z) w h = record { front = h.front; back = h.back; fits_front = h.fits_front; fits_back = operand_is (operand.Param z) h.back h.fits_back; parts = h.parts }
eq_to (operand.Ref r) w h = record { front = h.front; back = h.back; fits_front = h.fits_front; fits_back = operand_is (operand.Ref r) h.back h.fits_back; parts = h.parts }

eq_from : (o : OperandDef) (w : List Shape) → compare op.Eq o w → equality o w
eq_from (operand.Const v) w h = record { front = h.front; back = h.back; fits_front = h.fits_front; fits_back = operand_from (operand.Const v) h.back h.fits_back; parts = h.parts }
eq_from (operand.Param z) w h = record { front = h.front; back = h.back; fits_front = h.fits_front; fits_back = operand_from (operand.Param z) h.back h.fits_back; parts = h.parts }
eq_from (operand.Ref r) w h = record { front = h.front; back = h.back; fits_front = h.fits_front; fits_back = operand_from (operand.Ref r) h.back h.fits_back; parts = h.parts }

other_to : (o : Op) (x : OperandDef) (w : List Shape) → (others o ⋅ plain x) w → compare o x w
other_to o (operand.Const v) w h = record { front = h.front; back = h.back; fits_front = others_is o h.front h.fits_front; fits_back = plain_is (operand.Const v) h.back h.fits_back; parts = h.parts }
other_to o (operand.Param z) w h = record { front = h.front; back = h.back; fits_front = others_is o h.front h.fits_front; fits_back = plain_is (operand.Param z) h.back h.fits_back; parts = h.parts }
other_to o (operand.Ref r) w h = absurd (no_ref h.back h.fits_back)
  where
    no_ref : (v : List Shape) → plain (operand.Ref r) v → ⊥
    no_ref v (inl k) = absurd cc
    no_ref v (inr k) = absurd cc

no_other_ref : (o : Op) (r : RefDef) (w : List Shape) → (o ≡ op.Eq → ⊥) → compare o (operand.Ref r) w → ⊥
no_other_ref op.Eq r w n h = absurd (n refl)
no_other_ref op.Ne r w n h = h
no_other_ref op.Lt r w n h = h
no_other_ref op.Le r w n h = h
no_other_ref op.Gt r w n h = h
no_other_ref op.Ge r w n h = h
no_other_ref op.IsNull r w n h = h

other_from : (o : Op) (x : OperandDef) (w : List Shape) → IsOther o → compare o x w → (others o ⋅ plain x) w
other_from o (operand.Const v) w n h = record { front = h.front; back = h.back; fits_front = others_from o h.front n h.fits_front; fits_back = inr (v, refl, h.fits_back); parts = h.parts }
other_from o (operand.Param z) w n h = record { front = h.front; back = h.back; fits_front = others_from o h.front n h.fits_front; fits_back = inl ((z, h.fits_back.0), refl, h.fits_back.1); parts = h.parts }
other_from o (operand.Ref r) w n h = absurd (no_other_ref o r w n.0 h)

-- a comparison by a mark
abbrev marked : Op × OperandDef → List Shape → Type 0
marked y w = (is_null_test y.0 ≡ false) × compares y w

compare_to : (y : Op × OperandDef) (w : List Shape) → one_or_other eq_made other_pair y w → marked y w
compare_to y w (inl h) = subst (λ (z : Op × OperandDef). marked z w) h.1 (refl, eq_to h.0 w h.2)
compare_to y w (inr h) = (others_marked y.0 h.front h.fits_front, other_to y.0 y.1 w h)

compare_from_at : (o : Op) (x : OperandDef) (w : List Shape) → is_null_test o ≡ false → compare o x w → one_or_other eq_made other_pair (o, x) w
compare_from_at op.Eq x w t h = inl (x, refl, eq_from x w h)
compare_from_at op.Ne x w t h = inr (other_from op.Ne x w ((λ q. absurd cc), refl) h)
compare_from_at op.Lt x w t h = inr (other_from op.Lt x w ((λ q. absurd cc), refl) h)
compare_from_at op.Le x w t h = inr (other_from op.Le x w ((λ q. absurd cc), refl) h)
compare_from_at op.Gt x w t h = inr (other_from op.Gt x w ((λ q. absurd cc), refl) h)
compare_from_at op.Ge x w t h = inr (other_from op.Ge x w ((λ q. absurd cc), refl) h)
compare_from_at op.IsNull x w t h = absurd (false≢true (sym t))

pair_shuts : (y : Op × OperandDef) (w rest : List Shape) → other_pair y w → begins (is_mark_shape EQUAL) (w ++ rest) ≡ false
pair_shuts y w rest h = ap (λ (v : List Shape). begins (is_mark_shape EQUAL) (v ++ rest)) h.parts ∙ ap (begins (is_mark_shape EQUAL)) (append_assoc h.front h.back rest) ∙ others_not_equal y.0 h.front (h.back ++ rest) h.fits_front

compare_reads : Reads marked (is_mark_shape POINT) compare_at
unfolding compare_at equality_at is_mark_shape
compare_reads =
    same_set (one_or_other eq_made other_pair) marked (is_mark_shape POINT) compare_at compare_to (λ y w h. compare_from_at y.0 y.1 w h.0 h.1)
    (choice_reads eq_made other_pair (is_mark_shape EQUAL) equality_at (pair_at op_at plain_at) (is_mark_shape POINT)
    (made_reads (λ (o : OperandDef). (op.Eq, o)) equality (is_mark_shape POINT) _ (skip_free (mark EQUAL) any_operand (is_mark_shape POINT) (mark_at EQUAL) operand_at (mark_reads EQUAL) operand_reads))
    (wide other_pair (is_mark_shape POINT) (pair_at op_at plain_at) (pair_free others plain never op_at plain_at op_reads plain_reads))
    (λ y w h. then_opens (is_mark_shape EQUAL) (shape.Mark EQUAL) _ refl w h.2) (λ y w rest h e. pair_shuts y w rest h))

-- a comparison begins with its mark
compare_shuts : (p : Shape → Bool) (o : Op) (x : OperandDef) (w rest : List Shape) → p (shape.Mark (operator o)) ≡ false → compare o x w → begins p (w ++ rest) ≡ false
compare_shuts p o (operand.Const v) w rest n h = then_shuts p (shape.Mark (operator o)) (a_constant v) n w rest h
compare_shuts p o (operand.Param z) w rest n h = then_shuts p (shape.Mark (operator o)) (param z) n w rest h
compare_shuts p op.Eq (operand.Ref r) w rest n h = then_shuts p (shape.Mark EQUAL) (ref r) n w rest h
compare_shuts p op.Ne (operand.Ref r) w rest n h = absurd h
compare_shuts p op.Lt (operand.Ref r) w rest n h = absurd h
compare_shuts p op.Le (operand.Ref r) w rest n h = absurd h
compare_shuts p op.Gt (operand.Ref r) w rest n h = absurd h
compare_shuts p op.Ge (operand.Ref r) w rest n h = absurd h
compare_shuts p op.IsNull (operand.Ref r) w rest n h = absurd h

no_point : (o : Op) → is_mark_shape POINT (shape.Mark (operator o)) ≡ false
unfolding is_mark_shape
no_point op.Eq = refl
no_point op.Ne = refl
no_point op.Lt = refl
no_point op.Le = refl
no_point op.Gt = refl
no_point op.Ge = refl
no_point op.IsNull = refl

-- ---- IS NULL

abbrev is_is : Shape → Bool
is_is = is_soft_shape soft_word.Is

abbrev null_words : Unit {0} → List Shape → Type 0
null_words u = soft soft_word.Is ⋅ soft soft_word.Null

null_test_reads : Reads null_test never null_test_at
unfolding null_test_at
null_test_reads =
    made_reads (λ (u : Unit {0}). (op.IsNull, operand.Const value.Null)) null_words never (skip_at (soft_at soft_word.Is) (soft_at soft_word.Null))
    (skip_free (soft soft_word.Is) (λ _. soft soft_word.Null) never (soft_at soft_word.Is) (soft_at soft_word.Null) (soft_reads soft_word.Is) (soft_reads soft_word.Null))

no_is : (c : ℕ) → is_is (shape.Mark c) ≡ false
unfolding is_soft_shape
no_is c = refl

comparison_reads : Reads comparison (is_mark_shape POINT) comparison_at
unfolding comparison_at
comparison_reads =
    same_set (one_or_other null_test marked) comparison (is_mark_shape POINT) comparison_at
    (λ y w h. elim h [ inl n ↦ inr n | inr m ↦ inl m ]) (λ y w h. elim h [ inl m ↦ inr m | inr n ↦ inl n ])
    (choice_reads null_test marked is_is null_test_at compare_at (is_mark_shape POINT) (wide null_test (is_mark_shape POINT) null_test_at null_test_reads) compare_reads
    (λ y w h. then_opens is_is (shape.Name (soft_name soft_word.Is)) (soft soft_word.Null) (soft_passes soft_word.Is) w h.2)
    (λ y w rest h e. compare_shuts is_is y.0 y.1 w rest (no_is (operator y.0)) h.1))

comparison_shuts : (y : Op × OperandDef) (w rest : List Shape) → comparison y w → begins (is_mark_shape POINT) (w ++ rest) ≡ false
unfolding is_mark_shape
comparison_shuts y w rest (inl m) = compare_shuts (is_mark_shape POINT) y.0 y.1 w rest (no_point y.0) m.1
comparison_shuts y w rest (inr n) = then_shuts (is_mark_shape POINT) (shape.Name (soft_name soft_word.Is)) (soft soft_word.Null) refl w rest n.2

pub pred_reads : Reads pred (is_mark_shape POINT) pred_at
unfolding pred_at
pred_reads =
    map_reads (λ (x : RefDef × (Op × OperandDef)). ref x.0 ⋅ comparison x.1) pred (is_mark_shape POINT) (λ x. record { left = x.0; op = x.1.0; right = x.1.1 }) (pair_at ref_at comparison_at)
    (pair_reads ref comparison (is_mark_shape POINT) (is_mark_shape POINT) ref_at comparison_at ref_reads comparison_reads (λ y v rest h e. comparison_shuts y v rest h))
    (λ x w h. h) (λ p w h. ((p.left, (p.op, p.right)), refl, h))
