-- Each reader of one token reads what that token spells.
use Rattle.std.proofs.Common.{◌≡◌, ℕ, ℤ, pos, Bool, true, false, cond, eqb, eq-eqb, List, [], ◌∷◌, Option, Some, None, refl, sym, ap, ◌∙◌}
use Rattle.std.proofs.lemmas.Bool.{eqb-true, false≢true}
use Rattle.std.proofs.lemmas.Slice.Eq.{bytes_eq-Decides}
use Rattle.pq_base.specs.Values.{is_null}
use Rattle.pq_base.specs.declared.value.Value.{Value}
use Rattle.pq_base.specs.declared.value.Value.TheVariants as value
use Rattle.pq_grammar.specs.Language.{one, separated_by}
use Rattle.pq_grammar.specs.Reader.{Reader, begins, picked_token, map_at, choice_at, separated_at}
use Rattle.pq_grammar.proofs.Steps.{Reads, never, begins-never}
use Rattle.pq_grammar.proofs.Readers.{one_reads, part_reads}
use Rattle.pq_grammar.proofs.Lists.{one_opens, same_set, separated_reads}
use Rattle.pq_grammar.proofs.Choices.{test_reads}
use Rattle.pq_shape.specs.Front.{is_word_shape, is_mark_shape, is_constant, is_value, is_soft_shape, soft_name, constant_in, constant_shape_at, soft_at, name_of, number_in, text_in, truth_of, value_in, word_at, mark_at, name_at, number_at, text_at, value_shape_at}
use Rattle.pq_shape.specs.Parts.{word, soft, mark, comma, name, number, text, a_constant, a_value}
use Rattle.pq_shape.specs.declared.keyword.TheConstants.{FALSE, TRUE}
use Rattle.pq_shape.specs.declared.mark.TheConstants.{COMMA}
use Rattle.pq_shape.specs.declared.soft.Soft.{Soft}
use Rattle.pq_shape.specs.declared.soft.Soft.TheVariants as soft_word
use Rattle.pq_shape.specs.Shape.{Shape}
use Rattle.pq_shape.specs.Shape as shape

pub word_is : (k : ℕ) (t : Shape) → is_word_shape k t ≡ true → t ≡ shape.Keyword k
unfolding is_word_shape
word_is k (shape.Keyword j) e = ap (λ (i : ℕ). shape.Keyword i) (eqb-true j k e)
word_is k (shape.Name n) e = absurd cc
word_is k (shape.Number z) e = absurd cc
word_is k (shape.Text t) e = absurd cc
word_is k (shape.Mark c) e = absurd cc
word_is k shape.Other e = absurd cc

pub mark_is : (k : ℕ) (t : Shape) → is_mark_shape k t ≡ true → t ≡ shape.Mark k
unfolding is_mark_shape
mark_is k (shape.Mark c) e = ap (λ (i : ℕ). shape.Mark i) (eqb-true c k e)
mark_is k (shape.Name n) e = absurd cc
mark_is k (shape.Number z) e = absurd cc
mark_is k (shape.Text t) e = absurd cc
mark_is k (shape.Keyword j) e = absurd cc
mark_is k shape.Other e = absurd cc

word_passes : (k : ℕ) → is_word_shape k (shape.Keyword k) ≡ true
unfolding is_word_shape
word_passes k = eq-eqb k k refl

mark_passes : (k : ℕ) → is_mark_shape k (shape.Mark k) ≡ true
unfolding is_mark_shape
mark_passes k = eq-eqb k k refl

pub word_reads : (k : ℕ) → Reads (λ _. word k) never (word_at k)
word_reads k = test_reads (is_word_shape k) (shape.Keyword k) (word_passes k) (word_is k)

pub mark_reads : (k : ℕ) → Reads (λ _. mark k) never (mark_at k)
mark_reads k = test_reads (is_mark_shape k) (shape.Mark k) (mark_passes k) (mark_is k)

name_back : (t : Shape) (n : List ℕ) → name_of t ≡ Some n → t ≡ shape.Name n
unfolding name_of
name_back (shape.Name m) n e = cc
name_back (shape.Number z) n e = absurd cc
name_back (shape.Text t) n e = absurd cc
name_back (shape.Keyword j) n e = absurd cc
name_back (shape.Mark j) n e = absurd cc
name_back shape.Other n e = absurd cc

number_back : (t : Shape) (n : ℤ) → number_in t ≡ Some n → t ≡ shape.Number n
unfolding number_in
number_back (shape.Number m) n e = cc
number_back (shape.Name z) n e = absurd cc
number_back (shape.Text t) n e = absurd cc
number_back (shape.Keyword j) n e = absurd cc
number_back (shape.Mark j) n e = absurd cc
number_back shape.Other n e = absurd cc

text_back : (t : Shape) (n : List ℕ) → text_in t ≡ Some n → t ≡ shape.Text n
unfolding text_in
text_back (shape.Text m) n e = cc
text_back (shape.Name z) n e = absurd cc
text_back (shape.Number t) n e = absurd cc
text_back (shape.Keyword j) n e = absurd cc
text_back (shape.Mark j) n e = absurd cc
text_back shape.Other n e = absurd cc

pub name_reads : Reads name never name_at
unfolding name_of
name_reads = one_reads name_of (λ n. shape.Name n) [] name_back (λ n. refl)

pub number_reads : Reads number never number_at
unfolding number_in
number_reads = one_reads number_in (λ n. shape.Number n) (pos 0) number_back (λ n. refl)

pub text_reads : Reads text never text_at
unfolding text_in
text_reads = one_reads text_in (λ n. shape.Text n) [] text_back (λ n. refl)

soft_is : (s : Soft) (t : Shape) → is_soft_shape s t ≡ true → t ≡ shape.Name (soft_name s)
unfolding is_soft_shape
soft_is s (shape.Name n) e = ap (λ (m : List ℕ). shape.Name m) ((bytes_eq-Decides n (soft_name s)).0 e)
soft_is s (shape.Keyword j) e = absurd cc
soft_is s (shape.Number z) e = absurd cc
soft_is s (shape.Text t) e = absurd cc
soft_is s (shape.Mark c) e = absurd cc
soft_is s shape.Other e = absurd cc

pub soft_passes : (s : Soft) → is_soft_shape s (shape.Name (soft_name s)) ≡ true
unfolding is_soft_shape
soft_passes s = (bytes_eq-Decides (soft_name s) (soft_name s)).1 refl

pub soft_reads : (s : Soft) → Reads (λ _. soft s) never (soft_at s)
soft_reads s = test_reads (is_soft_shape s) (shape.Name (soft_name s)) (soft_passes s) (soft_is s)

-- the one token of a value
value_token : Value → Shape
value_token value.Null = shape.Name (soft_name soft_word.Null)
value_token (value.Int z) = shape.Number z
value_token (value.Text t) = shape.Text t
value_token (value.Bool true) = shape.Keyword TRUE
value_token (value.Bool false) = shape.Keyword FALSE

some_is : (u v : Value) → Some u ≡ Some v → u ≡ v
some_is u v e = cc

truth_is : (j : ℕ) (b c : Bool) (v : Value) → eqb j TRUE ≡ b → eqb j FALSE ≡ c → cond b (Some (value.Bool true)) (cond c (Some (value.Bool false)) None) ≡ Some v → shape.Keyword j ≡ value_token v
unfolding value_token
truth_is j true c v e f h = ap (λ (i : ℕ). shape.Keyword i) (eqb-true j TRUE e) ∙ ap value_token (some_is (value.Bool true) v h)
truth_is j false true v e f h = ap (λ (i : ℕ). shape.Keyword i) (eqb-true j FALSE f) ∙ ap value_token (some_is (value.Bool false) v h)
truth_is j false false v e f h = absurd cc

-- ---- constants

abbrev IsConstant : Value → Type 0
IsConstant v = is_null v ≡ false

truth_plain : (b c : Bool) (v : Value) → cond b (Some (value.Bool true)) (cond c (Some (value.Bool false)) None) ≡ Some v → IsConstant v
truth_plain true c v h = sym (ap is_null (some_is (value.Bool true) v h))
truth_plain false true v h = sym (ap is_null (some_is (value.Bool false) v h))
truth_plain false false v h = absurd cc

constant_plain : (t : Shape) (v : Value) → constant_in t ≡ Some v → IsConstant v
unfolding constant_in truth_of
constant_plain (shape.Number z) v e = let h : value.Int z ≡ v = cc in sym (ap is_null h)
constant_plain (shape.Text t) v e = let h : value.Text t ≡ v = cc in sym (ap is_null h)
constant_plain (shape.Keyword j) v e = truth_plain (eqb j TRUE) (eqb j FALSE) v e
constant_plain (shape.Name n) v e = absurd cc
constant_plain (shape.Mark j) v e = absurd cc
constant_plain shape.Other v e = absurd cc

constant_back : (t : Shape) (v : Value) → constant_in t ≡ Some v → t ≡ value_token v
unfolding constant_in truth_of value_token
constant_back (shape.Number z) v e = let h : value.Int z ≡ v = cc in ap value_token h
constant_back (shape.Text t) v e = let h : value.Text t ≡ v = cc in ap value_token h
constant_back (shape.Keyword j) v e = truth_is j (eqb j TRUE) (eqb j FALSE) v refl refl e
constant_back (shape.Name n) v e = absurd cc
constant_back (shape.Mark j) v e = absurd cc
constant_back shape.Other v e = absurd cc

constant_forth : (v : Value) → IsConstant v → constant_in (value_token v) ≡ Some v
unfolding constant_in truth_of value_token
constant_forth value.Null p = absurd cc
constant_forth (value.Int z) p = refl
constant_forth (value.Text t) p = refl
constant_forth (value.Bool true) p = refl
constant_forth (value.Bool false) p = refl

constant_set : (v : Value) (w : List Shape) → IsConstant v × one (value_token v) w → a_constant v w
unfolding value_token
constant_set value.Null w h = absurd (false≢true (sym h.0))
constant_set (value.Int z) w h = h.1
constant_set (value.Text t) w h = h.1
constant_set (value.Bool true) w h = h.1
constant_set (value.Bool false) w h = h.1

constant_unset : (v : Value) (w : List Shape) → a_constant v w → IsConstant v × one (value_token v) w
unfolding value_token
constant_unset value.Null w h = absurd h
constant_unset (value.Int z) w h = (refl, h)
constant_unset (value.Text t) w h = (refl, h)
constant_unset (value.Bool true) w h = (refl, h)
constant_unset (value.Bool false) w h = (refl, h)

pub constant_reads : Reads a_constant never constant_shape_at
constant_reads = same_set (λ v w. IsConstant v × one (value_token v) w) a_constant never constant_shape_at constant_set constant_unset (part_reads constant_in value_token IsConstant (value.Bool true) refl constant_plain constant_back constant_forth)

pub constant_opens : (v : Value) (w : List Shape) → a_constant v w → begins is_constant w ≡ true
unfolding is_constant
constant_opens value.Null w h = absurd h
constant_opens (value.Int z) w h = one_opens is_constant (shape.Number z) refl w h
constant_opens (value.Text t) w h = one_opens is_constant (shape.Text t) refl w h
constant_opens (value.Bool true) w h = one_opens is_constant (shape.Keyword TRUE) refl w h
constant_opens (value.Bool false) w h = one_opens is_constant (shape.Keyword FALSE) refl w h

-- ---- values

null_or : (t : Shape) (b : Bool) (v : Value) → is_soft_shape soft_word.Null t ≡ b → cond b (Some value.Null) (constant_in t) ≡ Some v → t ≡ value_token v
unfolding value_token
null_or t true v e h = soft_is soft_word.Null t e ∙ ap value_token (some_is value.Null v h)
null_or t false v e h = constant_back t v h

value_back : (t : Shape) (v : Value) → value_in t ≡ Some v → t ≡ value_token v
value_back t v e = null_or t (is_soft_shape soft_word.Null t) v refl e

value_forth : (v : Value) → value_in (value_token v) ≡ Some v
unfolding value_token is_soft_shape constant_in truth_of
value_forth value.Null = ap (λ b. cond b (Some value.Null) None) (soft_passes soft_word.Null)
value_forth (value.Int z) = refl
value_forth (value.Text t) = refl
value_forth (value.Bool true) = refl
value_forth (value.Bool false) = refl

value_set : (v : Value) (w : List Shape) → one (value_token v) w → a_value v w
unfolding value_token
value_set value.Null w h = h
value_set (value.Int z) w h = h
value_set (value.Text t) w h = h
value_set (value.Bool true) w h = h
value_set (value.Bool false) w h = h

value_unset : (v : Value) (w : List Shape) → a_value v w → one (value_token v) w
unfolding value_token
value_unset value.Null w h = h
value_unset (value.Int z) w h = h
value_unset (value.Text t) w h = h
value_unset (value.Bool true) w h = h
value_unset (value.Bool false) w h = h

pub value_reads : Reads a_value never value_shape_at
value_reads = same_set (λ v. one (value_token v)) a_value never value_shape_at value_set value_unset (one_reads value_in value_token (value.Bool true) value_back value_forth)

or_true : (b : Bool) → cond b true true ≡ true
or_true true = refl
or_true false = refl

constant_is_value : (w : List Shape) → begins is_constant w ≡ true → begins is_value w ≡ true
constant_is_value [] e = e
constant_is_value (t ∷ w) e = ap (λ (b : Bool). cond (is_soft_shape soft_word.Null t) true b) e ∙ or_true (is_soft_shape soft_word.Null t)

pub value_opens : (v : Value) (w : List Shape) → a_value v w → begins is_value w ≡ true
value_opens value.Null w h = one_opens is_value (shape.Name (soft_name soft_word.Null)) (ap (λ b. cond b true (is_constant (shape.Name (soft_name soft_word.Null)))) (soft_passes soft_word.Null)) w h
value_opens (value.Int z) w h = constant_is_value w (constant_opens (value.Int z) w h)
value_opens (value.Text t) w h = constant_is_value w (constant_opens (value.Text t) w h)
value_opens (value.Bool b) w h = constant_is_value w (constant_opens (value.Bool b) w h)

chosen_token : (b : Bool) (o : Option Value) (ts : List Shape) → picked_token (cond b (Some value.Null) o) ts ≡ cond b (map_at (λ u. value.Null) (λ rest. picked_token {X = Unit {0}} (cond b (Some tt) None) rest) ts) (picked_token o ts)
chosen_token true o ts = refl
chosen_token false o ts = refl

-- a value is NULL, where it comes, or a constant
pub value_chosen : (ts : List Shape) → value_shape_at ts ≡ choice_at (is_soft_shape soft_word.Null) (map_at (λ u. value.Null) (soft_at soft_word.Null)) constant_shape_at ts
value_chosen [] = refl
value_chosen (t ∷ ts) = chosen_token (is_soft_shape soft_word.Null t) (constant_in t) ts

-- ---- lists with commas

pub comma_separated : {X : Type 0} (S : X → List Shape → Type 0) (r : Reader Shape X) → Reads S never r → Reads (separated_by comma S) (is_mark_shape COMMA) (separated_at (is_mark_shape COMMA) (mark_at COMMA) r)
comma_separated S r h =
    separated_reads comma S (is_mark_shape COMMA) never (is_mark_shape COMMA) (mark_at COMMA) r (mark_reads COMMA) h
    (λ w s. one_opens (is_mark_shape COMMA) (shape.Mark COMMA) (mark_passes COMMA) w s) (λ u e. refl) (λ rest e. begins-never rest) (λ rest e. e)
