-- A query that reading gives is as texts spell it: names are names, and constants are in their kinds' ranges.
use Rattle.std.proofs.Common.{◌≡◌, ℕ, ℤ, Bool, true, false, cond, List, [], ◌∷◌, drop, Option, Some, None, Ok, refl, sym, subst, ◌∙◌, inl, inr}
use Rattle.std.specs.Prelude.{FitsSigned, ◌==◌, zero, suc, length, map, nat_le, unwrap_or}
use Rattle.std.specs.Int.{w64}
use Rattle.std.specs.List.{AllByRecursion}
use Rattle.std.specs.Str.{is_utf8}
use Rattle.std.proofs.lemmas.Bool.{false≢true}
use Rattle.std.proofs.lemmas.Option.{none-some, same_Some}
use Rattle.std.proofs.lemmas.Str.{IsUtf8-from_is_utf8}
use Rattle.pq_base.specs.Values.{IsValue}
use Rattle.pq_base.specs.declared.value.Value.{Value}
use Rattle.pq_base.specs.declared.value.Value.TheVariants as value
use Rattle.pq_text.specs.Tokens.{tokens_of, slice_of}
use Rattle.pq_text.specs.declared.token.Kind.{Kind}
use Rattle.pq_text.specs.declared.token.Kind.TheVariants as kind
use Rattle.pq_text.specs.declared.token.Token.{Token}
use Rattle.pq_text.proofs.Spans.{tokens_have_forms}
use Rattle.pq_grammar.specs.Language.{◌⋅◌, optional}
use Rattle.pq_grammar.proofs.Steps.{never}
use Rattle.pq_grammar.proofs.Whole.{whole_found}
use Rattle.pq_shape.specs.Front.{truth_of, constant_in}
use Rattle.pq_base.specs.Sums.{has_64_bits}
use Rattle.pq_base.proofs.Sums.{bits_fit}
use Rattle.pq_shape.specs.Numbers.{fitting_number, signed_number}
use Rattle.pq_shape.specs.Parts.{word, name as a_name, a_constant}
use Rattle.pq_base.specs.Words.{keywords, uppercase_byte}
use Rattle.pq_shape.specs.Shapes.{shape_of, shapes_of, kind_shape, utf8_text, between_quotes, text_shape, number_or_other, keyword_or, named_shape, name_shape, word_place, lowercase_bytes, mark_code}
use Rattle.pq_shape.specs.declared.keyword.TheConstants.{AND, FALSE, TRUE}
use Rattle.pq_shape.specs.Shape.{Shape}
use Rattle.pq_shape.specs.Shape as shape
use Rattle.pq_schema.specs.Names.{IsName}
use Rattle.pq_base.specs.Comparing.{is_null_test}
use Rattle.pq_base.specs.declared.op.Op.{Op}
use Rattle.pq_base.specs.declared.op.Op.TheVariants as op
use Rattle.pq_query_read.proofs.Named.{IsNamed, AreNamed, named_tokens}
use Rattle.pq_query_read.proofs.Within.{GivesWithin, both_within, separated_gives}
use Rattle.pq_query_read.specs.Grammar.{alias, relation, comma_or_join, compare, comparison, pred, conditions, SpellsSelect}
use Rattle.pq_query_read.specs.Reading.{select_at, select_read_at, select_of}
use Rattle.pq_query_read.specs.declared.select.OperandDef.{OperandDef}
use Rattle.pq_query_read.specs.declared.select.OperandDef.TheVariants as operand
use Rattle.pq_query_read.specs.declared.select.SelectDef.{SelectDef}
use Rattle.pq_query_read.proofs.Selects.{select_reads}
use Rattle.pq_query_read.proofs.Spelled.{IsRelationDef, IsOperandDef, IsPredDef, IsSelectDef}

-- ---- shapes

-- the value that the shape stands for is in its kind's range
IsValued : Shape → Type 0
IsValued s = (v : Value) → constant_in s ≡ Some v → IsValue v

abbrev IsKnown : Shape → Type 0
IsKnown s = IsNamed s × IsValued s

abbrev AreKnown : List Shape → Type 0
AreKnown shapes = AllByRecursion IsKnown shapes

-- the value of a number or of a text
is_int : (z : ℤ) (v : Value) → ◌≡◌ {A = Option Value} (Some (value.Int z)) (Some v) → FitsSigned w64 z → IsValue v
is_int z v e fits = subst IsValue (same_Some (value.Int z) v e) fits

number_valued : (z : ℤ) → IsValued (number_or_other (fitting_number z))
unfolding IsValued constant_in fitting_number
number_valued z =
    elim (has_64_bits z) as (λ b. has_64_bits z ≡ b → (v : Value) → constant_in (number_or_other (cond b (Some z) None)) ≡ Some v → IsValue v) [
      | true ↦ λ is v e. is_int z v e (bits_fit z is)
      | false ↦ λ _ v e. absurd (none-some v e)
    ] refl

text_valued : (bs : List ℕ) → IsValued (text_shape (utf8_text bs))
unfolding IsValued constant_in utf8_text
text_valued bs =
    elim (is_utf8 bs) as (λ b. is_utf8 bs ≡ b → (v : Value) → constant_in (text_shape (cond b (Some bs) None)) ≡ Some v → IsValue v) [
      | true ↦ λ is v e. subst IsValue (same_Some (value.Text bs) v e) (IsUtf8-from_is_utf8 bs is)
      | false ↦ λ _ v e. absurd (none-some v e)
    ] refl

truth_valued : (a b : Bool) (v : Value) → cond a (Some (value.Bool true)) (cond b (Some (value.Bool false)) None) ≡ Some v → IsValue v
truth_valued true b v e = subst IsValue (same_Some (value.Bool true) v e) tt
truth_valued false true v e = subst IsValue (same_Some (value.Bool false) v e) tt
truth_valued false false v e = absurd (none-some v e)

-- a word is a keyword or a name or nothing
module _ where
  keyword_or_valued : (s : Shape) (o : Option ℕ) → IsValued s → IsValued (keyword_or s o)
  unfolding IsValued constant_in truth_of
  keyword_or_valued s None h v e = h v e
  keyword_or_valued s (Some k) h v e = truth_valued (k == TRUE) (k == FALSE) v e

  named_valued : (o : Option (List ℕ)) → IsValued (named_shape o)
  unfolding IsValued constant_in
  named_valued None v e = absurd (none-some v e)
  named_valued (Some n) v e = absurd (none-some v e)

  other_valued : IsValued shape.Other
  unfolding IsValued constant_in
  other_valued v e = absurd (none-some v e)

  mark_valued : (c : ℕ) → IsValued (shape.Mark c)
  unfolding IsValued constant_in
  mark_valued c v e = absurd (none-some v e)

  name_valued : (b : Bool) (o : Option (List ℕ)) → IsValued (cond b (named_shape o) shape.Other)
  name_valued true o = named_valued o
  name_valued false o = other_valued

kind_valued : (k : Kind) (w : List ℕ) → IsValued (kind_shape k w)
kind_valued kind.Word w =
    keyword_or_valued (name_shape w) (word_place keywords (map uppercase_byte w))
    (name_valued (nat_le (length w) 32) (utf8_text (lowercase_bytes w)))
kind_valued kind.Number w = number_valued (signed_number w)
kind_valued kind.Text w = text_valued (between_quotes w)
kind_valued kind.Mark w = mark_valued (mark_code w)
kind_valued kind.Other w = other_valued

known_tokens : (text : List ℕ) (ts : List Token) → AreNamed (shapes_of text ts) → AreKnown (shapes_of text ts)
unfolding shape_of
known_tokens text [] have = tt
known_tokens text (t ∷ ts) have = ((have.0, kind_valued t.kind (slice_of text t)), known_tokens text ts have.1)

known_drop : (n : ℕ) (shapes : List Shape) → AreKnown shapes → AreKnown (drop n shapes)
known_drop zero shapes all = all
known_drop (suc n) [] all = tt
known_drop (suc n) (s ∷ shapes) all = known_drop n shapes all.1

-- ---- what is spelled by known shapes

abbrev Gives : {X : Type 0} → (X → List Shape → Type 0) → (X → Type 0) → Type 0
Gives S P = GivesWithin IsKnown S P

both_known : (A B : List Shape → Type 0) (w : List Shape) (h : (A ⋅ B) w) → AreKnown w → AreKnown h.front × AreKnown h.back
both_known = both_within IsKnown

name_gives : Gives a_name IsName
name_gives n w h known = (subst AreKnown h known).0.0 n refl

value_gives : Gives a_constant IsValue
unfolding IsValued constant_in
value_gives value.Null w h known = tt
value_gives (value.Int z) w h known = (subst AreKnown h known).0.1 (value.Int z) refl
value_gives (value.Text t) w h known = (subst AreKnown h known).0.1 (value.Text t) refl
value_gives (value.Bool b) w h known = tt

relation_gives : Gives relation IsRelationDef
relation_gives r w h known = by r.alias h.back h.fits_back (both_known _ _ w h known).1
  where
    table : IsName r.table
    table = name_gives r.table h.front h.fits_front (both_known (a_name r.table) (optional alias r.alias) w h known).0

    by : (o : Option (List ℕ)) (back : List Shape) → optional alias o back → AreKnown back → IsName (unwrap_or o r.table)
    by None back spelt known = table
    by (Some a) back (inl spelt) known = name_gives a spelt.back spelt.fits_back (both_known _ _ back spelt known).1
    by (Some a) back (inr spelt) known = name_gives a back spelt known

compare_gives : (o : Op) (right : OperandDef) (w : List Shape) → is_null_test o ≡ false → compare o right w → AreKnown w → IsOperandDef o right
compare_gives o (operand.Const v) w test h known = (value_gives v h.back h.fits_back (both_known _ _ w h known).1, λ is. absurd (false≢true (sym test ∙ is)))
compare_gives o (operand.Param z) w test h known = test
compare_gives op.Eq (operand.Ref r) w test h known = refl
compare_gives op.Ne (operand.Ref r) w test h known = absurd h
compare_gives op.Lt (operand.Ref r) w test h known = absurd h
compare_gives op.Le (operand.Ref r) w test h known = absurd h
compare_gives op.Gt (operand.Ref r) w test h known = absurd h
compare_gives op.Ge (operand.Ref r) w test h known = absurd h
compare_gives op.IsNull (operand.Ref r) w test h known = absurd h

comparison_gives : (o : Op) (right : OperandDef) (w : List Shape) → comparison (o, right) w → AreKnown w → IsOperandDef o right
comparison_gives o right w (inl m) known = compare_gives o right w m.0 m.1 known
comparison_gives o right w (inr n) known = subst (λ (y : Op × OperandDef). IsOperandDef y.0 y.1) n.1 (tt, λ is. refl)

pred_gives : Gives pred IsPredDef
pred_gives p w h known = comparison_gives p.op p.right h.back h.fits_back (both_known _ _ w h known).1

conditions_give : Gives conditions (AllByRecursion IsPredDef)
conditions_give ps w (inl none) known = subst (AllByRecursion IsPredDef) (sym none.0) tt
conditions_give ps w (inr h) known = separated_gives IsKnown (word AND) pred IsPredDef pred_gives ps h.back h.fits_back (both_known _ _ w h known).1

select_gives : Gives SpellsSelect IsSelectDef
select_gives s w h known =
    let a = (both_known _ _ w h known).1 in
    let b = (both_known _ _ h.back h.fits_back a).1 in
    let c = (both_known _ _ h.fits_back.back h.fits_back.fits_back b).1 in
    let from = h.fits_back.fits_back.fits_back in
    let d = both_known _ _ h.fits_back.fits_back.back from c in
    let where_part = from.fits_back in
    let e = both_known _ _ from.back where_part d.1 in
    record {
      relations = separated_gives IsKnown comma_or_join relation IsRelationDef relation_gives s.relations from.front from.fits_front d.0;
      preds = conditions_give s.preds where_part.front where_part.fits_front e.0;
    }

-- ---- texts

pub select_spelled : (text : List ℕ) (from : ℕ) (def : SelectDef) → select_of text (tokens_of text) from ≡ Ok def → IsSelectDef def
unfolding select_read_at
select_spelled text from def is =
    select_gives def (drop from (shapes_of text (tokens_of text))) (whole_found SpellsSelect never select_at select_reads (drop from (shapes_of text (tokens_of text))) def is)
    (known_drop from (shapes_of text (tokens_of text)) (known_tokens text (tokens_of text) (named_tokens text (tokens_of text) (tokens_have_forms text))))
