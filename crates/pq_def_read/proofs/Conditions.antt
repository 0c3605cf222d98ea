-- The readers of what is set, of the key and of conditions read what the grammar says.
use Rattle.std.proofs.Common.{◌≡◌, ℕ, ℤ, Bool, false, List, [], ◌++◌, Option, Some, None, ◌⊎◌, inl, inr, refl, sym, ap, subst, ◌∙◌}
use Rattle.std.proofs.lemmas.Bool.{false≢true}
use Rattle.pq_base.specs.Comparing.{is_null_test}
use Rattle.pq_base.specs.declared.op.Op.{Op}
use Rattle.pq_base.specs.declared.op.Op.TheVariants as op
use Rattle.pq_base.specs.declared.value.Value.{Value}
use Rattle.pq_base.specs.declared.value.Value.TheVariants as value
use Rattle.pq_grammar.specs.Language.{◌⋅◌, nothing, optional, separated_by, made_from}
use Rattle.pq_grammar.specs.Reader.{Reader, begins, pair_at, skip_at, option_at, option_items, separated_at}
use Rattle.pq_grammar.proofs.Steps.{Reads, never, begins-never, wider_reads}
use Rattle.pq_grammar.proofs.Readers.{pair_reads, map_reads}
use Rattle.pq_grammar.proofs.Options.{option_reads}
use Rattle.pq_grammar.proofs.Lists.{one_opens, then_opens, then_shuts, pair_free, skip_free, same_set, separated_reads}
use Rattle.pq_grammar.proofs.Choices.{made_reads, choice_reads, any_of, not_first, not_second, one_or_other}
use Rattle.pq_shape.specs.Front.{is_word_shape, is_mark_shape, is_soft_shape, soft_name, word_at, soft_at, mark_at, name_at, number_at, constant_shape_at, value_shape_at}
use Rattle.pq_shape.specs.Operators.{operator, op_at}
use Rattle.pq_shape.specs.Parts.{word, soft, mark, comma, name, number, a_constant, a_value}
use Rattle.pq_shape.proofs.Operators.{op_made, op_made_reads, others, op_reads, others_is, others_from, others_marked, others_not_equal}
use Rattle.pq_shape.proofs.Tokens.{word_reads, soft_reads, soft_passes, mark_reads, name_reads, number_reads, constant_reads, value_reads, comma_separated}
use Rattle.pq_shape.specs.declared.keyword.TheConstants.{AND}
use Rattle.pq_shape.specs.declared.mark.TheConstants.{COMMA, EQUAL}
use Rattle.pq_shape.specs.Shape.{Shape}
use Rattle.pq_shape.specs.Shape as shape
use Rattle.pq_shape.specs.declared.soft.Soft.{Soft}
use Rattle.pq_shape.specs.declared.soft.Soft.TheVariants as soft_word
use Rattle.pq_def_read.specs.Grammar.{set_to, set, assign, key, compare, null_test, comparison, cond, conds, conditions}
use Rattle.pq_def_read.specs.Writes.{setting_at, set_at, sets_at, assign_at, key_clause_at, any_operator_at, compare_at, null_test_at, comparison_at, cond_at, conds_at, conditions_at}
use Rattle.pq_def_read.specs.declared.write.Assign.{Assign}
use Rattle.pq_def_read.specs.declared.write.CondDef.{CondDef}
use Rattle.pq_def_read.specs.declared.write.Setting.{Setting}
use Rattle.pq_def_read.specs.declared.write.Setting.TheVariants as setting

-- ---- parts that may be left out, and lists with AND

pub maybe_to : {X : Type 0} (S : List X → List Shape → Type 0) (x : Option (List X)) (w : List Shape) → optional S x w → ((option_items x ≡ []) × nothing w) ⊎ S (option_items x) w
maybe_to S None w h = inl (refl, h)
maybe_to S (Some xs) w h = inr h

pub maybe_from : {X : Type 0} (S : List X → List Shape → Type 0) (y : List X) (w : List Shape) → ((y ≡ []) × nothing w) ⊎ S y w → (x : Option (List X)) × (option_items x ≡ y) × optional S x w
maybe_from S y w (inl h) = (None, sym h.0, h.1)
maybe_from S y w (inr h) = (Some y, refl, h)

abbrev is_and : Shape → Bool
is_and = is_word_shape AND

and_separated : {X : Type 0} (S : X → List Shape → Type 0) (r : Reader Shape X) → Reads S never r → Reads (separated_by (word AND) S) is_and (separated_at is_and (word_at AND) r)
unfolding is_word_shape
and_separated S r h =
    separated_reads (word AND) S is_and never is_and (word_at AND) r (word_reads AND) h
    (λ w s. one_opens is_and (shape.Keyword AND) refl w s) (λ u e. refl) (λ rest e. begins-never rest) (λ rest e. e)

-- a mark is no soft word
no_soft : (s : Soft) (c : ℕ) → is_soft_shape s (shape.Mark c) ≡ false
unfolding is_soft_shape
no_soft s c = refl

-- ---- what is set, and the key

abbrev equalled : Value → List Shape → Type 0
equalled v = mark EQUAL ⋅ a_value v

equalled_reads : Reads equalled never (skip_at (mark_at EQUAL) value_shape_at)
equalled_reads = skip_free (mark EQUAL) a_value never (mark_at EQUAL) value_shape_at (mark_reads EQUAL) value_reads

abbrev increased : ℤ → List Shape → Type 0
increased z = soft soft_word.Add ⋅ number z

abbrev add_made : Setting → List Shape → Type 0
add_made = made_from (λ z. setting.Add z) increased

abbrev is_made : Setting → List Shape → Type 0
is_made = made_from (λ v. setting.Is v) equalled

setting_to : (x : Setting) (w : List Shape) → one_or_other add_made is_made x w → set_to x w
setting_to x w (inl h) = subst (λ (s : Setting). set_to s w) h.1 h.2
setting_to x w (inr h) = subst (λ (s : Setting). set_to s w) h.1 h.2

setting_from : (x : Setting) (w : List Shape) → set_to x w → one_or_other add_made is_made x w
setting_from (setting.Add z) w h = inl (z, refl, h)
setting_from (setting.Is v) w h = inr (v, refl, h)

setting_reads : Reads set_to never setting_at
unfolding setting_at
setting_reads =
    same_set (one_or_other add_made is_made) set_to never setting_at setting_to setting_from
    (choice_reads add_made is_made (is_soft_shape soft_word.Add) _ _ never
    (made_reads (λ z. setting.Add z) increased never _ (skip_free (soft soft_word.Add) number never (soft_at soft_word.Add) number_at (soft_reads soft_word.Add) number_reads))
    (made_reads (λ v. setting.Is v) equalled never _ equalled_reads)
    (λ x w h. then_opens (is_soft_shape soft_word.Add) (shape.Name (soft_name soft_word.Add)) (number h.0) (soft_passes soft_word.Add) w h.2)
    (λ x w rest h e. then_shuts (is_soft_shape soft_word.Add) (shape.Mark EQUAL) (a_value h.0) (no_soft soft_word.Add EQUAL) w rest h.2))

set_reads : Reads set never set_at
unfolding set_at
set_reads =
    map_reads (λ (x : List ℕ × Setting). name x.0 ⋅ set_to x.1) set never (λ x. record { col = x.0; to = x.1 }) (pair_at name_at setting_at)
    (pair_free name set_to never name_at setting_at name_reads setting_reads) (λ x w h. h) (λ s w h. ((s.col, s.to), refl, h))

pub sets_reads : Reads (separated_by comma set) (is_mark_shape COMMA) sets_at
unfolding sets_at
sets_reads = comma_separated set set_at set_reads

assign_reads : Reads assign never assign_at
assign_reads =
    map_reads (λ (x : List ℕ × Value). name x.0 ⋅ equalled x.1) assign never (λ x. record { col = x.0; value = x.1 }) (pair_at name_at (skip_at (mark_at EQUAL) value_shape_at))
    (pair_free name equalled never name_at (skip_at (mark_at EQUAL) value_shape_at) name_reads equalled_reads) (λ x w h. h) (λ a w h. ((a.col, a.value), refl, h))

key_reads : Reads key is_and key_clause_at
unfolding key_clause_at
key_reads = and_separated assign assign_at assign_reads

-- ---- comparisons

-- the mark of an operator that has one
abbrev any_mark : Op → List Shape → Type 0
any_mark o w = (is_null_test o ≡ false) × mark (operator o) w

mark_to : (o : Op) (w : List Shape) → one_or_other (op_made op.Eq) others o w → any_mark o w
mark_to o w (inl h) = subst (λ (q : Op). any_mark q w) h.1 (refl, h.2)
mark_to o w (inr h) = (others_marked o w h, others_is o w h)

mark_from : (o : Op) (w : List Shape) → any_mark o w → one_or_other (op_made op.Eq) others o w
mark_from op.Eq w h = inl (tt, refl, h.1)
mark_from op.Ne w h = inr (others_from op.Ne w ((λ q. absurd cc), refl) h.1)
mark_from op.Lt w h = inr (others_from op.Lt w ((λ q. absurd cc), refl) h.1)
mark_from op.Le w h = inr (others_from op.Le w ((λ q. absurd cc), refl) h.1)
mark_from op.Gt w h = inr (others_from op.Gt w ((λ q. absurd cc), refl) h.1)
mark_from op.Ge w h = inr (others_from op.Ge w ((λ q. absurd cc), refl) h.1)
mark_from op.IsNull w h = absurd (false≢true (sym h.0))

any_operator_reads : Reads any_mark never any_operator_at
unfolding any_operator_at is_mark_shape
any_operator_reads =
    same_set (one_or_other (op_made op.Eq) others) any_mark never any_operator_at mark_to mark_from
    (choice_reads (op_made op.Eq) others (is_mark_shape EQUAL) _ op_at never (op_made_reads op.Eq) op_reads
    (λ x w h. one_opens (is_mark_shape EQUAL) (shape.Mark EQUAL) refl w h.2) (λ x w rest h e. others_not_equal x w rest h))

-- a comparison by a mark
abbrev marked : Op × Value → List Shape → Type 0
marked y w = (is_null_test y.0 ≡ false) × compare y w

abbrev mark_and_constant : Op × Value → List Shape → Type 0
mark_and_constant y = any_mark y.0 ⋅ a_constant y.1

marked_to : (y : Op × Value) (w : List Shape) → mark_and_constant y w → marked y w
marked_to y w h = (h.fits_front.0, record { front = h.front; back = h.back; fits_front = h.fits_front.1; fits_back = h.fits_back; parts = h.parts })

marked_from : (y : Op × Value) (w : List Shape) → marked y w → mark_and_constant y w
marked_from y w h = record { front = h.1.front; back = h.1.back; fits_front = (h.0, h.1.fits_front); fits_back = h.1.fits_back; parts = h.1.parts }

compare_reads : Reads marked never compare_at
unfolding compare_at
compare_reads =
    same_set mark_and_constant marked never compare_at marked_to marked_from
    (pair_free any_mark a_constant never any_operator_at constant_shape_at any_operator_reads constant_reads)

abbrev null_words : Unit {0} → List Shape → Type 0
null_words u = soft soft_word.Is ⋅ soft soft_word.Null

null_test_reads : Reads null_test never null_test_at
unfolding null_test_at
null_test_reads =
    made_reads (λ (u : Unit {0}). (op.IsNull, value.Null)) null_words never (skip_at (soft_at soft_word.Is) (soft_at soft_word.Null))
    (skip_free (soft soft_word.Is) (λ _. soft soft_word.Null) never (soft_at soft_word.Is) (soft_at soft_word.Null) (soft_reads soft_word.Is) (soft_reads soft_word.Null))

abbrev is_is : Shape → Bool
is_is = is_soft_shape soft_word.Is

comparison_reads : Reads comparison never comparison_at
unfolding comparison_at
comparison_reads =
    same_set (one_or_other null_test marked) comparison never comparison_at
    (λ y w h. elim h [ inl n ↦ inr n | inr m ↦ inl m ]) (λ y w h. elim h [ inl m ↦ inr m | inr n ↦ inl n ])
    (choice_reads null_test marked is_is null_test_at compare_at never null_test_reads compare_reads
    (λ y w h. then_opens is_is (shape.Name (soft_name soft_word.Is)) (soft soft_word.Null) (soft_passes soft_word.Is) w h.2)
    (λ y w rest h e. then_shuts is_is (shape.Mark (operator y.0)) (a_constant y.1) (no_soft soft_word.Is (operator y.0)) w rest h.1))

cond_reads : Reads cond never cond_at
unfolding cond_at
cond_reads =
    map_reads (λ (x : List ℕ × (Op × Value)). name x.0 ⋅ comparison x.1) cond never (λ x. record { col = x.0; op = x.1.0; value = x.1.1 }) (pair_at name_at comparison_at)
    (pair_free name comparison never name_at comparison_at name_reads comparison_reads) (λ x w h. h) (λ c w h. ((c.col, (c.op, c.value)), refl, h))

conds_reads : Reads conds is_and conds_at
unfolding conds_at
conds_reads = and_separated cond cond_at cond_reads

-- ---- the key and the conditions

abbrev is_if : Shape → Bool
is_if = is_soft_shape soft_word.If

-- what would go on with a key or with conditions
abbrev pub is_row_more : Shape → Bool
is_row_more = any_of is_and is_if

abbrev if_conds : List CondDef → List Shape → Type 0
if_conds cs = soft soft_word.If ⋅ conds cs

conditions_reads : Reads conditions is_row_more conditions_at
unfolding conditions_at
conditions_reads =
    map_reads (optional if_conds) conditions is_row_more option_items (option_at is_if (skip_at (soft_at soft_word.If) conds_at))
    (option_reads if_conds is_if is_row_more (skip_at (soft_at soft_word.If) conds_at)
    (wider_reads if_conds is_and is_row_more _ (not_first is_and is_if) (skip_free (soft soft_word.If) conds is_and (soft_at soft_word.If) conds_at (soft_reads soft_word.If) conds_reads))
    (λ cs w h. then_opens is_if (shape.Name (soft_name soft_word.If)) (conds cs) (soft_passes soft_word.If) w h) (not_second is_and is_if))
    (maybe_to if_conds) (maybe_from if_conds)

-- conditions don't begin with AND
no_and : (cs : List CondDef) (w rest : List Shape) → conditions cs w → begins is_row_more rest ≡ false → begins is_and (w ++ rest) ≡ false
unfolding is_word_shape
no_and cs w rest (inl h) e = ap (λ (v : List Shape). begins is_and (v ++ rest)) h.1 ∙ not_first is_and is_if rest e
no_and cs w rest (inr h) e = then_shuts is_and (shape.Name (soft_name soft_word.If)) (conds cs) refl w rest h

abbrev pub row : List Assign × List CondDef → List Shape → Type 0
row y = key y.0 ⋅ conditions y.1

pub row_reads : Reads row is_row_more (pair_at key_clause_at conditions_at)
row_reads = pair_reads key conditions is_and is_row_more key_clause_at conditions_at key_reads conditions_reads (λ cs v rest h e. no_and cs v rest h e)
