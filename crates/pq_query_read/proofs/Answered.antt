-- What reading the whole query answers.
use Rattle.std.proofs.Common.{◌≡◌, ℕ, ◌+◌, ◌-◌, ◌≤◌, List, length, drop, Result, Ok, Err, sym, ap, ◌∙◌, arith}
use Rattle.std.specs.Prelude.{IfOk, IfErr, MatchResult}
use Rattle.std.proofs.lemmas.List.{length-map, length-drop}
use Rattle.pq_base.specs.declared.refusal.Refusal.{Refusal}
use Rattle.pq_base.specs.declared.refusal.Refusal.TheVariants.{Syntax}
use Rattle.pq_base.specs.declared.refusal.Stopped.{Stopped}
use Rattle.pq_base.specs.declared.refusal.Stopped.TheVariants.{Refused, NoMem}
use Rattle.pq_grammar.specs.Language.{IsFaultPlace}
use Rattle.pq_grammar.proofs.Steps.{never, ok_is, ok_not_err}
use Rattle.pq_grammar.proofs.Whole.{whole_found, whole_again, whole_place}
use Rattle.pq_text.specs.declared.token.Token.{Token}
use Rattle.pq_shape.specs.Shapes.{shapes_of}
use Rattle.pq_shape.specs.Faults.{offset_at, IsRefusalOf, IsNoMem, IsFaultFrom}
use Rattle.pq_shape.specs.Shape.{Shape}
use Rattle.pq_query_read.specs.Grammar.{SpellsSelect}
use Rattle.pq_query_read.specs.Reading.{select_at, select_read_at, select_of}
use Rattle.pq_query_read.specs.declared.select.SelectDef.{SelectDef}
use Rattle.pq_query_read.proofs.Selects.{select_reads}

read_found : (ts : List Shape) (s : SelectDef) → select_read_at ts ≡ Ok s → SpellsSelect s ts
unfolding select_read_at
read_found ts s e = whole_found SpellsSelect never select_at select_reads ts s e

read_only : (ts : List Shape) (s u : SelectDef) → select_read_at ts ≡ Ok s → SpellsSelect u ts → s ≡ u
unfolding select_read_at
read_only ts s u e h = ok_is s u (sym e ∙ whole_again SpellsSelect never select_at select_reads ts u h)

read_none : (ts : List Shape) (n : ℕ) (u : SelectDef) → select_read_at ts ≡ Err n → SpellsSelect u ts → ⊥
unfolding select_read_at
read_none ts n u e h = ok_not_err u n (sym (whole_again SpellsSelect never select_at select_reads ts u h) ∙ e)

read_place : (ts : List Shape) (n : ℕ) → select_read_at ts ≡ Err n → (n ≤ length ts) × IsFaultPlace SpellsSelect ts (length ts - n)
unfolding select_read_at
read_place ts n e = whole_place SpellsSelect never select_at select_reads ts n e

abbrev pub rest : List ℕ → List Token → ℕ → List Shape
rest text ts from = drop from (shapes_of text ts)

pub found_of : (text : List ℕ) (ts : List Token) (from : ℕ) (r : Result SelectDef Stopped) → IfOk r (λ s. select_of text ts from ≡ Ok s) → IfOk r (λ s. SpellsSelect s (rest text ts from))
found_of text ts from (Ok s) h = read_found (rest text ts from) s h
found_of text ts from (Err e) h = tt

pub only_of : (text : List ℕ) (ts : List Token) (from : ℕ) (r : Result SelectDef Stopped) → IfOk r (λ s. select_of text ts from ≡ Ok s) → IfErr r (IsRefusalOf text ts (select_of text ts from))
    → (s : SelectDef) → SpellsSelect s (rest text ts from) → MatchResult r (λ x. x ≡ s) IsNoMem
only_of text ts from (Ok x) h k s spelled = read_only (rest text ts from) x s h spelled
only_of text ts from (Err NoMem) h k s spelled = tt
only_of text ts from (Err (Refused r)) h k s spelled = read_none (rest text ts from) k.0 s k.1 spelled

pub refused_is : (r q : Refusal) → Refused r ≡ Refused q → r ≡ q
refused_is r q e = cc

place_is : (text : List ℕ) (ts : List Token) (from left : ℕ) → from ≤ length ts → left ≤ length (rest text ts from) → length ts - left ≡ from + (length (rest text ts from) - left)
place_is text ts from left within fits =
    let len : length (rest text ts from) ≡ length ts - from = simp length-map at (length-drop from (shapes_of text ts)) in
    omega (arith, len)

pub fault_of : (text : List ℕ) (ts : List Token) (from : ℕ) (r : Result SelectDef Stopped) → from ≤ length ts → IfErr r (IsRefusalOf text ts (select_of text ts from)) → IfErr r (IsFaultFrom SpellsSelect text ts from)
fault_of text ts from (Ok x) within k = tt
fault_of text ts from (Err NoMem) within k = tt
fault_of text ts from (Err (Refused r)) within k =
    let h = read_place (rest text ts from) k.0 k.1 in
    (length (rest text ts from) - k.0, h.1, refused_is r (Syntax (offset_at text ts (length ts - k.0))) k.2 ∙ ap (λ (n : ℕ). Syntax (offset_at text ts n)) (place_is text ts from k.0 within h.0))
