-- What reading the whole list answers.
use Rattle.std.proofs.Common.{◌≡◌, ℕ, ◌-◌, ◌≤◌, List, length, Result, Ok, Err, sym, ◌∙◌}
use Rattle.std.specs.Prelude.{IfOk, IfErr, MatchResult}
use Rattle.std.proofs.lemmas.List.{length-map}
use Rattle.pq_base.specs.declared.refusal.Refusal.{Refusal}
use Rattle.pq_base.specs.declared.refusal.Refusal.TheVariants.{Syntax}
use Rattle.pq_base.specs.declared.refusal.Stopped.{Stopped}
use Rattle.pq_base.specs.declared.refusal.Stopped.TheVariants.{Refused, NoMem}
use Rattle.pq_grammar.specs.Language.{IsFaultPlace}
use Rattle.pq_grammar.proofs.Steps.{ok_is, ok_not_err}
use Rattle.pq_grammar.proofs.Options.{always}
use Rattle.pq_grammar.proofs.Whole.{whole_found, whole_again, whole_place}
use Rattle.pq_text.specs.declared.token.Token.{Token}
use Rattle.pq_shape.specs.Shapes.{shapes_of}
use Rattle.pq_shape.specs.Shape.{Shape}
use Rattle.pq_def_read.specs.Grammar.{Spells}
use Rattle.pq_shape.specs.Faults.{offset_at, IsRefusalOf, IsNoMem}
use Rattle.pq_def_read.specs.Faults.{IsFault}
use Rattle.pq_def_read.specs.Reading.{statement_at, read_at, statement_of}
use Rattle.pq_def_read.specs.declared.statement.Statement.{Statement}
use Rattle.pq_def_read.proofs.Statements.{statement_reads}

read_found : (ts : List Shape) (s : Statement) → read_at ts ≡ Ok s → Spells s ts
unfolding read_at
read_found ts s e = whole_found Spells always statement_at statement_reads ts s e

read_only : (ts : List Shape) (s u : Statement) → read_at ts ≡ Ok s → Spells u ts → s ≡ u
unfolding read_at
read_only ts s u e h = ok_is s u (sym e ∙ whole_again Spells always statement_at statement_reads ts u h)

read_none : (ts : List Shape) (n : ℕ) (u : Statement) → read_at ts ≡ Err n → Spells u ts → ⊥
unfolding read_at
read_none ts n u e h = ok_not_err u n (sym (whole_again Spells always statement_at statement_reads ts u h) ∙ e)

read_place : (ts : List Shape) (n : ℕ) → read_at ts ≡ Err n → (n ≤ length ts) × IsFaultPlace Spells ts (length ts - n)
unfolding read_at
read_place ts n e = whole_place Spells always statement_at statement_reads ts n e

pub found_of : (text : List ℕ) (ts : List Token) (r : Result Statement Stopped) → IfOk r (λ s. statement_of text ts ≡ Ok s) → IfOk r (λ s. Spells s (shapes_of text ts))
found_of text ts (Ok s) h = read_found (shapes_of text ts) s h
found_of text ts (Err e) h = tt

refused_is : (r q : Refusal) → Refused r ≡ Refused q → r ≡ q
refused_is r q e = cc

pub only_of : (text : List ℕ) (ts : List Token) (r : Result Statement Stopped) → IfOk r (λ s. statement_of text ts ≡ Ok s) → IfErr r (IsRefusalOf text ts (statement_of text ts))
    → (s : Statement) → Spells s (shapes_of text ts) → MatchResult r (λ x. x ≡ s) IsNoMem
only_of text ts (Ok x) h k s spelled = read_only (shapes_of text ts) x s h spelled
only_of text ts (Err NoMem) h k s spelled = tt
only_of text ts (Err (Refused r)) h k s spelled = read_none (shapes_of text ts) k.0 s k.1 spelled

pub fault_of : (text : List ℕ) (ts : List Token) (r : Result Statement Stopped) → IfErr r (IsRefusalOf text ts (statement_of text ts)) → IfErr r (IsFault text ts)
fault_of text ts (Ok x) k = tt
fault_of text ts (Err NoMem) k = tt
fault_of text ts (Err (Refused r)) k = (length ts - k.0, simp length-map at (read_place (shapes_of text ts) k.0 k.1).1, refused_is r (Syntax (offset_at text ts (length ts - k.0))) k.2)
