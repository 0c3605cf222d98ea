-- What a piece asks for, by what its text spells.
use Rattle.std.proofs.Common.{◌≡◌, ℕ, ◌-◌, ◌<◌, ◌≤◌, Bool, true, false, cond, List, length, Result, Err, refl, sym, ap, ◌∙◌, arith}
use Rattle.std.specs.Prelude.{nat_le, Ok}
use Rattle.std.proofs.lemmas.Bool.{leb-true, leb-false}
use Rattle.pq_base.specs.Answers.{Refuses}
use Rattle.pq_base.specs.declared.refusal.Stopped.{Stopped}
use Rattle.pq_base.specs.declared.refusal.Stopped.TheVariants.{Refused, NoMem}
use Rattle.pq_base.specs.declared.refusal.Refusal.{Refusal}
use Rattle.pq_base.specs.declared.refusal.Refusal.TheVariants.{StatementLong, NotUtf8, Syntax}
use Rattle.pq_schema.specs.Schema.{Schema}
use Rattle.pq_shape.specs.Faults.{IsRefusalOf, offset_at}
use Rattle.pq_text.specs.declared.token.Token.{Token}
use Rattle.pq_text.specs.declared.piece.Piece.{Piece}
use Rattle.pq_text.specs.declared.piece.Piece.TheVariants as piece
use Rattle.pq_text.specs.Tokens.{tokens_of}
use Rattle.pq_def_read.specs.declared.statement.Statement.{Statement}
use Rattle.pq_def_read.specs.Reading.{statement_of}
use Rattle.pq_statement.specs.Actions.{Action, action_of, asked_by, asked_of, asked_text}

short : (n : ℕ) → n ≤ 65536 → nat_le n 65536 ≡ true
short n few =
    elim (nat_le n 65536) as (λ b. nat_le n 65536 ≡ b → nat_le n 65536 ≡ true) [
      | true ↦ λ is. is
      | false ↦ λ is. let more : 65536 < n = leb-false n 65536 is in absurd (omega arith)
    ] refl

long : (n : ℕ) → 65536 < n → nat_le n 65536 ≡ false
long n many =
    elim (nat_le n 65536) as (λ b. nat_le n 65536 ≡ b → nat_le n 65536 ≡ false) [
      | true ↦ λ is. let few : n ≤ 65536 = leb-true n 65536 is in absurd (omega arith)
      | false ↦ λ is. is
    ] refl

module _ (schema : Schema) (text : List ℕ) where
  abbrev read_all : Result Action Refusal
  read_all = asked_of schema text (tokens_of text) (statement_of text (tokens_of text))

  by_length : (b : Bool) → nat_le (length text) 65536 ≡ b → asked_text schema text ≡ cond b read_all (Err StatementLong)
  unfolding asked_text
  by_length b is = ap (λ c. cond c read_all (Err StatementLong)) is

  pub too_long : 65536 < length text → asked_text schema text ≡ Err StatementLong
  too_long many = by_length false (long (length text) many)

  by_tokens : (tokens : List Token) → length text ≤ 65536 → tokens ≡ tokens_of text → asked_text schema text ≡ asked_of schema text tokens (statement_of text tokens)
  by_tokens tokens few found = by_length true (short (length text) few) ∙ ap (λ ts. asked_of schema text ts (statement_of text ts)) (sym found)

  pub asked_read : (tokens : List Token) (read : Statement) → length text ≤ 65536 → tokens ≡ tokens_of text → statement_of text tokens ≡ Ok read → asked_text schema text ≡ asked_by schema text tokens read
  asked_read tokens read few found is = by_tokens tokens few found ∙ ap (asked_of schema text tokens) is

  pub not_read : (tokens : List Token) (left : ℕ) → length text ≤ 65536 → tokens ≡ tokens_of text → statement_of text tokens ≡ Err left
      → asked_text schema text ≡ Err (Syntax (offset_at text tokens (length tokens - left)))
  not_read tokens left few found is = by_tokens tokens few found ∙ ap (asked_of schema text tokens) is

  pub text_piece : (p : Piece) → p ≡ piece.Statement text → action_of schema p ≡ asked_text schema text
  unfolding action_of
  text_piece p is = ap (action_of schema) is

pub other_piece : (schema : Schema) (p : Piece) → p ≡ piece.NotUtf8 → action_of schema p ≡ Err NotUtf8
unfolding action_of
other_piece schema p is = ap (action_of schema) is

pub long_piece : (schema : Schema) (p : Piece) → p ≡ piece.TooLong → action_of schema p ≡ Err StatementLong
unfolding action_of
long_piece schema p is = ap (action_of schema) is

-- reading stops for the place of the fault, or for want of memory
pub stopped_reading : (schema : Schema) (text : List ℕ) (tokens : List Token) (stopped : Stopped) → length text ≤ 65536 → tokens ≡ tokens_of text → IsRefusalOf text tokens (statement_of text tokens) stopped → Refuses stopped (asked_text schema text)
stopped_reading schema text tokens (Refused why) few found stops = not_read schema text tokens stops.0 few found stops.1 ∙ ap (λ (r : Refusal). Err r) (sym (same_refused _ _ stops.2))
  where
    same_refused : (r s : Refusal) → Refused r ≡ Refused s → r ≡ s
    same_refused r s e = cc
stopped_reading schema text tokens NoMem few found stops = tt
