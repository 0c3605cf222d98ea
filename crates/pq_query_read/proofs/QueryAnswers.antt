-- What reading a query over a catalog answers.
use Rattle.std.proofs.Common.{◌≡◌, ℕ, ◌-◌, List, length, drop, Result, Ok, Err, sym, ap, ◌∙◌, subst, inl, inr}
use Rattle.pq_base.specs.Answers.{Answers}
use Rattle.pq_base.specs.declared.refusal.Refusal.TheVariants as refusal
use Rattle.pq_base.specs.declared.refusal.Stopped.{Stopped}
use Rattle.pq_base.specs.declared.refusal.Stopped.TheVariants.{Refused, NoMem}
use Rattle.pq_text.specs.Tokens.{tokens_of}
use Rattle.pq_text.specs.declared.token.Token.{Token}
use Rattle.pq_shape.specs.Faults.{offset_at, IsNoMem, IsRefusalOf, IsFaultFrom}
use Rattle.pq_shape.specs.Shapes.{shapes_of}
use Rattle.pq_schema.specs.Resolved.{IsResolved}
use Rattle.pq_schema.specs.Schema.{Schema}
use Rattle.pq_schema.specs.Valid.{IsValid}
use Rattle.pq_schema.specs.declared.query.Query.{Query}
use Rattle.pq_query_read.specs.Grammar.{SpellsSelect}
use Rattle.pq_query_read.specs.Queries.{or_syntax, read_query_of, IsQueryRefusal}
use Rattle.pq_query_read.specs.Reading.{select_of}
use Rattle.pq_query_read.specs.Resolving.{resolved_select}
use Rattle.pq_query_read.specs.Trying.{◌>>=◌}
use Rattle.pq_query_read.specs.declared.select.SelectDef.{SelectDef}
use Rattle.pq_query_read.proofs.Answered.{refused_is}
use Rattle.pq_query_read.proofs.ResolvedQuery.{resolved_query}
use Rattle.pq_query_read.proofs.SpelledQueries.{select_spelled}

module _ (schema : Schema) (name text : List ℕ) (tokens : List Token) (from : ℕ) where
  -- ---- where a query's text was read

  pub reads_ok : (def : SelectDef) (r : Result Query Stopped) → select_of text tokens from ≡ Ok def → Answers r (resolved_select schema name def) → Answers r (read_query_of schema name text tokens from)
  unfolding read_query_of
  reads_ok def r is h = subst (λ s. Answers r (or_syntax text tokens s >>= resolved_select schema name)) (sym is) h

  pub only_ok : (def : SelectDef) (r : Result Query Stopped) → ((s : SelectDef) → SpellsSelect s (drop from (shapes_of text tokens)) → def ≡ s) → Answers r (resolved_select schema name def)
      → (s : SelectDef) → SpellsSelect s (drop from (shapes_of text tokens)) → Answers r (resolved_select schema name s)
  only_ok def r only h s spelled = subst (λ d. Answers r (resolved_select schema name d)) (only s spelled) h

  pub refused_ok : (def : SelectDef) (e : Stopped) → SpellsSelect def (drop from (shapes_of text tokens)) → Answers {A = Query} (Err e) (resolved_select schema name def) → IsQueryRefusal schema name text tokens from e
  refused_ok def NoMem spelled h = tt
  refused_ok def (Refused why) spelled h = inl (record { def = def; spelled = spelled; refused = h })

  -- the query is one of the schema's
  pub sound_ok : (def : SelectDef) (query : Query) → tokens ≡ tokens_of text → IsValid schema → select_of text tokens from ≡ Ok def → resolved_select schema name def ≡ Ok query
      → IsResolved schema.tables query × (query.name ≡ name)
  sound_ok def query whole valid is stands =
      resolved_query schema name def query valid (select_spelled text from def (subst (λ ts. select_of text ts from ≡ Ok def) whole is)) stands

  -- ---- where none was read

  pub reads_err : (e : Stopped) → IsRefusalOf text tokens (select_of text tokens from) e → Answers {A = Query} (Err e) (read_query_of schema name text tokens from)
  unfolding read_query_of
  reads_err NoMem h = tt
  reads_err (Refused why) h =
      ap (λ s. or_syntax text tokens s >>= resolved_select schema name) h.1 ∙ ap Err (sym (refused_is why (refusal.Syntax (offset_at text tokens (length tokens - h.0))) h.2))

  pub only_err : (e : Stopped) → ((s : SelectDef) → SpellsSelect s (drop from (shapes_of text tokens)) → IsNoMem e)
      → (s : SelectDef) → SpellsSelect s (drop from (shapes_of text tokens)) → Answers {A = Query} (Err e) (resolved_select schema name s)
  only_err NoMem none s spelled = tt
  only_err (Refused why) none s spelled = absurd (none s spelled)

  pub refused_err : (e : Stopped) → IsFaultFrom SpellsSelect text tokens from e → IsQueryRefusal schema name text tokens from e
  refused_err NoMem h = tt
  refused_err (Refused why) h = inr h
