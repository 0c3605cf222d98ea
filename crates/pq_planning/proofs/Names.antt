-- What a statement that was read defines has names, and its query begins within the tokens.
use Rattle.std.proofs.Common.{◌≡◌, ℕ, ◌+◌, ◌≤◌, List, length, Ok, sym, ap, ◌∙◌, arith, length-append}
use Rattle.std.proofs.lemmas.List.{length-map}
use Rattle.pq_grammar.specs.Language.{◌⋅◌, one}
use Rattle.pq_text.specs.declared.token.Token.{Token}
use Rattle.pq_text.specs.Tokens.{tokens_of}
use Rattle.pq_shape.specs.Shapes.{shape_of, shapes_of}
use Rattle.pq_shape.specs.Shape.{Shape}
use Rattle.pq_shape.specs.declared.keyword.TheConstants.{AS, EXPLAIN, PREPARE}
use Rattle.pq_shape.specs.Shape as shape
use Rattle.pq_def_read.specs.Grammar.{Spells}
use Rattle.pq_def_read.specs.Reading.{statement_of}
use Rattle.pq_def_read.specs.declared.statement.Statement.{Statement}
use Rattle.pq_def_read.specs.declared.statement.Statement.TheVariants as statement
use Rattle.pq_reread.proofs.Named.{altered_named, counted_named, created_named, prepared_named, spelled}
use Rattle.pq_planning.specs.Names.{IsNamedStatement}

-- a part of one token
longer : (t : Shape) (B : List Shape → Type 0) (w : List Shape) → (h : (one t ⋅ B) w) → length w ≡ 1 + length h.back
longer t B w h = omega (arith, ap length h.parts, length-append h.front h.back, ap length h.fits_front)

prepared_within : (text : List ℕ) (tokens : List Token) (name : List ℕ) (from : ℕ) → Spells (statement.Prepare name from) (shapes_of text tokens) → from ≤ length tokens
prepared_within text tokens name from h =
    let first = longer (shape.Keyword PREPARE) _ (shapes_of text tokens) h.1 in
    let second = longer (shape.Name name) _ h.1.back h.1.fits_back in
    let third = longer (shape.Keyword AS) _ h.1.fits_back.back h.1.fits_back.fits_back in
    omega (arith, h.0, first, second, third, length-map tokens (shape_of text))

explained_within : (text : List ℕ) (tokens : List Token) (from : ℕ) → Spells (statement.Explain from) (shapes_of text tokens) → from ≤ length tokens
explained_within text tokens from h =
    let first = longer (shape.Keyword EXPLAIN) _ (shapes_of text tokens) h.1 in
    omega (arith, h.0, first, length-map tokens (shape_of text))

pub named_statement : (text : List ℕ) (tokens : List Token) (read : Statement) → tokens ≡ tokens_of text → statement_of text tokens ≡ Ok read → IsNamedStatement tokens read
named_statement text tokens (statement.Create def) same read = created_named text def (ap (statement_of text) (sym same) ∙ read)
named_statement text tokens (statement.Alter def) same read = altered_named text def (ap (statement_of text) (sym same) ∙ read)
named_statement text tokens (statement.Prepare name from) same read =
    (prepared_named text name from (ap (statement_of text) (sym same) ∙ read), prepared_within text tokens name from (spelled text tokens (statement.Prepare name from) read))
named_statement text tokens (statement.Write write) same read = tt
named_statement text tokens (statement.Batch writes) same read = tt
named_statement text tokens (statement.Explain from) same read = explained_within text tokens from (spelled text tokens (statement.Explain from) read)
named_statement text tokens (statement.Run query values after) same read = tt
named_statement text tokens (statement.Counter def) same read = counted_named text def (ap (statement_of text) (sym same) ∙ read)
named_statement text tokens (statement.Read name values) same read = tt
named_statement text tokens statement.Show same read = tt
named_statement text tokens statement.Select same read = tt
