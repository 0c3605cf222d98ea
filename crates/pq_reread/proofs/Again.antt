-- The canonical text of a query is read as the query.
use Rattle.std.proofs.Common.{◌≡◌, ℕ, true, List, drop, Result, Ok, refl, ap, ◌∙◌}
use Rattle.std.specs.Str.{is_utf8}
use Rattle.pq_grammar.specs.Language.{◌⋅◌, anything}
use Rattle.pq_grammar.proofs.Steps.{never}
use Rattle.pq_grammar.proofs.Whole.{whole_again}
use Rattle.pq_text.specs.Tokens.{tokens_of}
use Rattle.pq_shape.specs.Parts.{word, name as a_name}
use Rattle.pq_shape.specs.Shapes.{shapes_of}
use Rattle.pq_shape.specs.declared.keyword.TheConstants.{AS, PREPARE}
use Rattle.pq_schema.specs.Names.{IsName}
use Rattle.pq_schema.specs.Resolved.{IsResolved}
use Rattle.pq_schema.specs.Schema.{Schema}
use Rattle.pq_schema.specs.declared.query.Query.{Query}
use Rattle.pq_def_read.specs.Reading.{statement_of}
use Rattle.pq_def_read.specs.declared.statement.Statement.TheVariants.{Prepare}
use Rattle.pq_print.specs.Canonical.{query_text}
use Rattle.pq_query_read.specs.Grammar.{SpellsSelect}
use Rattle.pq_query_read.specs.Queries.{or_syntax, read_query_of}
use Rattle.pq_query_read.specs.Reading.{select_at, select_read_at}
use Rattle.pq_query_read.specs.Resolving.{resolved_select}
use Rattle.pq_query_read.specs.Trying.{◌>>=◌}
use Rattle.pq_query_read.specs.declared.select.SelectDef.{SelectDef}
use Rattle.pq_query_read.proofs.Selects.{select_reads}
use Rattle.pq_reread.specs.Orderly.{AreOrderly}
use Rattle.pq_reread.specs.Printed.{joins_none}
use Rattle.pq_reread.proofs.SaidQuery.{said_query}
use Rattle.pq_reread.proofs.Heads.{head_and_rest}
use Rattle.pq_reread.proofs.Named.{statement_spelled}
use Rattle.pq_reread.proofs.Prints.{whole, whole_utf8}
use Rattle.pq_reread.proofs.Resolves.{query_again}
use Rattle.pq_reread.proofs.SelectPrints.{query_prints}

module _ (schema : Schema) (query : Query) (are : AreOrderly schema.tables) (name : IsName query.name) (is : IsResolved schema.tables query) where
  abbrev text : List ℕ
  text = query_text schema.tables query

  parts : (word PREPARE ⋅ a_name query.name ⋅ word AS ⋅ anything) (shapes_of text (tokens_of text)) × SpellsSelect (said_query schema.tables query) (drop 3 (shapes_of text (tokens_of text)))
  parts =
      head_and_rest query.name (SpellsSelect (said_query schema.tables query)) (shapes_of text (tokens_of text))
      (whole (word PREPARE ⋅ a_name query.name ⋅ word AS ⋅ SpellsSelect (said_query schema.tables query)) text joins_none (query_prints schema.tables query are is name))

  pub head_again : statement_of (query_text schema.tables query) (tokens_of (query_text schema.tables query)) ≡ Ok (Prepare query.name 3)
  head_again = statement_spelled text (tokens_of text) (Prepare query.name 3) (refl, parts.0)

  pub spelled_again : SpellsSelect (said_query schema.tables query) (drop 3 (shapes_of (query_text schema.tables query) (tokens_of (query_text schema.tables query))))
  spelled_again = parts.1

  select_again : select_read_at (drop 3 (shapes_of text (tokens_of text))) ≡ Ok (said_query schema.tables query)
  unfolding select_read_at
  select_again = whole_again SpellsSelect never select_at select_reads (drop 3 (shapes_of text (tokens_of text))) (said_query schema.tables query) parts.1

  pub reads_again : read_query_of schema query.name (query_text schema.tables query) (tokens_of (query_text schema.tables query)) 3 ≡ Ok query
  unfolding read_query_of
  reads_again =
      ap (λ (r : Result SelectDef ℕ). or_syntax text (tokens_of text) r >>= resolved_select schema query.name) select_again ∙ query_again schema query are is

  pub utf8_again : is_utf8 (query_text schema.tables query) ≡ true
  utf8_again = whole_utf8 (word PREPARE ⋅ a_name query.name ⋅ word AS ⋅ SpellsSelect (said_query schema.tables query)) text joins_none (query_prints schema.tables query are is name)
