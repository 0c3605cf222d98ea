-- What a text asks for is what the whole statement that it spells asks for, or the place of its fault.
use Rattle.std.proofs.Common.{◌≡◌, ℕ, ◌-◌, ◌≤◌, List, length, drop, Result, Ok, Err, refl, ap, subst, ◌∙◌}
use Rattle.std.proofs.lemmas.List.{length-map}
use Rattle.pq_base.specs.declared.refusal.Refusal.{Refusal}
use Rattle.pq_base.specs.declared.refusal.Refusal.TheVariants.{Syntax}
use Rattle.pq_schema.specs.Schema.{Schema}
use Rattle.pq_grammar.specs.Language.{IsFaultPlace}
use Rattle.pq_grammar.specs.Reader.{◌>>=◌ as bind}
use Rattle.pq_text.specs.declared.token.Token.{Token}
use Rattle.pq_text.specs.Tokens.{tokens_of}
use Rattle.pq_shape.specs.Faults.{offset_at}
use Rattle.pq_shape.specs.Shapes.{shape_of, shapes_of}
use Rattle.pq_def_read.specs.Reading.{statement_of}
use Rattle.pq_def_read.specs.declared.statement.Statement.{Statement}
use Rattle.pq_def_read.specs.declared.statement.Statement.TheVariants as statement
use Rattle.pq_query_read.specs.Queries.{read_query_of, or_syntax}
use Rattle.pq_query_read.specs.Reading.{select_read_at as select_at}
use Rattle.pq_query_read.specs.Resolving.{resolved_select}
use Rattle.pq_query_read.specs.Trying.{◌>>=◌}
use Rattle.pq_query_read.specs.declared.select.SelectDef.{SelectDef}
use Rattle.pq_reread.specs.WholeStatements.{WholeStatement, Prepares as PreparesQuery, Explains as ExplainsQuery, Selects as SelectsQuery, SpellsWhole, with_query_read, whole_of}
use Rattle.pq_reread.proofs.WholeStatements.{whole_is_spelled, spelled_is_whole, whole_stops}
use Rattle.pq_statement.specs.Actions.{Action, Prepares, Explains, Selects, action_from, asked_by, asked_text}
use Rattle.pq_planning.specs.Planning.{arranged_plan, definable, arranged_from, prepared_from, explained_from, explained_name, selected_from, selected_plan}
use Rattle.pq_laws.specs.Spelling.{asked_whole, SpellsNone}
use Rattle.pq_statement.proofs.Statements.{asked_read, not_read}

module _ (schema : Schema) (text : List ℕ) where
  abbrev tokens : List Token
  tokens = tokens_of text

  -- the refusal where so many tokens are left
  abbrev fault : ℕ → Refusal
  fault left = Syntax (offset_at text tokens (length tokens - left))

  -- what a whole statement asks for, or the place where reading stopped
  abbrev asked_from : Result WholeStatement ℕ → Result Action Refusal
  asked_from (Ok whole) = asked_whole schema whole
  asked_from (Err left) = Err (fault left)

  -- a query that was read is planned as its definition says, and one that was not gives the place
  prepared_select : (name : List ℕ) (read : Result SelectDef ℕ)
      → action_from Prepares (((or_syntax text tokens read >>= resolved_select schema name)
      >>= arranged_plan schema.tables) >>= definable schema)
      ≡ asked_from (bind read (λ def. Ok (PreparesQuery name def)))
  prepared_select name (Ok def) = refl
  prepared_select name (Err left) = refl

  explained_select : (read : Result SelectDef ℕ)
      → action_from Explains ((or_syntax text tokens read >>= resolved_select schema explained_name)
      >>= arranged_plan schema.tables)
      ≡ asked_from (bind read (λ def. Ok (ExplainsQuery def)))
  explained_select (Ok def) = refl
  explained_select (Err left) = refl

  selected_select : (read : Result SelectDef ℕ)
      → action_from Selects ((or_syntax text tokens read >>= resolved_select schema explained_name)
      >>= selected_plan schema.tables)
      ≡ asked_from (bind read (λ def. Ok (SelectsQuery def)))
  selected_select (Ok def) = refl
  selected_select (Err left) = refl

  -- a head asks for what it and the query behind it say
  asked_with : (read : Statement)
      → asked_by schema text tokens read ≡ asked_from (with_query_read (shapes_of text tokens) read)
  unfolding prepared_from explained_from selected_from arranged_from read_query_of
  asked_with (statement.Prepare name from) = prepared_select name (select_at (drop from (shapes_of text tokens)))
  asked_with (statement.Explain from) = explained_select (select_at (drop from (shapes_of text tokens)))
  asked_with (statement.Create def) = refl
  asked_with (statement.Write write) = refl
  asked_with (statement.Batch writes) = refl
  asked_with (statement.Run name values after) = refl
  asked_with (statement.Alter def) = refl
  asked_with (statement.Counter def) = refl
  asked_with (statement.Read name values) = refl
  asked_with statement.Show = refl
  asked_with statement.Select = selected_select (select_at (shapes_of text tokens))

  asked_as : length text ≤ 65536 → (read : Result Statement ℕ) → statement_of text tokens ≡ read
      → asked_text schema text ≡ asked_from (bind read (with_query_read (shapes_of text tokens)))
  asked_as few (Ok read) is = asked_read schema text tokens read few refl is ∙ asked_with read
  asked_as few (Err left) is = not_read schema text tokens left few refl is

  asked_whole_of : length text ≤ 65536 → asked_text schema text ≡ asked_from (whole_of (shapes_of text tokens))
  asked_whole_of few = asked_as few (statement_of text tokens) refl

  pub spelled_asks : (whole : WholeStatement) → length text ≤ 65536 → SpellsWhole whole (shapes_of text tokens)
      → asked_text schema text ≡ asked_whole schema whole
  spelled_asks whole few spells =
      asked_whole_of few ∙ ap asked_from (spelled_is_whole (shapes_of text tokens) whole spells)

  abbrev IsFault : Type 0
  IsFault = (place : ℕ) × IsFaultPlace SpellsWhole (shapes_of text tokens) place
      × (asked_text schema text ≡ Err (Syntax (offset_at text tokens place)))

  by_whole : length text ≤ 65536 → SpellsNone (shapes_of text tokens) → (read : Result WholeStatement ℕ)
      → whole_of (shapes_of text tokens) ≡ read → IsFault
  by_whole few none (Ok whole) is = absurd (none whole (whole_is_spelled (shapes_of text tokens) whole is))
  by_whole few none (Err left) is = (
    length tokens - left,
    subst (λ count. IsFaultPlace SpellsWhole (shapes_of text tokens) (count - left)) (length-map tokens (shape_of text))
        (whole_stops (shapes_of text tokens) left is).1,
    asked_whole_of few ∙ ap asked_from is,
  )

  pub none_asks : length text ≤ 65536 → SpellsNone (shapes_of text tokens) → IsFault
  none_asks few none = by_whole few none (whole_of (shapes_of text tokens)) refl
