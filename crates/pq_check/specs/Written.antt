-- The query of a PREPARE as it is written, and what is defined in its place.
use Rattle.std.specs.Prelude.{◌≡◌, ℕ, List, length, Option, IsPermutation, Ok}
use Rattle.pq_base.specs.declared.value.Value.{Value}
use Rattle.pq_schema.specs.Rows.{Rows}
use Rattle.pq_schema.specs.Schema.{Schema, query_at}
use Rattle.pq_schema.specs.declared.query.Query.{Query}
use Rattle.pq_schema.specs.declared.query.Stop.TheVariants.{All}
use Rattle.pq_schema.specs.declared.table.Table.{Table}
use Rattle.pq_text.specs.Tokens.{tokens_of}
use Rattle.pq_text.specs.declared.piece.Piece.{Piece}
use Rattle.pq_text.specs.declared.piece.Piece.TheVariants as piece
use Rattle.pq_def_read.specs.Reading.{statement_of}
use Rattle.pq_def_read.specs.declared.statement.Statement.TheVariants as statement
use Rattle.pq_plan.specs.Answer.{answer}
use Rattle.pq_query_read.specs.Queries.{read_query_of}
use Rattle.pq_arrange.specs.Arrange.{arranged_query}

-- a PREPARE of this query, in the order in which it is written
abbrev pub IsPrepareOf : Schema → Query → Piece → Type 0
IsPrepareOf schema written (piece.Statement text) =
    (name : List ℕ) × (from : ℕ) × (statement_of text (tokens_of text) ≡ Ok (statement.Prepare name from))
    × (read_query_of schema name text (tokens_of text) from ≡ Ok written)
IsPrepareOf schema written piece.NotUtf8 = ⊥
IsPrepareOf schema written piece.TooLong = ⊥

-- without LIMIT and PAGINATE the answers have the same rows, each as often, whatever the tables hold
abbrev pub AnswersAs : Query → Query → Type 0
AnswersAs written query =
    written.stop ≡ All → (tables : List Table) (rows : Rows) (params : List Value) (after : Option (List Value)) →
    IsPermutation (answer tables written rows params after) (answer tables query rows params after)

-- the last definition is this query, arranged over these tables
pub record IsDefinedAs (tables : List Table) (written : Query) (next : Schema) : Type 0 where
  pub query : query_at next (length next.definitions) ≡ arranged_query tables written
  pub answers : AnswersAs written (query_at next (length next.definitions))
