-- Whole statements: a PREPARE, an EXPLAIN and a SELECT are their head and their query.
use Rattle.std.specs.Prelude.{ℕ, List, drop, Result, Ok}
use Rattle.pq_grammar.specs.Language.{◌⋅◌}
use Rattle.pq_grammar.specs.Reader.{◌>>=◌}
use Rattle.pq_shape.specs.Parts.{word, name}
use Rattle.pq_shape.specs.declared.keyword.TheConstants.{AS, EXPLAIN, PREPARE}
use Rattle.pq_shape.specs.Shape.{Shape}
use Rattle.pq_def_read.specs.Grammar.{Spells}
use Rattle.pq_def_read.specs.Reading.{read_at}
use Rattle.pq_def_read.specs.declared.statement.Statement.{Statement}
use Rattle.pq_def_read.specs.declared.statement.Statement.TheVariants as statement
use Rattle.pq_query_read.specs.Grammar.{SpellsSelect}
use Rattle.pq_query_read.specs.Reading.{select_read_at as select_at}
use Rattle.pq_query_read.specs.declared.select.SelectDef.{SelectDef}

pub data WholeStatement : Type 0 where
  Plain : Statement → WholeStatement
  Prepares : List ℕ → SelectDef → WholeStatement
  Explains : SelectDef → WholeStatement
  Selects : SelectDef → WholeStatement

-- neither PREPARE nor EXPLAIN nor SELECT
abbrev pub HasNoQuery : Statement → Type 0
HasNoQuery (statement.Prepare n from) = ⊥
HasNoQuery (statement.Explain from) = ⊥
HasNoQuery statement.Select = ⊥
HasNoQuery _ = Unit {0}

-- PREPARE name AS select, EXPLAIN select, a select, or another statement
abbrev pub SpellsWhole : WholeStatement → List Shape → Type 0
SpellsWhole (Plain s) w = HasNoQuery s × Spells s w
SpellsWhole (Prepares n def) w = (word PREPARE ⋅ name n ⋅ word AS ⋅ SpellsSelect def) w
SpellsWhole (Explains def) w = (word EXPLAIN ⋅ SpellsSelect def) w
SpellsWhole (Selects def) w = SpellsSelect def w

-- a statement with the query that follows its head, and of a SELECT the query that it is
abbrev pub with_query_read : List Shape → Statement → Result WholeStatement ℕ
with_query_read w (statement.Prepare n from) = select_at (drop from w) >>= λ def. Ok (Prepares n def)
with_query_read w (statement.Explain from) = select_at (drop from w) >>= λ def. Ok (Explains def)
with_query_read w statement.Select = select_at w >>= λ def. Ok (Selects def)
with_query_read w (statement.Create def) = Ok (Plain (statement.Create def))
with_query_read w (statement.Write write) = Ok (Plain (statement.Write write))
with_query_read w (statement.Batch writes) = Ok (Plain (statement.Batch writes))
with_query_read w (statement.Run n values after) = Ok (Plain (statement.Run n values after))
with_query_read w (statement.Alter def) = Ok (Plain (statement.Alter def))
with_query_read w (statement.Counter def) = Ok (Plain (statement.Counter def))
with_query_read w (statement.Read n values) = Ok (Plain (statement.Read n values))
with_query_read w statement.Show = Ok (Plain statement.Show)

-- the whole statement of these tokens, head first, or how many tokens are left where reading stopped
abbrev pub whole_of : List Shape → Result WholeStatement ℕ
whole_of w = read_at w >>= with_query_read w
