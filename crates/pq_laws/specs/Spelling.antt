-- What a whole statement asks for, by what it says: no text, no token and no place of one plays a part.
use Rattle.std.specs.Prelude.{ℕ, List, [], Result}
use Rattle.pq_base.specs.declared.refusal.Refusal.{Refusal}
use Rattle.pq_schema.specs.Schema.{Schema}
use Rattle.pq_shape.specs.Shape.{Shape}
use Rattle.pq_query_read.specs.Resolving.{resolved_select}
use Rattle.pq_query_read.specs.Trying.{◌>>=◌}
use Rattle.pq_query_read.specs.declared.select.SelectDef.{SelectDef}
use Rattle.pq_reread.specs.WholeStatements.{WholeStatement, Plain, Prepares as PreparesQuery, Explains as ExplainsQuery, Selects as SelectsQuery, SpellsWhole}
use Rattle.pq_statement.specs.Actions.{Action, Prepares, Explains, Selects, action_from, asked_by}
use Rattle.pq_planning.specs.Planning.{PlannedDefinition, arranged_plan, definable, explained_name, selected_plan}

-- the query of this name, arranged, with its plan
abbrev pub planned_select : Schema → List ℕ → SelectDef → Result PlannedDefinition Refusal
planned_select schema name def = resolved_select schema name def >>= arranged_plan schema.tables

-- a statement without a query asks for the same in every text
abbrev pub asked_whole : Schema → WholeStatement → Result Action Refusal
asked_whole schema (Plain statement) = asked_by schema [] [] statement
asked_whole schema (PreparesQuery name def) = action_from Prepares (planned_select schema name def >>= definable schema)
asked_whole schema (ExplainsQuery def) = action_from Explains (planned_select schema explained_name def)
asked_whole schema (SelectsQuery def) =
    action_from Selects (resolved_select schema explained_name def >>= selected_plan schema.tables)

abbrev pub SpellsNone : List Shape → Type 0
SpellsNone shapes = (whole : WholeStatement) → SpellsWhole whole shapes → ⊥
