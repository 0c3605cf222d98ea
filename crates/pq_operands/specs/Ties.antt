-- Tied values as functions of the query and its parameters alone.
use Rattle.std.specs.Prelude.{ℕ, ◌&&◌, ◌==◌, List, map, Option, option_and_then, unwrap_or}
use Rattle.std.specs.List.{find}
use Rattle.pq_base.specs.declared.value.Value.{Value}
use Rattle.pq_schema.specs.declared.query.Query.{Query}
use Rattle.pq_schema.specs.Relations.{ties}
use Rattle.pq_schema.specs.Rows.{no_value}
use Rattle.pq_plan.specs.Answer.{side}

-- what the first equality in the text that ties the column says that it is
abbrev pub value_tied : Query → List Value → ℕ → List (List Value) → ℕ → Option Value
value_tied query params rel combo col =
    option_and_then (λ pred. side params combo pred.right)
    (find (λ pred. ties rel pred && (pred.left.col == col)) query.preds)

-- the tied values of some columns
abbrev pub cells_tied : Query → List Value → ℕ → List (List Value) → List ℕ → List Value
cells_tied query params rel combo cols = map (λ col. unwrap_or (value_tied query params rel combo col) no_value) cols
