-- What is made of combinations without the store: lists that see only a part of what a query is asked over, so that
-- each holds over whatever tables, rows or parameters stand beside that part.
use Rattle.std.specs.Prelude.{◌≡◌, ℕ, ◌≤◌, Bool, ◌==◌, List, filter, length, Some}
use Rattle.std.specs.List.{AllByRecursion, list_all}
use Rattle.pq_base.specs.declared.value.Value.{Value}
use Rattle.pq_schema.specs.declared.query.Query.{Query}
use Rattle.pq_schema.specs.declared.table.Table.{Table}
use Rattle.pq_schema.specs.Relations.{belongs_to}
use Rattle.pq_schema.specs.Rows.{Rows}
use Rattle.pq_plan.specs.Answer.{holds, position, in_order, past, question}
use Rattle.pq_plan.specs.Meaning.{keeps}
use Rattle.pq_nodes.specs.Combos.{FitsTables}

-- the combinations at which the predicates of the relation hold
abbrev pub AreKept : Query → List Value → ℕ → List (List (List Value)) → List (List (List Value)) → Type 0
AreKept query params rel combos kept =
    (tables : List Table) (rows : Rows) → kept ≡ filter (keeps (question tables query rows params) rel) combos

-- the combinations in the order of their positions
abbrev pub AreOrdered : List Table → Query → List (List (List Value)) → List (List (List Value)) → Type 0
AreOrdered tables query combos ordered =
    (rows : Rows) (params : List Value) → ordered ≡ in_order (question tables query rows params) combos

-- the combinations strictly after a position
abbrev pub ArePast : List Table → Query → List Value → List (List (List Value)) → List (List (List Value)) → Type 0
ArePast tables query after combos kept =
    (rows : Rows) (params : List Value) → kept ≡ past (question tables query rows params) (Some after) combos

-- the values of the combination at the position columns
abbrev pub IsPositionOf : List Table → Query → List (List Value) → List Value → Type 0
IsPositionOf tables query combo values =
    (rows : Rows) (params : List Value) → values ≡ position (question tables query rows params) combo

-- no more than there were, and each fits as it did
pub record ArePart (combos found : List (List (List Value))) : Type 0 where
  pub few : length found ≤ length combos
  pub fit : (tables : List Table) (query : Query) (count : ℕ) → AllByRecursion (FitsTables tables query count) combos
      → AllByRecursion (FitsTables tables query count) found

-- the predicates that belong to the relation hold, whatever the tables and rows
abbrev pub meets_all : Query → List Value → ℕ → List (List Value) → Bool
meets_all query params rel combo = list_all (holds params combo) (filter (λ pred. belongs_to pred == rel) query.preds)
