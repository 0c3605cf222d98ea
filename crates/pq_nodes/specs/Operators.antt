-- What is asked of a call that reads for a plan's node, and what it promises.
use Rattle.std.specs.Prelude.{ℕ, ◌-◌, ◌≤◌, List, length, Option, IfSome}
use Rattle.std.specs.List.{AllByRecursion}
use Rattle.pq_base.specs.Values.{AllFit}
use Rattle.pq_base.specs.declared.value.Value.{Value}
use Rattle.pq_schema.specs.declared.query.Query.{Query}
use Rattle.pq_schema.specs.declared.table.Table.{Table}
use Rattle.pq_schema.specs.Resolved.{IsResolved}
use Rattle.pq_schema.specs.Rows.{Rows}
use Rattle.pq_schema.specs.Sound.{AreMade}
use Rattle.pq_store.specs.Breaks.{IsUndamaged}
use Rattle.pq_store.specs.Content.{Content}
use Rattle.pq_store.specs.Counts.{AllowedCounts}
use Rattle.pq_store.specs.declared.damage.Broke.{Broke}
use Rattle.pq_store.specs.declared.damage.Damage.{Damage}
use Rattle.pq_content.specs.Pairs.{Pair, HoldsRows}
use Rattle.pq_plan.specs.Executing.{Makes}
use Rattle.pq_plan.specs.Nodes.{Node}
use Rattle.pq_calls.specs.Evidence.{IsNoRow, IsMissingRow, IsNoKey}
use Rattle.pq_calls.specs.World.{World, Affords, Reads, Explains, where_told}
use Rattle.pq_nodes.specs.Combos.{FitsTables, position_types}
use Rattle.pq_nodes.specs.Inverse.{IsNodeOf, HasIndex}
use Rattle.pq_nodes.specs.Paid.{node_cost, node_size}

-- a query that reading gives over tables that are made, and parameters of its types
pub record IsAsked (tables : List Table) (query : Query) (params : List Value) : Type 0 where
  pub made : AreMade tables
  pub resolved : IsResolved tables query
  pub params_fit : AllFit query.params params

-- a node of a plan for the query, whose sequence is there
pub record IsReadyNode (tables : List Table) (query : Query) (node : Node) : Type 0 where
  pub is : IsNodeOf tables query node
  pub indexed : HasIndex tables query node

-- each input has a fitting row for each relation before this one
abbrev pub AreInputs : List Table → Query → ℕ → List (List (List Value)) → Type 0
AreInputs tables query rel inputs = AllByRecursion (FitsTables tables query (rel - 1)) inputs

-- the position of a cursor is of the types of the position columns
abbrev pub IsCursor : List Table → Query → Option (List Value) → Type 0
IsCursor tables query after = IfSome after (AllFit (position_types tables query))

-- what the node costs for so many inputs is left
abbrev pub AffordsNode : AllowedCounts → ℕ → Node → Type 0
AffordsNode allowed inputs node = Affords allowed (node_cost inputs node).ops (node_cost inputs node).entries

-- the content is as it was, and what was used was spent, at most what the node costs for so many inputs
abbrev pub ReadsNode : World → World → ℕ → Node → Type 0
ReadsNode before after inputs node = Reads before after (node_cost inputs node).ops (node_cost inputs node).entries

-- no more combinations than the node gives for so many inputs, each with a fitting row for each relation up to this one
pub record AreFound (tables : List Table) (query : Query) (rel inputs : ℕ) (node : Node)
    (found : List (List (List Value))) : Type 0 where
  pub few : length found ≤ node_size inputs node
  pub fit : AllByRecursion (FitsTables tables query rel) found

-- over a content that holds rows, the combinations are what the node makes of the inputs
abbrev pub AnswersNode : Option Content → List Table → Query → List Value → Option (List Value)
    → List (List (List Value)) → Node → List (List (List Value)) → Type 0
AnswersNode told tables query params after inputs node found =
    (rows : Rows) (others : List Pair) → HoldsRows told tables rows others →
    Makes (record { tables = tables; query = query; rows = rows; params = params }) after inputs node found

-- what shows damage while rows and entries are read
pub data ShowsRead (tables : List Table) (content : Content) (damage : Damage) : Type 0 where
  no_row : IsNoRow tables content damage → ShowsRead tables content damage
  missing_row : IsMissingRow tables content damage → ShowsRead tables content damage
  no_key : IsNoKey tables content damage → ShowsRead tables content damage

-- why a read gives up: a counted fault, want of memory, or damage that the content shows where it is told
abbrev pub StopsReading : List Table → World → World → Broke → Type 0
StopsReading tables before after error = Explains (where_told (ShowsRead tables)) before after error

-- over a content that holds rows no damage is told
abbrev pub IsSoundOverRows : Option Content → List Table → Broke → Type 0
IsSoundOverRows told tables error = (rows : Rows) (others : List Pair) → HoldsRows told tables rows others
    → IsUndamaged error
