-- Steps of several clients, taken in an order.
use Rattle.std.specs.Prelude.{ℕ, List, [], ◌∷◌, ◌++◌, Option, Some, None, slice_set}
use Rattle.std.specs.List.{slice_get}
use Rattle.pq_schema.specs.declared.table.Table.{Table}
use Rattle.pq_store.specs.Content.{Content}
use Rattle.pq_clients.specs.declared.outcome.Step.{Step}
use Rattle.pq_clients.specs.declared.outcome.Step.TheVariants as step
use Rattle.pq_clients.specs.declared.outcome.Told.{Told}
use Rattle.pq_clients.specs.declared.outcome.Wrote.{Wrote}
use Rattle.pq_clients.specs.Clients.{View}
use Rattle.pq_clients.specs.Steps.{After, Fate, stepped}

-- whose step comes next, by its place in the list from 0, and what becomes of its call
pub record Event : Type 0 where
  pub place : ℕ
  pub fate : Fate

-- the content, the clients, and what was told and put so far, in order
pub record Run : Type 0 where
  pub content : Content
  pub clients : List View
  pub told : List Told
  pub puts : List Wrote

abbrev pub begun : Content → List View → Run
begun c clients = record { content = c; clients = clients; told = []; puts = [] }

abbrev pub told_by : Step → List Told
told_by step.Moved = []
told_by (step.Put wrote) = []
told_by (step.Tells told) = told ∷ []
told_by step.Over = []

abbrev pub put_by : Step → List Wrote
put_by step.Moved = []
put_by (step.Put wrote) = wrote ∷ []
put_by (step.Tells told) = []
put_by step.Over = []

abbrev pub with_step : Run → ℕ → After → Run
with_step r place after = record {
  content = after.content;
  clients = slice_set r.clients place after.view;
  told = r.told ++ told_by after.step;
  puts = r.puts ++ put_by after.step;
}

abbrev pub turned : List Table → Run → Event → Option View → Run
turned tables r e None = r
turned tables r e (Some v) = with_step r e.place (stepped tables v r.content e.fate)

abbrev pub turn : List Table → Run → Event → Run
turn tables r e = turned tables r e (slice_get r.clients e.place)

abbrev pub run : List Table → Run → List Event → Run
run tables r [] = r
run tables r (e ∷ es) = run tables (turn tables r e) es
