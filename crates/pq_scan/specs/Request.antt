-- What is asked of a plan while it is run, and what a call that reads for one of its nodes promises.
use Rattle.std.specs.Prelude.{ℕ, ◌+◌, ◌≤◌, List, Option, option_copied}
use Rattle.pq_base.specs.declared.value.Value.{Value}
use Rattle.pq_schema.specs.declared.table.Table.{Table}
use Rattle.pq_store.specs.Breaks.{IsAnswered}
use Rattle.pq_store.specs.Content.{Content}
use Rattle.pq_store.specs.declared.damage.Broke.{Broke}
use Rattle.pq_store.specs.declared.store.Store.{Ghosts}
use Rattle.pq_calls.specs.Calls.{Uses, Fails}
use Rattle.pq_calls.specs.World.{where_told}
use Rattle.pq_calls.specs.declared.calls.Calls.{Calls}
use Rattle.pq_plan.specs.Nodes.{Node}
use Rattle.pq_nodes.specs.Operators.{IsAsked, IsCursor, IsReadyNode, AreInputs, AreFound, AnswersNode, ShowsRead}
use Rattle.pq_nodes.specs.Paid.{node_cost}
use Rattle.pq_nodes.specs.Rounds.{node_rounds}
use Rattle.pq_scan.specs.declared.request.Request.{Request}

-- ---- what is asked

-- a query that reading gives over tables that are made, parameters of its types, and a cursor at a position of it
pub record IsRequest (request : Request) : Type 0 where
  pub asked : IsAsked request.catalog.now.tables request.query.now request.params.now
  pub cursor : IsCursor request.catalog.now.tables request.query.now (option_copied request.after)

-- the query and its parameters alone
abbrev pub IsAskedFor : Request → Type 0
IsAskedFor request = IsAsked request.catalog.now.tables request.query.now request.params.now

-- a node of a plan for the query, whose sequence is there
abbrev pub IsNodeFor : Request → Node → Type 0
IsNodeFor request node = IsReadyNode request.catalog.now.tables request.query.now node

-- each input has a fitting row for each relation before this one
abbrev pub AreInputsFor : Request → ℕ → List (List (List Value)) → Type 0
AreInputsFor request rel inputs = AreInputs request.catalog.now.tables request.query.now rel inputs

-- ---- what is found

-- no more combinations than the node gives for so many inputs, each with a fitting row for each relation up to this one
abbrev pub AreFoundFor : Request → ℕ → ℕ → Node → List (List (List Value)) → Type 0
AreFoundFor request rel inputs node found =
    AreFound request.catalog.now.tables request.query.now rel inputs node found

-- over a content that holds rows, the combinations are what the node makes of the inputs
abbrev pub AnswersFor : Option Content → Request → List (List (List Value)) → Node → List (List (List Value)) → Type 0
AnswersFor told request inputs node found =
    AnswersNode told request.catalog.now.tables request.query.now request.params.now (option_copied request.after)
    inputs node found

-- ---- what is used, and why a read gives up

module _ {S L : Type 0} (s : Ghosts S L) where
  -- it is the same store, allowance and meter, and at most so much was read, in at most so many rounds
  pub record Spends (before after : Calls S L) (ops entries most : ℕ) : Type 0 where
    pub uses : Uses s.content s.faults before after ops entries
    pub rounds : s.rounds after.store.now ≤ s.rounds before.store.now + most

  -- what the node costs for so many inputs, in its rounds
  abbrev pub SpendsNode : Calls S L → Calls S L → ℕ → Node → Type 0
  SpendsNode before after inputs node =
      Spends before after (node_cost inputs node).ops (node_cost inputs node).entries (node_rounds node)

  -- a fault was counted, there was no memory, or there is damage that the content shows, of which a call told
  pub record StopsRead (tables : List Table) (before after : Calls S L) (error : Broke) : Type 0 where
    pub cause : Fails (where_told (ShowsRead tables)) s.content s.faults before after error
    pub answered : IsAnswered s.answers error
