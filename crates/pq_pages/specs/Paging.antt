-- The page of a query's answer, and the answer of a query that is run once.
use Rattle.std.specs.Prelude.{◌≡◌, List, [], Option, None, length, map}
use Rattle.pq_schema.specs.Rows.{Rows}
use Rattle.pq_schema.specs.declared.query.Query.{Query}
use Rattle.pq_schema.specs.declared.table.Table.{Table}
use Rattle.pq_store.specs.Content.{Content}
use Rattle.pq_content.specs.Pairs.{Pair, HoldsRows}
use Rattle.pq_plan.specs.Answer.{answer, selected_values}
use Rattle.pq_plan.specs.declared.physical.Physical.{Physical}
use Rattle.pq_exec.specs.Execution.{IsAnswerIn}
use Rattle.pq_exec.specs.declared.executing.Answer.{Answer}
use Rattle.pq_running.specs.Running.{Running, page_combos, page_size, next_cursor, next_of}
use Rattle.pq_pages.specs.declared.page.Page.{Page}

-- its rows in order, and the cursor of the next page
pub record IsPageOver (tables : List Table) (held : Rows) (running : Running) (page : Page) : Type 0 where
  pub rows : page.rows ≡ map (selected_values running.query) (page_combos tables held running)
  pub next : page.next ≡ next_of tables held running (page_size running.query.stop) (page_combos tables held running)

-- over a content that holds rows it is the page over these
abbrev pub IsPageOf : Option Content → List Table → Running → Page → Type 0
IsPageOf told tables running page =
    (rows : Rows) (others : List Pair) → HoldsRows told tables rows others → IsPageOver tables rows running page

-- over any content its rows are those of the plan's answer in it, and the cursor is that of the last row of a full page
pub record IsPageIn (tables : List Table) (running : Running) (plan : Physical) (page : Page) (content : Content)
    : Type 0 where
  pub answer : Answer
  pub found : IsAnswerIn tables running.query running.params running.after plan answer content
  pub rows : page.rows ≡ answer.rows
  pub next : page.next ≡ next_cursor tables running.number running.query (length answer.rows) answer.last

-- the answer of a query without parameters, and no cursor
pub record IsAnswerOver (tables : List Table) (held : Rows) (query : Query) (page : Page) : Type 0 where
  pub rows : page.rows ≡ answer tables query held [] None
  pub next : page.next ≡ None

-- over a content that holds rows it is the answer over these
abbrev pub IsAnswerOf : Option Content → List Table → Query → Page → Type 0
IsAnswerOf told tables query page =
    (rows : Rows) (others : List Pair) → HoldsRows told tables rows others → IsAnswerOver tables rows query page

-- over any content its rows are those of the plan's answer in it
pub record IsOnceIn (tables : List Table) (query : Query) (plan : Physical) (page : Page) (content : Content)
    : Type 0 where
  pub answer : Answer
  pub found : IsAnswerIn tables query [] None plan answer content
  pub rows : page.rows ≡ answer.rows
  pub next : page.next ≡ None
