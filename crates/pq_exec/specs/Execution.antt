-- Running a plan: the nodes of its tree, what is promised of each tree that is run, and of the answer.
use Rattle.std.specs.Prelude.{◌≡◌, ℕ, ◌+◌, ◌-◌, ◌≤◌, List, [], ◌∷◌, ◌++◌, length}
use Rattle.std.specs.Prelude.{Option, None, option_map, map, IfSome, MatchOption}
use Rattle.std.specs.List.{AllByRecursion}
use Rattle.pq_base.specs.Values.{AllFit}
use Rattle.pq_base.specs.declared.number.Bound.{Bound}
use Rattle.pq_base.specs.declared.number.Used.{Used}
use Rattle.pq_base.specs.declared.value.Value.{Value}
use Rattle.pq_schema.specs.declared.query.Query.{Query}
use Rattle.pq_schema.specs.declared.table.Table.{Table}
use Rattle.pq_schema.specs.Rows.{Rows}
use Rattle.pq_store.specs.Content.{Content}
use Rattle.pq_store.specs.Counts.{Counts}
use Rattle.pq_content.specs.Pairs.{Pair, HoldsRows}
use Rattle.pq_plan.specs.declared.physical.Physical.{Physical}
use Rattle.pq_plan.specs.declared.physical.Physical.TheVariants as tree
use Rattle.pq_plan.specs.Answer.{Question, answer, answered, first_past, past, position, selected_values}
use Rattle.pq_plan.specs.Cost.{cost}
use Rattle.pq_plan.specs.Executing.{Gives}
use Rattle.pq_plan.specs.Nodes.{Node, lookup, limit_range, stop_scan, keep, sort, cut, project, nodes, run_of}
use Rattle.pq_nodes.specs.Combos.{FitsTables, position_types, selected_types}
use Rattle.pq_nodes.specs.Ordered.{after_nodes}
use Rattle.pq_nodes.specs.Paid.{node_size}
use Rattle.pq_running.specs.Running.{last_of}
use Rattle.pq_local_ops.specs.Lists.{AreKept, AreOrdered}
use Rattle.pq_fk_join.specs.Joined.{AreJoined}
use Rattle.pq_scan.specs.Scanned.{AreFirstScanned}
use Rattle.pq_index_scan.specs.Ranged.{AreRanged}
use Rattle.pq_exec.specs.declared.executing.Answer.{Answer}

-- ---- one node of a tree

-- the outermost node of a tree; the empty tree has none, and counts as one that leaves its inputs
abbrev pub top_node : Physical → Node
top_node tree.Unit = project
top_node (tree.Lookup' p input rel) = lookup rel
top_node (tree.LimitRange' p input rel limit n access) = limit_range rel limit n access
top_node (tree.StopScan' p input rel k access) = stop_scan rel k access
top_node (tree.Filter' p input rel) = keep rel
top_node (tree.Sort' p input) = sort
top_node (tree.Cut' p input k) = cut k
top_node (tree.Project' p input) = project

-- the nodes of a tree are those of its input and then its own, and the empty tree has neither
abbrev pub IsInputOf : Physical → Option Physical → Type 0
IsInputOf tree input = MatchOption input (nodes tree ≡ []) (λ input. nodes tree ≡ nodes input ++ top_node tree ∷ [])

-- how many relations the inputs of a node have rows of
abbrev pub rows_before : Query → Node → ℕ
rows_before query (lookup rel) = rel - 1
rows_before query (limit_range rel limit n access) = rel - 1
rows_before query (stop_scan rel k access) = rel - 1
rows_before query (keep rel) = rel
rows_before query sort = length query.relations
rows_before query (cut k) = length query.relations
rows_before query project = length query.relations

-- and how many what it gives has rows of
abbrev pub rows_behind : Query → Node → ℕ
rows_behind query (lookup rel) = rel
rows_behind query (limit_range rel limit n access) = rel
rows_behind query (stop_scan rel k access) = rel
rows_behind query (keep rel) = rel
rows_behind query sort = length query.relations
rows_behind query (cut k) = length query.relations
rows_behind query project = length query.relations

-- no more combinations than the node gives for so many inputs, each with a fitting row for each relation read by then
pub record AreGiven (tables : List Table) (query : Query) (inputs : ℕ) (node : Node) (found : List (List (List Value)))
    : Type 0 where
  pub few : length found ≤ node_size inputs node
  pub fit : AllByRecursion (FitsTables tables query (rows_behind query node)) found

-- those strictly after the cursor, whatever rows and parameters stand beside
abbrev pub ArePastCursor : List Table → Query → Option (List Value) →
    List (List (List Value)) → List (List (List Value)) → Type 0
ArePastCursor tables query after combos found =
    (rows : Rows) (params : List Value) →
    found ≡ past (record { tables = tables; query = query; rows = rows; params = params }) after combos

-- the first k strictly after the cursor, whatever rows and parameters stand beside
abbrev pub IsCutOf : List Table → Query → Option (List Value) → ℕ →
    List (List (List Value)) → List (List (List Value)) → Type 0
IsCutOf tables query after k combos found =
    (rows : Rows) (params : List Value) →
    found ≡ first_past (record { tables = tables; query = query; rows = rows; params = params }) after k combos

-- what a node makes of its inputs over any content: what it reads is as the content has it, all else is as it means
abbrev pub IsFoundIn : List Table → Query → List Value → Option (List Value) → List (List (List Value)) → Node
    → List (List (List Value)) → Content → Type 0
IsFoundIn tables query params after inputs (lookup rel) found content =
    AreJoined tables query params rel inputs found content
IsFoundIn tables query params after inputs (limit_range rel limit n access) found content =
    AreRanged tables query params rel limit access inputs found content
IsFoundIn tables query params after inputs (stop_scan rel k access) found content =
    AreFirstScanned tables query params rel access after k inputs found content
IsFoundIn tables query params after inputs (keep rel) found content = AreKept query params rel inputs found
IsFoundIn tables query params after inputs sort found content = AreOrdered tables query inputs found
IsFoundIn tables query params after inputs (cut k) found content = IsCutOf tables query after k inputs found
IsFoundIn tables query params after inputs project found content = found ≡ inputs

-- the same from the innermost node on; what each makes has a fitting row for each relation read by then
abbrev pub AreFoundIn : List Table → Query → List Value → Option (List Value) → List (List (List Value)) → List Node
    → List (List (List Value)) → Content → Type 0
AreFoundIn tables query params after inputs [] found content = found ≡ inputs
AreFoundIn tables query params after inputs (node ∷ rest) found content =
    (made : List (List (List Value))) × IsFoundIn tables query params after inputs node made content
    × AllByRecursion (FitsTables tables query (rows_behind query node)) made
    × AreFoundIn tables query params after made rest found content

-- ---- a tree that was run

-- no more combinations than the nodes give, each with a fitting row for each relation that they read; where there are
-- no nodes, it is the combination of no relation
pub record AreRun (tables : List Table) (query : Query) (list : List Node) (found : List (List (List Value)))
    : Type 0 where
  pub few : length found ≤ (run_of list).inputs
  pub fit : AllByRecursion (FitsTables tables query (after_nodes 0 list)) found
  pub unit : list ≡ [] → found ≡ [] ∷ []

-- over a content that holds rows, the combinations are what running the nodes may give
abbrev pub RunAnswers : Option Content → List Table → Query → List Value → Option (List Value) → List Node →
    List (List (List Value)) → Type 0
RunAnswers told tables query params after list found =
    (rows : Rows) (others : List Pair) → HoldsRows told tables rows others →
    Gives (record { tables = tables; query = query; rows = rows; params = params }) after ([] ∷ []) list found

-- ---- the answer

-- the position of the last combination, where there is one, whatever rows and parameters stand beside
abbrev pub IsLastPosition : List Table → Query → List (List (List Value)) → Option (List Value) → Type 0
IsLastPosition tables query combos last =
    (rows : Rows) (params : List Value) →
    let q : Question = record { tables = tables; query = query; rows = rows; params = params } in
    last ≡ option_map (position q) (last_of combos)

-- over any content, the rows are selected of what the plan's nodes find in it, and the position is that of the last one
pub record IsAnswerIn (tables : List Table) (query : Query) (params : List Value) (after : Option (List Value))
    (tree : Physical) (result : Answer) (content : Content) : Type 0 where
  pub combos : List (List (List Value))
  pub found : AreFoundIn tables query params after ([] ∷ []) (nodes tree) combos content
  pub rows : result.rows ≡ map (selected_values query) combos
  pub last : IsLastPosition tables query combos result.last

-- the rows are those of the query's answer, and the position is that of the last combination, where there is one
pub record IsAnswer (tables : List Table) (query : Query) (held : Rows) (params : List Value)
    (after : Option (List Value)) (result : Answer) : Type 0 where
  pub rows : result.rows ≡ answer tables query held params after
  pub last : let q : Question = record { tables = tables; query = query; rows = held; params = params } in
      result.last ≡ option_map (position q) (last_of (answered q after))

-- over a content that holds rows, it is the answer over these
abbrev pub AnswersQuery : Option Content → List Table → Query → List Value → Option (List Value) → Answer → Type 0
AnswersQuery told tables query params after result =
    (rows : Rows) (others : List Pair) → HoldsRows told tables rows others →
    IsAnswer tables query rows params after result

-- whatever the content: rows of the selected columns, no more than the entries that the plan costs, and the position of
-- the last one exactly where there are some
pub record IsPage (tables : List Table) (query : Query) (tree : Physical) (result : Answer) : Type 0 where
  pub few : length result.rows ≤ (cost tree).entries
  pub fit : AllByRecursion (AllFit (selected_types tables query)) result.rows
  pub none : result.last ≡ None → result.rows ≡ []
  pub some : IfSome result.last (λ at. AllFit (position_types tables query) at × (1 ≤ length result.rows))

-- the meter rose, by no more than the bound
pub record RisesWithin (bound : Bound) (before after : Counts) : Type 0 where
  pub ops_rise : before.ops ≤ after.ops
  pub entries_rise : before.entries ≤ after.entries
  pub few_ops : after.ops ≤ before.ops + bound.ops
  pub few_entries : after.entries ≤ before.entries + bound.entries

-- and by just these numbers
pub record RisesByUsed (used : Used) (before after : Counts) : Type 0 where
  pub ops : after.ops ≡ before.ops + used.ops
  pub entries : after.entries ≡ before.entries + used.entries
