-- What a statement makes of any content that is told, and leaves of it where it breaks off, whether that stands for a
-- model or not.
use Rattle.std.specs.Prelude.{◌≡◌, ◌⊎◌, ℕ, List, [], ◌∷◌, map, length, Option, Some, None, true, Result, Ok, Err}
use Rattle.std.specs.FinMap.{get}
use Rattle.pq_base.specs.declared.refusal.Refusal.{Refusal}
use Rattle.pq_batch.specs.Promises.{AreBehind}
use Rattle.pq_builds.specs.Bounds.{build_bound}
use Rattle.pq_builds.specs.Filling.{row_pairs_in}
use Rattle.pq_builds.specs.Stages.{RanBuild, StopsBuilding}
use Rattle.pq_builds.specs.Targets.{target_of}
use Rattle.pq_builds.specs.declared.build.Built.TheVariants as built
use Rattle.pq_builds.specs.declared.target.Target.{Target}
use Rattle.pq_catalog.specs.Kept.{IsKeptPlan}
use Rattle.pq_catalog.specs.Stands.{last_key, last_value, new_query_of}
use Rattle.pq_content.specs.Pairs.{changed_content}
use Rattle.pq_content.specs.Standing.{change_of}
use Rattle.pq_counters.specs.Evidence.{IsCounted}
use Rattle.pq_counters.specs.Whole.{HasWhole}
use Rattle.pq_index_keep.specs.declared.write.Write.{Write}
use Rattle.pq_intent.specs.Changing.{IsPartway, commit_writes}
use Rattle.pq_intent.specs.Spending.{TakesAtMost}
use Rattle.pq_pages.specs.Paging.{IsOnceIn, IsPageIn}
use Rattle.pq_pages.specs.declared.page.Page.{Page}
use Rattle.pq_plan.specs.declared.physical.Physical.{Physical}
use Rattle.pq_print.specs.declared.report.End.TheVariants as end
use Rattle.pq_print.specs.declared.report.Line.TheVariants as line
use Rattle.pq_print.specs.declared.report.Report.{Report}
use Rattle.pq_row_code.specs.declared.changes.Change.{Change as Coded}
use Rattle.pq_running.specs.Running.{Running}
use Rattle.pq_schema.specs.Definitions.{counted_table}
use Rattle.pq_schema.specs.Schema.{Schema}
use Rattle.pq_schema.specs.Tables.{table_at}
use Rattle.pq_schema.specs.declared.query.Query.{Query}
use Rattle.pq_schema.specs.declared.table.NewIndex.{NewIndex}
use Rattle.pq_schema.specs.declared.table.Table.{Table}
use Rattle.pq_statement.specs.Actions.{Action, Creates, Adds, Writes, Batches, Misreads, Prepares, Explains, Runs, Counts, Reads, Shows, Selects, action_schema}
use Rattle.pq_statement.specs.Readings.{Reading}
use Rattle.pq_store.specs.Content.{Content}
use Rattle.pq_store.specs.Counts.{Counts as Counted}
use Rattle.pq_tallies.specs.Counters.{counter_key}
use Rattle.pq_reports.specs.Putting.{MayPut, PutsNew}
use Rattle.pq_reports.specs.Step.{count_line}

-- ---- where it broke off

-- the pair of the last of these definitions was put where nothing was, or nothing was done
abbrev pub MayDefine : Schema → Content → Option Content → Type 0
MayDefine next content now = MayPut (last_key next) (last_value next) (Some content) now

-- some of the writes of changes that were planned were made, from the first on
pub record IsWriteBegun (planned : List Coded → Type 0) (content : Content) (now : Option Content) : Type 0 where
  pub coded : List Coded
  pub plan : planned coded
  pub partway : IsPartway (commit_writes coded) (Some content) now

-- nothing was done, or some of these writes
abbrev pub StopsWriting : (List Coded → Type 0) → Content → Option Content → Type 0
StopsWriting planned content now = (now ≡ Some content) ⊎ IsWriteBegun planned content now

-- the changes of a batch, write by write, by the rows that each finds in the content with those of the writes before
abbrev pub AreBatchedIn : Schema → List Write → Content → List Coded → Type 0
AreBatchedIn schema writes content coded = AreBehind schema (Some content) writes [] (map change_of coded)

-- the index that a query wants, as it is filled
abbrev pub wanted_target : Schema → NewIndex → Target
wanted_target schema new = target_of new.table new.number (table_at schema.tables new.table) new.index

-- an index that was to be made: nothing was done, or from its definition's mark on some or all
abbrev pub StopsIndex : Schema → Query → Option NewIndex → Content → Option Content → Type 0
StopsIndex schema query None content now = now ≡ Some content
StopsIndex schema query (Some new) content now =
    StopsBuilding (wanted_target schema new) (new_query_of schema query) content now

-- a query that was to be defined, with an index or without one
abbrev pub LeavesPrepared : Schema → Schema → Query → Option NewIndex → Content → Option Content → Type 0
LeavesPrepared schema next query None content now = MayDefine next content now
LeavesPrepared schema next query (Some new) content now = StopsIndex schema query (Some new) content now

-- nothing was done, or some of what was asked for
abbrev pub LeavesAction : Schema → Action → Content → Option Content → Type 0
LeavesAction schema (Creates table) content now = MayDefine (action_schema schema (Creates table)) content now
LeavesAction schema (Adds def) content now = MayDefine (action_schema schema (Adds def)) content now
LeavesAction schema (Writes write) content now = StopsWriting (HasWhole schema (Some content) write) content now
LeavesAction schema (Batches writes) content now = StopsWriting (AreBatchedIn schema writes content) content now
LeavesAction schema (Misreads place cause) content now = now ≡ Some content
LeavesAction schema (Prepares plan) content now =
    LeavesPrepared schema (action_schema schema (Prepares plan)) plan.query plan.chosen.wanted content now
LeavesAction schema (Explains plan) content now = now ≡ Some content
LeavesAction schema (Runs running) content now = now ≡ Some content
LeavesAction schema (Counts def) content now = MayDefine (action_schema schema (Counts def)) content now
LeavesAction schema (Reads reading) content now = now ≡ Some content
LeavesAction schema Shows content now = now ≡ Some content
LeavesAction schema (Selects plan) content now = now ≡ Some content

abbrev pub LeavesAsked : Schema → Result Action Refusal → Content → Option Content → Type 0
LeavesAsked schema (Ok action) content now = LeavesAction schema action content now
LeavesAsked schema (Err why) content now = now ≡ Some content

-- an index that is made takes at most what its table's rows in the content need
abbrev pub IsWithinRows : Option NewIndex → Content → Counted → Counted → Type 0
IsWithinRows None content before after = Unit {0}
IsWithinRows (Some new) content before after =
    TakesAtMost (build_bound (length (row_pairs_in new.table content))) before after

abbrev pub IsWithinAsked : Result Action Refusal → Content → Counted → Counted → Type 0
IsWithinAsked (Ok (Prepares plan)) content before after = IsWithinRows plan.chosen.wanted content before after
IsWithinAsked asked content before after = Unit {0}

-- ---- where it was made

-- the pair of the last of these definitions was put where nothing was
abbrev pub Defines : Schema → Content → Option Content → Type 0
Defines next content now = PutsNew true (last_key next) (last_value next) (Some content) now

-- all changes that were planned were made
pub record MakesChanges (planned : List Coded → Type 0) (content : Content) (now : Option Content) : Type 0 where
  pub coded : List Coded
  pub plan : planned coded
  pub is : now ≡ Some (changed_content (map change_of coded) content)

-- a query was defined, with its index over each of its table's rows or without one
abbrev pub MakesPrepared : Schema → Schema → Query → Option NewIndex → Content → Option Content → Type 0
MakesPrepared schema next query None content now = Defines next content now
MakesPrepared schema next query (Some new) content now = (count : ℕ)
    × RanBuild (wanted_target schema new) (new_query_of schema query) (built.Rows count) content now

-- the rows of a page that a kept plan finds in the content, and the cursor of the next one
pub record TellsPageIn (tables : List Table) (running : Running) (content : Content) (report : Report) : Type 0 where
  pub tree : Physical
  pub plan : IsKeptPlan tables running.query tree
  pub page : Page
  pub found : IsPageIn tables running tree page content
  pub lines : report.lines ≡ map line.Row page.rows
  pub end_is : report.end ≡ end.Rows (length page.rows) page.next

-- the rows of an answer that such a plan finds in the content, behind which no page follows
pub record TellsOnceIn (tables : List Table) (query : Query) (content : Content) (report : Report) : Type 0 where
  pub tree : Physical
  pub plan : IsKeptPlan tables query tree
  pub page : Page
  pub found : IsOnceIn tables query tree page content
  pub lines : report.lines ≡ map line.Row page.rows
  pub end_is : report.end ≡ end.Rows (length page.rows) None

-- the number that the content has for the group
pub record TellsCountIn (reading : Reading) (content : Content) (report : Report) : Type 0 where
  pub n : ℕ
  pub counted : IsCounted (get content (counter_key reading.number reading.values)) n
  pub lines : report.lines ≡ count_line n ∷ []
  pub end_is : report.end ≡ end.Rows 1 None

-- what was asked for was made, and not refused
abbrev pub MakesAction : Schema → Action → Content → Option Content → Report → Type 0
MakesAction schema (Creates table) content now report = Defines (action_schema schema (Creates table)) content now
MakesAction schema (Adds def) content now report = Defines (action_schema schema (Adds def)) content now
MakesAction schema (Writes write) content now report = MakesChanges (HasWhole schema (Some content) write) content now
MakesAction schema (Batches writes) content now report =
    MakesChanges (AreBatchedIn schema writes content) content now
MakesAction schema (Misreads place cause) content now report = Unit {0}
MakesAction schema (Prepares plan) content now report =
    MakesPrepared schema (action_schema schema (Prepares plan)) plan.query plan.chosen.wanted content now
MakesAction schema (Explains plan) content now report = Unit {0}
MakesAction schema (Runs running) content now report = TellsPageIn schema.tables running content report
MakesAction schema (Counts def) content now report = (row_pairs_in (counted_table schema def) content ≡ [])
    × Defines (action_schema schema (Counts def)) content now
MakesAction schema (Reads reading) content now report = TellsCountIn reading content report
MakesAction schema Shows content now report = Unit {0}
MakesAction schema (Selects plan) content now report = TellsOnceIn schema.tables plan.query content report

abbrev pub MakesAsked : Schema → Result Action Refusal → Content → Option Content → Report → Type 0
MakesAsked schema (Ok action) content now report = MakesAction schema action content now report
MakesAsked schema (Err why) content now report = Unit {0}
