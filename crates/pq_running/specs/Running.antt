-- Running a query that was defined: what refuses it before any call of the store, its bound, and its page.
use Rattle.std.specs.Prelude.{ℕ, ◌+◌, ◌≤◌, not, ◌==◌, List, [], ◌∷◌, map, length, Option, Some, None, option_map, Result, Ok, Err, if◌then◌else◌}
use Rattle.std.specs.Option.{option_map_or}
use Rattle.pq_base.specs.Answers.{or_else}
use Rattle.pq_base.specs.Values.{fits_type}
use Rattle.pq_base.specs.declared.number.Bound.{Bound}
use Rattle.pq_base.specs.declared.refusal.Refusal.{Refusal}
use Rattle.pq_base.specs.declared.refusal.Refusal.TheVariants as refusal
use Rattle.pq_base.specs.declared.value.ColType.{ColType}
use Rattle.pq_base.specs.declared.value.Dir.{Dir}
use Rattle.pq_base.specs.declared.value.Value.{Value}
use Rattle.pq_schema.specs.Candidates.{candidates, least}
use Rattle.pq_schema.specs.Costs.{bound}
use Rattle.pq_schema.specs.Definitions.{refused_if}
use Rattle.pq_schema.specs.Relations.{position_columns}
use Rattle.pq_schema.specs.Rows.{Rows}
use Rattle.pq_schema.specs.Schema.{Schema, IsQueryDefinition, definition_at, find_query, query_at}
use Rattle.pq_schema.specs.declared.query.Query.{Query}
use Rattle.pq_schema.specs.declared.query.Stop.{Stop}
use Rattle.pq_schema.specs.declared.query.Stop.TheVariants as stop
use Rattle.pq_schema.specs.declared.table.Table.{Table}
use Rattle.pq_cursor.specs.Cursors.{cursor_text, position_in}
use Rattle.pq_nodes.specs.Combos.{position_types}
use Rattle.pq_plan.specs.Answer.{Question, answered, position}

-- a number of a query's definition
pub record IsQueryNumber (schema : Schema) (number : ℕ) : Type 0 where
  pub from_one : 1 ≤ number
  pub there : number ≤ length schema.definitions
  pub query : IsQueryDefinition (definition_at schema number)

-- a query by the number of its definition, with its parameters and the position behind which its page begins
pub record Running : Type 0 where
  pub number : ℕ
  pub query : Query
  pub params : List Value
  pub after : Option (List Value)

abbrev pub running_with : ℕ → Query → List Value → Option (List Value) → Running
running_with number query params after = record { number = number; query = query; params = params; after = after }

-- ---- what refuses it

-- the number of the first value that does not fit its parameter, from this number on
abbrev pub misfit : ℕ → List ColType → List Value → Option ℕ
misfit number (ty ∷ types) (value ∷ values) =
    if fits_type ty value then misfit (number + 1) types values else Some number
misfit number _ _ = None

-- 0 for another number of values
abbrev pub params_refusal : List ColType → List Value → Option Refusal
params_refusal types values =
    or_else (refused_if (not (length values == length types)) (refusal.ParamValue 0))
    (option_map refusal.ParamValue (misfit 1 types values))

-- k of PAGINATE k
abbrev pub page_size : Stop → Option ℕ
page_size stop.All = None
page_size (stop.Limit k) = None
page_size (stop.Paginate k) = Some k

-- each position column has its direction
abbrev pub position_dirs : List Table → Query → List Dir
position_dirs tables query = map (λ item. item.dir) (position_columns tables query)

-- the position of a cursor, which a query without pages has none of
abbrev pub page_start : Option ℕ → Option (List Value) → Result (Option (List Value)) Refusal
page_start None position = Err refusal.NotPaged
page_start (Some k) None = Err refusal.Cursor
page_start (Some k) (Some at) = Ok (Some at)

-- where a page begins: at the front where there is no cursor
abbrev pub begins_after : List Table → ℕ → Query → Option (List ℕ) → Result (Option (List Value)) Refusal
begins_after tables number query None = Ok None
begins_after tables number query (Some text) =
    page_start (page_size query.stop)
    (position_in number (position_types tables query) (position_dirs tables query) text)

abbrev pub or_begins : Option Refusal → Result (Option (List Value)) Refusal → Result (Option (List Value)) Refusal
or_begins None start = start
or_begins (Some why) start = Err why

-- the parameters' refusal comes before those of the cursor
unfoldable pub cursor_start : List Table → ℕ → Query → List Value → Option (List ℕ)
    → Result (Option (List Value)) Refusal
cursor_start tables number query params after =
    or_begins (params_refusal query.params params) (begins_after tables number query after)

abbrev pub running_as : ℕ → Query → List Value → Result (Option (List Value)) Refusal → Result Running Refusal
running_as number query params (Ok after) = Ok (running_with number query params after)
running_as number query params (Err why) = Err why

abbrev pub running_at : Schema → List ℕ → List Value → Option (List ℕ) → Option ℕ → Result Running Refusal
running_at schema name params after None = Err (refusal.NoQuery name)
running_at schema name params after (Some number) =
    running_as number (query_at schema number) params
    (cursor_start schema.tables number (query_at schema number) params after)

-- what runs under a name, or the first refusal
unfoldable pub running_of : Schema → List ℕ → List Value → Option (List ℕ) → Result Running Refusal
running_of schema name params after = running_at schema name params after (find_query schema name)

-- ---- its bound and its page

-- the cost of the query's least candidate
unfoldable pub query_bound : List Table → Query → Bound
query_bound tables query = option_map_or (λ best. best.bound) (least (candidates tables query)) (bound 0 0)

-- the query over rows
abbrev pub over_rows : List Table → Rows → Running → Question
over_rows tables rows running = record { tables = tables; query = running.query; rows = rows; params = running.params }

-- the combinations of its page
abbrev pub page_combos : List Table → Rows → Running → List (List (List Value))
page_combos tables rows running = answered (over_rows tables rows running) running.after

-- the last item, where there is one
abbrev pub last_of : {A : Type 0} → List A → Option A
last_of [] = None
last_of (x ∷ []) = Some x
last_of (x ∷ y ∷ rest) = last_of (y ∷ rest)

-- the cursor of the position of a combination
abbrev pub cursor_of : List Table → Rows → Running → List (List Value) → List ℕ
cursor_of tables rows running combo =
    cursor_text running.number (position_dirs tables running.query) (position (over_rows tables rows running) combo)

-- the cursor of the last position, where there are exactly k rows
abbrev pub next_at : List Table → ℕ → Query → ℕ → Option (List Value) → Option ℕ → Option (List ℕ)
next_at tables number query rows last None = None
next_at tables number query rows last (Some k) =
    if rows == k then option_map (cursor_text number (position_dirs tables query)) last else None

-- of a page with so many rows and this last position
abbrev pub next_cursor : List Table → ℕ → Query → ℕ → Option (List Value) → Option (List ℕ)
next_cursor tables number query rows last = next_at tables number query rows last (page_size query.stop)

-- a page of exactly k rows has the cursor of its last one
abbrev pub next_of : List Table → Rows → Running → Option ℕ → List (List (List Value)) → Option (List ℕ)
next_of tables rows running None combos = None
next_of tables rows running (Some k) combos =
    if length combos == k then option_map (cursor_of tables rows running) (last_of combos) else None
