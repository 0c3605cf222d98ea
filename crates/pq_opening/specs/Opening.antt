-- The opening of a store: what the pairs of its catalog tell, and what shows that they are none of a store.
use Rattle.std.specs.Prelude.{◌≡◌, ℕ, ◌+◌, ◌⊎◌, ◌≤◌, Bool, true, false, nat_le, List, [], ◌∷◌, length, take, Option, Some, None, is_some, option_map, option_and_then, Result, Ok, Err, IfSome, if◌then◌else◌}
use Rattle.std.specs.FinMap.{get}
use Rattle.std.specs.Result.{result_ok}
use Rattle.std.specs.Str.{bytes_eq}
use Rattle.pq_base.specs.declared.number.Bound.{Bound}
use Rattle.pq_base.specs.declared.refusal.Refusal.{Refusal}
use Rattle.pq_text.specs.declared.token.Token.{Token}
use Rattle.pq_text.specs.Tokens.{tokens_of}
use Rattle.pq_def_read.specs.declared.statement.Statement.{Statement}
use Rattle.pq_def_read.specs.declared.statement.Statement.TheVariants as statement
use Rattle.pq_def_read.specs.Reading.{statement_of}
use Rattle.pq_key_code.specs.KeyCode.{catalog_key, intent_key}
use Rattle.pq_schema.specs.declared.table.Table.{Table}
use Rattle.pq_schema.specs.Definitions.{new_table, new_query, new_column, new_counter}
use Rattle.pq_schema.specs.Schema.{Schema, empty_schema, with_table}
use Rattle.pq_schema.specs.declared.made.Made.{Made}
use Rattle.pq_schema.specs.Sequences.{index_numbered}
use Rattle.pq_schema.specs.Tables.{table_at}
use Rattle.pq_schema.specs.Valid.{IsValid}
use Rattle.pq_store.specs.Breaks.{IfDamaged}
use Rattle.pq_store.specs.Content.{Content, pairs_within}
use Rattle.pq_store.specs.Counts.{Counts}
use Rattle.pq_store.specs.declared.damage.Broke.{Broke}
use Rattle.pq_store.specs.declared.damage.Damage.{Damage}
use Rattle.pq_store.specs.declared.damage.Broke.TheVariants.{Failed, NoMem, Damaged}
use Rattle.pq_content.specs.Standing.{SettlesTo}
use Rattle.pq_content.specs.Pairs.{Pair}
use Rattle.pq_content.specs.Tables.{Rows, rows_of, Keeps}
use Rattle.pq_tallies.specs.Counters.{AreFewRows as AreFewInGroups}
use Rattle.pq_tallies.specs.Defined.{counters_in}
use Rattle.pq_print.specs.Canonical.{definition_text}
use Rattle.pq_print.specs.declared.report.Opened.{Opened}
use Rattle.pq_intent.specs.Counting.{HasChanges}
use Rattle.pq_intent.specs.Settling.{IsNoIntent, IsPartSettled, LeavesSettled}
use Rattle.pq_intent.specs.declared.settles.Settled.{Settled}
use Rattle.pq_builds.specs.Bounds.{bound, left_bound}
use Rattle.pq_builds.specs.Filling.{row_pairs_in}
use Rattle.pq_builds.specs.Stages.{Takes, ShowsLeft, StopsFilling}
use Rattle.pq_builds.specs.Targets.{target_of}
use Rattle.pq_builds.specs.declared.target.NewQuery.{NewQuery}
use Rattle.pq_builds.specs.declared.target.Target.{Target}
use Rattle.pq_opening.specs.declared.begun.Begun.{Begun}
use Rattle.pq_catalog.specs.declared.format.Mark.{Mark}
use Rattle.pq_catalog.specs.declared.format.Mark.TheVariants.{Ready, Building}
use Rattle.pq_catalog.specs.Format.{marked_text, has_format}
use Rattle.pq_catalog.specs.Model.{Model}
use Rattle.pq_catalog.specs.Stands.{HoldsModel, IsFillingLast, content_of, last_made, last_query}
use Rattle.pq_planning.specs.Planning.{PlannedDefinition, plan_from}

-- the line of an opening
abbrev pub opening_of : Begun → Opened
opening_of started = record { defs = started.defs; bound = started.bound; used = started.used }

-- ---- numbers

-- the completion of a build over so many rows, or of none
abbrev pub completion_bound : Option ℕ → Bound
completion_bound None = bound 0 0
completion_bound (Some rows) = left_bound rows

-- what was opened after a settling, by one range of so many pairs and the completion of a build over so many rows
abbrev pub started_of : Schema → Settled → ℕ → Option ℕ → Begun
started_of schema settled found rows = record {
  planned = schema;
  defs = length schema.definitions;
  bound = bound (settled.used.ops + 1 + (completion_bound rows).ops) (257 + (completion_bound rows).entries);
  used = record {
    ops = settled.used.ops + 1 + (completion_bound rows).ops;
    entries = settled.used.entries + found + (completion_bound rows).entries;
  };
}

-- so many rows, where there are any, are few enough for an index to be filled
abbrev pub AreFewRows : Option ℕ → Type 0
AreFewRows rows = IfSome rows (λ many. many ≤ 1000000)

-- it was opened over so many rows, whose build took just what is told
pub record IsStarted (schema : Schema) (started : Begun) (settled : Settled) (before after : Counts) : Type 0 where
  pub rows : Option ℕ
  pub few_rows : AreFewRows rows
  pub is : started ≡ started_of schema settled (length schema.definitions) rows
  pub few : length schema.definitions ≤ 256
  pub takes : Takes (completion_bound rows).ops (completion_bound rows).entries before after

-- ---- what the pairs of a catalog tell

-- the schema with the table that a definition makes
abbrev pub with_made : Schema → Result Table Refusal → Option Schema
with_made schema (Ok table) = Some (with_table schema table)
with_made schema (Err why) = None

-- the schema with a query and the index that it wants
abbrev pub with_planned : Schema → Result PlannedDefinition Refusal → Option Schema
with_planned schema (Ok plan) = result_ok (new_query schema plan.query plan.chosen.wanted)
with_planned schema (Err why) = None

-- the schema with what a statement defines
abbrev pub defined_by : Schema → List ℕ → List Token → Statement → Option Schema
defined_by schema text tokens (statement.Create def) = with_made schema (new_table schema def)
defined_by schema text tokens (statement.Prepare name from) =
    with_planned schema (plan_from schema name text tokens from)
defined_by schema text tokens (statement.Alter def) = result_ok (new_column schema def)
defined_by schema text tokens (statement.Write write) = None
defined_by schema text tokens (statement.Batch writes) = None
defined_by schema text tokens (statement.Explain from) = None
defined_by schema text tokens (statement.Run name params after) = None
defined_by schema text tokens (statement.Counter def) = result_ok (new_counter schema def)
defined_by schema text tokens (statement.Read name values) = None
defined_by schema text tokens statement.Show = None
defined_by schema text tokens statement.Select = None

abbrev pub defined_as : Schema → List ℕ → List Token → Result Statement ℕ → Option Schema
defined_as schema text tokens (Ok read) = defined_by schema text tokens read
defined_as schema text tokens (Err left) = None

-- the schema with the definition of a text
unfoldable pub text_defines : Schema → List ℕ → Option Schema
text_defines schema text = defined_as schema text (tokens_of text) (statement_of text (tokens_of text))

-- the last definition has this canonical text
abbrev pub has_last_text : List ℕ → Schema → Bool
has_last_text text schema = bytes_eq (definition_text schema (length schema.definitions)) text

abbrev pub if_canonical : List ℕ → Schema → Option Schema
if_canonical text next = if has_last_text text next then Some next else None

-- a canonical text, of at most a mebibyte, that is accepted over the definitions before it
unfoldable pub text_adds : Schema → List ℕ → Option Schema
text_adds schema text = if nat_le (length text) 1048576
    then option_and_then (if_canonical text) (text_defines schema text) else None

-- what a pair adds: the schema with its definition, and the definition's mark
abbrev pub SchemaAndMark : Type 0
SchemaAndMark = Schema × Mark

abbrev pub if_formatted : List ℕ → Schema → Option Schema
if_formatted value next = if has_format value next then Some next else None

-- the definition of a text, whose value has the format of the kind that the text makes
abbrev pub value_adds : Schema → List ℕ → Mark × List ℕ → Option SchemaAndMark
value_adds schema value marked =
    option_map (λ next. (next, marked.0)) (option_and_then (if_formatted value) (text_adds schema marked.1))

-- of the next definition's pair
unfoldable pub pair_adds : Schema → Pair → Option SchemaAndMark
pair_adds schema pair =
    if bytes_eq pair.0 (catalog_key (length schema.definitions + 1))
    then option_and_then (value_adds schema pair.1) (marked_text pair.1)
    else None

-- a definition that is ready; or one at the last pair, which made an index
abbrev pub goes_on : SchemaAndMark → List Pair → Bool
goes_on (next, Ready) rest = true
goes_on (next, Building) [] = is_some (last_made next)
goes_on (next, Building) (pair ∷ rest) = false

abbrev pub opened_by : Pair → List Pair → Option SchemaAndMark → (SchemaAndMark → Result SchemaAndMark Pair)
    → Result SchemaAndMark Pair
opened_by pair rest None more = Err pair
opened_by pair rest (Some added) more = if goes_on added rest then more added else Err pair

-- the schema with the definitions of some pairs, and the mark of the last one; or the first that is no
-- definition's pair
unfoldable pub added_from : SchemaAndMark → List Pair → Result SchemaAndMark Pair
added_from added [] = Ok added
added_from added (pair ∷ pairs) = opened_by pair pairs (pair_adds added.0 pair) (λ next. added_from next pairs)

-- no definitions
abbrev pub none_added : SchemaAndMark
none_added = (empty_schema, Ready)

-- the pairs of the catalog, at most one more than there may be definitions
abbrev pub catalog_in : Content → List Pair
catalog_in content = take 257 (pairs_within content (1 ∷ []) (2 ∷ []))

-- the table of an index has few enough rows for it to be filled
abbrev pub HasFewRows : Option Made → Content → Type 0
HasFewRows made content = IfSome made (λ index. length (row_pairs_in index.table content) ≤ 1000000)

-- where a mark tells that the last definition's index is being filled
abbrev pub HasFewLeft : Schema → Mark → Content → Type 0
HasFewLeft schema Ready content = Unit {0}
HasFewLeft schema Building content = HasFewRows (last_made schema) content

-- what the content settles to has a catalog that tells this schema, whose last definition may have an index that is
-- being filled, of a table with few enough rows
pub record TellsSchema (content : Content) (schema : Schema) : Type 0 where
  pub settled : Content
  pub settles : SettlesTo content settled
  pub mark : Mark
  pub opened : added_from none_added (catalog_in settled) ≡ Ok (schema, mark)
  pub few : HasFewLeft schema mark settled

-- ---- a build that was left

-- the index that a definition made, with its table
abbrev pub target_left : Schema → Made → Target
target_left schema made = target_of made.table made.index (table_at schema.tables made.table)
    (index_numbered (table_at schema.tables made.table) made.index)

-- what is built for the last definition
pub record IsLeft (schema : Schema) (target : Target) (query : NewQuery) : Type 0 where
  pub made : Made
  pub last : last_made schema ≡ Some made
  pub target_is : target ≡ target_left schema made
  pub query_is : query ≡ last_query schema

-- the rows keep valid definitions, no group of a counter has too many, and the content is told; the last definition's
-- index is being filled
pub record IsFillingIn (content : Option Content) (m : Model) : Type 0 where
  pub valid : IsValid m.schema
  pub keeps : Keeps m.schema.tables m.rows
  pub few : AreFewInGroups (counters_in m.schema) m.rows
  pub pairs : Content
  pub told : content ≡ Some pairs
  pub filling : IsFillingLast m pairs

-- the content is just that of the model; or its last definition's index is being filled
abbrev pub IsAsMarked : Mark → Option Content → Model → Type 0
IsAsMarked Ready content m = HoldsModel content m
IsAsMarked Building content m = IsFillingIn content m

-- how many rows the table has for which the last definition made an index
abbrev pub rows_of_made : Option Made → Rows → ℕ
rows_of_made None rows = 0
rows_of_made (Some made) rows = length (rows_of made.table rows)

abbrev pub rows_left : Model → ℕ
rows_left m = rows_of_made (last_made m.schema) m.rows

-- how many rows a build has that a mark tells of
abbrev pub rows_of_mark : Mark → Model → Option ℕ
rows_of_mark Ready m = None
rows_of_mark Building m = Some (rows_left m)

-- ---- flaws

-- the catalog has this first pair that is no definition's
abbrev pub NamesPair : Content → Broke → Type 0
NamesPair content Failed = Unit {0}
NamesPair content NoMem = Unit {0}
NamesPair content (Damaged damage) = (value : List ℕ) × (damage.value ≡ Some value)
    × (added_from none_added (catalog_in content) ≡ Err (damage.key, value))

-- the build of this schema's last definition shows the damage
abbrev pub ShowsLeftOf : Schema → Content → Broke → Type 0
ShowsLeftOf schema content broke = (target : Target) × (query : NewQuery) × IsLeft schema target query
    × ShowsLeft target query content broke

-- where a mark tells of it
abbrev pub ShowsMarked : Schema → Mark → Content → Broke → Type 0
ShowsMarked schema mark content Failed = Unit {0}
ShowsMarked schema mark content NoMem = Unit {0}
ShowsMarked schema mark content (Damaged damage) = (mark ≡ Building) × ShowsLeftOf schema content (Damaged damage)

-- what the content settles to has no flaw, and a build was left in it, which shows the damage
pub record ShowsBuildLeft (content : Content) (damage : Damage) : Type 0 where
  pub settled : Content
  pub settles : SettlesTo content settled
  pub schema : Schema
  pub left : added_from none_added (catalog_in settled) ≡ Ok (schema, Building)
  pub shows : ShowsLeftOf schema settled (Damaged damage)

-- the intent is none of a store; or what the content settles to has this first pair that is no definition's
abbrev pub ShowsFlaw : Content → Damage → Type 0
ShowsFlaw content damage =
    (value : List ℕ) × (damage.value ≡ Some value)
    × (((damage.key ≡ intent_key) × (get content intent_key ≡ Some value) × IsNoIntent value)
    ⊎ ((settled : Content) × SettlesTo content settled
    × (added_from none_added (catalog_in settled) ≡ Err (damage.key, value))))

-- damage names the first flaw; or there is none, and a build that was left shows it
abbrev pub NamesFlaw : Content → Broke → Type 0
NamesFlaw content Failed = Unit {0}
NamesFlaw content NoMem = Unit {0}
NamesFlaw content (Damaged damage) = ShowsFlaw content damage ⊎ ShowsBuildLeft content damage

-- a call may answer a value for this key
abbrev pub HasAnswer : (List ℕ → Option (List ℕ) → Type 0) → List ℕ → Type 0
HasAnswer answers key = (value : List ℕ) × answers key (Some value)

-- damage is told with a key and the value that a call may answer for it; or without it, with a key for which a call
-- may answer one
abbrev pub IsAnsweredFlaw : (List ℕ → Option (List ℕ) → Type 0) → Broke → Type 0
IsAnsweredFlaw answers = IfDamaged (λ damage. answers damage.key damage.value
    ⊎ ((damage.value ≡ None) × HasAnswer answers damage.key))

-- ---- what an opening leaves

-- no intent stands in it, and its catalog tells of no build
pub record IsQuiet (content : Content) : Type 0 where
  pub no_intent : get content intent_key ≡ None
  pub no_build : (schema : Schema) → added_from none_added (catalog_in content) ≡ Ok (schema, Building) → ⊥

-- nothing was changed; or what is built for this schema's last definition was gone on with
abbrev pub GoesOnLeft : Schema → Content → Option Content → Type 0
GoesOnLeft schema content now = (now ≡ Some content)
    ⊎ ((target : Target) × (query : NewQuery) × IsLeft schema target query × StopsFilling target query content now)

-- where a mark tells of it
abbrev pub LeavesMarked : Schema → Mark → Content → Option Content → Type 0
LeavesMarked schema Ready content now = now ≡ Some content
LeavesMarked schema Building content now = GoesOnLeft schema content now

-- what the content settles to has a catalog without a flaw, and is there; but what is built for its last definition
-- was gone on with where its mark tells of it
pub record LeavesRead (content : Content) (now : Option Content) : Type 0 where
  pub settled : Content
  pub settles : SettlesTo content settled
  pub schema : Schema
  pub mark : Mark
  pub read : added_from none_added (catalog_in settled) ≡ Ok (schema, mark)
  pub left : LeavesMarked schema mark settled now

-- where damage is found: the content as it was, or what it settles to, or this with more of a build that was left
abbrev pub LeavesFlawed : Content → Option Content → Type 0
LeavesFlawed content now = (now ≡ Some content) ⊎ (LeavesSettled content now ⊎ LeavesRead content now)

-- where an opening stops, for whatever cause: one of these, or the content with some of the changes of its intent
abbrev pub LeavesStopped : Content → Option Content → Type 0
LeavesStopped content now = IsPartSettled content now ⊎ LeavesFlawed content now

-- ---- the bound, which the content and the model fix

-- one more operation for each change and for the removal of the intent
abbrev pub intent_ops : Option ℕ → ℕ
intent_ops None = 0
intent_ops (Some changes) = changes + 1

abbrev pub opening_bound : Option ℕ → Option ℕ → Bound
opening_bound changes rows = bound (2 + intent_ops changes + (completion_bound rows).ops)
    (257 + (completion_bound rows).entries)

-- a build over so many rows, or none
abbrev pub HasBuild : Model → Content → Option ℕ → Type 0
HasBuild m settled None = settled ≡ content_of m
HasBuild m settled (Some rows) = (filling : IsFillingLast m settled)
    × (rows ≡ length (rows_of filling.made.table m.rows))

-- two operations and 257 entries; where an intent stands one operation for each change and one for its removal; and
-- where an index is being filled the completion of its build
pub record IsOpeningBound (m : Model) (content : Content) (most : Bound) : Type 0 where
  pub changes : Option ℕ
  pub has_changes : HasChanges content changes
  pub settled : Content
  pub settles : SettlesTo content settled
  pub rows : Option ℕ
  pub has_build : HasBuild m settled rows
  pub is : most ≡ opening_bound changes rows

-- the line of an opening: as many definitions as there are, the bound of two calls, those of an intent and those of a
-- build that was left, and used at most that
pub record IsOpening (content : Option Content) (m : Model) (opened : Opened) : Type 0 where
  pub defs : opened.defs ≡ length m.schema.definitions
  pub most : IfSome content (λ pairs. IsOpeningBound m pairs opened.bound)
  pub ops : opened.used.ops ≤ opened.bound.ops
  pub entries : opened.used.entries ≤ opened.bound.entries
