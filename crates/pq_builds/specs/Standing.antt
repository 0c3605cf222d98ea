-- What a content of rows is while an index is filled, and what a build makes of it.
use Rattle.std.specs.Prelude.{◌≡◌, ◌⊎◌, ℕ, ◌+◌, ◌<◌, ◌≤◌, false, List, [], ◌∷◌, ◌++◌, length, Option, Some, None, All}
use Rattle.std.specs.FinMap.{find}
use Rattle.pq_base.specs.Values.{IsType}
use Rattle.pq_schema.specs.declared.made.Made.{Made}
use Rattle.pq_schema.specs.declared.table.Index.{Index}
use Rattle.pq_schema.specs.declared.table.NewIndex.{NewIndex}
use Rattle.pq_schema.specs.declared.table.Table.{Table}
use Rattle.pq_schema.specs.Schema.{with_wanted}
use Rattle.pq_schema.specs.Sequences.{index_sequence}
use Rattle.pq_schema.specs.Tables.{table_at}
use Rattle.pq_store.specs.Content.{key_cmp, Content}
use Rattle.pq_content.specs.Pairs.{Pair, AreBeside, HoldsRows, is_of_rows, content_pairs}
use Rattle.pq_content.specs.Standing.{IsFilledPartOf, is_entry_of}
use Rattle.pq_content.specs.Tables.{Rows, rows_of, types_of, IsTableNumber, Keeps}
use Rattle.pq_builds.specs.declared.build.Built.{Built}
use Rattle.pq_builds.specs.declared.build.Built.TheVariants as built
use Rattle.pq_builds.specs.declared.target.NewQuery.{NewQuery}
use Rattle.pq_builds.specs.declared.target.Target.{Target}
use Rattle.pq_builds.specs.Stages.{ready_value, building_value}

-- ---- an index that is being filled

-- the content of the rows with the definition's pair, which has this value, behind the other pairs
abbrev pub defined_content : List Table → Rows → List Pair → NewQuery → List ℕ → Content
defined_content tables rows others query value = content_pairs tables rows (others ++ (query.key, value) ∷ [])

-- the definition that made an index has the mark that it is being filled, its table has few enough rows, and
-- entries of the index may be missing
pub record IsFilling (tables : List Table) (rows : Rows) (others : List Pair) (made : Made) (query : NewQuery)
    (content : Content) : Type 0 where
  pub few : length (rows_of made.table rows) ≤ 1000000
  pub part : IsFilledPartOf (is_entry_of made.table made.index)
      (defined_content tables rows others query (building_value query)) content

-- ---- what a build begins with

-- rows of tables and the pairs beside them, and one more index of a table
pub record Origin : Type 0 where
  pub tables : List Table
  pub rows : Rows
  pub others : List Pair
  pub index : Index

-- the target is the next index of a table
pub record IsTarget (origin : Origin) (target : Target) : Type 0 where
  pub number : IsTableNumber origin.tables target.table
  pub next : target.index ≡ 1 + length (table_at origin.tables target.table).indexes
  pub types : target.types ≡ types_of (table_at origin.tables target.table)
  pub fillers : target.fillers ≡ (table_at origin.tables target.table).fillers
  pub parts : target.parts ≡ index_sequence (table_at origin.tables target.table) origin.index
  pub sound : All IsType (types_of (table_at origin.tables target.table))

-- the rows keep their tables, and the definition is none of the pairs beside them
pub record IsNewIn (origin : Origin) (query : NewQuery) : Type 0 where
  pub keeps : Keeps origin.tables origin.rows
  pub beside : AreBeside origin.others
  pub key : is_of_rows query.key ≡ false
  pub absent : find key_cmp query.key origin.others ≡ None

-- the index by its table and its number
abbrev pub new_index_of : Origin → Target → NewIndex
new_index_of origin target = record { table = target.table; number = target.index; index = origin.index }

abbrev pub made_for : Target → Made
made_for target = record { table = target.table; index = target.index }

-- the tables with the index
abbrev pub tables_with : Origin → Target → List Table
tables_with origin target = with_wanted origin.tables (Some (new_index_of origin target))

-- how many rows the target's table has
abbrev pub rows_in : Origin → Target → ℕ
rows_in origin target = length (rows_of target.table origin.rows)

-- the content without the index and the definition
abbrev pub before : Origin → Content
before origin = content_pairs origin.tables origin.rows origin.others

-- the content with the index, and with the definition's pair of this value
abbrev pub whole_content : Origin → Target → NewQuery → List ℕ → Content
whole_content origin target query value =
    defined_content (tables_with origin target) origin.rows origin.others query value

-- the index is being filled
abbrev pub FillsIndex : Origin → Target → NewQuery → Content → Type 0
FillsIndex origin target query content =
    IsFilling (tables_with origin target) origin.rows origin.others (made_for target) query content

-- a told content has just the rows' pairs and the others, and the definition is new
pub record HoldsOrigin (origin : Origin) (target : Target) (query : NewQuery) (told : Option Content) : Type 0 where
  pub holds : HoldsRows told origin.tables origin.rows origin.others
  pub target_is : IsTarget origin target
  pub key : is_of_rows query.key ≡ false
  pub absent : find key_cmp query.key origin.others ≡ None

-- in a told content the index is being filled
pub record HoldsFilling (origin : Origin) (target : Target) (query : NewQuery) (told : Option Content) : Type 0 where
  pub new : IsNewIn origin query
  pub target_is : IsTarget origin target
  pub content : Content
  pub is : told ≡ Some content
  pub filling : FillsIndex origin target query content

-- ---- what a build makes and leaves

-- the index and the definition are there
abbrev pub HoldsIndex : Origin → Target → NewQuery → Option Content → Type 0
HoldsIndex origin target query now = now ≡ Some (whole_content origin target query (ready_value query))

-- the index is being filled, or is there with the definition
abbrev pub IsMarkedOrReady : Origin → Target → NewQuery → Option Content → Type 0
IsMarkedOrReady origin target query now =
    ((content : Content) × (now ≡ Some content) × FillsIndex origin target query content)
    ⊎ HoldsIndex origin target query now

-- the index and the definition are there; or nothing is changed, since there are too many rows
abbrev pub Makes : Origin → Target → NewQuery → Built → Option Content → Type 0
Makes origin target query (built.Rows count) now =
    (rows_in origin target ≡ count) × (rows_in origin target ≤ 1000000) × HoldsIndex origin target query now
Makes origin target query built.TooMany now = (1000000 < rows_in origin target) × (now ≡ Some (before origin))

-- nothing was changed, or the index is being filled, or it is there with the definition
abbrev pub Leaves : Origin → Target → NewQuery → Option Content → Type 0
Leaves origin target query now = (now ≡ Some (before origin)) ⊎ IsMarkedOrReady origin target query now
