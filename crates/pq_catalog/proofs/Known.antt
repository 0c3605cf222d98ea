-- What is known of the definitions of a valid schema: their tables are there and have the columns that they had, and
-- their queries are ones that reading gives over the tables of now.
use Rattle.std.proofs.Common.{◌≡◌, ℕ, suc, ◌+◌, ◌-◌, ◌<◌, ◌≤◌, List, [], ◌∷◌, ◌++◌, length, get_or, Some, None, refl, ap, ◌∙◌, subst, arith}
use Rattle.std.specs.Prelude.{option_map, Option}
use Rattle.std.specs.List.{AllByRecursion}
use Rattle.std.proofs.lemmas.List.{length-append, get_or-set_same}
use Rattle.std.proofs.Math.Seq.{get_or-append_seam}
use Rattle.pq_base.proofs.Members.{each_append}
use Rattle.pq_base.specs.declared.value.Value.{Value}
use Rattle.pq_schema.specs.declared.definition.AlterDef.{AlterDef}
use Rattle.pq_schema.specs.declared.definition.CounterDef.{CounterDef}
use Rattle.pq_schema.specs.declared.made.Definition.{Definition}
use Rattle.pq_schema.specs.declared.made.Definition.TheVariants.{OfTable, OfQuery, OfColumn, OfCounter}
use Rattle.pq_schema.specs.declared.query.Query.{Query}
use Rattle.pq_schema.specs.declared.table.Column.{Column}
use Rattle.pq_schema.specs.declared.table.NewIndex.{NewIndex}
use Rattle.pq_schema.specs.declared.table.Table.{Table}
use Rattle.pq_schema.specs.Definitions.{altered_schema, altered_table, column_of, column_refusal, counted_table, counter_of_def, counter_refusal}
use Rattle.pq_schema.specs.Resolved.{IsResolved}
use Rattle.pq_schema.specs.Schema.{Schema, made_of, with_new_column, with_wanted}
use Rattle.pq_schema.specs.Sound.{AreDefaults, IsMade}
use Rattle.pq_schema.specs.Tables.{no_table, table_at}
use Rattle.pq_schema.specs.Valid.{IsValid, IsDefined}
use Rattle.pq_schema.specs.Valid.IsValid.{empty, then_table, then_query, then_column, then_counter}
use Rattle.pq_schema.proofs.Valid.{column_parts, column_takes, counter_parts, valid_made, wanted_there}
use Rattle.pq_content.specs.Tables.{IsTableNumber}
use Rattle.pq_reread.proofs.Countings.{accepted_counter}
use Rattle.pq_reread.proofs.Orders.{places_inside}
use Rattle.pq_runnable.specs.Grown.{HaveGrown}
use Rattle.pq_runnable.proofs.Growing.{grown_altered, grown_table, grown_wanted, resolved_stays}
use Rattle.pq_planning.proofs.Lists.{each_weaker}

abbrev pub IsKnownDefinition : List Table → Definition → Type 0
IsKnownDefinition tables (OfTable t columns made) = IsTableNumber tables t × (columns ≤ length (table_at tables t).columns)
IsKnownDefinition tables (OfQuery query made) = IsResolved tables query
IsKnownDefinition tables (OfColumn t col) = IsTableNumber tables t × (col < length (table_at tables t).columns) × (col < length (table_at tables t).fillers)
IsKnownDefinition tables (OfCounter counter) = IsTableNumber tables counter.table × AllByRecursion (λ col. col < length (table_at tables counter.table).columns) counter.cols

-- the tables have grown with the index that the query wants
pub grown_defined : (schema : Schema) (query : Query) (wanted : Option NewIndex) → IsValid schema → IsDefined schema query wanted → HaveGrown schema.tables (with_wanted schema.tables wanted)
grown_defined schema query wanted valid defined = grown_wanted schema.tables wanted (valid_made valid) (wanted_there schema.tables query wanted defined.resolved defined.chosen)

pub number_stays : (tables later : List Table) → HaveGrown tables later → (t : ℕ) → IsTableNumber tables t → IsTableNumber later t
number_stays tables later grown t is = (is.0, let high = is.1 in let long = grown.long in omega arith)

columns_stay : (tables later : List Table) → HaveGrown tables later → (t columns : ℕ) → IsTableNumber tables t → columns ≤ length (table_at tables t).columns → columns ≤ length (table_at later t).columns
columns_stay tables later grown t columns is few =
    let more = grown.each t is.0 is.1 in
    let long = ap (λ (x : Table). length x.columns) more.is ∙ length-append (table_at tables t).columns more.columns in
    omega (arith, long, few)

column_stays : (tables later : List Table) → HaveGrown tables later → (t col : ℕ) → IsTableNumber tables t → col < length (table_at tables t).columns → col < length (table_at later t).columns
column_stays tables later grown t col is inside =
    let more = grown.each t is.0 is.1 in
    let long = ap (λ (x : Table). length x.columns) more.is ∙ length-append (table_at tables t).columns more.columns in
    omega (arith, long, inside)

filler_stays : (tables later : List Table) → HaveGrown tables later → (t col : ℕ) → IsTableNumber tables t → col < length (table_at tables t).fillers → col < length (table_at later t).fillers
filler_stays tables later grown t col is inside =
    let more = grown.each t is.0 is.1 in
    let long = ap (λ (x : Table). length x.fillers) more.is ∙ length-append (table_at tables t).fillers more.fillers in
    omega (arith, long, inside)

definition_stays : (tables later : List Table) → HaveGrown tables later → (definition : Definition) → IsKnownDefinition tables definition → IsKnownDefinition later definition
definition_stays tables later grown (OfTable t columns made) is = (number_stays tables later grown t is.0, columns_stay tables later grown t columns is.0 is.1)
definition_stays tables later grown (OfQuery query made) is = resolved_stays tables later query grown is
definition_stays tables later grown (OfColumn t col) is =
    (number_stays tables later grown t is.0, column_stays tables later grown t col is.0 is.1, filler_stays tables later grown t col is.0 is.2)
definition_stays tables later grown (OfCounter counter) is = (
  number_stays tables later grown counter.table is.0,
  each_weaker (λ col. col < length (table_at tables counter.table).columns) (λ col. col < length (table_at later counter.table).columns)
      (λ col inside. column_stays tables later grown counter.table col is.0 inside) counter.cols is.1,
)

-- definitions that were known, and one more
one_more : (tables later : List Table) (definitions : List Definition) (last : Definition) → HaveGrown tables later → AllByRecursion (IsKnownDefinition tables) definitions → IsKnownDefinition later last
    → AllByRecursion (IsKnownDefinition later) (definitions ++ last ∷ [])
one_more tables later definitions last grown known is =
    each_append (IsKnownDefinition later) definitions (last ∷ [])
    (each_weaker (IsKnownDefinition tables) (IsKnownDefinition later) (definition_stays tables later grown) definitions known)
    (is, tt)

-- a table has as many defaults as columns
one_each : (columns : List Column) (fillers : List (Option Value)) → AreDefaults columns fillers → length fillers ≡ length columns
one_each [] [] all = refl
one_each (column ∷ columns) (filler ∷ fillers) all = ap suc (one_each columns fillers all.1)
one_each [] (filler ∷ fillers) all = absurd all
one_each (column ∷ columns) [] all = absurd all

-- the column that was added is known
column_known : (schema : Schema) (def : AlterDef) → IsValid schema → column_refusal schema def ≡ None → AllByRecursion (IsKnownDefinition schema.tables) schema.definitions
    → AllByRecursion (IsKnownDefinition (altered_schema schema def).tables) (altered_schema schema def).definitions
column_known schema def valid none known =
    let t = altered_table schema def in
    let column = column_of def.column in
    let table = table_at schema.tables t in
    let later : List Table = (altered_schema schema def).tables in
    let takes = column_takes schema def none in
    let from_one = takes.from_one in
    let there = takes.there in
    let grown = grown_altered schema def valid none in
    let number = number_stays schema.tables later grown t (from_one, there) in
    let own : table_at later t ≡ with_new_column table column def.filler = get_or-set_same schema.tables (t - 1) (with_new_column table column def.filler) no_table (omega (arith, from_one, there)) in
    let is_made : IsMade schema.tables t table = valid_made valid t from_one there in
    let columns = ap (λ (x : Table). length x.columns) own ∙ length-append table.columns (column ∷ []) in
    let fillers = ap (λ (x : Table). length x.fillers) own ∙ length-append table.fillers (Some def.filler ∷ []) in
    let each = one_each table.columns table.fillers is_made.fillers in
    one_more schema.tables later schema.definitions (OfColumn t (length table.columns)) grown known (number, omega (arith, columns), omega (arith, fillers, each))

-- the counter that was defined is known
counter_known : (schema : Schema) (def : CounterDef) → counter_refusal schema def ≡ None → IsKnownDefinition schema.tables (OfCounter (counter_of_def schema def))
counter_known schema def none =
    let counting = accepted_counter schema def none in
    ((counting.from_one, counting.there), places_inside (table_at schema.tables (counted_table schema def)).columns def.cols counting.known)

pub definitions_of : (schema : Schema) → IsValid schema → AllByRecursion (IsKnownDefinition schema.tables) schema.definitions
definitions_of _ empty = tt
definitions_of _ (then_table schema def table valid is_def made) =
    let later : List Table = schema.tables ++ table ∷ [] in
    let last : Definition = OfTable (length schema.tables + 1) (length table.columns) (length table.indexes) in
    let there : length schema.tables + 1 ≤ length later = omega (arith, length-append schema.tables (table ∷ [])) in
    let place : length schema.tables + 1 - 1 ≡ length schema.tables = omega arith in
    let own : table_at later (length schema.tables + 1) ≡ table = ap (λ n. get_or later n no_table) place ∙ get_or-append_seam schema.tables table [] no_table in
    let long = ap (λ (x : Table). length x.columns) own in
    one_more schema.tables later schema.definitions last (grown_table schema.tables table (valid_made valid)) (definitions_of schema valid) ((omega arith, there), omega (arith, long))
definitions_of _ (then_query schema query wanted valid defined) =
    let later : List Table = with_wanted schema.tables wanted in
    let grown = grown_defined schema query wanted valid defined in
    one_more schema.tables later schema.definitions (OfQuery query (option_map made_of wanted)) grown (definitions_of schema valid)
    (resolved_stays schema.tables later query grown defined.resolved)
definitions_of _ (then_column schema def next valid is) =
    let parts = column_parts schema def next is.accepted in
    subst (λ (s : Schema). AllByRecursion (IsKnownDefinition s.tables) s.definitions) parts.1 (column_known schema def valid parts.0 (definitions_of schema valid))
definitions_of _ (then_counter schema def next valid is) =
    let parts = counter_parts schema def next is.accepted in
    subst (λ (s : Schema). AllByRecursion (IsKnownDefinition s.tables) s.definitions) parts.1
    (each_append (IsKnownDefinition schema.tables) schema.definitions (OfCounter (counter_of_def schema def) ∷ []) (definitions_of schema valid) (counter_known schema def parts.0, tt))
