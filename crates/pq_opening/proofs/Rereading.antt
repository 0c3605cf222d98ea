-- The canonical text of a definition, read over the definitions before it, gives the definition back.
use Rattle.std.proofs.Common.{◌≡◌, ℕ, ◌+◌, ◌-◌, ◌≤◌, true, List, [], ◌∷◌, ◌++◌, length, Option, Some, Result, Ok, sym, ap, subst, ◌∙◌, arith, length-append}
use Rattle.std.specs.Prelude.{nat_le, slice_get, slice_index_or}
use Rattle.std.specs.Option.{option_map_or}
use Rattle.std.specs.Result.{result_ok}
use Rattle.std.specs.Str.{is_utf8}
use Rattle.std.proofs.Math.Seq.{get_or-append_seam}
use Rattle.std.proofs.lemmas.Option.{slice_get-get_or}
use Rattle.std.proofs.lemmas.List.{take_all}
use Rattle.pq_base.specs.declared.refusal.Refusal.{Refusal}
use Rattle.pq_schema.specs.declared.definition.AlterDef.{AlterDef}
use Rattle.pq_schema.specs.declared.definition.CounterDef.{CounterDef}
use Rattle.pq_schema.specs.declared.definition.TableDef.{TableDef}
use Rattle.pq_schema.specs.declared.made.Definition.{Definition}
use Rattle.pq_schema.specs.declared.made.Definition.TheVariants.{OfTable}
use Rattle.pq_schema.specs.declared.query.Query.{Query}
use Rattle.pq_schema.specs.declared.table.NewIndex.{NewIndex}
use Rattle.pq_schema.specs.declared.table.Table.{Table}
use Rattle.pq_schema.specs.Definitions.{new_table, new_column, new_counter}
use Rattle.pq_schema.specs.Names.{IsTableDef}
use Rattle.pq_schema.specs.Schema.{Schema, no_definition, with_table, with_query}
use Rattle.pq_schema.specs.Tables.{no_table}
use Rattle.pq_schema.specs.Valid.{IsValid, IsDefined, IsAddition, IsCounted}
use Rattle.pq_schema.specs.Wanted.{ChosenCandidate}
use Rattle.pq_text.specs.Tokens.{tokens_of}
use Rattle.pq_def_read.specs.Reading.{statement_of}
use Rattle.pq_def_read.specs.declared.statement.Statement.TheVariants.{Create, Alter, Counter}
use Rattle.pq_print.specs.Canonical.{table_text, with_first_columns, numbered_text, text_of, definition_text}
use Rattle.pq_query_read.specs.Queries.{read_query_of}
use Rattle.pq_query_read.specs.Trying.{◌>>=◌}
use Rattle.pq_reread.specs.ReadBack.{IsReadBack, IsAddedText, IsCounterText}
use Rattle.pq_reread.proofs.AddedAgain.{addition_back}
use Rattle.pq_reread.proofs.CountersAgain.{counter_defined}
use Rattle.pq_reread.proofs.Defined.{defined_says, defined_reads}
use Rattle.pq_reread.proofs.Lengths.{table_short}
use Rattle.pq_reread.proofs.Orders.{valid_orderly, keys_of}
use Rattle.pq_reread.proofs.ReadBack.{defined_back}
use Rattle.pq_reread.proofs.Tables.{table_utf8}
use Rattle.pq_opening.specs.Opening.{with_made, with_planned, defined_as, text_defines}
use Rattle.pq_planning.specs.Planning.{with_chosen, plan_of, plan_from}

-- ---- a text that is read as what was added

-- The text is UTF-8, short enough to be cut, and defines the next schema over this one.
pub record IsRead (schema next : Schema) (text : List ℕ) : Type 0 where
  pub utf8 : is_utf8 text ≡ true
  pub short : nat_le (length text) 1048576 ≡ true
  pub defines : text_defines schema text ≡ Some next

table_reads_back : (schema : Schema) (def : TableDef) (table : Table) → IsValid schema → IsTableDef def → new_table schema def ≡ Ok table
    → statement_of (table_text (schema.tables ++ table ∷ []) table) (tokens_of (table_text (schema.tables ++ table ∷ []) table)) ≡ Ok (Create def)
table_reads_back schema def table valid is made = defined_reads schema def table (keys_of schema.tables (valid_orderly valid)) is made

defines_table : (schema : Schema) (def : TableDef) (table : Table) (text : List ℕ) → statement_of text (tokens_of text) ≡ Ok (Create def) → new_table schema def ≡ Ok table → text_defines schema text ≡ Some (with_table schema table)
unfolding text_defines
defines_table schema def table text read made = ap (defined_as schema text (tokens_of text)) read ∙ ap (with_made schema) made

-- the query is planned again, and accepted again
planned_again : (schema : Schema) (query : Query) (wanted : Option NewIndex) (text : List ℕ) → IsDefined schema query wanted → read_query_of schema query.name text (tokens_of text) 3 ≡ Ok query
    → with_planned schema (plan_from schema query.name text (tokens_of text) 3) ≡ Some (with_query schema query wanted)
unfolding plan_from
planned_again schema query wanted text defined rest =
    ap (λ (read : Result Query Refusal). with_planned schema (read >>= plan_of schema.tables)) rest
    ∙ ap (λ (best : Result ChosenCandidate Refusal). with_planned schema (best >>= with_chosen query)) defined.chosen.chosen
    ∙ ap result_ok defined.accepted

defines_query : (schema : Schema) (query : Query) (wanted : Option NewIndex) (text : List ℕ) → IsDefined schema query wanted → IsReadBack schema query text → text_defines schema text ≡ Some (with_query schema query wanted)
unfolding text_defines
defines_query schema query wanted text defined back = ap (defined_as schema text (tokens_of text)) back.head ∙ planned_again schema query wanted text defined back.rest

last_definition : (definitions : List Definition) (last : Definition) → slice_index_or (definitions ++ last ∷ []) ((length definitions + 1) - 1) no_definition ≡ last
last_definition definitions last =
    let place : (length definitions + 1) - 1 ≡ length definitions = omega arith in
    ap (λ (i : ℕ). slice_index_or (definitions ++ last ∷ []) i no_definition) place ∙ get_or-append_seam definitions last [] no_definition

-- all its columns are its first
all_columns : (table : Table) → with_first_columns (length table.columns) table ≡ table
all_columns table = ap (λ columns. record table { columns = columns }) (take_all (length table.columns) table.columns (omega arith))

last_numbered : (tables : List Table) (table : Table) → numbered_text (tables ++ table ∷ []) (length tables + 1) (length table.columns) ≡ table_text (tables ++ table ∷ []) table
last_numbered tables table =
    let more : List Table = tables ++ table ∷ [] in
    let place : (length tables + 1) - 1 ≡ length tables = omega arith in
    let text : Table → List ℕ = λ t. table_text more (with_first_columns (length table.columns) t) in
    ap (λ (i : ℕ). option_map_or text (slice_get more i) []) place
    ∙ ap (λ (o : Option Table). option_map_or text o [])
    (slice_get-get_or more (length tables) no_table (omega (arith, length-append tables (table ∷ []))) ∙ ap (λ (t : Table). Some t) (get_or-append_seam tables table [] no_table))
    ∙ ap (table_text more) (all_columns table)

table_text_last : (schema : Schema) (table : Table) → definition_text (with_table schema table) (length schema.definitions + 1) ≡ table_text (schema.tables ++ table ∷ []) table
unfolding definition_text
table_text_last schema table =
    ap (text_of (schema.tables ++ table ∷ [])) (last_definition schema.definitions (OfTable (length schema.tables + 1) (length table.columns) (length table.indexes))) ∙ last_numbered schema.tables table

short_enough : (n most : ℕ) → n ≤ most → nat_le n most ≡ true
short_enough n most le = grind arith

-- the text of a table's definition, over the definitions before it
pub table_read : (schema : Schema) (def : TableDef) (table : Table) → IsValid schema → IsTableDef def → new_table schema def ≡ Ok table
    → IsRead schema (with_table schema table) (definition_text (with_table schema table) (length schema.definitions + 1))
table_read schema def table valid is made =
    let are = valid_orderly valid in
    let text = table_text (schema.tables ++ table ∷ []) table in
    subst (IsRead schema (with_table schema table)) (sym (table_text_last schema table))
    (record {
      utf8 = table_utf8 (schema.tables ++ table ∷ []) def table is (defined_says schema def table (keys_of schema.tables are) made);
      short = short_enough (length text) 1048576 (table_short schema def table are is made);
      defines = defines_table schema def table text (table_reads_back schema def table valid is made) made;
    })

-- the text of a query's definition
pub query_read : (schema : Schema) (query : Query) (wanted : Option NewIndex) → IsValid schema → IsDefined schema query wanted
    → IsRead schema (with_query schema query wanted) (definition_text (with_query schema query wanted) (length schema.definitions + 1))
query_read schema query wanted valid defined =
    let text = definition_text (with_query schema query wanted) (length schema.definitions + 1) in
    let back : IsReadBack schema query text = defined_back schema query valid wanted defined in
    record {
      utf8 = back.utf8;
      short = short_enough (length text) 1048576 back.short;
      defines = defines_query schema query wanted text defined back;
    }

defines_column : (schema : Schema) (def : AlterDef) (next : Schema) (text : List ℕ) → statement_of text (tokens_of text) ≡ Ok (Alter def) → new_column schema def ≡ Ok next → text_defines schema text ≡ Some next
unfolding text_defines
defines_column schema def next text read made = ap (defined_as schema text (tokens_of text)) read ∙ ap result_ok made

-- the text of an added column's definition
pub column_read : (schema : Schema) (def : AlterDef) (next : Schema) → IsValid schema → IsAddition schema def next
    → IsRead schema next (definition_text next (length schema.definitions + 1))
column_read schema def next valid is =
    let text = definition_text next (length schema.definitions + 1) in
    let back : IsAddedText def text = addition_back schema def next valid is in
    record {
      utf8 = back.utf8;
      short = short_enough (length text) 1048576 back.short;
      defines = defines_column schema def next text back.reads is.accepted;
    }

defines_counter : (schema : Schema) (def : CounterDef) (next : Schema) (text : List ℕ) → statement_of text (tokens_of text) ≡ Ok (Counter def) → new_counter schema def ≡ Ok next → text_defines schema text ≡ Some next
unfolding text_defines
defines_counter schema def next text read made = ap (defined_as schema text (tokens_of text)) read ∙ ap result_ok made

-- the text of a counter's definition
pub counter_read : (schema : Schema) (def : CounterDef) (next : Schema) → IsValid schema → IsCounted schema def next
    → IsRead schema next (definition_text next (length schema.definitions + 1))
counter_read schema def next valid is =
    let text = definition_text next (length schema.definitions + 1) in
    let back : IsCounterText def text = counter_defined schema def next valid is in
    record {
      utf8 = back.utf8;
      short = short_enough (length text) 1048576 back.short;
      defines = defines_counter schema def next text back.reads is.accepted;
    }
