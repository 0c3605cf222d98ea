-- What one more definition makes of what a content stands for.
use Rattle.std.proofs.Common.{◌≡◌, ℕ, ◌+◌, ◌<◌, length, List, [], ◌∷◌, ◌++◌, Option, None, refl, sym, ap, ◌∙◌, subst, append_assoc, arith}
use Rattle.std.specs.Prelude.{option_map}
use Rattle.std.specs.FinMap.{find, get, insert}
use Rattle.pq_schema.specs.declared.definition.AlterDef.{AlterDef}
use Rattle.pq_schema.specs.declared.definition.CounterDef.{CounterDef}
use Rattle.pq_schema.specs.declared.table.Table.{Table}
use Rattle.pq_schema.specs.declared.query.Query.{Query}
use Rattle.pq_schema.specs.declared.made.Definition.{Definition}
use Rattle.pq_schema.specs.declared.made.Definition.TheVariants.{OfTable, OfQuery, OfColumn, OfCounter}
use Rattle.pq_schema.specs.Definitions.{altered_schema, altered_table, column_of, column_refusal, counted_schema, counted_table, counter_of_def}
use Rattle.pq_schema.specs.Schema.{Schema, made_of, with_table, with_wanted, with_query}
use Rattle.pq_schema.specs.Tables.{table_at}
use Rattle.pq_schema.specs.Valid.{IsValid, IsDefined}
use Rattle.pq_schema.proofs.Valid.{column_takes, valid_made}
use Rattle.pq_schema.specs.declared.table.NewIndex.{NewIndex}
use Rattle.pq_runnable.proofs.Growing.{grown_altered, grown_table}
use Rattle.pq_added.specs.Added.{grown_rows}
use Rattle.pq_added.proofs.Grown.{keeps-grown, pairs-grown}
use Rattle.pq_base.specs.Values.{FitsType}
use Rattle.pq_key_code.specs.KeyCode.{catalog_key}
use Rattle.pq_content.specs.Pairs.{Pair, content_pairs}
use Rattle.pq_store.specs.Content.{key_cmp}
use Rattle.pq_content.specs.Tables.{Keeps, rows_of}
use Rattle.pq_content.proofs.MoreTables.{pairs-more}
use Rattle.pq_content.proofs.Others.{get_other, insert_other}
use Rattle.pq_schema.specs.Sound.{AreMade}
use Rattle.pq_tallies.specs.Counters.{AreFewRows, counter_pairs}
use Rattle.pq_tallies.specs.Defined.{NumberedCounter, counters_in, with_number}
use Rattle.pq_tallies.proofs.Defined.{one_more_column, one_more_counter, one_more_query, one_more_table, schema_counters}
use Rattle.pq_tallies.proofs.Grown.{few_grown, new_counter, new_few, pairs_grown}
use Rattle.pq_catalog.specs.Model.{Model}
use Rattle.pq_catalog.specs.Stands.{content_of, value_at, catalog_pairs, others_of, pairs_counted}
use Rattle.pq_catalog.proofs.Counted.{absent_beside}
use Rattle.pq_catalog.proofs.Next.{absent_above, ending_pairs, pairs_stay}
use Rattle.pq_catalog.proofs.Known.{definitions_of, grown_defined}

-- ---- the pair of the next definition

pub next_key_absent : (m : Model) → length m.schema.definitions < 65535 → find key_cmp (catalog_key (length m.schema.definitions + 1)) (catalog_pairs m.schema) ≡ None
next_key_absent m few = absent_above m.schema.tables 1 (length m.schema.definitions + 1) m.schema.definitions (omega arith) (omega arith)

-- the pair is put behind the others of the catalog
put_next : (m : Model) (value : List ℕ) → length m.schema.definitions < 65535
    → insert (content_of m) (catalog_key (length m.schema.definitions + 1)) value
    ≡ content_pairs m.schema.tables m.rows (pairs_counted m ++ (catalog_pairs m.schema ++ (catalog_key (length m.schema.definitions + 1), value) ∷ []))
unfolding content_of
put_next m value few =
    let key = catalog_key (length m.schema.definitions + 1) in
    insert_other m.schema.tables m.rows (others_of m) key value refl (absent_beside m key refl (next_key_absent m few))
    ∙ ap (content_pairs m.schema.tables m.rows) (append_assoc (pairs_counted m) (catalog_pairs m.schema) ((key, value) ∷ []))

-- where the pairs of the catalog and then those of the counters are others
moved : (m : Model) (rows_now : List Pair) (pairs now : List Pair) → now ≡ pairs → rows_now ≡ pairs_counted m → content_pairs m.schema.tables m.rows (pairs_counted m ++ pairs) ≡ content_pairs m.schema.tables m.rows (rows_now ++ now)
moved m rows_now pairs now same counted = λ i. content_pairs m.schema.tables m.rows (sym counted i ++ sym same i)

pub next_absent : (m : Model) → length m.schema.definitions < 65535 → get (content_of m) (catalog_key (length m.schema.definitions + 1)) ≡ None
unfolding content_of
next_absent m few =
    let key = catalog_key (length m.schema.definitions + 1) in
    get_other m.schema.tables m.rows (others_of m) key refl ∙ absent_beside m key refl (next_key_absent m few)

-- the pairs of a schema with one more table: those of the others, and the last
pub table_pairs : (schema : Schema) (table : Table) → IsValid schema → AreMade schema.tables
    → catalog_pairs (with_table schema table) ≡ catalog_pairs schema ++ (catalog_key (length schema.definitions + 1), value_at (with_table schema table) (length schema.definitions + 1)) ∷ []
table_pairs schema table valid made =
    let tables = schema.tables in
    let more : List Table = tables ++ table ∷ [] in
    let definitions = schema.definitions in
    let definition : Definition = OfTable (length tables + 1) (length table.columns) (length table.indexes) in
    let last : Pair = (catalog_key (length definitions + 1), value_at (with_table schema table) (length definitions + 1)) in
    ending_pairs more definitions definition ∙ ap (λ (front : List Pair). front ++ last ∷ []) (pairs_stay tables more 1 definitions (grown_table tables table made) made (definitions_of schema valid))

-- and with one more query
pub query_pairs : (schema : Schema) (query : Query) (wanted : Option NewIndex) → IsValid schema → IsDefined schema query wanted
    → catalog_pairs (with_query schema query wanted) ≡ catalog_pairs schema ++ (catalog_key (length schema.definitions + 1), value_at (with_query schema query wanted) (length schema.definitions + 1)) ∷ []
query_pairs schema query wanted valid defined =
    let tables = schema.tables in
    let more : List Table = with_wanted tables wanted in
    let definitions = schema.definitions in
    let last : Pair = (catalog_key (length definitions + 1), value_at (with_query schema query wanted) (length definitions + 1)) in
    ending_pairs more definitions (OfQuery query (option_map made_of wanted))
    ∙ ap (λ (front : List Pair). front ++ last ∷ []) (pairs_stay tables more 1 definitions (grown_defined schema query wanted valid defined) (valid_made valid) (definitions_of schema valid))

-- and with one more column
pub column_pairs : (schema : Schema) (def : AlterDef) → IsValid schema → column_refusal schema def ≡ None
    → catalog_pairs (altered_schema schema def) ≡ catalog_pairs schema ++ (catalog_key (length schema.definitions + 1), value_at (altered_schema schema def) (length schema.definitions + 1)) ∷ []
column_pairs schema def valid none =
    let tables = schema.tables in
    let more : List Table = (altered_schema schema def).tables in
    let definitions = schema.definitions in
    let definition : Definition = OfColumn (altered_table schema def) (length (table_at tables (altered_table schema def)).columns) in
    let last : Pair = (catalog_key (length definitions + 1), value_at (altered_schema schema def) (length definitions + 1)) in
    ending_pairs more definitions definition
    ∙ ap (λ (front : List Pair). front ++ last ∷ []) (pairs_stay tables more 1 definitions (grown_altered schema def valid none) (valid_made valid) (definitions_of schema valid))

-- and with one more counter, which changes no table
pub counted_pairs : (schema : Schema) (def : CounterDef)
    → catalog_pairs (counted_schema schema def) ≡ catalog_pairs schema ++ (catalog_key (length schema.definitions + 1), value_at (counted_schema schema def) (length schema.definitions + 1)) ∷ []
counted_pairs schema def = ending_pairs schema.tables schema.definitions (OfCounter (counter_of_def schema def))

pub put_table : (m : Model) (table : Table) → IsValid m.schema → AreMade m.schema.tables → Keeps m.schema.tables m.rows → length m.schema.definitions < 65535
    → insert (content_of m) (catalog_key (length m.schema.definitions + 1)) (value_at (with_table m.schema table) (length m.schema.definitions + 1)) ≡ content_of (record m { schema = with_table m.schema table })
unfolding content_of
put_table m table valid made keeps few =
    let next = with_table m.schema table in
    let counted : counter_pairs (counters_in next) m.rows ≡ pairs_counted m = ap (λ (cs : List NumberedCounter). counter_pairs cs m.rows) (one_more_table m.schema table) in
    put_next m (value_at next (length m.schema.definitions + 1)) few
    ∙ moved m (counter_pairs (counters_in next) m.rows) _ (catalog_pairs next) (table_pairs m.schema table valid made) counted
    ∙ sym (pairs-more m.schema.tables table m.rows (others_of (record m { schema = next })) keeps.known)

pub put_query : (m : Model) (query : Query) → length m.schema.definitions < 65535
    → insert (content_of m) (catalog_key (length m.schema.definitions + 1)) (value_at (with_query m.schema query None) (length m.schema.definitions + 1)) ≡ content_of (record m { schema = with_query m.schema query None })
unfolding content_of
put_query m query few =
    let next = with_query m.schema query None in
    let counted : counter_pairs (counters_in next) m.rows ≡ pairs_counted m = ap (λ (cs : List NumberedCounter). counter_pairs cs m.rows) (one_more_query m.schema query None) in
    put_next m (value_at next (length m.schema.definitions + 1)) few
    ∙ moved m (counter_pairs (counters_in next) m.rows) _ (catalog_pairs next) (ending_pairs m.schema.tables m.schema.definitions (OfQuery query None)) counted

-- a counter of a table without rows has no pair
pub put_counter : (m : Model) (def : CounterDef) → rows_of (counted_table m.schema def) m.rows ≡ [] → length m.schema.definitions < 65535
    → insert (content_of m) (catalog_key (length m.schema.definitions + 1)) (value_at (counted_schema m.schema def) (length m.schema.definitions + 1)) ≡ content_of (record m { schema = counted_schema m.schema def })
unfolding content_of
put_counter m def none few =
    let next = counted_schema m.schema def in
    let counter = with_number (length m.schema.definitions + 1) (counter_of_def m.schema def) in
    let counted : counter_pairs (counters_in next) m.rows ≡ pairs_counted m =
    ap (λ (cs : List NumberedCounter). counter_pairs cs m.rows) (one_more_counter m.schema (counter_of_def m.schema def)) ∙ new_counter (counters_in m.schema) counter m.rows none in
    put_next m (value_at next (length m.schema.definitions + 1)) few
    ∙ moved m (counter_pairs (counters_in next) m.rows) _ (catalog_pairs next) (counted_pairs m.schema def) counted

-- the rows with the column's default keep the tables with the column
pub keeps_column : (m : Model) (def : AlterDef) → IsValid m.schema → column_refusal m.schema def ≡ None → FitsType (column_of def.column).ty def.filler → Keeps m.schema.tables m.rows
    → Keeps (altered_schema m.schema def).tables (grown_rows (altered_table m.schema def) def.filler m.rows)
keeps_column m def valid none fits keeps =
    let takes = column_takes m.schema def none in
    let room = takes.room in
    keeps-grown m.schema.tables (altered_table m.schema def) (column_of def.column) def.filler (valid_made valid) (takes.from_one, takes.there) (omega (arith, room)) m.rows keeps fits

-- no pair of a row changes
pub put_column : (m : Model) (def : AlterDef) → IsValid m.schema → column_refusal m.schema def ≡ None → Keeps m.schema.tables m.rows → length m.schema.definitions < 65535
    → insert (content_of m) (catalog_key (length m.schema.definitions + 1)) (value_at (altered_schema m.schema def) (length m.schema.definitions + 1)) ≡ content_of (record { schema = altered_schema m.schema def; rows = grown_rows (altered_table m.schema def) def.filler m.rows })
unfolding content_of
put_column m def valid none keeps few =
    let next = altered_schema m.schema def in
    let takes = column_takes m.schema def none in
    let room = takes.room in
    let t = altered_table m.schema def in
    let rows = grown_rows t def.filler m.rows in
    let counted : counter_pairs (counters_in next) rows ≡ pairs_counted m =
    ap (λ (cs : List NumberedCounter). counter_pairs cs rows) (one_more_column m.schema t (column_of def.column) def.filler)
    ∙ pairs_grown m.schema.tables t def.filler m.rows keeps (counters_in m.schema) (schema_counters m.schema valid) in
    put_next m (value_at next (length m.schema.definitions + 1)) few
    ∙ moved m (counter_pairs (counters_in next) rows) _ (catalog_pairs next) (column_pairs m.schema def valid none) counted
    ∙ sym (pairs-grown m.schema.tables t (column_of def.column) def.filler (valid_made valid) (takes.from_one, takes.there) (omega (arith, room)) m.rows (others_of (record { schema = next; rows = rows })) keeps)

-- ---- groups of few rows

pub few_table : (m : Model) (table : Table) → AreFewRows (counters_in m.schema) m.rows → AreFewRows (counters_in (with_table m.schema table)) m.rows
few_table m table few = subst (λ (cs : List NumberedCounter). AreFewRows cs m.rows) (sym (one_more_table m.schema table)) few

pub few_query : (m : Model) (query : Query) (wanted : Option NewIndex) → AreFewRows (counters_in m.schema) m.rows → AreFewRows (counters_in (with_query m.schema query wanted)) m.rows
few_query m query wanted few = subst (λ (cs : List NumberedCounter). AreFewRows cs m.rows) (sym (one_more_query m.schema query wanted)) few

pub few_column : (m : Model) (def : AlterDef) → IsValid m.schema → Keeps m.schema.tables m.rows → AreFewRows (counters_in m.schema) m.rows
    → AreFewRows (counters_in (altered_schema m.schema def)) (grown_rows (altered_table m.schema def) def.filler m.rows)
few_column m def valid keeps few =
    let t = altered_table m.schema def in
    subst (λ (cs : List NumberedCounter). AreFewRows cs (grown_rows t def.filler m.rows)) (sym (one_more_column m.schema t (column_of def.column) def.filler))
    (few_grown m.schema.tables t def.filler m.rows keeps (counters_in m.schema) (schema_counters m.schema valid) few)

pub few_counter : (m : Model) (def : CounterDef) → rows_of (counted_table m.schema def) m.rows ≡ [] → AreFewRows (counters_in m.schema) m.rows → AreFewRows (counters_in (counted_schema m.schema def)) m.rows
few_counter m def none few =
    subst (λ (cs : List NumberedCounter). AreFewRows cs m.rows) (sym (one_more_counter m.schema (counter_of_def m.schema def)))
    (new_few (counters_in m.schema) (with_number (length m.schema.definitions + 1) (counter_of_def m.schema def)) m.rows none few)
