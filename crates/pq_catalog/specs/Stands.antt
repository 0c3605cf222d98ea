-- What a content stands for.
use Rattle.std.specs.Prelude.{◌≡◌, ◌⊎◌, ℕ, ◌+◌, ◌-◌, length, take, List, [], ◌∷◌, ◌++◌, Option, Some, None}
use Rattle.pq_key_code.specs.KeyCode.{catalog_key}
use Rattle.pq_schema.specs.Schema.{Schema, definition_at}
use Rattle.pq_schema.specs.Valid.{IsValid}
use Rattle.pq_schema.specs.declared.made.Definition.{Definition}
use Rattle.pq_schema.specs.declared.made.Definition.TheVariants.{OfTable, OfQuery, OfColumn, OfCounter}
use Rattle.pq_schema.specs.declared.made.Made.{Made}
use Rattle.pq_schema.specs.declared.table.Table.{Table}
use Rattle.pq_print.specs.Canonical.{text_of, query_text, definition_text}
use Rattle.pq_schema.specs.declared.query.Query.{Query}
use Rattle.pq_content.specs.Pairs.{Pair, content_pairs}
use Rattle.pq_store.specs.Content.{Content}
use Rattle.pq_content.specs.Tables.{Keeps}
use Rattle.pq_tallies.specs.Counters.{counter_pairs, AreFewRows}
use Rattle.pq_tallies.specs.Defined.{counters_in}
use Rattle.pq_builds.specs.Standing.{IsFilling}
use Rattle.pq_builds.specs.declared.mark.TheConstants.{READY}
use Rattle.pq_builds.specs.declared.target.NewQuery.{NewQuery}
use Rattle.pq_catalog.specs.Format.{format_of, last_definition}
use Rattle.pq_intent.specs.Settling.{Settles}
use Rattle.pq_catalog.specs.Model.{Model}

-- the format, the mark that the definition is ready, and its canonical text
abbrev pub catalog_value : Definition → List ℕ → List ℕ
catalog_value definition text = format_of definition ∷ READY ∷ text

abbrev pub catalog_pair : List Table → ℕ → Definition → Pair
catalog_pair tables number definition = (catalog_key number, catalog_value definition (text_of tables definition))

-- the pairs of these definitions, which are numbered from a number on
abbrev pub catalog_from : List Table → ℕ → List Definition → List Pair
catalog_from tables number [] = []
catalog_from tables number (definition ∷ definitions) =
    catalog_pair tables number definition ∷ catalog_from tables (number + 1) definitions

-- a pair for each definition, with its canonical text
abbrev pub catalog_pairs : Schema → List Pair
catalog_pairs schema = catalog_from schema.tables 1 schema.definitions

-- the value of the definition of this number, from 1
abbrev pub value_at : Schema → ℕ → List ℕ
value_at schema number = catalog_value (definition_at schema number) (definition_text schema number)

-- the key and the value of a schema's last definition
abbrev pub last_key : Schema → List ℕ
last_key schema = catalog_key (length schema.definitions)

abbrev pub last_value : Schema → List ℕ
last_value schema = value_at schema (length schema.definitions)

-- the key of the definition that is made next
abbrev pub next_key : Schema → List ℕ
next_key schema = catalog_key (length schema.definitions + 1)

-- the pairs of the counters
abbrev pub pairs_counted : Model → List Pair
pairs_counted m = counter_pairs (counters_in m.schema) m.rows

-- and behind them those of the definitions
abbrev pub others_of : Model → List Pair
others_of m = pairs_counted m ++ catalog_pairs m.schema

-- just the pairs of the rows, of their entries, of the counters and of the definitions
unfoldable pub content_of : Model → Content
content_of m = content_pairs m.schema.tables m.rows (others_of m)

-- ---- while the index of the last definition is being filled

-- the index that a definition made beside its text
abbrev pub made_by : Definition → Option Made
made_by (OfTable table columns made) = None
made_by (OfQuery query made) = made
made_by (OfColumn table col) = None
made_by (OfCounter counter) = None

abbrev pub last_made : Schema → Option Made
last_made schema = made_by (last_definition schema)

-- the pairs of all definitions but the last
abbrev pub earlier_pairs : Schema → List Pair
earlier_pairs schema = take (length schema.definitions - 1) (catalog_pairs schema)

-- and before them those of the counters
abbrev pub earlier_others : Model → List Pair
earlier_others m = pairs_counted m ++ earlier_pairs m.schema

-- the last definition's pair in parts
abbrev pub last_query : Schema → NewQuery
last_query schema = record {
  key = last_key schema;
  format = format_of (last_definition schema);
  text = definition_text schema (length schema.definitions);
}

-- the last definition is a query that made an index, and this is being filled
pub record IsFillingLast (m : Model) (content : Content) : Type 0 where
  pub made : Made
  pub last : last_made m.schema ≡ Some made
  pub filling : IsFilling m.schema.tables m.rows (earlier_others m) made (last_query m.schema) content

-- just the pairs of the model; or the index of its last definition is being filled
abbrev pub Holds : Model → Content → Type 0
Holds m content = (content ≡ content_of m) ⊎ IsFillingLast m content

-- ---- what stands

-- the rows keep valid definitions, no group of a counter has too many, and the content is told and is that of the model
pub record HoldsModel (content : Option Content) (m : Model) : Type 0 where
  pub valid : IsValid m.schema
  pub keeps : Keeps m.schema.tables m.rows
  pub few : AreFewRows (counters_in m.schema) m.rows
  pub told : content ≡ Some (content_of m)

-- the same, and the definitions are known
pub record Stands (content : Option Content) (schema : Schema) (m : Model) : Type 0 where
  pub settled : HoldsModel content m
  pub known : schema ≡ m.schema

-- the rows keep valid definitions, no group of a counter has too many, and the content is told and settles to one that
-- holds the model: it is that content, or an intent stands in it whose changes make it that content
pub record Opens (content : Option Content) (m : Model) : Type 0 where
  pub valid : IsValid m.schema
  pub keeps : Keeps m.schema.tables m.rows
  pub few : AreFewRows (counters_in m.schema) m.rows
  pub pairs : Content
  pub settles : Settles content pairs
  pub holds : Holds m pairs

-- ---- what a build writes

-- the pair of a query that is defined next, in parts
abbrev pub new_query_of : Schema → Query → NewQuery
new_query_of schema query = record {
  key = catalog_key (length schema.definitions + 1);
  format = format_of (OfQuery query None);
  text = query_text schema.tables query;
}
