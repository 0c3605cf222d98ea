-- The canonical texts of definitions stay the same while tables grow.
use Rattle.std.proofs.Common.{◌≡◌, ℕ, ◌-◌, ◌<◌, ◌≤◌, length, List, [], ◌∷◌, ◌++◌, codes, Option, None, refl, sym, ap, ◌∙◌, arith}
use Rattle.std.specs.Prelude.{unwrap_or}
use Rattle.std.specs.List.{AllByRecursion}
use Rattle.std.specs.Option.{option_map_or}
use Rattle.std.proofs.lemmas.List.{get_or_append_left, take-append-le}
use Rattle.std.proofs.lemmas.Option.{slice_get-get_or}
use Rattle.pq_base.specs.declared.value.Value.TheVariants.{Null}
use Rattle.pq_schema.specs.declared.counter.Counter.{Counter}
use Rattle.pq_schema.specs.declared.made.Definition.{Definition}
use Rattle.pq_schema.specs.declared.made.Definition.TheVariants.{OfTable, OfQuery, OfColumn, OfCounter}
use Rattle.pq_schema.specs.declared.table.Column.{Column}
use Rattle.pq_schema.specs.declared.table.Foreign.{Foreign}
use Rattle.pq_schema.specs.declared.table.Table.{Table}
use Rattle.pq_schema.specs.Sound.{IsMade, IsMadeForeign, AreMade}
use Rattle.pq_schema.specs.Tables.{table_at, no_table}
use Rattle.pq_content.specs.Tables.{IsTableNumber}
use Rattle.pq_print.specs.Lists.{each_after, separate_texts}
use Rattle.pq_print.specs.Values.{value_text}
use Rattle.pq_print.specs.Canonical.{absent_column, added_text, column_name, column_text, columns_text, counter_text, limit_text, foreign_text, items_text, table_text, with_first_columns, numbered_text, text_of}
use Rattle.pq_reread.specs.ReadBack.{KeepNames}
use Rattle.pq_reread.proofs.LaterTables.{query_same}
use Rattle.pq_runnable.specs.Grown.{HasGrown, HaveGrown}
use Rattle.pq_catalog.proofs.Known.{IsKnownDefinition, number_stays}
use Rattle.pq_planning.proofs.Lists.{each_by, each_weaker}

-- ---- tables

-- the text of a table names the tables of its foreign keys
module _ (tables later : List Table) (table : Table) where
  abbrev IsNamedAlike : Foreign → Type 0
  IsNamedAlike foreign = (table_at later foreign.table).name ≡ (table_at tables foreign.table).name

  same_foreign : (foreigns : List Foreign) → AllByRecursion IsNamedAlike foreigns → each_after (codes ", ") (foreign_text later table.columns) foreigns ≡ each_after (codes ", ") (foreign_text tables table.columns) foreigns
  unfolding foreign_text
  same_foreign [] same = refl
  same_foreign (foreign ∷ foreigns) same =
      λ i. (codes ", " ++ codes "FOREIGN KEY " ++ columns_text table.columns foreign.cols ++ codes " REFERENCES " ++ same.0 i) ++ same_foreign foreigns same.1 i

  same_items : AllByRecursion IsNamedAlike table.foreign → items_text later table ≡ items_text tables table
  unfolding items_text
  same_items same = ap (λ (last : List ℕ). separate_texts (codes ", ") column_text table.columns ++ codes ", PRIMARY KEY " ++ columns_text table.columns table.key ++ each_after (codes ", ") (limit_text table.columns) table.limits ++ last) (same_foreign table.foreign same)

  same_table_text : AllByRecursion IsNamedAlike table.foreign → table_text later table ≡ table_text tables table
  unfolding table_text
  same_table_text same = ap (λ (items : List ℕ). codes "CREATE TABLE " ++ table.name ++ codes " (" ++ items ++ codes ");") (same_items same)

-- the text of its first columns names nothing that was added
grown_text : (tables : List Table) (before now : Table) (columns : ℕ) → HasGrown before now → columns ≤ length before.columns → table_text tables (with_first_columns columns now) ≡ table_text tables (with_first_columns columns before)
unfolding table_text items_text
grown_text tables before now columns grown few =
    ap (λ (table : Table). table_text tables (with_first_columns columns table)) grown.is
    ∙ ap (λ (list : List Column). table_text tables (record before { columns = list })) (take-append-le columns before.columns grown.columns few)

numbered_is : (tables : List Table) (t columns : ℕ) → IsTableNumber tables t → numbered_text tables t columns ≡ table_text tables (with_first_columns columns (table_at tables t))
numbered_is tables t columns is = ap (λ (o : Option Table). option_map_or (λ table. table_text tables (with_first_columns columns table)) o []) (slice_get-get_or tables (t - 1) no_table (let low = is.0 in let high = is.1 in omega arith))

-- the text of an added column names its table, the column and its default
added_grown : (before now : Table) (col : ℕ) → HasGrown before now → col < length before.columns → col < length before.fillers → added_text now col ≡ added_text before col
unfolding added_text
added_grown before now col grown inside among =
    ap (λ (table : Table). added_text table col) grown.is
    ∙ (λ i.
    codes "ALTER TABLE " ++ before.name ++ codes " ADD COLUMN "
    ++ column_text (get_or_append_left before.columns grown.columns absent_column col inside i)
    ++ codes " DEFAULT " ++ value_text (unwrap_or (get_or_append_left before.fillers grown.fillers None col among i) Null) ++ codes ";")

-- ---- counters

-- the text of places has the names of their columns
module _ (before now : List Column) where
  abbrev IsNamedStill : ℕ → Type 0
  IsNamedStill col = column_name now col ≡ column_name before col

  same_names : (cols : List ℕ) → AllByRecursion IsNamedStill cols → each_after (codes ", ") (column_name now) cols ≡ each_after (codes ", ") (column_name before) cols
  same_names [] same = refl
  same_names (col ∷ cols) same = λ i. (codes ", " ++ same.0 i) ++ same_names cols same.1 i

  same_columns : (cols : List ℕ) → AllByRecursion IsNamedStill cols → columns_text now cols ≡ columns_text before cols
  unfolding columns_text
  same_columns [] same = refl
  same_columns (col ∷ cols) same = λ i. codes "(" ++ (same.0 i ++ same_names cols same.1 i) ++ codes ")"

-- ---- tables that have grown

module _ (tables later : List Table) (grown : HaveGrown tables later) where
  numbered_stays : (t columns : ℕ) → AreMade tables → IsTableNumber tables t → columns ≤ length (table_at tables t).columns → numbered_text later t columns ≡ numbered_text tables t columns
  numbered_stays t columns made is few =
      let own : IsMade tables t (table_at tables t) = made t is.0 is.1 in
      let named : (foreign : Foreign) → IsMadeForeign tables t (table_at tables t).columns foreign → (table_at later foreign.table).name ≡ (table_at tables foreign.table).name =
      λ foreign f. ap (λ (x : Table). x.name) (grown.each foreign.table f.from_one (let below = f.earlier in let high = is.1 in omega arith)).is in
      numbered_is later t columns (number_stays tables later grown t is)
      ∙ grown_text later (table_at tables t) (table_at later t) columns (grown.each t is.0 is.1) few
      ∙ same_table_text tables later (with_first_columns columns (table_at tables t)) (each_weaker (IsMadeForeign tables t (table_at tables t).columns) _ named (table_at tables t).foreign (each_by (IsMadeForeign tables t (table_at tables t).columns) (table_at tables t).foreign own.foreign))
      ∙ sym (numbered_is tables t columns is)

  keep_names : KeepNames tables later
  keep_names = record {
    table = λ number low high. ap (λ (x : Table). x.name) (grown.each number low high).is;
    column = λ number col low high lt.
        let more = grown.each number low high in
        ap (λ (x : Table). column_name x.columns col) more.is
        ∙ ap (λ (c : Column). c.name) (get_or_append_left (table_at tables number).columns more.columns absent_column col lt);
  }

  -- the text of a counter names its table and the columns
  counter_stays : (counter : Counter) → IsKnownDefinition tables (OfCounter counter) → counter_text later counter ≡ counter_text tables counter
  unfolding counter_text
  counter_stays counter is =
      let before = (table_at tables counter.table).columns in
      let now = (table_at later counter.table).columns in
      let still : AllByRecursion (IsNamedStill before now) counter.cols =
      each_weaker (λ col. col < length before) (IsNamedStill before now)
      (λ col inside. keep_names.column counter.table col is.0.0 is.0.1 inside) counter.cols is.1 in
      λ i.
      codes "CREATE COUNTER " ++ counter.name ++ codes " OF " ++ keep_names.table counter.table is.0.0 is.0.1 i ++ codes " "
      ++ same_columns before now counter.cols still i ++ codes ";"

  pub text_stays : (definition : Definition) → AreMade tables → IsKnownDefinition tables definition → text_of later definition ≡ text_of tables definition
  text_stays (OfTable t columns made) are is = numbered_stays t columns are is.0 is.1
  text_stays (OfQuery query made) are is = query_same tables later query is keep_names
  text_stays (OfColumn t col) are is = added_grown (table_at tables t) (table_at later t) col (grown.each t is.0.0 is.0.1) is.1 is.2
  text_stays (OfCounter counter) are is = counter_stays counter is
