-- A build that was left: how the schema came to be whose last definition made an index, and what stands while this is filled.
use Rattle.std.proofs.Common.{◌≡◌, ℕ, ◌+◌, ◌-◌, ◌≤◌, true, List, [], ◌∷◌, ◌++◌, length, take, get_or, Option, Some, None, refl, sym, ap, ◌∙◌, subst, arith, inl, inr}
use Rattle.std.specs.FinMap.{get, is_sorted}
use Rattle.std.proofs.Math.Seq.{get_or-append_seam}
use Rattle.std.proofs.lemmas.Bool.{cases_eq}
use Rattle.std.proofs.lemmas.List.{length-append, length-set, take_all, get_or-set_same, get_or-set_other}
use Rattle.std.proofs.lemmas.Option.{none-some, same_Some}
use Rattle.pq_key_code.specs.KeyCode.{intent_key}
use Rattle.pq_schema.specs.declared.made.Definition.TheVariants.{OfTable, OfQuery, OfColumn, OfCounter}
use Rattle.pq_schema.specs.declared.definition.AlterDef.{AlterDef}
use Rattle.pq_schema.specs.declared.definition.CounterDef.{CounterDef}
use Rattle.pq_schema.specs.declared.made.Made.{Made}
use Rattle.pq_schema.specs.declared.query.Query.{Query}
use Rattle.pq_schema.specs.declared.table.NewIndex.{NewIndex}
use Rattle.pq_schema.specs.declared.table.Table.{Table}
use Rattle.pq_schema.specs.Definitions.{altered_schema, altered_table, counted_schema, counter_of_def}
use Rattle.pq_schema.specs.Schema.{Schema, made_of, with_new_index, with_wanted}
use Rattle.pq_schema.specs.Sequences.{index_numbered, no_index}
use Rattle.pq_schema.specs.Sound.{IsTable}
use Rattle.pq_schema.specs.Tables.{table_at, no_table}
use Rattle.pq_schema.specs.Valid.{IsValid, IsDefined}
use Rattle.pq_schema.specs.Valid.IsValid.{empty, then_table, then_query, then_column, then_counter}
use Rattle.pq_schema.proofs.Soundness.{valid_tables}
use Rattle.pq_schema.proofs.Valid.{column_parts, counter_parts}
use Rattle.pq_intent.specs.Spending.{TakesAtMost}
use Rattle.pq_store.specs.Breaks.{IsUndamaged}
use Rattle.pq_store.specs.Counts.{Counts}
use Rattle.pq_store.specs.Content.{key_cmp, Content}
use Rattle.pq_store.specs.declared.damage.Broke.{Broke}
use Rattle.pq_content.specs.Pairs.{Pair, AreCatalog}
use Rattle.pq_content.specs.Tables.{Rows, IsTableNumber, Keeps}
use Rattle.pq_tallies.specs.Counters.{AreFewRows, counter_pairs}
use Rattle.pq_tallies.specs.Defined.{NumberedCounter, counters_in}
use Rattle.pq_tallies.proofs.Defined.{one_more_query}
use Rattle.pq_content.proofs.Settling.{settles_to_itself}
use Rattle.pq_content.proofs.Shapes.{SameShapes, keeps-shape}
use Rattle.pq_builds.specs.declared.build.Built.TheVariants.{Rows as Filled}
use Rattle.pq_builds.specs.declared.target.NewQuery.{NewQuery}
use Rattle.pq_builds.specs.declared.target.Target.{Target}
use Rattle.pq_builds.specs.Stages.{ready_value, building_value}
use Rattle.pq_builds.specs.Bounds.{left_bound}
use Rattle.pq_builds.specs.Standing.{Origin, HoldsFilling, IsFilling, FillsIndex, IsMarkedOrReady, Makes, rows_in}
use Rattle.pq_builds.specs.Targets.{target_of}
use Rattle.pq_builds.proofs.Filled.{catalog_filling, intent_filling}
use Rattle.pq_catalog.specs.Model.{Model}
use Rattle.pq_opening.specs.Opening.{catalog_in, target_left, IsLeft, IsFillingIn, rows_of_made, rows_left}
use Rattle.pq_catalog.specs.Stands.{HoldsModel, Opens, IsFillingLast, catalog_pairs, pairs_counted, others_of, made_by, last_made, last_key, last_query, earlier_pairs, earlier_others}
use Rattle.pq_catalog.proofs.Building.{next_schema, origin_of, target_for, at_end, there, pairs_next, earlier_next, last_made_next, target_is, new_in, marked_opens, whole_holds}
use Rattle.pq_catalog.proofs.Catalogs.{are_catalog, catalog_rises, pairs_length, sorted_alike}
use Rattle.pq_catalog.proofs.Counted.{counted_space}
use Rattle.pq_catalog.proofs.Made.{small_of}
use Rattle.pq_planning.proofs.Shown.{wanted_next}

-- ---- how the schema came to be

-- a valid schema whose last definition made this index
pub record Came (schema : Schema) (made : Made) : Type 0 where
  pub earlier : Schema
  pub query : Query
  pub new : NewIndex
  pub valid : IsValid earlier
  pub defined : IsDefined earlier query (Some new)
  pub is : schema ≡ next_schema earlier query new
  pub made_is : made ≡ made_of new

-- a column's definition makes none
column_made : (s : Schema) (def : AlterDef) → last_made (altered_schema s def) ≡ None
column_made s def = ap made_by (at_end s.definitions (OfColumn (altered_table s def) (length (table_at s.tables (altered_table s def)).columns)))

-- nor does a counter's
counter_made : (s : Schema) (def : CounterDef) → last_made (counted_schema s def) ≡ None
counter_made s def = ap made_by (at_end s.definitions (OfCounter (counter_of_def s def)))

pub came : (schema : Schema) → IsValid schema → (made : Made) → last_made schema ≡ Some made → Came schema made
came _ empty made last = absurd (none-some made last)
came _ (then_table s def table v d is) made last = absurd (none-some made (ap made_by (sym (at_end s.definitions (OfTable (length s.tables + 1) (length table.columns) (length table.indexes)))) ∙ last))
came _ (then_query s query None v d) made last = absurd (none-some made (ap made_by (sym (at_end s.definitions (OfQuery query None))) ∙ last))
came _ (then_column s def next v is) made last = absurd (none-some made (sym (column_made s def) ∙ ap last_made (column_parts s def next is.accepted).1 ∙ last))
came _ (then_counter s def next v is) made last = absurd (none-some made (sym (counter_made s def) ∙ ap last_made (counter_parts s def next is.accepted).1 ∙ last))
came _ (then_query s query (Some new) v d) made last = record {
  earlier = s;
  query = query;
  new = new;
  valid = v;
  defined = d;
  is = refl;
  made_is = sym (same_Some (made_of new) made (ap made_by (sym (at_end s.definitions (OfQuery query (Some (made_of new))))) ∙ last));
}

-- ---- the catalog

module _ (schema : Schema) (valid : IsValid schema) (made : Made) (last : last_made schema ≡ Some made) where
  pub last_pairs : catalog_pairs schema ≡ earlier_pairs schema ++ (last_key schema, ready_value (last_query schema)) ∷ []
  last_pairs =
      let w = came schema valid made last in
      let next = next_schema w.earlier w.query w.new in
      subst (λ (s : Schema). catalog_pairs s ≡ earlier_pairs s ++ (last_key s, ready_value (last_query s)) ∷ []) (sym w.is)
      (pairs_next w.earlier w.query w.new w.valid w.defined
      ∙ ap (λ (ps : List Pair). ps ++ (last_key next, ready_value (last_query next)) ∷ []) (sym (earlier_next w.earlier w.query w.new w.valid w.defined)))

  pub earlier_catalog : AreCatalog (earlier_pairs schema)
  earlier_catalog =
      let w = came schema valid made last in
      subst (λ (s : Schema). AreCatalog (earlier_pairs s)) (sym w.is)
      (subst (λ (ps : List Pair). AreCatalog ps) (sym (earlier_next w.earlier w.query w.new w.valid w.defined)) (are_catalog w.earlier))

-- while the last index is being filled
module _ (m : Model) (content : Content) (valid : IsValid m.schema) (f : IsFillingLast m content) where
  pub catalog_of_filling : catalog_in content ≡ earlier_pairs m.schema ++ (last_key m.schema, building_value (last_query m.schema)) ∷ []
  catalog_of_filling =
      let earlier = earlier_pairs m.schema in
      let query = last_query m.schema in
      let building = earlier ++ (query.key, building_value query) ∷ [] in
      let ready = earlier ++ (query.key, ready_value query) ∷ [] in
      let pairs = last_pairs m.schema valid f.made f.last in
      let few : length m.schema.definitions ≤ 256 = small_of m.schema valid in
      let rises : is_sorted key_cmp building ≡ true =
      sorted_alike earlier query.key (building_value query) (ready_value query) ∙ ap (is_sorted key_cmp) (sym pairs) ∙ catalog_rises m.schema few in
      let long : length building ≡ length m.schema.definitions =
      length-append earlier ((query.key, building_value query) ∷ []) ∙ sym (length-append earlier ((query.key, ready_value query) ∷ [])) ∙ ap (λ (ps : List Pair). length ps) (sym pairs) ∙ pairs_length m.schema in
      ap (take 257) (catalog_filling m.schema.tables m.rows (pairs_counted m) earlier f.made query content (counted_space m) (earlier_catalog m.schema valid f.made f.last) refl rises f.filling)
      ∙ take_all 257 building (omega (arith, long, few))

  pub no_intent_filling : get content intent_key ≡ None
  no_intent_filling = intent_filling m.schema.tables m.rows (pairs_counted m) (earlier_pairs m.schema) f.made (last_query m.schema) content (counted_space m) (earlier_catalog m.schema valid f.made f.last) refl f.filling

pub filling_in_opens : (content : Option Content) (m : Model) → IsFillingIn content m → Opens content m
filling_in_opens content m f = record {
  valid = f.valid;
  keeps = f.keeps;
  few = f.few;
  pairs = f.pairs;
  settles = record { pairs = f.pairs; told = f.told; settles = settles_to_itself f.pairs (no_intent_filling m f.pairs f.valid f.filling) };
  holds = inr f.filling;
}

-- ---- the tables before

module _ (tables : List Table) (new : NewIndex) (is : IsTableNumber tables new.table) where
  abbrev more : List Table
  more = with_wanted tables (Some new)

  abbrev indexed : Table
  indexed = with_new_index (table_at tables new.table) new.index

  own_table : table_at more new.table ≡ indexed
  own_table = get_or-set_same tables (new.table - 1) indexed no_table (let low = is.0 in let high = is.1 in omega arith)

  -- the tables differ in the indexes of one alone
  shapes_before : SameShapes more tables
  shapes_before = record {
    many = length-set tables (new.table - 1) indexed;
    each = λ u. elim (cases_eq (u - 1) (new.table - 1)) [
      | inl same ↦
          let one : table_at more u ≡ indexed = ap (λ (n : ℕ). get_or more n no_table) same ∙ own_table in
          let old : table_at tables new.table ≡ table_at tables u = ap (λ (n : ℕ). get_or tables n no_table) (sym same) in
          record {
            key = ap (λ (x : Table). x.key) one ∙ ap (λ (x : Table). x.key) old;
            columns = ap (λ (x : Table). x.columns) one ∙ ap (λ (x : Table). x.columns) old;
            fillers = ap (λ (x : Table). x.fillers) one ∙ ap (λ (x : Table). x.fillers) old;
            limits = ap (λ (x : Table). x.limits) one ∙ ap (λ (x : Table). x.limits) old;
            foreign = ap (λ (x : Table). x.foreign) one ∙ ap (λ (x : Table). x.foreign) old;
          }
      | inr other ↦
          let one : table_at more u ≡ table_at tables u = get_or-set_other tables (new.table - 1) (u - 1) indexed no_table other in
          record {
            key = ap (λ (x : Table). x.key) one;
            columns = ap (λ (x : Table). x.columns) one;
            fillers = ap (λ (x : Table). x.fillers) one;
            limits = ap (λ (x : Table). x.limits) one;
            foreign = ap (λ (x : Table). x.foreign) one;
          }
    ];
  }

  own_index : new.number ≡ length (table_at tables new.table).indexes + 1 → index_numbered indexed new.number ≡ new.index
  own_index number =
      let old = (table_at tables new.table).indexes in
      let place : new.number - 1 ≡ length old = omega (arith, number) in
      ap (λ (k : ℕ). get_or (old ++ new.index ∷ []) k no_index) place ∙ get_or-append_seam old new.index [] no_index

  target_same : new.number ≡ length (table_at tables new.table).indexes + 1
      → target_of new.table new.number (table_at more new.table) (index_numbered (table_at more new.table) new.number) ≡ target_of new.table new.number (table_at tables new.table) new.index
  target_same number =
      ap (λ (t : Table). target_of new.table new.number t (index_numbered t new.number)) own_table
      ∙ ap (target_of new.table new.number (table_at tables new.table)) (own_index number)

-- ---- the clauses of the completion

abbrev model_of : Schema → Rows → Model
model_of schema rows = record { schema = schema; rows = rows }

module _ (schema : Schema) (query : Query) (new : NewIndex) (rows : Rows) (valid : IsValid schema) (defined : IsDefined schema query (Some new)) (target : Target) (made : NewQuery) (left : IsLeft (next_schema schema query new) target made)
    (old : Option Content) (f : IsFillingIn old (model_of (next_schema schema query new) rows)) where
  abbrev next : Schema
  next = next_schema schema query new

  abbrev origin : Origin
  origin = origin_of (model_of schema rows) new

  abbrev own_target : Target
  own_target = target_for (model_of schema rows) new

  keeps : Keeps schema.tables rows
  keeps = keeps-shape next.tables schema.tables (shapes_before schema.tables new (there schema query new valid defined)) rows f.keeps

  few : AreFewRows (counters_in schema) rows
  few = subst (λ (counters : List NumberedCounter). AreFewRows counters rows) (one_more_query schema query (Some new)) f.few

  -- the counters are those before, and so are their pairs
  others_before : earlier_others (model_of next rows) ≡ others_of (model_of schema rows)
  others_before = λ i. counter_pairs (one_more_query schema query (Some new) i) rows ++ earlier_next schema query new valid defined i

  target_now : target ≡ own_target
  target_now =
      left.target_is
      ∙ ap (target_left next) (same_Some left.made (made_of new) (sym left.last ∙ last_made_next schema query new valid defined))
      ∙ target_same schema.tables new (there schema query new valid defined) (wanted_next schema.tables query new defined.chosen)

  filling_back : FillsIndex origin own_target (last_query next) f.pairs
  filling_back =
      let same : f.filling.made ≡ made_of new = same_Some f.filling.made (made_of new) (sym f.filling.last ∙ last_made_next schema query new valid defined) in
      subst (λ (ps : List Pair). IsFilling next.tables rows ps (made_of new) (last_query next) f.pairs) others_before
      (subst (λ (k : Made). IsFilling next.tables rows (earlier_others (model_of next rows)) k (last_query next) f.pairs) same f.filling.filling)

  holds_filling : HoldsFilling origin target made old
  holds_filling =
      let own : HoldsFilling origin own_target (last_query next) old = record {
        new = new_in (model_of schema rows) query new valid keeps few defined;
        target_is = target_is (model_of schema rows) query new valid keeps few defined;
        content = f.pairs;
        is = f.told;
        filling = filling_back;
      } in
      subst (λ (t : Target). HoldsFilling origin t made old) (sym target_now) (subst (λ (q : NewQuery). HoldsFilling origin own_target q old) (sym left.query_is) own)

  next_made : (now : Option Content) (count : ℕ) → ((origin : Origin) → HoldsFilling origin target made old → Makes origin target made (Filled count) now) → HoldsModel now (model_of next rows) × (count ≡ rows_left (model_of next rows))
  next_made now count all =
      let r = subst (λ (t : Target). Makes origin t (last_query next) (Filled count) now) target_now (subst (λ (q : NewQuery). Makes origin target q (Filled count) now) left.query_is (all origin holds_filling)) in
      (whole_holds (model_of schema rows) query new valid keeps few defined r.2, sym r.0 ∙ ap (λ (o : Option Made). rows_of_made o rows) (sym (last_made_next schema query new valid defined)))

  next_stopped : (now : Option Content) → ((origin : Origin) → HoldsFilling origin target made old → IsMarkedOrReady origin target made now) → Opens now (model_of next rows)
  next_stopped now all =
      marked_opens (model_of schema rows) query new valid keeps few defined
      (subst (λ (t : Target). IsMarkedOrReady origin t (last_query next) now) target_now (subst (λ (q : NewQuery). IsMarkedOrReady origin target q now) left.query_is (all origin holds_filling)))

  next_within : (before after : Counts) → ((origin : Origin) → HoldsFilling origin target made old → TakesAtMost (left_bound (rows_in origin target)) before after) → TakesAtMost (left_bound (rows_left (model_of next rows))) before after
  next_within before after all =
      subst (λ (n : ℕ). TakesAtMost (left_bound n) before after)
      (ap (λ (t : Target). rows_in origin t) target_now ∙ ap (λ (o : Option Made). rows_of_made o rows) (sym (last_made_next schema query new valid defined)))
      (all origin holds_filling)

  next_sound : (broke : Broke) → ((origin : Origin) → HoldsFilling origin target made old → IsUndamaged broke) → IsUndamaged broke
  next_sound broke all = all origin holds_filling

module _ (target : Target) (made : NewQuery) (old now : Option Content) (m : Model) (left : IsLeft m.schema target made) (f : IsFillingIn old m) where
  pub left_made : (count : ℕ) → ((origin : Origin) → HoldsFilling origin target made old → Makes origin target made (Filled count) now) → HoldsModel now m × (count ≡ rows_left m)
  left_made count all =
      let w = came m.schema f.valid left.made left.last in
      subst (λ (x : Schema). IsLeft x target made → IsFillingIn old (model_of x m.rows) → HoldsModel now (model_of x m.rows) × (count ≡ rows_left (model_of x m.rows))) (sym w.is)
      (λ left f. next_made w.earlier w.query w.new m.rows w.valid w.defined target made left old f now count all) left f

  pub left_stopped : ((origin : Origin) → HoldsFilling origin target made old → IsMarkedOrReady origin target made now) → Opens now m
  left_stopped all =
      let w = came m.schema f.valid left.made left.last in
      subst (λ (x : Schema). IsLeft x target made → IsFillingIn old (model_of x m.rows) → Opens now (model_of x m.rows)) (sym w.is)
      (λ left f. next_stopped w.earlier w.query w.new m.rows w.valid w.defined target made left old f now all) left f

  pub left_within : (before after : Counts) → ((origin : Origin) → HoldsFilling origin target made old → TakesAtMost (left_bound (rows_in origin target)) before after) → TakesAtMost (left_bound (rows_left m)) before after
  left_within before after all =
      let w = came m.schema f.valid left.made left.last in
      subst (λ (x : Schema). IsLeft x target made → IsFillingIn old (model_of x m.rows) → TakesAtMost (left_bound (rows_left (model_of x m.rows))) before after) (sym w.is)
      (λ left f. next_within w.earlier w.query w.new m.rows w.valid w.defined target made left old f before after all) left f

  pub left_sound : (broke : Broke) → ((origin : Origin) → HoldsFilling origin target made old → IsUndamaged broke) → IsUndamaged broke
  left_sound broke all =
      let w = came m.schema f.valid left.made left.last in
      subst (λ (x : Schema). IsLeft x target made → IsFillingIn old (model_of x m.rows) → IsUndamaged broke) (sym w.is)
      (λ left f. next_sound w.earlier w.query w.new m.rows w.valid w.defined target made left old f broke all) left f

-- ---- what the last definition made is there

pub record IsThere (schema : Schema) (made : Made) : Type 0 where
  pub some : 1 ≤ length schema.definitions
  pub number : IsTableNumber schema.tables made.table
  pub index_from_one : 1 ≤ made.index
  pub index_there : made.index ≤ length (table_at schema.tables made.table).indexes

there_next : (schema : Schema) (query : Query) (new : NewIndex) → IsValid schema → IsDefined schema query (Some new) → IsThere (next_schema schema query new) (made_of new)
there_next schema query new valid defined =
    let number = wanted_next schema.tables query new defined.chosen in
    let is = there schema query new valid defined in
    let low = is.0 in
    let high = is.1 in
    let old = table_at schema.tables new.table in
    let long : length (next_schema schema query new).tables ≡ length schema.tables = length-set schema.tables (new.table - 1) (with_new_index old new.index) in
    let more_indexes : length (old.indexes ++ new.index ∷ []) ≡ length old.indexes + 1 = length-append old.indexes (new.index ∷ []) in
    let most : new.number ≤ length (old.indexes ++ new.index ∷ []) = omega arith in
    record {
      some = (let many : length (next_schema schema query new).definitions ≡ length schema.definitions + 1 = length-append schema.definitions (OfQuery query (Some (made_of new)) ∷ []) in omega arith);
      number = (low, omega arith);
      index_from_one = omega arith;
      index_there = subst (λ (t : Table). new.number ≤ length t.indexes) (sym (own_table schema.tables new is)) most;
    }

pub left_there : (schema : Schema) → IsValid schema → (made : Made) → last_made schema ≡ Some made → IsThere schema made
left_there schema valid made last =
    let w = came schema valid made last in
    subst (λ (x : Schema). IsThere x made) (sym w.is) (subst (IsThere (next_schema w.earlier w.query w.new)) (sym w.made_is) (there_next w.earlier w.query w.new w.valid w.defined))

pub table_of_left : (schema : Schema) → IsValid schema → (made : Made) → last_made schema ≡ Some made → IsTable (table_at schema.tables made.table)
table_of_left schema valid made last =
    let is = (left_there schema valid made last).number in
    valid_tables schema valid (made.table - 1) no_table (let low = is.0 in let high = is.1 in omega arith)
