-- What every table of a valid schema has.
use Rattle.std.proofs.Common.{◌≡◌, ◌==◌, not, ℕ, zero, ◌+◌, ◌-◌, ◌<◌, ◌≤◌, Bool, true, false, cond, inl, inr, List, [], ◌∷◌, ◌++◌, length, map, fold, filter, set, get_or, suc, Option, Some, None, Result, Ok, Err, refl, sym, ap, ◌∙◌, subst, arith, length-append}
use Rattle.std.specs.Prelude.{All, IsSome, is_some, nat_le, flat_map, option_map, unwrap_or, IfSome}
use Rattle.std.specs.List.{AllByRecursion, range_with_len}
use Rattle.std.specs.Option.{option_map_or}
use Rattle.std.proofs.Math.ListN.{get_or-append}
use Rattle.std.proofs.Math.Seq.{get_or-append_seam}
use Rattle.std.proofs.lemmas.Bool.{leb-false, not-false, eqb-true, and_parts, cond_both, cases_eq, cases_lt}
use Rattle.std.proofs.lemmas.Option.{none-some}
use Rattle.std.proofs.lemmas.List.{length-map, length-set, get_or-set_same, get_or-set_other, map_push}
use Rattle.std.proofs.lemmas.List.Elements.{All-append, All-push, All-map, All-filter, All-get_or, All-from_get_or, All-weaker, All-from_recursion, recursion_from_All}
use Rattle.pq_base.specs.Answers.{or_else}
use Rattle.pq_base.specs.Columns.{has_col, set_of}
use Rattle.pq_base.specs.Values.{FitsType, fits_type, is_nullable}
use Rattle.pq_base.specs.declared.count_word.TheConstants as count_word
use Rattle.pq_base.specs.declared.value.ColType.{ColType}
use Rattle.pq_base.specs.declared.value.ColType.TheVariants as type
use Rattle.pq_base.specs.declared.value.Value.{Value}
use Rattle.pq_base.specs.declared.number.Choice.{Choice}
use Rattle.pq_base.specs.declared.number.Choice.TheVariants.{Whole, Stop}
use Rattle.pq_base.specs.declared.refusal.Refusal.{Refusal}
use Rattle.pq_base.specs.declared.refusal.Refusal.TheVariants as refusal
use Rattle.pq_schema.specs.declared.made.Definition.TheVariants.{OfTable, OfQuery, OfColumn, OfCounter}
use Rattle.pq_schema.specs.declared.definition.AlterDef.{AlterDef}
use Rattle.pq_schema.specs.declared.definition.CounterDef.{CounterDef}
use Rattle.pq_schema.specs.declared.query.OrderItem.{OrderItem}
use Rattle.pq_schema.specs.declared.query.Query.{Query}
use Rattle.pq_schema.specs.declared.table.Column.{Column}
use Rattle.pq_schema.specs.declared.table.Foreign.{Foreign}
use Rattle.pq_schema.specs.declared.table.Index.{Index}
use Rattle.pq_schema.specs.declared.table.KeyPart.{KeyPart}
use Rattle.pq_schema.specs.declared.table.Limit.{Limit}
use Rattle.pq_schema.specs.declared.table.NewIndex.{NewIndex}
use Rattle.pq_schema.specs.declared.table.Table.{Table}
use Rattle.pq_schema.specs.Candidates.{Candidate, candidates, whole_candidates, stop_at, stop_size, can_stop_at, lesser, least, reached_after, are_bounded, stop_cost}
use Rattle.pq_schema.specs.Costs.{is_less}
use Rattle.pq_schema.specs.Definitions.{has_type, column_of, refused_if, room_refusal, definition_refusal, altered_refusal, column_refusal, altered_table, altered_schema, counting_refusal, counter_refusal, counter_of_def, counted_schema, or_ok, new_column, new_counter}
use Rattle.pq_schema.specs.Relations.{relation_at, table_of, tied_set, order_rest, is_rest, part_of, no_relation}
use Rattle.pq_schema.specs.Resolved.{IsRelation, IsColumnOf, IsResolved}
use Rattle.pq_schema.specs.Schema.{Schema, IsSmall, empty_schema, find_column, find_table, with_query, with_wanted, with_new_index, with_new_column, with_added, made_of}
use Rattle.pq_schema.specs.Sequences.{ascending_part, group_access, serving_access, new_index}
use Rattle.pq_schema.specs.Sound.{IsSized, AreKeyColumns, IsMadeLimit, IsMadeForeign, AreDefaults, IsMade, AreMade}
use Rattle.pq_schema.specs.Tables.{no_table, table_at, type_at, types_at, same_kinds}
use Rattle.pq_schema.specs.Valid.{IsValid, IsSound}
use Rattle.pq_schema.specs.Valid.IsValid.{empty, then_table, then_query, then_column, then_counter}
use Rattle.pq_schema.specs.Wanted.{is_large, index_at, index_of, too_many_indexes, ChosenCandidate, with_index, chosen_of, no_bound, IsWanted}
use Rattle.pq_schema.proofs.Accepted.{accepted, neither, not_refused, sized_column, definition_room, table_room, room, made_none, made_by_def}
use Rattle.pq_schema.proofs.Numbered.{table_there}
use Rattle.pq_schema.proofs.Groups.{index_keeps, inside_more}

-- ---- answers

abbrev ok_or : {A : Type 0} → A → Result A Refusal → A
ok_or other (Ok answer) = answer
ok_or other (Err why) = other

ok_same : {A : Type 0} (a b : A) (r : Result A Refusal) → r ≡ Ok a → r ≡ Ok b → a ≡ b
ok_same a b r left right = ap (ok_or a) (sym left ∙ right)

abbrev IsOkAnswer : {A : Type 0} → Result A Refusal → Type 0
IsOkAnswer (Ok answer) = Unit {0}
IsOkAnswer (Err why) = ⊥

err_not_ok : {A : Type 0} (why : Refusal) (b : A) (r : Result A Refusal) → r ≡ Err why → r ≡ Ok b → ⊥
err_not_ok why b r left right = subst IsOkAnswer (sym right ∙ left) tt

abbrev some_or : {A : Type 0} → A → Option A → A
some_or other None = other
some_or other (Some a) = a

some_same : {A : Type 0} (a b : A) → Some a ≡ Some b → a ≡ b
some_same a b is = ap (some_or a) is

-- ---- a table over other tables

-- the types of a table's key
abbrev key_types : Table → List ColType
key_types table = types_at table.columns table.key

-- the keys of the tables below the number have the same types
record HaveSameKeys (before now : List Table) (number : ℕ) : Type 0 where
  types : (k : ℕ) → 1 ≤ k → k < number → key_types (table_at now k) ≡ key_types (table_at before k)

foreign_over : (before now : List Table) (number : ℕ) (columns : List Column) → HaveSameKeys before now number → (f : Foreign) → IsMadeForeign before number columns f → IsMadeForeign now number columns f
foreign_over before now number columns same f made = record {
  inside = made.inside;
  different = made.different;
  from_one = made.from_one;
  earlier = made.earlier;
  shape = ap (same_kinds (types_at columns f.cols)) (same.types f.table made.from_one made.earlier) ∙ made.shape;
}

made_over : (before now : List Table) (number : ℕ) (table : Table) → HaveSameKeys before now number → IsMade before number table → IsMade now number table
made_over before now number table same made = record {
  some_columns = made.some_columns;
  few_columns = made.few_columns;
  sized = made.sized;
  fillers = made.fillers;
  key = made.key;
  plain = made.plain;
  few_limits = made.few_limits;
  limits = made.limits;
  few_foreign = made.few_foreign;
  foreign = All-weaker (IsMadeForeign before number table.columns) (IsMadeForeign now number table.columns) (foreign_over before now number table.columns same) table.foreign made.foreign;
  few_indexes = made.few_indexes;
  indexes = made.indexes;
  limit_groups = made.limit_groups;
  foreign_groups = made.foreign_groups;
}

-- ---- one more table

pub table_before : (tables : List Table) (table : Table) (number : ℕ) → 1 ≤ number → number < length tables + 1 → table_at (tables ++ table ∷ []) number ≡ table_at tables number
table_before tables table number one there = get_or-append tables (table ∷ []) no_table (number - 1) (omega arith)

table_last : (tables : List Table) (table : Table) (number : ℕ) → number ≡ length tables + 1 → table_at (tables ++ table ∷ []) number ≡ table
table_last tables table number is =
    let place : number - 1 ≡ length tables = omega arith in
    ap (λ n. get_or (tables ++ table ∷ []) n no_table) place ∙ get_or-append_seam tables table [] no_table

same_before : (tables : List Table) (table : Table) (number : ℕ) → number < length tables + 2 → HaveSameKeys tables (tables ++ table ∷ []) number
same_before tables table number there = record {
  types = λ k one below. ap key_types (table_before tables table k one (omega arith));
}

tables_with : (tables : List Table) (table : Table) → AreMade tables → IsMade tables (length tables + 1) table → AreMade (tables ++ table ∷ [])
tables_with tables table all made number one there =
    let long = length-append tables (table ∷ []) in
    elim (cases_lt number (length tables + 1)) [
      | inl old ↦
          subst (IsMade (tables ++ table ∷ []) number) (sym (table_before tables table number one old))
          (made_over tables (tables ++ table ∷ []) number (table_at tables number) (same_before tables table number (omega arith)) (all number one (omega arith)))
      | inr new ↦
          let last : number ≡ length tables + 1 = omega (arith, long, there, new) in
          subst (IsMade (tables ++ table ∷ []) number) (sym (table_last tables table number last))
          (made_over tables (tables ++ table ∷ []) number table (same_before tables table number (omega arith)) (subst (λ n. IsMade tables n table) (sym last) made))
    ]

-- ---- one more index

index_made : (tables : List Table) (number : ℕ) (table : Table) (index : Index) → IsMade tables number table → length table.indexes < 16 → All (λ part. part.col < length table.columns) index.cols → IsMade tables number (with_new_index table index)
index_made tables number table index made room inside = record {
  some_columns = made.some_columns;
  few_columns = made.few_columns;
  sized = made.sized;
  fillers = made.fillers;
  key = made.key;
  plain = made.plain;
  few_limits = made.few_limits;
  limits = made.limits;
  few_foreign = made.few_foreign;
  foreign = made.foreign;
  few_indexes = let long = length-append table.indexes (index ∷ []) in omega (arith, long, room);
  indexes = inside_more (length table.columns) table.indexes index made.indexes inside;
  limit_groups = All-weaker (λ (l : Limit). IsSome (group_access table (set_of l.cols))) (λ (l : Limit). IsSome (group_access (with_new_index table index) (set_of l.cols))) (λ l some. index_keeps table index (set_of l.cols) some) table.limits made.limit_groups;
  foreign_groups = All-weaker (λ (f : Foreign). IsSome (group_access table (set_of f.cols))) (λ (f : Foreign). IsSome (group_access (with_new_index table index) (set_of f.cols))) (λ f some. index_keeps table index (set_of f.cols) some) table.foreign made.foreign_groups;
}

-- a wanted index that its table has room for
pub record Fits (tables : List Table) (new : NewIndex) : Type 0 where
  pub from_one : 1 ≤ new.table
  pub there : new.table ≤ length tables
  pub room : length (table_at tables new.table).indexes < 16
  pub inside : All (λ part. part.col < length (table_at tables new.table).columns) new.index.cols

-- ---- one table of them changed

module _ (tables : List Table) (place : ℕ) (changed : Table) (one_at : 1 ≤ place) (there_at : place ≤ length tables)
    (as_before : key_types changed ≡ key_types (table_at tables place)) where
  at_changed : table_at (set tables (place - 1) changed) place ≡ changed
  at_changed = get_or-set_same tables (place - 1) changed no_table (omega (arith, one_at, there_at))

  at_other : (k : ℕ) → 1 ≤ k → (k ≡ place → ⊥) → table_at (set tables (place - 1) changed) k ≡ table_at tables k
  at_other k one other = get_or-set_other tables (place - 1) (k - 1) changed no_table (λ e. other (omega (arith, e, one, one_at)))

  same_keys : (number : ℕ) → HaveSameKeys tables (set tables (place - 1) changed) number
  same_keys number = record {
    types = λ k one _. elim (cases_eq k place) [
      | inl same ↦ ap (λ n. key_types (table_at (set tables (place - 1) changed) n)) same ∙ ap key_types at_changed ∙ as_before ∙ ap (λ n. key_types (table_at tables n)) (sym same)
      | inr other ↦ ap key_types (at_other k one other)
    ];
  }

  tables_changed : (IsMade tables place (table_at tables place) → IsMade tables place changed) → AreMade tables → AreMade (set tables (place - 1) changed)
  tables_changed made all number one there =
      let long : length (set tables (place - 1) changed) ≡ length tables = length-set tables (place - 1) changed in
      let old : IsMade tables number (table_at tables number) = all number one (omega (arith, long, there)) in
      elim (cases_eq number place) [
        | inl same ↦
            subst (λ n. IsMade (set tables (place - 1) changed) n (table_at (set tables (place - 1) changed) n)) (sym same)
            (subst (IsMade (set tables (place - 1) changed) place) (sym at_changed)
            (made_over tables (set tables (place - 1) changed) place changed (same_keys place)
            (made (subst (λ n. IsMade tables n (table_at tables n)) same old))))
        | inr other ↦
            subst (IsMade (set tables (place - 1) changed) number) (sym (at_other number one other))
            (made_over tables (set tables (place - 1) changed) number (table_at tables number) (same_keys number) old)
      ]

tables_indexed : (tables : List Table) (new : NewIndex) → Fits tables new → AreMade tables → AreMade (set tables (new.table - 1) (with_new_index (table_at tables new.table) new.index))
tables_indexed tables new fits all =
    tables_changed tables new.table (with_new_index (table_at tables new.table) new.index) fits.from_one fits.there refl
    (λ made. index_made tables new.table (table_at tables new.table) new.index made fits.room fits.inside) all

-- ---- one more column

-- the earlier columns keep their types
type_before : (columns : List Column) (column : Column) (col : ℕ) → col < length columns → type_at (columns ++ column ∷ []) col ≡ type_at columns col
type_before columns column col there =
    let types = map (λ (c : Column). c.ty) columns in
    let long = length-map columns (λ (c : Column). c.ty) in
    ap (λ (l : List ColType). get_or l col type.Bool) (map_push (λ (c : Column). c.ty) columns column)
    ∙ get_or-append types (column.ty ∷ []) type.Bool col (omega (arith, long, there))

types_before : (columns : List Column) (column : Column) (cols : List ℕ) → All (λ col. col < length columns) cols → types_at (columns ++ column ∷ []) cols ≡ types_at columns cols
types_before columns column cols inside = by cols (recursion_from_All (λ col. col < length columns) cols inside)
  where
    by : (cols : List ℕ) → AllByRecursion (λ col. col < length columns) cols → types_at (columns ++ column ∷ []) cols ≡ types_at columns cols
    by [] inside = refl
    by (col ∷ cols) inside = λ i. type_before columns column col inside.0 i ∷ by cols inside.1 i

plain_before : (columns : List Column) (column : Column) (cols : List ℕ) → All (λ col. col < length columns) cols → All (λ col. is_nullable (type_at columns col) ≡ false) cols
    → All (λ col. is_nullable (type_at (columns ++ column ∷ []) col) ≡ false) cols
plain_before columns column cols inside plain =
    All-from_recursion (λ col. is_nullable (type_at (columns ++ column ∷ []) col) ≡ false) cols
    (by cols (recursion_from_All (λ col. col < length columns) cols inside) (recursion_from_All (λ col. is_nullable (type_at columns col) ≡ false) cols plain))
  where
    by : (cols : List ℕ) → AllByRecursion (λ col. col < length columns) cols → AllByRecursion (λ col. is_nullable (type_at columns col) ≡ false) cols
        → AllByRecursion (λ col. is_nullable (type_at (columns ++ column ∷ []) col) ≡ false) cols
    by [] inside plain = tt
    by (col ∷ cols) inside plain = (ap is_nullable (type_before columns column col inside.0) ∙ plain.0, by cols inside.1 plain.1)

defaults_more : (columns : List Column) (fillers : List (Option Value)) (column : Column) (filler : Value) → AreDefaults columns fillers → FitsType column.ty filler → AreDefaults (columns ++ column ∷ []) (fillers ++ Some filler ∷ [])
defaults_more [] [] column filler all fits = (fits, tt)
defaults_more (c ∷ columns) (f ∷ fillers) column filler all fits = (all.0, defaults_more columns fillers column filler all.1 fits)
defaults_more [] (f ∷ fillers) column filler all fits = absurd all
defaults_more (c ∷ columns) [] column filler all fits = absurd all

module _ (tables : List Table) (place : ℕ) (table : Table) (column : Column) (filler : Value) where
  width_more : length (table.columns ++ column ∷ []) ≡ length table.columns + 1
  width_more = length-append table.columns (column ∷ [])

  wider : (cols : List ℕ) → All (λ col. col < length table.columns) cols → All (λ col. col < length (table.columns ++ column ∷ [])) cols
  wider cols inside = All-weaker (λ col. col < length table.columns) (λ col. col < length (table.columns ++ column ∷ [])) (λ col lt. let long = width_more in omega (arith, lt, long)) cols inside

  wider_key : (cols : List ℕ) → AreKeyColumns (length table.columns) cols → AreKeyColumns (length (table.columns ++ column ∷ [])) cols
  wider_key cols is = record { some = is.some; few = is.few; inside = wider cols is.inside; different = is.different }

  wider_foreign : (f : Foreign) → IsMadeForeign tables place table.columns f → IsMadeForeign tables place (table.columns ++ column ∷ []) f
  wider_foreign f is = record {
    inside = wider f.cols is.inside;
    different = is.different;
    from_one = is.from_one;
    earlier = is.earlier;
    shape = ap (λ (ts : List ColType). same_kinds ts (key_types (table_at tables f.table))) (types_before table.columns column f.cols is.inside) ∙ is.shape;
  }

  column_made : IsMade tables place table → length table.columns < 32 → IsSized column.ty → FitsType column.ty filler → IsMade tables place (with_new_column table column filler)
  column_made made room sized fits = record {
    some_columns = let long = width_more in omega (arith, long);
    few_columns = let long = width_more in omega (arith, long, room);
    sized = All-push (λ (c : Column). IsSized c.ty) table.columns column made.sized sized;
    fillers = defaults_more table.columns table.fillers column filler made.fillers fits;
    key = wider_key table.key made.key;
    plain = plain_before table.columns column table.key made.key.inside made.plain;
    few_limits = made.few_limits;
    limits = All-weaker (IsMadeLimit (length table.columns)) (IsMadeLimit (length (table.columns ++ column ∷ []))) (λ l is. record { cols = wider_key l.cols is.cols; from_one = is.from_one; most = is.most }) table.limits made.limits;
    few_foreign = made.few_foreign;
    foreign = All-weaker (IsMadeForeign tables place table.columns) (IsMadeForeign tables place (table.columns ++ column ∷ [])) wider_foreign table.foreign made.foreign;
    few_indexes = made.few_indexes;
    indexes = All-weaker (λ (i : Index). All (λ part. part.col < length table.columns) i.cols) (λ (i : Index). All (λ part. part.col < length (table.columns ++ column ∷ [])) i.cols) (λ i inside. All-weaker (λ (part : KeyPart). part.col < length table.columns) (λ (part : KeyPart). part.col < length (table.columns ++ column ∷ [])) (λ part lt. let long = width_more in omega (arith, lt, long)) i.cols inside) table.indexes made.indexes;
    limit_groups = made.limit_groups;
    foreign_groups = made.foreign_groups;
  }

-- the table that gets a column is there, has room for it, and takes its default
pub record TakesColumn (tables : List Table) (number : ℕ) (column : Column) : Type 0 where
  pub from_one : 1 ≤ number
  pub there : number ≤ length tables
  pub room : length (table_at tables number).columns < 32
  pub sized : IsSized column.ty

tables_widened : (tables : List Table) (number : ℕ) (column : Column) (filler : Value) → TakesColumn tables number column → FitsType column.ty filler → AreMade tables → AreMade (with_added tables number column filler)
tables_widened tables number column filler takes fits all =
    let table = table_at tables number in
    let made = all number takes.from_one takes.there in
    tables_changed tables number (with_new_column table column filler) takes.from_one takes.there (types_before table.columns column table.key made.key.inside)
    (λ made. column_made tables number table column filler made takes.room takes.sized fits) all

added_takes : (s : Schema) (def : AlterDef) (found : Option ℕ) → find_table s def.table ≡ found → altered_refusal s def found ≡ None → TakesColumn s.tables (unwrap_or found 0) (column_of def.column)
added_takes s def None at none = absurd (none-some (refusal.NoTable def.table) (sym none))
added_takes s def (Some number) at none =
    let table = table_at s.tables number in
    let room = refused_if (nat_le 32 (length table.columns)) (refusal.Count count_word.COLUMNS) in
    let text = refused_if (not (has_type def.column)) (refusal.Count count_word.TEXT) in
    let twice = refused_if (is_some (find_column table.columns def.column.name)) (refusal.Repeated def.column.name) in
    let kind = refused_if (not (fits_type (column_of def.column).ty def.filler)) (refusal.ValueKind def.table def.column.name) in
    let first = neither room (or_else text (or_else twice kind)) none in
    let second = neither text (or_else twice kind) first.1 in
    let there = subst (λ o. IfSome o (λ number. (1 ≤ number) × (number ≤ length s.tables))) at (table_there s def.table) in
    record {
      from_one = there.0;
      there = there.1;
      room = leb-false 32 (length table.columns) (not_refused (nat_le 32 (length table.columns)) (refusal.Count count_word.COLUMNS) first.0);
      sized = sized_column def.column (not-false (has_type def.column) (not_refused (not (has_type def.column)) (refusal.Count count_word.TEXT) second.0));
    }

-- a definition that is not refused gives the schema with its column
pub column_accepted : (s : Schema) (def : AlterDef) → column_refusal s def ≡ None → new_column s def ≡ Ok (altered_schema s def)
unfolding new_column
column_accepted s def none = ap (λ o. or_ok o (altered_schema s def)) none

pub column_parts : (s : Schema) (def : AlterDef) (next : Schema) → new_column s def ≡ Ok next → (column_refusal s def ≡ None) × (altered_schema s def ≡ next)
unfolding new_column
column_parts s def next made = accepted (column_refusal s def) (altered_schema s def) next made

pub column_takes : (s : Schema) (def : AlterDef) → column_refusal s def ≡ None → TakesColumn s.tables (altered_table s def) (column_of def.column)
column_takes s def none = added_takes s def (find_table s def.table) refl (neither (room_refusal s) (altered_refusal s def (find_table s def.table)) none).1

-- ---- a counter

-- a definition that is not refused gives the schema with its counter
pub counter_accepted : (s : Schema) (def : CounterDef) → counter_refusal s def ≡ None → new_counter s def ≡ Ok (counted_schema s def)
unfolding new_counter
counter_accepted s def none = ap (λ o. or_ok o (counted_schema s def)) none

pub counter_parts : (s : Schema) (def : CounterDef) (next : Schema) → new_counter s def ≡ Ok next → (counter_refusal s def ≡ None) × (counted_schema s def ≡ next)
unfolding new_counter
counter_parts s def next made = accepted (counter_refusal s def) (counted_schema s def) next made

counter_room : (s : Schema) (def : CounterDef) → counter_refusal s def ≡ None → length s.definitions < 256
counter_room s def none =
    definition_room s def.name (neither (definition_refusal s def.name) (counting_refusal s def (find_table s def.table)) none).0

-- ---- the wanted index of a query

abbrev IsChoice : ℕ → Choice → Type 0
IsChoice m Whole = Unit {0}
IsChoice m (Stop p) = (1 ≤ p) × (p ≤ m)

abbrev HasPlace : ℕ → Candidate → Type 0
HasPlace m c = IsChoice m c.choice

module _ (tables : List Table) (query : Query) where
  rec_append : (P : Candidate → Type 0) (xs ys : List Candidate) → AllByRecursion P xs → AllByRecursion P ys → AllByRecursion P (xs ++ ys)
  rec_append P [] ys a b = b
  rec_append P (x ∷ xs) ys a b = (a.0, rec_append P xs ys a.1 b)

  stop_places : (m k from count : ℕ) → 1 ≤ from → from + count ≤ m + 1 → AllByRecursion (HasPlace m) (flat_map (stop_at tables query k) (range_with_len from count))
  stop_places m k from zero one within = tt
  stop_places m k from (suc count) one within =
      rec_append (HasPlace m) (stop_at tables query k from) (flat_map (stop_at tables query k) (range_with_len (from + 1) count))
      (cond_both (can_stop_at tables query from) (record { choice = Stop from; bound = stop_cost tables query k from } ∷ []) [] (AllByRecursion (HasPlace m)) (λ _. ((one, omega arith), tt)) (λ _. tt))
      (stop_places m k (from + 1) count (omega arith) (omega arith))

  all_places : AllByRecursion (HasPlace (length query.relations)) (candidates tables query)
  all_places =
      let m = length query.relations in
      rec_append (HasPlace m) (whole_candidates tables query) (option_map_or (λ k. flat_map (stop_at tables query k) (range_with_len 1 m)) (stop_size query.stop) [])
      (cond_both (are_bounded tables query m) (record { choice = Whole; bound = (reached_after tables query m).cost } ∷ []) [] (AllByRecursion (HasPlace m)) (λ _. (tt, tt)) (λ _. tt))
      (by_size m (stop_size query.stop))
    where
      by_size : (m : ℕ) (o : Option ℕ) → AllByRecursion (HasPlace m) (option_map_or (λ k. flat_map (stop_at tables query k) (range_with_len 1 m)) o [])
      by_size m None = tt
      by_size m (Some k) = stop_places m k 1 m (omega arith) (omega arith)

  least_from : (m : ℕ) (c : Candidate) (cs : List Candidate) → HasPlace m c → AllByRecursion (HasPlace m) cs → HasPlace m (fold lesser c cs)
  least_from m c [] here all = here
  least_from m c (x ∷ cs) here all = least_from m (lesser c x) cs (cond_both (is_less x.bound c.bound) x c (HasPlace m) (λ _. all.0) (λ _. here)) all.1

  least_place : (m : ℕ) (cs : List Candidate) (best : Candidate) → AllByRecursion (HasPlace m) cs → least cs ≡ Some best → HasPlace m best
  least_place m [] best all is = absurd (none-some best is)
  least_place m (c ∷ cs) best all is =
      let same : fold lesser c cs ≡ best = cc in
      subst (HasPlace m) same (least_from m c cs all.0 all.1)

  -- ---- what is chosen

  with_index_is : (c : Candidate) (r : Result (Option NewIndex) Refusal) (best : Candidate) (wanted : Option NewIndex) → with_index c r ≡ Ok (record { best = best; wanted = wanted }) → (c ≡ best) × (r ≡ Ok wanted)
  with_index_is c (Ok w) best wanted is =
      let first : ChosenCandidate = record { best = c; wanted = w } in
      let second : ChosenCandidate = record { best = best; wanted = wanted } in
      let e : first ≡ second = ok_same first second (Ok first) refl is in
      (ap (λ (h : ChosenCandidate). h.best) e, ap (λ (h : ChosenCandidate). Ok h.wanted) e)
  with_index_is c (Err why) best wanted is = absurd (err_not_ok why (record { best = best; wanted = wanted }) (Err why) refl is)

  large_is : (large : Bool) (why : Refusal) (c : Candidate) (r : Result (Option NewIndex) Refusal) (best : Candidate) (wanted : Option NewIndex) → cond large (Err why) (with_index c r) ≡ Ok (record { best = best; wanted = wanted }) → (c ≡ best) × (r ≡ Ok wanted)
  large_is true why c r best wanted is = absurd (err_not_ok why (record { best = best; wanted = wanted }) (Err why) refl is)
  large_is false why c r best wanted is = with_index_is c r best wanted is

  chosen_parts : (o : Option Candidate) (best : Candidate) (wanted : Option NewIndex) → chosen_of tables query o ≡ Ok (record { best = best; wanted = wanted }) → (o ≡ Some best) × (index_of tables query best.choice ≡ Ok wanted)
  chosen_parts None best wanted is = absurd (err_not_ok (no_bound tables query) (record { best = best; wanted = wanted }) (Err (no_bound tables query)) refl is)
  chosen_parts (Some c) best wanted is =
      let parts = large_is (is_large c.bound) (refusal.BoundLarge c.bound.ops c.bound.entries) c (index_of tables query c.choice) best wanted is in
      (ap (λ (x : Candidate). Some x) parts.0, ap (λ (x : Candidate). index_of tables query x.choice) (sym parts.0) ∙ parts.1)

  some_is : (served full : Bool) (n new : NewIndex) → cond served (Ok None) (cond full (Err too_many_indexes) (Ok (Some n))) ≡ Ok (Some new) → (full ≡ false) × (n ≡ new)
  some_is true full n new is = absurd (none-some new (ok_same None (Some new) (Ok None) refl is))
  some_is false true n new is = absurd (err_not_ok too_many_indexes (Some new) (Err too_many_indexes) refl is)
  some_is false false n new is = (refl, some_same n new (ok_same (Some n) (Some new) (Ok (Some n)) refl is))

  -- ---- its columns

  range_below : (a n m : ℕ) → a + n ≤ m → AllByRecursion (λ c. c < m) (range_with_len a n)
  range_below a zero m within = tt
  range_below a (suc n) m within = (omega arith, range_below (a + 1) n m (omega arith))

  order_inside : (p s : ℕ) (items : List OrderItem) → AllByRecursion (λ (item : OrderItem). IsColumnOf tables query item.col) items → AllByRecursion (λ (part : KeyPart). part.col < length (table_of tables query p).columns) (map part_of (filter (is_rest p s) items))
  order_inside p s [] all = tt
  order_inside p s (item ∷ items) all =
      let rest = order_inside p s items all.1 in
      cond_both (is_rest p s item) (item ∷ filter (is_rest p s) items) (filter (is_rest p s) items) (λ (l : List OrderItem). AllByRecursion (λ (part : KeyPart). part.col < length (table_of tables query p).columns) (map part_of l))
      (λ is. (subst (λ r. item.col.col < length (table_of tables query r).columns) (eqb-true item.col.rel p (and_parts (item.col.rel == p) (not (has_col s item.col.col)) is).0) all.0.inside, rest))
      (λ _. rest)

  new_inside : (p : ℕ) → IsResolved tables query → All (λ (part : KeyPart). part.col < length (table_of tables query p).columns) (new_index (table_of tables query p) (tied_set query p) (order_rest query p)).cols
  new_inside p resolved =
      let w = length (table_of tables query p).columns in
      let Inside : KeyPart → Type 0 = λ part. part.col < w in
      All-append Inside (map ascending_part (filter (has_col (tied_set query p)) (range_with_len 0 w))) (order_rest query p)
      (All-map Inside ascending_part (filter (has_col (tied_set query p)) (range_with_len 0 w)) (All-filter (has_col (tied_set query p)) (λ c. c < w) (range_with_len 0 w) (All-from_recursion (λ c. c < w) (range_with_len 0 w) (range_below 0 w w (omega arith)))))
      (All-from_recursion Inside (order_rest query p) (order_inside p (tied_set query p) query.order (recursion_from_All (λ (item : OrderItem). IsColumnOf tables query item.col) query.order resolved.order)))

  relation_there : (p : ℕ) → 1 ≤ p → p ≤ length query.relations → IsResolved tables query → IsRelation tables (relation_at query p)
  relation_there p one there resolved = resolved.relations (p - 1) no_relation (omega arith)

  fits_at : (p : ℕ) (new : NewIndex) → 1 ≤ p → p ≤ length query.relations → IsResolved tables query → index_at tables query p ≡ Ok (Some new) → Fits tables new
  fits_at p new one there resolved is =
      let table = table_of tables query p in
      let n : NewIndex = record { table = (relation_at query p).table; number = length table.indexes + 1; index = new_index table (tied_set query p) (order_rest query p) } in
      let parts = some_is (is_some (serving_access table (tied_set query p) (order_rest query p))) (nat_le 16 (length table.indexes)) n new is in
      let relation = relation_there p one there resolved in
      let fits : Fits tables n = record { from_one = relation.from_one; there = relation.there; room = leb-false 16 (length table.indexes) parts.0; inside = new_inside p resolved } in
      subst (Fits tables) parts.1 fits

  fits_of : (choice : Choice) (new : NewIndex) → IsChoice (length query.relations) choice → IsResolved tables query → index_of tables query choice ≡ Ok (Some new) → Fits tables new
  fits_of Whole new place resolved is = absurd (none-some new (ok_same None (Some new) (Ok None) refl is))
  fits_of (Stop p) new place resolved is = fits_at p new place.0 place.1 resolved is

  pub wanted_fits : (new : NewIndex) → IsResolved tables query → IsWanted tables query (Some new) → Fits tables new
  wanted_fits new resolved wanted =
      let parts = chosen_parts (least (candidates tables query)) wanted.best (Some new) wanted.chosen in
      fits_of wanted.best.choice new (least_place (length query.relations) (candidates tables query) wanted.best all_places parts.0) resolved parts.1

-- the wanted index is of a table that is there
pub wanted_there : (tables : List Table) (query : Query) (wanted : Option NewIndex) → IsResolved tables query → IsWanted tables query wanted → IfSome wanted (λ new. (1 ≤ new.table) × (new.table ≤ length tables))
wanted_there tables query None resolved wanted = tt
wanted_there tables query (Some new) resolved wanted =
    let fits = wanted_fits tables query new resolved wanted in
    (fits.from_one, fits.there)

-- ---- valid schemas

made_with_wanted : (tables : List Table) (query : Query) (wanted : Option NewIndex) → AreMade tables → IsResolved tables query → IsWanted tables query wanted → AreMade (with_wanted tables wanted)
made_with_wanted tables query None all resolved wanted = all
made_with_wanted tables query (Some new) all resolved wanted = tables_indexed tables new (wanted_fits tables query new resolved wanted) all

length_with_wanted : (tables : List Table) (wanted : Option NewIndex) → length (with_wanted tables wanted) ≡ length tables
length_with_wanted tables None = refl
length_with_wanted tables (Some new) = length-set tables (new.table - 1) (with_new_index (table_at tables new.table) new.index)

pub valid_made : {s : Schema} → IsValid s → AreMade s.tables
valid_made empty = λ number one there. absurd (omega arith)
valid_made (then_table s def table v d made) =
    tables_with s.tables table (valid_made v) (made_by_def s def table made)
valid_made (then_query s query wanted v d) = made_with_wanted s.tables query wanted (valid_made v) d.resolved d.chosen
valid_made (then_column s def next v is) =
    let parts = column_parts s def next is.accepted in
    subst (λ (x : Schema). AreMade x.tables) parts.1
    (tables_widened s.tables (altered_table s def) (column_of def.column) def.filler (column_takes s def parts.0) is.fits (valid_made v))
valid_made (then_counter s def next v is) =
    subst (λ (x : Schema). AreMade x.tables) (counter_parts s def next is.accepted).1 (valid_made v)

pub valid_small : {s : Schema} → IsValid s → IsSmall s
valid_small empty = record { tables = omega arith; definitions = omega arith }
valid_small (then_table s def table v d made) =
    let none = made_none s def table made in
    let tables = table_room s def none in
    let definitions = room s def none in
    let one = length-append s.tables (table ∷ []) in
    let two = length-append s.definitions (OfTable (length s.tables + 1) (length table.columns) (length table.indexes) ∷ []) in
    record { tables = omega (arith, one, tables); definitions = omega (arith, two, definitions) }
valid_small (then_query s query wanted v d) =
    let before = valid_small v in
    let definitions = definition_room s query.name (accepted (definition_refusal s query.name) (with_query s query wanted) (with_query s query wanted) d.accepted).0 in
    let one = length_with_wanted s.tables wanted in
    let two = length-append s.definitions (OfQuery query (option_map made_of wanted) ∷ []) in
    let few = before.tables in
    record { tables = omega (arith, one, few); definitions = omega (arith, two, definitions) }
valid_small (then_column s def next v is) =
    let parts = column_parts s def next is.accepted in
    let before = valid_small v in
    let number = altered_table s def in
    let table = table_at s.tables number in
    let rooms = not_refused (nat_le 256 (length s.definitions)) (refusal.Count count_word.DEFINITIONS) (neither (room_refusal s) (altered_refusal s def (find_table s def.table)) parts.0).0 in
    let room = leb-false 256 (length s.definitions) rooms in
    let one = length-set s.tables (number - 1) (with_new_column table (column_of def.column) def.filler) in
    let two = length-append s.definitions (OfColumn number (length table.columns) ∷ []) in
    let few = before.tables in
    subst IsSmall parts.1 (record { tables = omega (arith, one, few); definitions = omega (arith, two, room) })
valid_small (then_counter s def next v is) =
    let parts = counter_parts s def next is.accepted in
    let before = valid_small v in
    let room = counter_room s def parts.0 in
    let two = length-append s.definitions (OfCounter (counter_of_def s def) ∷ []) in
    subst IsSmall parts.1 (record { tables = before.tables; definitions = omega (arith, two, room) })

pub valid_sound : {s : Schema} → IsValid s → IsSound s
valid_sound v = record { small = valid_small v; valid = v }

pub empty_sound : IsSound empty_schema
empty_sound = valid_sound empty

-- the foreign keys of a table in order
pub few_foreign_at : (tables : List Table) (i : ℕ) (d : Table) → AreMade tables → i < length tables → length (get_or tables i d).foreign ≤ 4
few_foreign_at tables i d all there = All-get_or (λ (t : Table). length t.foreign ≤ 4) tables i d there (All-from_get_or (λ (t : Table). length t.foreign ≤ 4) tables no_table each)
  where
    each : (k : ℕ) → k < length tables → length (get_or tables k no_table).foreign ≤ 4
    each k here =
        let place : k + 1 - 1 ≡ k = omega arith in
        subst (λ n. length (get_or tables n no_table).foreign ≤ 4) place (all (k + 1) (omega arith) (omega arith)).few_foreign
