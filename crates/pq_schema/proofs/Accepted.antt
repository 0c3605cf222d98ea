-- What an accepted definition makes.
use Rattle.std.proofs.Common.{◌≡◌, ℕ, ℤ, pos, negsuc, ◌+◌, ◌<◌, ◌≤◌, Bool, true, false, not, cond, ◌&&◌, List, [], ◌∷◌, ◌++◌, length, map, fold, take, get_or, length-take, find, codes, is_some, option_map, Option, Some, None, Result, Ok, Err, refl, sym, ap, ◌∙◌, subst, arith, length-append}
use Rattle.std.specs.Prelude.{All, IsSome, nat_lt, nat_le, unwrap_or, position, if◌then◌else◌}
use Rattle.std.specs.Str.{bytes_eq}
use Rattle.std.specs.List.{AllByRecursion, list_all}
use Rattle.std.proofs.lemmas.Bool.{or_parts, and_parts, not-false, ltb-false, leb-true, leb-false, false≢true}
use Rattle.std.proofs.lemmas.Option.{none-some}
use Rattle.std.proofs.lemmas.List.{length-map}
use Rattle.std.proofs.lemmas.List.Elements.{All-nil, All-cons, All-append, All-map, All-take, All-get_or, All-weaker, All-from_recursion, recursion_from_All}
use Rattle.std.proofs.lemmas.List.Quantifiers.{position-Some}
use Rattle.pq_base.specs.Answers.{or_else}
use Rattle.pq_base.specs.Columns.{set_of}
use Rattle.pq_base.specs.declared.count_word.TheConstants as count_word
use Rattle.pq_base.specs.declared.refusal.Refusal.{Refusal}
use Rattle.pq_base.specs.declared.refusal.Refusal.TheVariants as refusal
use Rattle.pq_base.specs.declared.value.ColType.{ColType}
use Rattle.pq_base.specs.declared.value.ColType.TheVariants as type
use Rattle.pq_base.specs.declared.value.Value.{Value}
use Rattle.pq_schema.specs.declared.definition.ColumnDef.{ColumnDef}
use Rattle.pq_schema.specs.declared.definition.LimitDef.{LimitDef}
use Rattle.pq_schema.specs.declared.definition.ForeignDef.{ForeignDef}
use Rattle.pq_schema.specs.declared.definition.TableDef.{TableDef}
use Rattle.pq_schema.specs.declared.table.Column.{Column}
use Rattle.pq_schema.specs.declared.table.Limit.{Limit}
use Rattle.pq_schema.specs.declared.table.Foreign.{Foreign}
use Rattle.pq_schema.specs.declared.table.Index.{Index}
use Rattle.pq_schema.specs.declared.table.Table.{Table}
use Rattle.pq_schema.specs.ColumnNames.{names_of, is_unknown, place_of, places_of, no_column, repeated_name, first_repeated, unknown_refusal, repeated_refusal, names_refusal}
use Rattle.pq_schema.specs.Definitions.{text_size, cardinality, with_null, plain_column_type, is_nullable_name, nullable_key, nullable_refusal, has_type, column_of, refused_if, is_outside, definition_refusal, name_refusal, counts_refusal, columns_refusal, key_refusal, limit_refusal, limits_refusal, has_shape, reference_refusal, foreign_refusal, foreigns_refusal, groups_refusal, table_refusal, no_fillers, limit_of_def, foreign_of_def, bare_table, table_of_def, or_ok, new_table}
use Rattle.pq_schema.specs.Schema.{Schema, find_table, is_table, is_taken, number_of}
use Rattle.pq_schema.specs.Sequences.{groups, group_access, with_group}
use Rattle.pq_schema.specs.Sound.{IsTable, IsBare, AreColumns, IsSized, AreKeyColumns, IsMadeLimit, IsMadeForeign, AreDefaults, IsMade}
use Rattle.pq_base.specs.Values.{is_nullable}
use Rattle.pq_schema.specs.Tables.{table_at, type_at}
use Rattle.pq_schema.proofs.Counts.{AreKnown, places_within, different_places}
use Rattle.pq_schema.proofs.Groups.{IsDifferent, IsAsBefore, AreInside, groups_have, groups_as_before, groups_inside, sound_groups}

-- ---- no column was added

none_added : (columns : List Column) → AreDefaults columns (no_fillers columns)
none_added [] = tt
none_added (column ∷ columns) = (tt, none_added columns)

-- ---- no refusal

pub neither : (first next : Option Refusal) → or_else first next ≡ None → (first ≡ None) × (next ≡ None)
neither None next none = (refl, none)
neither (Some why) next none = absurd (none-some why (sym none))

pub not_refused : (test : Bool) (why : Refusal) → refused_if test why ≡ None → test ≡ false
not_refused true why none = absurd (none-some why (sym none))
not_refused false why none = refl

none_mapped : {X : Type 0} (f : X → Refusal) (o : Option X) → option_map f o ≡ None → o ≡ None
none_mapped f None none = refl
none_mapped f (Some x) none = absurd (none-some (f x) (sym none))

abbrev ok_or_else : {A : Type 0} → A → Result A Refusal → A
ok_or_else other (Ok answer) = answer
ok_or_else other (Err why) = other

abbrev IsAnswer : {A : Type 0} → Result A Refusal → Type 0
IsAnswer (Ok answer) = Unit {0}
IsAnswer (Err why) = ⊥

pub accepted : {A : Type 0} (why : Option Refusal) (answer result : A) → or_ok why answer ≡ Ok result → (why ≡ None) × (answer ≡ result)
accepted None answer result is = (refl, ap (ok_or_else answer) is)
accepted (Some why) answer result is = absurd (subst IsAnswer (sym is) tt)

-- a count within its limits
inside : (count most : ℕ) → is_outside count most ≡ false → (1 ≤ count) × (count ≤ most)
inside count most is =
    let parts = or_parts (nat_lt count 1) (nat_lt most count) is in
    (ltb-false count 1 parts.0, ltb-false most count parts.1)

-- ---- columns

sized_text : (size : ℤ) → is_some (option_map type.Text (text_size size)) ≡ true → IsSized (unwrap_or (option_map type.Text (text_size size)) type.Int)
sized_text (pos n) some =
    elim (nat_le 1 n && nat_le n 1000) as (λ b. (nat_le 1 n && nat_le n 1000) ≡ b → is_some (option_map type.Text (if b then Some n else None)) ≡ true → IsSized (unwrap_or (option_map type.Text (if b then Some n else None)) type.Int)) [
      | true ↦ λ is _. let parts = and_parts (nat_le 1 n) (nat_le n 1000) is in (leb-true 1 n parts.0, leb-true n 1000 parts.1)
      | false ↦ λ _ some. absurd (false≢true some)
    ] refl some
sized_text (negsuc n) some = absurd (false≢true some)

-- a nullable type has the size of its plain one
with_null_sized : (b : Bool) (t : ColType) → IsSized t → IsSized (with_null b t)
with_null_sized false t h = h
with_null_sized true type.Int h = h
with_null_sized true type.Bool h = h
with_null_sized true (type.Text n) h = h
with_null_sized true type.NullInt h = h
with_null_sized true type.NullBool h = h
with_null_sized true (type.NullText n) h = h

null_sized : (b : Bool) (o : Option ColType) → (is_some o ≡ true → IsSized (unwrap_or o type.Int)) → is_some (option_map (with_null b) o) ≡ true → IsSized (unwrap_or (option_map (with_null b) o) type.Int)
null_sized b (Some t) h some = with_null_sized b t (h refl)
null_sized b None h some = absurd (false≢true some)

abbrev type_as : Bool → Bool → ℤ → Option ColType
type_as int bool size = if int then Some type.Int else if bool then Some type.Bool else option_map type.Text (text_size size)

sized_as : (int bool : Bool) (size : ℤ) → is_some (type_as int bool size) ≡ true → IsSized (unwrap_or (type_as int bool size) type.Int)
sized_as true bool size some = tt
sized_as false true size some = tt
sized_as false false size some = sized_text size some

pub sized_column : (column : ColumnDef) → has_type column ≡ true → IsSized (column_of column).ty
sized_column column some = null_sized column.nullable (plain_column_type column) (sized_as (bytes_eq column.kind (codes "INT")) (bytes_eq column.kind (codes "BOOL")) column.size) some

sized_columns : (columns : List ColumnDef) → list_all has_type columns ≡ true → All (λ (column : Column). IsSized column.ty) (map column_of columns)
sized_columns [] all = All-nil (λ (column : Column). IsSized column.ty)
sized_columns (column ∷ columns) all =
    let parts = and_parts (has_type column) (list_all has_type columns) all in
    All-cons (λ (column : Column). IsSized column.ty) (column_of column) (map column_of columns) (sized_column column parts.0) (sized_columns columns parts.1)

-- ---- names

known_names : (columns : List Column) (names : List (List ℕ)) → find (is_unknown columns) names ≡ None → AreKnown columns names
known_names columns [] none = tt
known_names columns (name ∷ names) none =
    elim (is_unknown columns name) as (λ b. is_unknown columns name ≡ b → cond b (Some name) (find (is_unknown columns) names) ≡ None → AreKnown columns (name ∷ names)) [
      | true ↦ λ _ none. absurd (none-some name (sym none))
      | false ↦ λ known none. (known, known_names columns names none)
    ] refl none

module _ (columns : List Column) where
  -- names that are not refused have different places among the columns
  names_made : (names : List (List ℕ)) → names_refusal columns names ≡ None → All (λ col. col < length columns) (places_of columns names) × IsDifferent (places_of columns names)
  names_made names none =
      let parts = neither (unknown_refusal columns names) (repeated_refusal names) none in
      let known = known_names columns names (none_mapped no_column (find (is_unknown columns) names) parts.0) in
      (places_within columns names known, different_places columns names known (none_mapped repeated_name (first_repeated names) parts.1))

  pub key_columns : (names : List (List ℕ)) → names_refusal columns names ≡ None → is_outside (length names) 4 ≡ false → AreKeyColumns (length columns) (places_of columns names)
  key_columns names none count =
      let made = names_made names none in
      let few = inside (length names) 4 count in
      let long : length (places_of columns names) ≡ length names = length-map names (place_of columns) in
      record { some = let one = few.0 in omega arith; few = let most = few.1 in omega arith; inside = made.0; different = made.1 }

  key_made : (key : List (List ℕ)) → key_refusal columns key ≡ None → AreKeyColumns (length columns) (places_of columns key)
  key_made key none =
      let count = refused_if (is_outside (length key) 4) (refusal.Count count_word.KEY) in
      let parts = neither (names_refusal columns key) (or_else (nullable_refusal columns key) count) none in
      let others = neither (nullable_refusal columns key) count parts.1 in
      key_columns key parts.0 (not_refused (is_outside (length key) 4) (refusal.Count count_word.KEY) others.1)

  plain_names : (names : List (List ℕ)) → find (is_nullable_name columns) names ≡ None → All (λ col. is_nullable (type_at columns col) ≡ false) (places_of columns names)
  plain_names [] none = All-nil (λ col. is_nullable (type_at columns col) ≡ false)
  plain_names (name ∷ names) none =
      elim (is_nullable_name columns name) as (λ b. is_nullable_name columns name ≡ b → cond b (Some name) (find (is_nullable_name columns) names) ≡ None → All (λ col. is_nullable (type_at columns col) ≡ false) (places_of columns (name ∷ names))) [
        | true ↦ λ _ none. absurd (none-some name (sym none))
        | false ↦ λ plain none. All-cons (λ col. is_nullable (type_at columns col) ≡ false) (place_of columns name) (places_of columns names) plain (plain_names names none)
      ] refl none

  key_plain : (key : List (List ℕ)) → key_refusal columns key ≡ None → All (λ col. is_nullable (type_at columns col) ≡ false) (places_of columns key)
  key_plain key none =
      let count = refused_if (is_outside (length key) 4) (refusal.Count count_word.KEY) in
      let parts = neither (names_refusal columns key) (or_else (nullable_refusal columns key) count) none in
      let others = neither (nullable_refusal columns key) count parts.1 in
      plain_names key (none_mapped nullable_key (find (is_nullable_name columns) key) others.0)

  -- ---- limits

  cardinality_made : (n : ℤ) → is_some (cardinality n) ≡ true → (1 ≤ unwrap_or (cardinality n) 0) × (unwrap_or (cardinality n) 0 ≤ 10000)
  cardinality_made (pos n) some =
      elim (nat_le 1 n && nat_le n 10000) as (λ b. (nat_le 1 n && nat_le n 10000) ≡ b → is_some (if b then Some n else None) ≡ true → (1 ≤ unwrap_or (if b then Some n else None) 0) × (unwrap_or (if b then Some n else None) 0 ≤ 10000)) [
        | true ↦ λ is _. let parts = and_parts (nat_le 1 n) (nat_le n 10000) is in (leb-true 1 n parts.0, leb-true n 10000 parts.1)
        | false ↦ λ _ some. absurd (false≢true some)
      ] refl some
  cardinality_made (negsuc n) some = absurd (false≢true some)

  limit_made : (limit : LimitDef) → limit_refusal columns limit ≡ None → IsMadeLimit (length columns) (limit_of_def columns limit)
  limit_made limit none =
      let size = refused_if (not (is_some (cardinality limit.n))) (refusal.Count count_word.CARDINALITY) in
      let count = refused_if (is_outside (length limit.cols) 4) (refusal.Count count_word.LIMIT_COLUMNS) in
      let first = neither (names_refusal columns limit.cols) (or_else count size) none in
      let second = neither count size first.1 in
      let n = cardinality_made limit.n (not-false (is_some (cardinality limit.n)) (not_refused (not (is_some (cardinality limit.n))) (refusal.Count count_word.CARDINALITY) second.1)) in
      record {
        cols = key_columns limit.cols first.0 (not_refused (is_outside (length limit.cols) 4) (refusal.Count count_word.LIMIT_COLUMNS) second.0);
        from_one = n.0;
        most = n.1;
      }

  limits_made : (limits : List LimitDef) → limits_refusal columns limits ≡ None → All (IsMadeLimit (length columns)) (map (limit_of_def columns) limits)
  limits_made [] none = All-nil (IsMadeLimit (length columns))
  limits_made (limit ∷ limits) none =
      let parts = neither (limit_refusal columns limit) (limits_refusal columns limits) none in
      All-cons (IsMadeLimit (length columns)) (limit_of_def columns limit) (map (limit_of_def columns) limits) (limit_made limit parts.0) (limits_made limits parts.1)

  -- ---- foreign keys

  found_table : (schema : Schema) (name : List ℕ) (table : ℕ) → find_table schema name ≡ Some table → (1 ≤ table) × (table < length schema.tables + 1)
  found_table schema name table is = by_place (position (is_table name) schema.tables) refl is
    where
      by_place : (o : Option ℕ) → position (is_table name) schema.tables ≡ o → option_map number_of o ≡ Some table → (1 ≤ table) × (table < length schema.tables + 1)
      by_place None _ is = absurd (none-some table is)
      by_place (Some place) at is =
          let here : place + 1 ≡ table = ap (λ o. unwrap_or o 0) is in
          let within = (position-Some (is_table name) schema.tables place (table_at [] 0) at).0 in
          (omega (arith, here), omega (arith, here, within))

  foreign_made : (schema : Schema) (number : ℕ) (foreign : ForeignDef) → foreign_refusal schema columns number foreign ≡ None → IsMadeForeign schema.tables (length schema.tables + 1) columns (foreign_of_def schema columns foreign)
  foreign_made schema number foreign none = by_table (find_table schema foreign.table) refl parts.1
    where
      parts : (names_refusal columns foreign.cols ≡ None) × (reference_refusal schema columns number foreign (find_table schema foreign.table) ≡ None)
      parts = neither (names_refusal columns foreign.cols) (reference_refusal schema columns number foreign (find_table schema foreign.table)) none

      by_table : (o : Option ℕ) → find_table schema foreign.table ≡ o → reference_refusal schema columns number foreign o ≡ None → IsMadeForeign schema.tables (length schema.tables + 1) columns (record { cols = places_of columns foreign.cols; table = unwrap_or o 0 })
      by_table None _ none = absurd (none-some (refusal.NoTable foreign.table) (sym none))
      by_table (Some table) is none =
          let made = names_made foreign.cols parts.0 in
          let at = found_table schema foreign.table table is in
          record {
            inside = made.0;
            different = made.1;
            from_one = at.0;
            earlier = at.1;
            shape = not-false (has_shape columns foreign.cols (table_at schema.tables table)) (not_refused (not (has_shape columns foreign.cols (table_at schema.tables table))) (refusal.ForeignShape number) none);
          }

  foreigns_made : (schema : Schema) (number : ℕ) (foreign : List ForeignDef) → foreigns_refusal schema columns number foreign ≡ None → All (IsMadeForeign schema.tables (length schema.tables + 1) columns) (map (foreign_of_def schema columns) foreign)
  foreigns_made schema number [] none = All-nil (IsMadeForeign schema.tables (length schema.tables + 1) columns)
  foreigns_made schema number (foreign ∷ rest) none =
      let parts = neither (foreign_refusal schema columns number foreign) (foreigns_refusal schema columns (number + 1) rest) none in
      All-cons (IsMadeForeign schema.tables (length schema.tables + 1) columns) (foreign_of_def schema columns foreign) (map (foreign_of_def schema columns) rest)
      (foreign_made schema number foreign parts.0) (foreigns_made schema (number + 1) rest parts.1)

-- ---- facts by recursion

rec_left : {X : Type 0} (P : X → Type 0) (xs ys : List X) → AllByRecursion P (xs ++ ys) → AllByRecursion P xs
rec_left P [] ys all = tt
rec_left P (x ∷ xs) ys all = (all.0, rec_left P xs ys all.1)

rec_right : {X : Type 0} (P : X → Type 0) (xs ys : List X) → AllByRecursion P (xs ++ ys) → AllByRecursion P ys
rec_right P [] ys all = all
rec_right P (x ∷ xs) ys all = rec_right P xs ys all.1

rec_unmap : {X Y : Type 0} (P : Y → Type 0) (f : X → Y) (xs : List X) → AllByRecursion P (map f xs) → AllByRecursion (λ x. P (f x)) xs
rec_unmap P f [] all = tt
rec_unmap P f (x ∷ xs) all = (all.0, rec_unmap P f xs all.1)

-- what holds of each group holds of each limit's and of each foreign key's columns
limit_columns : (P : List ℕ → Type 0) (table : Table) → AllByRecursion P (groups table) → All (λ (l : Limit). P l.cols) table.limits
limit_columns P table all =
    All-from_recursion (λ (l : Limit). P l.cols) table.limits
    (rec_unmap P (λ (l : Limit). l.cols) table.limits (rec_left P (map (λ (l : Limit). l.cols) table.limits) (map (λ (f : Foreign). f.cols) table.foreign) all))

foreign_columns : (P : List ℕ → Type 0) (table : Table) → AllByRecursion P (groups table) → All (λ (f : Foreign). P f.cols) table.foreign
foreign_columns P table all =
    All-from_recursion (λ (f : Foreign). P f.cols) table.foreign
    (rec_unmap P (λ (f : Foreign). f.cols) table.foreign (rec_right P (map (λ (l : Limit). l.cols) table.limits) (map (λ (f : Foreign). f.cols) table.foreign) all))

pub all_groups : (P : List ℕ → Type 0) (table : Table) → All (λ (l : Limit). P l.cols) table.limits → All (λ (f : Foreign). P f.cols) table.foreign → AllByRecursion P (groups table)
all_groups P table limits foreign =
    recursion_from_All P (groups table)
    (All-append P (map (λ (l : Limit). l.cols) table.limits) (map (λ (f : Foreign). f.cols) table.foreign)
    (All-map P (λ (l : Limit). l.cols) table.limits limits) (All-map P (λ (f : Foreign). f.cols) table.foreign foreign))

-- ---- the table

pub definition_room : (schema : Schema) (name : List ℕ) → definition_refusal schema name ≡ None → length schema.definitions < 256
definition_room schema name none =
    let full = nat_le 256 (length schema.definitions) in
    leb-false 256 (length schema.definitions) (not_refused full (refusal.Count count_word.DEFINITIONS) (neither (refused_if full (refusal.Count count_word.DEFINITIONS)) (refused_if (is_taken schema name) (refusal.NameTaken name)) none).0)

-- its name is that of no other
pub definition_free : (schema : Schema) (name : List ℕ) → definition_refusal schema name ≡ None → is_taken schema name ≡ false
definition_free schema name none =
    not_refused (is_taken schema name) (refusal.NameTaken name) (neither (refused_if (nat_le 256 (length schema.definitions)) (refusal.Count count_word.DEFINITIONS)) (refused_if (is_taken schema name) (refusal.NameTaken name)) none).1

module _ (schema : Schema) (def : TableDef) (none : table_refusal schema def ≡ None) where
  first : (name_refusal schema def.name ≡ None) × (or_else (counts_refusal def) (or_else (columns_refusal def.columns) (groups_refusal schema (map column_of def.columns) def)) ≡ None)
  first = neither (name_refusal schema def.name) (or_else (counts_refusal def) (or_else (columns_refusal def.columns) (groups_refusal schema (map column_of def.columns) def))) none

  second : (counts_refusal def ≡ None) × (or_else (columns_refusal def.columns) (groups_refusal schema (map column_of def.columns) def) ≡ None)
  second = neither (counts_refusal def) (or_else (columns_refusal def.columns) (groups_refusal schema (map column_of def.columns) def)) first.1

  third : (columns_refusal def.columns ≡ None) × (groups_refusal schema (map column_of def.columns) def ≡ None)
  third = neither (columns_refusal def.columns) (groups_refusal schema (map column_of def.columns) def) second.1

  name_parts : (definition_refusal schema def.name ≡ None) × (refused_if (nat_le 64 (length schema.tables)) (refusal.Count count_word.TABLES) ≡ None)
  name_parts = neither (definition_refusal schema def.name) (refused_if (nat_le 64 (length schema.tables)) (refusal.Count count_word.TABLES)) first.0

  pub room : length schema.definitions < 256
  room = definition_room schema def.name name_parts.0

  pub table_room : length schema.tables < 64
  table_room = leb-false 64 (length schema.tables) (not_refused (nat_le 64 (length schema.tables)) (refusal.Count count_word.TABLES) name_parts.1)

  counts_parts : (is_outside (length def.columns) 32 ≡ false) × ((nat_lt 4 (length def.limits) ≡ false) × (nat_lt 4 (length def.foreign) ≡ false))
  counts_parts =
      let limits = refused_if (nat_lt 4 (length def.limits)) (refusal.Count count_word.LIMITS) in
      let foreign = refused_if (nat_lt 4 (length def.foreign)) (refusal.Count count_word.FOREIGN) in
      let one = neither (refused_if (is_outside (length def.columns) 32) (refusal.Count count_word.COLUMNS)) (or_else limits foreign) second.0 in
      let two = neither limits foreign one.1 in (
        not_refused (is_outside (length def.columns) 32) (refusal.Count count_word.COLUMNS) one.0,
        (not_refused (nat_lt 4 (length def.limits)) (refusal.Count count_word.LIMITS) two.0, not_refused (nat_lt 4 (length def.foreign)) (refusal.Count count_word.FOREIGN) two.1),
      )

  pub few_columns : (1 ≤ length def.columns) × (length def.columns ≤ 32)
  few_columns = inside (length def.columns) 32 counts_parts.0

  pub few_limits : length def.limits ≤ 4
  few_limits = ltb-false 4 (length def.limits) counts_parts.1.0

  pub few_foreign : length def.foreign ≤ 4
  few_foreign = ltb-false 4 (length def.foreign) counts_parts.1.1

  types : list_all has_type def.columns ≡ true
  types =
      let names = names_of (map column_of def.columns) in
      let one = neither (refused_if (not (list_all has_type def.columns)) (refusal.Count count_word.TEXT)) (repeated_refusal names) third.0 in
      not-false (list_all has_type def.columns) (not_refused (not (list_all has_type def.columns)) (refusal.Count count_word.TEXT) one.0)

  groups_parts : (key_refusal (map column_of def.columns) def.key ≡ None) × ((limits_refusal (map column_of def.columns) def.limits ≡ None) × (foreigns_refusal schema (map column_of def.columns) 1 def.foreign ≡ None))
  groups_parts =
      let columns = map column_of def.columns in
      let one = neither (key_refusal columns def.key) (or_else (limits_refusal columns def.limits) (foreigns_refusal schema columns 1 def.foreign)) third.1 in
      let two = neither (limits_refusal columns def.limits) (foreigns_refusal schema columns 1 def.foreign) one.1 in
      (one.0, (two.0, two.1))

  wide : length (bare_table schema def).columns ≡ length def.columns
  wide = length-map def.columns column_of

  bare_key : AreKeyColumns (length def.columns) (bare_table schema def).key
  bare_key = subst (λ n. AreKeyColumns n (bare_table schema def).key) wide (key_made (map column_of def.columns) def.key groups_parts.0)

  bare_limits : All (IsMadeLimit (length def.columns)) (bare_table schema def).limits
  bare_limits = subst (λ n. All (IsMadeLimit n) (bare_table schema def).limits) wide (limits_made (map column_of def.columns) def.limits groups_parts.1.0)

  bare_foreign : All (IsMadeForeign schema.tables (length schema.tables + 1) (bare_table schema def).columns) (bare_table schema def).foreign
  bare_foreign = foreigns_made (map column_of def.columns) schema 1 def.foreign groups_parts.1.1

  below : (cols : List ℕ) → All (λ col. col < length def.columns) cols → AreColumns cols
  below cols inside = All-weaker (λ col. col < length def.columns) (λ col. col < 32) (λ col lt. let few = few_columns.1 in omega arith) cols inside

  foreign_inside : All (λ (f : Foreign). All (λ col. col < length def.columns) f.cols) (bare_table schema def).foreign
  foreign_inside =
      All-weaker (IsMadeForeign schema.tables (length schema.tables + 1) (bare_table schema def).columns) (λ (f : Foreign). All (λ col. col < length def.columns) f.cols)
      (λ f made. subst (λ n. All (λ col. col < n) f.cols) wide made.inside) (bare_table schema def).foreign bare_foreign

  pub bare_sound : IsTable (bare_table schema def)
  bare_sound = record {
    key = below (bare_table schema def).key bare_key.inside;
    short = bare_key.few;
    limits = All-weaker (IsMadeLimit (length def.columns)) (λ (l : Limit). AreColumns l.cols) (λ l made. below l.cols made.cols.inside) (bare_table schema def).limits bare_limits;
    sizes = All-weaker (IsMadeLimit (length def.columns)) (λ (l : Limit). l.n ≤ 10000) (λ l made. made.most) (bare_table schema def).limits bare_limits;
    few = let few = few_limits in let long = length-map def.limits (limit_of_def (map column_of def.columns)) in omega (arith, few, long);
    indexes = All-nil (λ (i : Index). All (λ part. part.col < 32) i.cols);
    few_indexes = omega arith;
    few_columns = let few = few_columns.1 in let same = wide in omega (arith, few, same);
  }

  foreign_count : length (bare_table schema def).foreign ≤ 4
  foreign_count = let few = few_foreign in let long = length-map def.foreign (foreign_of_def schema (map column_of def.columns)) in omega (arith, few, long)

  pub is_bare : IsBare (bare_table schema def)
  is_bare = record {
    sound = bare_sound;
    foreign = All-weaker (λ (f : Foreign). All (λ col. col < length def.columns) f.cols) (λ (f : Foreign). AreColumns f.cols) (λ f inside. below f.cols inside) (bare_table schema def).foreign foreign_inside;
    few_foreign = foreign_count;
    indexes = refl;
  }

  each_different : AllByRecursion IsDifferent (groups (bare_table schema def))
  each_different =
      all_groups IsDifferent (bare_table schema def)
      (All-weaker (IsMadeLimit (length def.columns)) (λ (l : Limit). IsDifferent l.cols) (λ l made. made.cols.different) (bare_table schema def).limits bare_limits)
      (All-weaker (IsMadeForeign schema.tables (length schema.tables + 1) (bare_table schema def).columns) (λ (f : Foreign). IsDifferent f.cols) (λ f made. made.different) (bare_table schema def).foreign bare_foreign)

  each_inside : AllByRecursion (λ g. All (λ col. col < length def.columns) g) (groups (bare_table schema def))
  each_inside =
      all_groups (λ g. All (λ col. col < length def.columns) g) (bare_table schema def)
      (All-weaker (IsMadeLimit (length def.columns)) (λ (l : Limit). All (λ col. col < length def.columns) l.cols) (λ l made. made.cols.inside) (bare_table schema def).limits bare_limits)
      foreign_inside

  same : IsAsBefore (bare_table schema def) (table_of_def schema def)
  same = groups_as_before (groups (bare_table schema def)) (bare_table schema def)

  groups_count : length (groups (bare_table schema def)) ≤ 8
  groups_count =
      let limits = map (λ (l : Limit). l.cols) (bare_table schema def).limits in
      let foreign = map (λ (f : Foreign). f.cols) (bare_table schema def).foreign in
      let both = length-append limits foreign in
      let one = length-map (bare_table schema def).limits (λ (l : Limit). l.cols) in
      let two = length-map (bare_table schema def).foreign (λ (f : Foreign). f.cols) in
      let few = bare_sound.few in
      let few_too = foreign_count in
      omega (arith, both, one, two, few, few_too)

  pub made_sound : IsTable (table_of_def schema def)
  made_sound =
      sound_groups (groups (bare_table schema def)) (bare_table schema def) bare_sound
      (all_groups AreColumns (bare_table schema def) bare_sound.limits is_bare.foreign) (let count = groups_count in omega (arith, count))

  columns_same : length (table_of_def schema def).columns ≡ length def.columns
  columns_same = ap (λ (cs : List Column). length cs) same.columns ∙ wide

  each_has : AllByRecursion (λ g. IsSome (group_access (table_of_def schema def) (set_of g))) (groups (bare_table schema def))
  each_has = groups_have (groups (bare_table schema def)) (bare_table schema def) each_different

  pub is_made : IsMade schema.tables (length schema.tables + 1) (table_of_def schema def)
  is_made = record {
    some_columns = let some = few_columns.0 in let long = columns_same in omega (arith, some, long);
    few_columns = made_sound.few_columns;
    sized = subst (λ (cs : List Column). All (λ (column : Column). IsSized column.ty) cs) (sym same.columns) (sized_columns def.columns types);
    fillers = subst (λ (fs : List (Option Value)). AreDefaults (table_of_def schema def).columns fs) (sym same.fillers) (subst (λ (cs : List Column). AreDefaults cs (no_fillers (map column_of def.columns))) (sym same.columns) (none_added (map column_of def.columns)));
    key = subst (AreKeyColumns (length (table_of_def schema def).columns)) (sym same.key) (subst (λ n. AreKeyColumns n (bare_table schema def).key) (sym columns_same) bare_key);
    plain = subst (λ (ks : List ℕ). All (λ col. is_nullable (type_at (table_of_def schema def).columns col) ≡ false) ks) (sym same.key) (subst (λ (cs : List Column). All (λ col. is_nullable (type_at cs col) ≡ false) (bare_table schema def).key) (sym same.columns) (key_plain (map column_of def.columns) def.key groups_parts.0));
    few_limits = made_sound.few;
    limits = subst (λ (ls : List Limit). All (IsMadeLimit (length (table_of_def schema def).columns)) ls) (sym same.limits) (subst (λ n. All (IsMadeLimit n) (bare_table schema def).limits) (sym columns_same) bare_limits);
    few_foreign = subst (λ (fs : List Foreign). length fs ≤ 4) (sym same.foreign) foreign_count;
    foreign =
        subst (λ (fs : List Foreign). All (IsMadeForeign schema.tables (length schema.tables + 1) (table_of_def schema def).columns) fs) (sym same.foreign)
        (subst (λ (cs : List Column). All (IsMadeForeign schema.tables (length schema.tables + 1) cs) (bare_table schema def).foreign) (sym same.columns) bare_foreign);
    few_indexes = made_sound.few_indexes;
    indexes =
        subst (λ n. AreInside n (table_of_def schema def).indexes) (sym columns_same)
        (groups_inside (length def.columns) (groups (bare_table schema def)) (bare_table schema def) (All-nil (λ (i : Index). All (λ part. part.col < length def.columns) i.cols)) each_inside);
    limit_groups =
        subst (λ (ls : List Limit). All (λ (l : Limit). IsSome (group_access (table_of_def schema def) (set_of l.cols))) ls) (sym same.limits)
        (limit_columns (λ g. IsSome (group_access (table_of_def schema def) (set_of g))) (bare_table schema def) each_has);
    foreign_groups =
        subst (λ (fs : List Foreign). All (λ (f : Foreign). IsSome (group_access (table_of_def schema def) (set_of f.cols))) fs) (sym same.foreign)
        (foreign_columns (λ g. IsSome (group_access (table_of_def schema def) (set_of g))) (bare_table schema def) each_has);
  }

-- a table that is made passes every refusal
pub made_none : (schema : Schema) (def : TableDef) (table : Table) → new_table schema def ≡ Ok table → table_refusal schema def ≡ None
unfolding new_table
made_none schema def table made = (accepted (table_refusal schema def) (table_of_def schema def) table made).0

pub made_is : (schema : Schema) (def : TableDef) (table : Table) → new_table schema def ≡ Ok table → table_of_def schema def ≡ table
unfolding new_table
made_is schema def table made = (accepted (table_refusal schema def) (table_of_def schema def) table made).1

pub made_by_def : (schema : Schema) (def : TableDef) (table : Table) → new_table schema def ≡ Ok table → IsMade schema.tables (length schema.tables + 1) table
made_by_def schema def table made =
    subst (IsMade schema.tables (length schema.tables + 1)) (made_is schema def table made) (is_made schema def (made_none schema def table made))

pub made_free : (schema : Schema) (def : TableDef) (table : Table) → new_table schema def ≡ Ok table → is_taken schema table.name ≡ false
made_free schema def table made =
    subst (λ (t : Table). is_taken schema t.name ≡ false) (made_is schema def table made)
    (ap (is_taken schema) (groups_as_before (groups (bare_table schema def)) (bare_table schema def)).name ∙ definition_free schema def.name (name_parts schema def (made_none schema def table made)).0)

-- ---- the loop over the groups

group_columns : (table : Table) → IsBare table → AllByRecursion AreColumns (groups table)
group_columns table bare = all_groups AreColumns table bare.sound.limits bare.foreign

pub group_at : (table : Table) (i : ℕ) (d : List ℕ) → IsBare table → i < length (groups table) → AreColumns (get_or (groups table) i d)
group_at table i d bare there = All-get_or AreColumns (groups table) i d there (All-from_recursion AreColumns (groups table) (group_columns table bare))

pub sound_taken : (table : Table) (i : ℕ) → IsBare table → i < length (groups table) → IsTable (fold with_group table (take i (groups table)))
sound_taken table i bare there =
    let gs = groups table in
    let limits = map (λ (l : Limit). l.cols) table.limits in
    let foreign = map (λ (f : Foreign). f.cols) table.foreign in
    let both = length-append limits foreign in
    let one = length-map table.limits (λ (l : Limit). l.cols) in
    let two = length-map table.foreign (λ (f : Foreign). f.cols) in
    let few = bare.sound.few in
    let few_too = bare.few_foreign in
    let none : length table.indexes ≡ 0 = ap (λ (l : List Index). length l) bare.indexes in
    let short : length (take i gs) ≤ length gs = simp length-take (omega arith) in
    sound_groups (take i gs) table bare.sound
    (recursion_from_All AreColumns (take i gs) (All-take AreColumns i gs (All-from_recursion AreColumns gs (group_columns table bare))))
    (omega (arith, both, one, two, few, few_too, none, short))
