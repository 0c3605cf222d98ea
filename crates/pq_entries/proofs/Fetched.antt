-- The row that an entry names.
use Rattle.std.proofs.Common.{◌≡◌, ℕ, true, false, cond, ◌==◌, inl, inr, List, [], ◌∷◌, map, Option, Some, None, option_map, refl, sym, ap, ◌∙◌, subst}
use Rattle.std.specs.Prelude.{All, IfSome, IsSome, option_to_list}
use Rattle.std.specs.FinMap.{get}
use Rattle.std.proofs.lemmas.Bool.{eq-eqb, eqb-true, false≢true}
use Rattle.pq_base.specs.Columns.{set_of}
use Rattle.pq_base.specs.Members.{In}
use Rattle.pq_base.specs.Shapes.{RowShape}
use Rattle.pq_base.specs.Values.{IsType, FitsType, AllFit}
use Rattle.pq_base.specs.declared.value.Value.{Value}
use Rattle.pq_base.proofs.Members.{filter_in}
use Rattle.pq_base.proofs.Sets.{set_members}
use Rattle.pq_key_code.specs.KeyCode.{row_key}
use Rattle.pq_row_code.specs.StoredRow.{code_as}
use Rattle.pq_row_code.proofs.Stored.{code_as_injective}
use Rattle.pq_schema.specs.declared.table.Access.TheVariants.{Secondary}
use Rattle.pq_schema.specs.declared.table.Table.{Table}
use Rattle.pq_schema.specs.Keys.{given_value, key_types, AllOfKinds}
use Rattle.pq_schema.specs.Rows.{AreApart, agrees}
use Rattle.pq_schema.specs.Sequences.{columns_of, index_sequence, index_numbered}
use Rattle.pq_schema.specs.Tables.{table_at, type_at, types_at}
use Rattle.pq_store.specs.Content.{Content}
use Rattle.pq_store.specs.declared.damage.Broke.{Broke}
use Rattle.pq_store.specs.declared.damage.Damage.{Damage}
use Rattle.pq_calls.specs.Evidence.{IsRead, IsNoRow, IsNoRowAt}
use Rattle.pq_calls.specs.Keys.{sequence_types, named_key}
use Rattle.pq_calls.specs.World.{World, Explains, where_told}
use Rattle.pq_calls.proofs.Shown.{no_row_explains}
use Rattle.pq_calls.proofs.Steps.{explained_as}
use Rattle.pq_content.specs.Pairs.{Pair, HoldsRows, content_pairs}
use Rattle.pq_content.specs.Tables.{Rows, rows_of, row_at, types_of, shape_of, key_of, values_of, stored_code}
use Rattle.pq_content.proofs.Gets.{get_row}
use Rattle.pq_content.proofs.Keeping.{row_found, rows_with_key}
use Rattle.pq_schema.proofs.TypeKinds.{kinds_from_fit}
use Rattle.pq_content.proofs.Values.{key_of_kinds, same_values_itself}
use Rattle.pq_nodes.specs.Operators.{ShowsRead, no_row, missing_row}
use Rattle.pq_nodes.proofs.Undamaged.{entry_names, key_column_there}
use Rattle.pq_entries.specs.Entries.{IsSequence, IsNamedRow, IsEntryThere}

-- ---- the key that values name

given_fits : (table : Table) (cols : List ℕ) (values : List Value) (col : ℕ) → AllFit (types_at table.columns cols) values → In col cols → FitsType (type_at table.columns col) (given_value cols values col)
given_fits table [] values col fits here = absurd here
given_fits table (c ∷ cols) [] col fits here = absurd fits
given_fits table (c ∷ cols) (x ∷ values) col fits here =
    elim (c == col) as (λ b. (c == col) ≡ b → FitsType (type_at table.columns col) (cond b x (given_value cols values col))) [
      | true ↦ λ is. subst (λ (n : ℕ). FitsType (type_at table.columns n) x) (eqb-true c col is) fits.0
      | false ↦ λ is. elim here [
        | inl same ↦ absurd (false≢true (sym is ∙ eq-eqb c col same))
        | inr later ↦ given_fits table cols values col fits.1 later
      ]
    ] refl

-- the values of an entry name a key of the table's kinds
pub named_kinds : (table : Table) (index : ℕ) (values : List Value) → AllFit (sequence_types table (Secondary index)) values → AllOfKinds (key_types table) (named_key table (Secondary index) values)
named_kinds table index values fits =
    let own = index_numbered table index in
    let cols = columns_of (index_sequence table own) in
    kinds_from_fit (key_types table) (map (given_value cols values) table.key)
    (each table.key (λ col here. given_fits table cols values col fits (key_column_there own.cols (set_of (columns_of own.cols)) table.key col (set_members (columns_of own.cols)) here)))
  where
    each : (key : List ℕ) → ((col : ℕ) → In col key → FitsType (type_at table.columns col) (given_value (columns_of (index_sequence table (index_numbered table index))) values col)) → AllFit (types_at table.columns key) (map (given_value (columns_of (index_sequence table (index_numbered table index))) values) key)
    each [] h = tt
    each (col ∷ key) h = (h col (inl refl), each key (λ c here. h c (inr here)))

-- ---- why a fetch gives up

pub fetch_explains : (tables : List Table) (t index : ℕ) (values : List Value) → IsSequence tables t (Secondary index) → AllFit (sequence_types (table_at tables t) (Secondary index)) values → (a b : World) (error : Broke) → Explains (IsNoRowAt (shape_of (table_at tables t)) (row_key t (named_key (table_at tables t) (Secondary index) values))) a b error → Explains (where_told (ShowsRead tables)) a b error
fetch_explains tables t index values is fits a b error h =
    explained_as (where_told (IsNoRow tables)) (where_told (ShowsRead tables)) (λ told damage shown. shows told damage shown) a b error
    (no_row_explains tables t (named_key (table_at tables t) (Secondary index) values) is.number (named_kinds (table_at tables t) index values fits) a b error h)
  where
    shows : (told : Option Content) (damage : Damage) → where_told (IsNoRow tables) told damage → where_told (ShowsRead tables) told damage
    shows None damage shown = tt
    shows (Some content) damage shown = no_row shown

pub missing_shows : (tables : List Table) (t index : ℕ) (values key : List Value) (at : List ℕ) → IsSequence tables t (Secondary index) → AllFit (sequence_types (table_at tables t) (Secondary index)) values → key ≡ named_key (table_at tables t) (Secondary index) values → at ≡ row_key t key → (told : Option Content) → IsEntryThere t (table_at tables t) index told values → IfSome told (λ content. IsRead (shape_of (table_at tables t)) (get content (row_key t key)) None) → where_told (ShowsRead tables) told (record { key = at; value = None })
missing_shows tables t index values key at is fits names at_is None there read = tt
missing_shows tables t index values key at is fits names at_is (Some content) there read =
    let found = some_is _ there in
    missing_row record {
      table = t;
      index = index;
      values = values;
      entry = found.0;
      number = is.number;
      access = is.is_access;
      fits = fits;
      there = found.1;
      at = at_is ∙ ap (row_key t) names;
      has = refl;
      absent = ap (get content) at_is ∙ unread (get content (row_key t key)) read;
    }
  where
    some_is : {X : Type 0} (o : Option X) → IsSome o → (x : X) × (o ≡ Some x)
    some_is None h = absurd (false≢true h)
    some_is (Some x) h = (x, refl)

    unread : (o : Option (List ℕ)) → IsRead (shape_of (table_at tables t)) o None → o ≡ None
    unread None h = refl
    unread (Some code) h = absurd h

-- ---- the row that is fetched

-- it stands at the key, whatever the content
pub named : (t index : ℕ) (table : Table) (values key found : List Value) → key ≡ named_key table (Secondary index) values → (told : Option Content) → IfSome told (λ content. IsRead (shape_of table) (get content (row_key t key)) (Some found)) → IfSome told (IsNamedRow t table index values found)
named t index table values key found names None read = tt
named t index table values key found names (Some content) read =
    ap (λ (k : List Value). get content (row_key t k)) (sym names) ∙ is_code (shape_of table) (get content (row_key t key)) read
  where
    is_code : (shape : RowShape) (o : Option (List ℕ)) → IsRead shape o (Some found) → o ≡ Some (code_as shape found)
    is_code shape None h = absurd h
    is_code shape (Some code) h = ap Some (sym h.1)

-- a row of a table is found by its key
pub found_by_key : (tables : List Table) (rows : Rows) (t : ℕ) (row : List Value) → AreApart tables rows → In row (rows_of t rows) → row_at tables rows t (key_of (table_at tables t) row) ≡ Some row
found_by_key tables rows t row apart here =
    let key = key_of (table_at tables t) row in
    only (row_at tables rows t key)
    (subst (In row) (rows_with_key tables rows t key apart) (filter_in (agrees (table_at tables t).key key) row (rows_of t rows) here (same_values_itself key)))
  where
    only : (o : Option (List Value)) → In row (option_to_list o) → o ≡ Some row
    only None h = absurd h
    only (Some r) (inl same) = ap Some same
    only (Some r) (inr h) = absurd h

pub fetched : (tables : List Table) (t index : ℕ) (values key found : List Value) → All IsType (types_of (table_at tables t)) → key ≡ named_key (table_at tables t) (Secondary index) values → (told : Option Content) → IfSome told (λ content. IsRead (shape_of (table_at tables t)) (get content (row_key t key)) (Some found)) → (rows : Rows) (others : List Pair) (row : List Value) → HoldsRows told tables rows others → In row (rows_of t rows) → values ≡ values_of (index_sequence (table_at tables t) (index_numbered (table_at tables t) index)) row → found ≡ row
fetched tables t index values key found types names told read rows others row holds here is =
    let table = table_at tables t in
    let sequence = index_sequence table (index_numbered table index) in
    let at = found_by_key tables rows t row holds.keeps.apart here in
    let fits = (row_found tables rows t (key_of table row) row holds.keeps at).fits in
    let own : key ≡ key_of table row = names ∙ ap (λ (vs : List Value). map (given_value (columns_of sequence) vs) table.key) is ∙ entry_names table (index_numbered table index) row in
    let held : get (content_pairs tables rows others) (row_key t key) ≡ Some (stored_code table row) =
    ap (λ (k : List Value). get (content_pairs tables rows others) (row_key t k)) own
    ∙ get_row tables rows others t (key_of table row) holds.keeps.fit (key_of_kinds table row fits) holds.beside
    ∙ ap (option_map (stored_code table)) at in
    let shown : IsRead (shape_of table) (Some (stored_code table row)) (Some found) =
    subst (λ (o : Option (List ℕ)). IsRead (shape_of table) o (Some found)) held
    (subst (λ (o : Option Content). IfSome o (λ content. IsRead (shape_of table) (get content (row_key t key)) (Some found))) holds.is read) in
    code_as_injective (shape_of table) found row types shown.0 fits shown.1
