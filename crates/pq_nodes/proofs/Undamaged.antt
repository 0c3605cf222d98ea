-- A content that holds rows shows no damage: whatever key of rows or entries it has is a row's.
use Rattle.std.proofs.Common.{◌≡◌, ℕ, ◌+◌, ◌-◌, ◌≤◌, true, false, cond, not, ◌==◌, inl, inr, List, [], ◌∷◌, ◌++◌, length, get_or, map, replicate, Option, Some, None, option_map, refl, sym, ap, ◌∙◌, subst, arith}
use Rattle.std.specs.Prelude.{slice_get}
use Rattle.std.specs.Cmp.Lexicographic.{nat_list_cmp_total}
use Rattle.std.specs.FinMap.{find, get, get-from_entries}
use Rattle.std.proofs.lemmas.Bool.{eq-eqb, eqb-true, false≢true}
use Rattle.std.proofs.lemmas.List.{length-map}
use Rattle.std.proofs.lemmas.Option.{same_Some, none-some, get_or_from_slice_get}
use Rattle.pq_base.specs.Columns.{has_col, set_of}
use Rattle.pq_base.specs.Members.{In}
use Rattle.pq_base.specs.Values.{AllFit}
use Rattle.pq_base.specs.declared.value.Dir.{Dir}
use Rattle.pq_base.specs.declared.value.Dir.TheVariants.{Asc}
use Rattle.pq_base.specs.declared.value.Value.{Value}
use Rattle.pq_base.proofs.Members.{found, each_in, filter_in, in_left, in_right}
use Rattle.pq_base.proofs.Sets.{set_members}
use Rattle.pq_key_code.specs.KeyCode.{row_key, entry_key, code_of}
use Rattle.pq_schema.specs.declared.table.Access.{Access}
use Rattle.pq_schema.specs.declared.table.Access.TheVariants.{Primary, Secondary}
use Rattle.pq_schema.specs.declared.table.Index.{Index}
use Rattle.pq_schema.specs.declared.table.KeyPart.{KeyPart}
use Rattle.pq_schema.specs.declared.table.Table.{Table}
use Rattle.pq_schema.specs.Keys.{given_value}
use Rattle.pq_schema.specs.Sequences.{ascending_part, columns_of, without, then_key, index_sequence, index_numbered, no_index}
use Rattle.pq_schema.specs.Tables.{table_at}
use Rattle.pq_store.specs.Content.{Content, key_cmp}
use Rattle.pq_store.specs.declared.damage.Broke.{Broke}
use Rattle.pq_store.specs.declared.damage.Damage.{Damage}
use Rattle.pq_calls.specs.Evidence.{IsNoRow, IsMissingRow, IsNoKey}
use Rattle.pq_calls.specs.Keys.{sequence_key, sequence_types, named_key}
use Rattle.pq_calls.specs.World.{World, where_told}
use Rattle.pq_calls.proofs.Steps.{explained_undamaged}
use Rattle.pq_content.specs.Pairs.{Pair, AreBeside, pairs_of_row, row_pairs, content_pairs, is_of_rows}
use Rattle.pq_content.specs.Tables.{Rows, Keeps, rows_of, type_at, types_of, types_at, key_of, value_of, values_of, dirs_of, cells, agrees, row_at, stored_code}
use Rattle.pq_content.proofs.Find.{find_front}
use Rattle.pq_content.proofs.Gets.{get_row}
use Rattle.pq_content.proofs.Keeping.{row_found}
use Rattle.pq_content.proofs.Keys.{not_beside, sequences_apart}
use Rattle.pq_content.proofs.Owners.{pair_found, entry_found}
use Rattle.pq_content.proofs.Permuted.{found_piece}
use Rattle.pq_content.proofs.Scans.{columns_of-primary}
use Rattle.pq_schema.proofs.TypeKinds.{kinds_from_fit}
use Rattle.pq_content.proofs.Values.{key_fits, key_of_kinds, length_from_kinds, sequence_fits, same_values_itself, values_of-columns_of}
use Rattle.pq_nodes.specs.Operators.{ShowsRead, no_row, missing_row, no_key, StopsReading, IsSoundOverRows}

-- ---- the key that the values of an entry name

given_cells : (cols : List ℕ) (row : List Value) (col : ℕ) → In col cols → given_value cols (cells cols row) col ≡ value_of row col
given_cells [] row col here = absurd here
given_cells (c ∷ cols) row col here =
    elim (c == col) as (λ b. (c == col) ≡ b → cond b (value_of row c) (given_value cols (cells cols row) col) ≡ value_of row col) [
      | true ↦ λ is. ap (value_of row) (eqb-true c col is)
      | false ↦ λ is. elim here [
        | inl same ↦ absurd (false≢true (sym is ∙ eq-eqb c col same))
        | inr later ↦ given_cells cols row col later
      ]
    ] refl

-- each column of a key is in a sequence that ends with the key's columns left
pub key_column_there : (parts : List KeyPart) (set : ℕ) (key : List ℕ) (col : ℕ) → ((c : ℕ) → has_col set c ≡ true → In c (columns_of parts)) → In col key → In col (columns_of (then_key parts set key))
key_column_there parts set key col among here =
    subst (In col) (sym (columns_then parts (map ascending_part (without set key)) ∙ ap (λ (l : List ℕ). columns_of parts ++ l) (columns_of-primary (without set key))))
    (elim (has_col set col) as (λ b. has_col set col ≡ b → In col (columns_of parts ++ without set key)) [
      | true ↦ λ is. in_left col (columns_of parts) (without set key) (among col is)
      | false ↦ λ is. in_right col (columns_of parts) (without set key) (filter_in (λ c. not (has_col set c)) col key here (ap not is))
    ] refl)
  where
    columns_then : (ps qs : List KeyPart) → columns_of (ps ++ qs) ≡ columns_of ps ++ columns_of qs
    columns_then [] qs = refl
    columns_then (p ∷ ps) qs = ap (λ (l : List ℕ). p.col ∷ l) (columns_then ps qs)

-- the values of an entry name the key of its row
pub entry_names : (table : Table) (index : Index) (row : List Value) → map (given_value (columns_of (index_sequence table index)) (values_of (index_sequence table index) row)) table.key ≡ key_of table row
entry_names table index row =
    let sequence = index_sequence table index in
    let set = set_of (columns_of index.cols) in
    ap (λ (vs : List Value). map (given_value (columns_of sequence) vs) table.key) (values_of-columns_of sequence row)
    ∙ each_given table.key (λ col here. given_cells (columns_of sequence) row col (key_column_there index.cols set table.key col (set_members (columns_of index.cols)) here))
  where
    each_given : (key : List ℕ) → ((col : ℕ) → In col key → given_value (columns_of (index_sequence table index)) (cells (columns_of (index_sequence table index)) row) col ≡ value_of row col) → map (given_value (columns_of (index_sequence table index)) (cells (columns_of (index_sequence table index)) row)) key ≡ cells key row
    each_given [] h = refl
    each_given (col ∷ key) h =
        let first = h col (inl refl) in
        let rest = each_given key (λ c here. h c (inr here)) in
        λ i. first i ∷ rest i

-- ---- which row a key of rows or entries is of

-- the row that has a key of rows, by the bytes behind the table's number
pub record HasRowKey (tables : List Table) (rows : Rows) (t : ℕ) (bytes : List ℕ) : Type 0 where
  pub row : List Value
  pub there : In (t, row) rows
  pub code : bytes ≡ code_of (replicate (length (key_of (table_at tables t) row)) Asc) (key_of (table_at tables t) row)

-- the row that has a key of entries, and the index, by the bytes behind its number
pub record HasEntryKey (tables : List Table) (rows : Rows) (t i : ℕ) (bytes : List ℕ) : Type 0 where
  pub row : List Value
  pub there : In (t, row) rows
  pub from_one : 1 ≤ i
  pub code : bytes ≡ code_of (dirs_of (index_sequence (table_at tables t) (index_numbered (table_at tables t) i))) (values_of (index_sequence (table_at tables t) (index_numbered (table_at tables t) i)) row)

module _ (tables : List Table) (rows : Rows) (others : List Pair) (beside : AreBeside others) where
  abbrev content : Content
  content = content_pairs tables rows others

  owner : (key value : List ℕ) → is_of_rows key ≡ true → get content key ≡ Some value → (e : ℕ × List Value) × In e rows × (find key_cmp key (pairs_of_row e.0 (table_at tables e.0) e.1) ≡ Some value)
  unfolding content_pairs
  owner key value of_rows there =
      found_piece (λ (e : ℕ × List Value). pairs_of_row e.0 (table_at tables e.0) e.1) key value rows
      (sym (find_front key_cmp key (row_pairs tables rows) others (not_beside others key beside of_rows))
      ∙ sym (get-from_entries nat_list_cmp_total (row_pairs tables rows ++ others) key)
      ∙ there)

  first : {a b : ℕ} {xs ys : List ℕ} → a ∷ xs ≡ b ∷ ys → a ≡ b
  first e = cc

  pub row_key_of : (t : ℕ) (bytes value : List ℕ) → get content (2 ∷ t ∷ bytes) ≡ Some value → HasRowKey tables rows t bytes
  row_key_of t bytes value there =
      let e = owner (2 ∷ t ∷ bytes) value refl there in
      let table = table_at tables e.0.0 in
      elim (pair_found e.0.0 table e.0.1 (2 ∷ t ∷ bytes) value e.2) [
        | inl own ↦ by_table e.0.0 e.0.1 e.1 own
        | inr entry ↦ absurd (let k = (entry_found e.0.0 1 table table.indexes e.0.1 (2 ∷ t ∷ bytes) value entry).key_is in let two = first k in omega (arith, two))
      ]
    where
      by_table : (u : ℕ) (row : List Value) → In (u, row) rows → 2 ∷ t ∷ bytes ≡ row_key u (key_of (table_at tables u) row) → HasRowKey tables rows t bytes
      by_table u row here e =
          let same : u ≡ t = cc in
          let code : bytes ≡ code_of (replicate (length (key_of (table_at tables u) row)) Asc) (key_of (table_at tables u) row) = cc in
          record {
            row = row;
            there = subst (λ (n : ℕ). In (n, row) rows) same here;
            code = code ∙ ap (λ (n : ℕ). code_of (replicate (length (key_of (table_at tables n) row)) Asc) (key_of (table_at tables n) row)) same;
          }

  pub entry_key_of : (t i : ℕ) (bytes value : List ℕ) → get content (3 ∷ t ∷ i ∷ bytes) ≡ Some value → HasEntryKey tables rows t i bytes
  entry_key_of t i bytes value there =
      let e = owner (3 ∷ t ∷ i ∷ bytes) value refl there in
      let table = table_at tables e.0.0 in
      elim (pair_found e.0.0 table e.0.1 (3 ∷ t ∷ i ∷ bytes) value e.2) [
        | inl own ↦ absurd (let three = first own in omega (arith, three))
        | inr entry ↦
            let is = entry_found e.0.0 1 table table.indexes e.0.1 (3 ∷ t ∷ i ∷ bytes) value entry in
            by_table e.0.0 e.0.1 e.1 is.place is.index is.there is.key_is
      ]
    where
      by_table : (u : ℕ) (row : List Value) → In (u, row) rows → (place : ℕ) (index : Index) → slice_get (table_at tables u).indexes place ≡ Some index → 3 ∷ t ∷ i ∷ bytes ≡ entry_key u (1 + place) (dirs_of (index_sequence (table_at tables u) index)) (values_of (index_sequence (table_at tables u) index) row) → HasEntryKey tables rows t i bytes
      by_table u row here place index has e =
          let same : u ≡ t = cc in
          let number : i ≡ 1 + place = cc in
          let code : bytes ≡ code_of (dirs_of (index_sequence (table_at tables u) index)) (values_of (index_sequence (table_at tables u) index) row) = cc in
          let at : place ≡ i - 1 = omega arith in
          let is : index ≡ index_numbered (table_at tables u) i =
          sym (get_or_from_slice_get (table_at tables u).indexes place index no_index has) ∙ ap (λ (n : ℕ). get_or (table_at tables u).indexes n no_index) at in
          record {
            row = row;
            there = subst (λ (n : ℕ). In (n, row) rows) same here;
            from_one = omega arith;
            code =
                code
                ∙ ap (λ (x : Index). code_of (dirs_of (index_sequence (table_at tables u) x)) (values_of (index_sequence (table_at tables u) x) row)) is
                ∙ ap (λ (n : ℕ). code_of (dirs_of (index_sequence (table_at tables n) (index_numbered (table_at tables n) i))) (values_of (index_sequence (table_at tables n) (index_numbered (table_at tables n) i)) row)) same;
          }

  module _ (keeps : Keeps tables rows) where
    row_fits : (t : ℕ) (row : List Value) → In (t, row) rows → AllFit (types_of (table_at tables t)) row
    row_fits t row here = each_in (λ (e : ℕ × List Value). AllFit (types_of (table_at tables e.0)) e.1) rows keeps.fit (t, row) here

    -- no key of a sequence is the code of no values
    no_such_key : (t : ℕ) (access : Access) (rest value : List ℕ) → get content (sequence_key t (table_at tables t) access [] ++ rest) ≡ Some value
        → ((values : List Value) → AllFit (sequence_types (table_at tables t) access) values → sequence_key t (table_at tables t) access values ≡ sequence_key t (table_at tables t) access [] ++ rest → ⊥) → ⊥
    no_such_key t Primary rest value there none =
        let table = table_at tables t in
        let is = row_key_of t rest value there in
        none (key_of table is.row)
        (subst (λ (cols : List ℕ). AllFit (types_at table.columns cols) (key_of table is.row)) (sym (columns_of-primary table.key)) (key_fits table is.row (row_fits t is.row is.there)))
        (ap (λ (bytes : List ℕ). 2 ∷ t ∷ bytes) (sym is.code))
    no_such_key t (Secondary number) rest value there none =
        let table = table_at tables t in
        let sequence = index_sequence table (index_numbered table number) in
        let bare = no_code (dirs_of sequence) in
        let front : 3 ∷ t ∷ number ∷ code_of (dirs_of sequence) [] ++ rest ≡ 3 ∷ t ∷ number ∷ rest = ap (λ (c : List ℕ). 3 ∷ t ∷ number ∷ c ++ rest) bare in
        let is = entry_key_of t number rest value (sym (ap (get content) front) ∙ there) in
        none (values_of sequence is.row) (sequence_fits table sequence is.row (row_fits t is.row is.there))
        (ap (λ (bytes : List ℕ). 3 ∷ t ∷ number ∷ bytes) (sym is.code) ∙ sym front)
      where
        no_code : (ds : List Dir) → code_of ds [] ≡ []
        no_code [] = refl
        no_code (d ∷ ds) = refl

    no_key_shown : (damage : Damage) → IsNoKey tables content damage → ⊥
    no_key_shown damage h =
        no_such_key h.table h.access h.rest h.value (sym (ap (get content) h.at) ∙ h.there)
        (λ values fits is. h.no_values values fits (is ∙ sym h.at))

    -- no row's value is the code of none
    no_row_shown : (damage : Damage) → IsNoRow tables content damage → ⊥
    no_row_shown damage h =
        unspoiled h.key (row_at tables rows h.table h.key) refl (sym (get_row tables rows others h.table h.key keeps.fit h.kinds beside) ∙ h.shown.there)
      where
        unspoiled : (key : List Value) (o : Option (List Value)) → row_at tables rows h.table key ≡ o → option_map (stored_code (table_at tables h.table)) o ≡ Some h.shown.code → ⊥
        unspoiled key None is e = none-some _ e
        unspoiled key (Some r) is e = h.shown.no_row r (row_found tables rows h.table key r keeps is).fits (same_Some _ _ e)

    -- the row that an entry names is there
    pub row_there : (t : ℕ) (row : List Value) → In (t, row) rows → row_at tables rows t (key_of (table_at tables t) row) ≡ None → ⊥
    row_there t row here none =
        let f = found (agrees (table_at tables t).key (key_of (table_at tables t) row)) (rows_of t rows) row (in_rows_of t row rows here) (same_values_itself (key_of (table_at tables t) row)) in
        none-some f.0 (sym none ∙ f.1)
      where
        in_rows_of : (t : ℕ) (row : List Value) (rows : Rows) → In (t, row) rows → In row (rows_of t rows)
        in_rows_of t row [] here = here
        in_rows_of t row (e ∷ es) here =
            elim (e.0 == t) as (λ b. (e.0 == t) ≡ b → In row (cond b (e.1 ∷ rows_of t es) (rows_of t es))) [
              | true ↦ λ _. elim here [ inl same ↦ inl (ap (λ (x : ℕ × List Value). x.1) same) | inr later ↦ inr (in_rows_of t row es later) ]
              | false ↦ λ is. elim here [
                | inl same ↦ absurd (false≢true (sym is ∙ eq-eqb e.0 t (ap (λ (x : ℕ × List Value). x.0) same)))
                | inr later ↦ in_rows_of t row es later
              ]
            ] refl

    missing_row_shown : (damage : Damage) → IsMissingRow tables content damage → ⊥
    missing_row_shown damage h =
        let table = table_at tables h.table in
        let index = index_numbered table h.index in
        let sequence = index_sequence table index in
        let types = types_at table.columns (columns_of sequence) in
        let is = entry_key_of h.table h.index (code_of (dirs_of sequence) h.values) h.entry h.there in
        let fits = row_fits h.table is.row is.there in
        let kinds = kinds_from_fit types h.values h.fits in
        let long = length_from_kinds types h.values kinds in
        let width = length-map (columns_of sequence) (type_at table.columns) in
        let columns = length-map sequence (λ (part : KeyPart). part.col) in
        let dirs = length-map sequence (λ (part : KeyPart). part.dir) in
        let values : h.values ≡ values_of sequence is.row =
        sequences_apart types (dirs_of sequence) h.values (values_of sequence is.row) kinds (kinds_from_fit types (values_of sequence is.row) (sequence_fits table sequence is.row fits)) (omega (arith, long, width, columns, dirs)) is.code in
        let named : named_key table (Secondary h.index) h.values ≡ key_of table is.row = ap (λ (vs : List Value). map (given_value (columns_of sequence) vs) table.key) values ∙ entry_names table index is.row in
        let absent : get content (row_key h.table (key_of table is.row)) ≡ None = ap (λ (k : List Value). get content (row_key h.table k)) (sym named) ∙ sym (ap (get content) h.at) ∙ h.absent in
        row_there h.table is.row is.there
        (unmapped (row_at tables rows h.table (key_of table is.row)) (sym (get_row tables rows others h.table (key_of table is.row) keeps.fit (key_of_kinds table is.row fits) beside) ∙ absent))
      where
        unmapped : (o : Option (List Value)) → option_map (stored_code (table_at tables h.table)) o ≡ None → o ≡ None
        unmapped None e = refl
        unmapped (Some r) e = absurd (none-some _ (sym e))

    none_shown : (damage : Damage) → ShowsRead tables content damage → ⊥
    none_shown damage (no_row h) = no_row_shown damage h
    none_shown damage (missing_row h) = missing_row_shown damage h
    none_shown damage (no_key h) = no_key_shown damage h

-- so a read tells no damage over a content that holds rows
pub read_undamaged : (tables : List Table) (a b : World) (error : Broke) → StopsReading tables a b error → IsSoundOverRows a.told tables error
read_undamaged tables a b error why rows others holds =
    explained_undamaged (where_told (ShowsRead tables)) a b error
    (λ damage shown. none_shown tables rows others holds.beside holds.keeps damage
    (subst (λ (o : Option Content). where_told (ShowsRead tables) o damage) holds.is shown))
    why
