-- What a range of a table's rows answers, and how many pairs it has.
use Rattle.std.proofs.Common.{◌≡◌, ℕ, ◌+◌, Bool, true, false, cond, ◌&&◌, ◌==◌, List, [], ◌∷◌, ◌++◌, length, map, replicate, flat_map, refl, sym, ap, ◌∙◌, ◌||◌}
use Rattle.std.specs.Prelude.{filter}
use Rattle.std.specs.Ordering.{is_eq}
use Rattle.std.specs.List.{AllByRecursion}
use Rattle.std.specs.FinMap.{entries, from_entries}
use Rattle.std.specs.FinMap.Entries.{where_key}
use Rattle.std.specs.Cmp.Lexicographic.{nat_list_cmp_total}
use Rattle.std.proofs.lemmas.Bool.{eqb-true, false≢true}
use Rattle.std.proofs.lemmas.List.{append-nil, length-map}
use Rattle.std.proofs.lemmas.List.Elements.{filter-append}
use Rattle.pq_base.specs.declared.value.Dir.TheVariants.{Asc}
use Rattle.pq_base.specs.declared.value.Value.{Value}
use Rattle.pq_base.specs.Order.{position_cmp}
use Rattle.pq_schema.specs.declared.table.Index.{Index}
use Rattle.pq_schema.specs.declared.table.KeyPart.{KeyPart}
use Rattle.pq_schema.specs.declared.table.Table.{Table}
use Rattle.pq_schema.specs.Sequences.{primary_sequence}
use Rattle.pq_schema.specs.Tables.{table_at}
use Rattle.pq_content.specs.Pairs.{Pair, AreBeside, row_pair, entries_from, pairs_of_row, row_pairs, content_pairs, is_of_rows}
use Rattle.pq_key_code.specs.KeyCode.{row_key, code_of}
use Rattle.pq_store.specs.Content.{key_cmp, pairs_within}
use Rattle.pq_base.specs.Sorting.{sort_by}
use Rattle.pq_base.specs.Values.{AllFit}
use Rattle.pq_content.specs.Tables.{Rows, rows_of, types_of, value_of, key_of, values_of, dirs_of, agrees, AreApart, stored_code}
use Rattle.pq_content.proofs.Gets.{EachFits}
use Rattle.pq_content.proofs.Keys.{cmp-cons}
use Rattle.pq_content.proofs.Ranges.{where_from, where-flat_map, in_range, range-cons}
use Rattle.pq_base.proofs.Sorts.{entries-sort_by, EachAgree, Agree, length-sort_by}
use Rattle.pq_content.proofs.TableRows.{AreRows, AreRows-filter, rows_are, Determines, primary_determines, values_of-primary, dirs_of-primary, code_order, code_apart}

cmp-front : (front a b : List ℕ) → key_cmp (front ++ a) (front ++ b) ≡ key_cmp a b
cmp-front [] a b = refl
cmp-front (x ∷ front) a b = cmp-cons x (front ++ a) (front ++ b) ∙ cmp-front front a b

-- ---- pairs of rows in the order of a sequence

module _ (table : Table) (sequence : List KeyPart) (determines : Determines table sequence) (front : List ℕ) (value : List Value → List ℕ) where
  -- the pair of a row: what comes first, the code of its values in the sequence, and the value
  abbrev pub pair_by : List Value → Pair
  pair_by row = (front ++ code_of (dirs_of sequence) (values_of sequence row), value row)

  agree : (rows : List (List Value)) → AreRows table rows → EachAgree (position_cmp (dirs_of sequence)) (values_of sequence) key_cmp pair_by rows
  agree [] h = tt
  agree (row ∷ rows) h = (each row rows h.0 h.1 h.2, agree rows h.2)
    where
      each : (row : List Value) (others : List (List Value)) → AllFit (types_of table) row → AllByRecursion (λ other. agrees table.key (key_of table row) other ≡ false) others → AreRows table others → AllByRecursion (Agree (position_cmp (dirs_of sequence)) (values_of sequence) key_cmp pair_by row) others
      each row [] f apart h = tt
      each row (other ∷ others) f apart h =
          let a = code_of (dirs_of sequence) (values_of sequence row) in
          let b = code_of (dirs_of sequence) (values_of sequence other) in
          let order = code_order table sequence row other f h.0 in
          ((cmp-front front a b ∙ order, ap is_eq (sym order) ∙ code_apart table sequence row other determines f h.0 apart.0), each row others f apart.1 h.2)

  pub sorted_pairs : (rows : List (List Value)) → AreRows table rows → entries (from_entries {R = key_cmp} (map pair_by rows)) ≡ map pair_by (sort_by (position_cmp (dirs_of sequence)) (values_of sequence) rows)
  sorted_pairs rows h = entries-sort_by (position_cmp (dirs_of sequence)) (values_of sequence) key_cmp pair_by nat_list_cmp_total rows (agree rows h)

-- ---- a range of a table's rows

pub map_same : {X Y : Type 0} (f g : X → Y) → ((x : X) → f x ≡ g x) → (xs : List X) → map f xs ≡ map g xs
map_same f g h [] = refl
map_same f g h (x ∷ xs) = λ i. h x i ∷ map_same f g h xs i

-- pairs beside the rows have no key in a range of theirs
pub beside_outside : (space : ℕ) (low high : List ℕ) (others : List Pair) → is_of_rows (space ∷ []) ≡ true → AreBeside others → where_key key_cmp (in_range (space ∷ low) (space ∷ high)) others ≡ []
beside_outside space low high [] other h = refl
beside_outside space low high (e ∷ es) other h =
    ap (λ b. cond b (e ∷ where_key key_cmp (in_range (space ∷ low) (space ∷ high)) es) (where_key key_cmp (in_range (space ∷ low) (space ∷ high)) es)) (outside e.0 h.0)
    ∙ beside_outside space low high es other h.1
  where
    another : (b : ℕ) (bs : List ℕ) → is_of_rows (b ∷ bs) ≡ false → (b == space) ≡ false
    another b bs apart =
        elim (b == space) as (λ c. (b == space) ≡ c → c ≡ false) [
          | true ↦ λ is. absurd (false≢true (sym apart ∙ ap (λ (x : ℕ). x == 2 || x == 3) (eqb-true b space is) ∙ other))
          | false ↦ λ _. refl
        ] refl

    outside : (k : List ℕ) → is_of_rows k ≡ false → in_range (space ∷ low) (space ∷ high) k ≡ false
    outside [] apart = refl
    outside (b ∷ bs) apart = range-cons space b low high bs ∙ ap (λ c. c && in_range low high bs) (another b bs apart)

module _ (t : ℕ) (low high : List ℕ) where
  -- the code of a row's key
  abbrev pub key_bytes : Table → List Value → List ℕ
  key_bytes table row = code_of (replicate (length (key_of table row)) Asc) (key_of table row)

  abbrev in_rows : List ℕ → Bool
  in_rows = in_range (2 ∷ t ∷ low) (2 ∷ t ∷ high)

  in_rows_row : (u : ℕ) (key : List Value) → in_rows (row_key u key) ≡ ((u == t) && in_range low high (code_of (replicate (length key) Asc) key))
  in_rows_row u key =
      let code = code_of (replicate (length key) Asc) key in
      range-cons 2 2 (t ∷ low) (t ∷ high) (u ∷ code) ∙ range-cons t u low high code

  no_entries : (u i : ℕ) (table : Table) (indexes : List Index) (row : List Value) → where_key key_cmp in_rows (entries_from u i table indexes row) ≡ []
  no_entries u i table [] row = refl
  no_entries u i table (index ∷ indexes) row = no_entries u (i + 1) table indexes row

  -- the rows of the table whose codes are in the range
  abbrev pub rows_within : List Table → Rows → List (List Value)
  rows_within tables rows = filter (λ row. in_range low high (key_bytes (table_at tables t) row)) (rows_of t rows)

  own_pair : (tables : List Table) (e : ℕ × List Value) → where_key key_cmp in_rows (pairs_of_row e.0 (table_at tables e.0) e.1) ≡ cond ((e.0 == t) && in_range low high (key_bytes (table_at tables t) e.1)) (row_pair t (table_at tables t) e.1 ∷ []) []
  own_pair tables e =
      let table = table_at tables e.0 in
      let own = row_pair e.0 table e.1 in
      ap (λ l. cond (in_rows own.0) (own ∷ l) l) (no_entries e.0 1 table table.indexes e.1)
      ∙ ap (λ b. cond b (own ∷ []) []) (in_rows_row e.0 (key_of table e.1))
      ∙ elim (e.0 == t) as (λ b. (e.0 == t) ≡ b → cond (b && in_range low high (key_bytes table e.1)) (own ∷ []) [] ≡ cond (b && in_range low high (key_bytes (table_at tables t) e.1)) (row_pair t (table_at tables t) e.1 ∷ []) []) [
        | true ↦ λ is. ap (λ (n : ℕ). cond (in_range low high (key_bytes (table_at tables n) e.1)) (row_pair n (table_at tables n) e.1 ∷ []) []) (eqb-true e.0 t is)
        | false ↦ λ _. refl
      ] refl

  flat_rows : (tables : List Table) (rows : Rows) → flat_map (λ (e : ℕ × List Value). where_key key_cmp in_rows (pairs_of_row e.0 (table_at tables e.0) e.1)) rows ≡ map (row_pair t (table_at tables t)) (rows_within tables rows)
  flat_rows tables [] = refl
  flat_rows tables (e ∷ es) =
      let f = row_pair t (table_at tables t) in
      let test = λ (row : List Value). in_range low high (key_bytes (table_at tables t) row) in
      (λ i. own_pair tables e i ++ flat_rows tables es i)
      ∙ elim (e.0 == t) as (λ b. cond (b && test e.1) (f e.1 ∷ []) [] ++ map f (rows_within tables es) ≡ map f (filter test (cond b (e.1 ∷ rows_of t es) (rows_of t es)))) [
        | true ↦ elim (test e.1) as (λ b. cond b (f e.1 ∷ []) [] ++ map f (rows_within tables es) ≡ map f (cond b (e.1 ∷ rows_within tables es) (rows_within tables es))) [ true ↦ refl | false ↦ refl ]
        | false ↦ refl
      ]

  listed : (tables : List Table) (rows : Rows) (others : List Pair) → AreBeside others → where_key key_cmp in_rows (row_pairs tables rows ++ others) ≡ map (row_pair t (table_at tables t)) (rows_within tables rows)
  listed tables rows others beside =
      let g = λ (e : ℕ × List Value). pairs_of_row e.0 (table_at tables e.0) e.1 in
      filter-append (λ (x : Pair). in_rows x.0) (flat_map g rows) others
      ∙ (λ i. (where-flat_map in_rows g rows ∙ flat_rows tables rows) i ++ beside_outside 2 (t ∷ low) (t ∷ high) others refl beside i)
      ∙ append-nil _

  -- a range of a table's rows has the pairs of the rows whose codes lie in it, in the order of their keys
  pub row_range : (tables : List Table) (rows : Rows) (others : List Pair) → EachFits tables rows → AreApart tables rows → AreBeside others → pairs_within (content_pairs tables rows others) (2 ∷ t ∷ low) (2 ∷ t ∷ high) ≡ map (row_pair t (table_at tables t)) (sort_by (position_cmp (dirs_of (primary_sequence (table_at tables t)))) (values_of (primary_sequence (table_at tables t))) (rows_within tables rows))
  unfolding content_pairs
  row_range tables rows others fits apart beside =
      let table = table_at tables t in
      let sequence = primary_sequence table in
      let f = row_pair t table in
      let by = pair_by table sequence (primary_determines table) (2 ∷ t ∷ []) (stored_code table) in
      let within = rows_within tables rows in
      let same : (row : List Value) → f row ≡ by row = λ row. (λ i. (2 ∷ t ∷ code_of (dirs_are table row i) (sym (values_of-primary table.key row) i), stored_code table row)) in
      where_from in_rows (row_pairs tables rows ++ others)
      ∙ ap (λ (l : List Pair). entries (from_entries {R = key_cmp} l)) (listed tables rows others beside ∙ map_same f by same within)
      ∙ sorted_pairs table sequence (primary_determines table) (2 ∷ t ∷ []) (stored_code table) within (AreRows-filter table (λ row. in_range low high (key_bytes table row)) (rows_of t rows) (rows_are tables rows t fits apart))
      ∙ sym (map_same f by same (sort_by (position_cmp (dirs_of sequence)) (values_of sequence) within))
    where
      dirs_are : (table : Table) (row : List Value) → replicate (length (key_of table row)) Asc ≡ dirs_of (primary_sequence table)
      dirs_are table row = ap (λ (n : ℕ). replicate n Asc) (length-map table.key (value_of row)) ∙ sym (dirs_of-primary table.key)

  pub row_count : (tables : List Table) (rows : Rows) (others : List Pair) → EachFits tables rows → AreApart tables rows → AreBeside others → length (pairs_within (content_pairs tables rows others) (2 ∷ t ∷ low) (2 ∷ t ∷ high)) ≡ length (rows_within tables rows)
  row_count tables rows others fits apart beside =
      let table = table_at tables t in
      let sorted = sort_by (position_cmp (dirs_of (primary_sequence table))) (values_of (primary_sequence table)) (rows_within tables rows) in
      ap (λ (l : List Pair). length l) (row_range tables rows others fits apart beside)
      ∙ length-map sorted (row_pair t table)
      ∙ length-sort_by (position_cmp (dirs_of (primary_sequence table))) (values_of (primary_sequence table)) (rows_within tables rows)
