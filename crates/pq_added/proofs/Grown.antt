-- Tables with one more column: rows with its default behind them keep them, and have the pairs of before.
use Rattle.std.proofs.Common.{◌≡◌, ℕ, ◌-◌, ◌≤◌, ◌<◌, suc, Bool, true, false, cond, ◌&&◌, ◌==◌, inl, inr, List, [], ◌∷◌, ◌++◌, length, map, Option, Some, None, refl, sym, ap, subst, ◌∙◌, arith}
use Rattle.std.specs.Prelude.{All, filter, IsSome, option_map, slice_index_or}
use Rattle.std.specs.FinMap.{from_entries}
use Rattle.std.specs.List.{AllByRecursion}
use Rattle.std.specs.List as lists
use Rattle.std.proofs.lemmas.Bool.{false≢true, eqb-true, eq-eqb, cases_eq}
use Rattle.std.proofs.lemmas.List.{get_or-set_same, get_or-set_other, length-set, length-map, map_push}
use Rattle.std.proofs.lemmas.List.Elements.{recursion_from_All}
use Rattle.pq_base.specs.declared.value.ColType.{ColType}
use Rattle.pq_base.specs.declared.value.Value.{Value}
use Rattle.pq_base.specs.Values.{FitsType, AllFit, has_null}
use Rattle.pq_base.proofs.Members.{filter-map, filter_same, each_weaker, each_both}
use Rattle.pq_base.proofs.TypeFits.{length_from_fits}
use Rattle.pq_schema.specs.declared.table.Column.{Column}
use Rattle.pq_schema.specs.declared.table.Foreign.{Foreign}
use Rattle.pq_schema.specs.declared.table.Limit.{Limit}
use Rattle.pq_schema.specs.declared.table.Table.{Table}
use Rattle.pq_schema.specs.Schema.{with_new_column, with_added}
use Rattle.pq_schema.specs.Sound.{AreDefaults, IsMade, AreMade, IsMadeLimit, IsMadeForeign}
use Rattle.pq_schema.specs.Tables.{no_table, table_at}
use Rattle.pq_store.specs.Content.{key_cmp}
use Rattle.pq_content.specs.Pairs.{Pair, pairs_of_row, row_pairs, content_pairs}
use Rattle.pq_content.specs.Tables.{Rows, rows_of, types_of, key_of, cells, same_values, agrees, has_key, row_at, group_of, IsTableNumber, AreApart, IsWithinLimit, HasParent, Keeps, stored_code}
use Rattle.pq_added.specs.Added.{grown_row, with_filler, grown_rows}
use Rattle.pq_added.proofs.Before.{values_before, fits_behind, code_before, pairs_before}

-- ---- lists

find-map : {X Y : Type 0} (p : Y → Bool) (q : X → Bool) (f : X → Y) (xs : List X) → AllByRecursion (λ x. p (f x) ≡ q x) xs → lists.find p (map f xs) ≡ option_map f (lists.find q xs)
find-map p q f [] same = refl
find-map p q f (x ∷ xs) same =
    ap (λ b. cond b (Some (f x)) (lists.find p (map f xs))) same.0
    ∙ elim (q x) as (λ b. cond b (Some (f x)) (lists.find p (map f xs)) ≡ option_map f (cond b (Some x) (lists.find q xs))) [
      | true ↦ refl
      | false ↦ find-map p q f xs same.1
    ]

each_map : {X Y : Type 0} (P : Y → Type 0) (f : X → Y) (xs : List X) → AllByRecursion (λ x. P (f x)) xs → AllByRecursion P (map f xs)
each_map P f [] h = tt
each_map P f (x ∷ xs) h = (h.0, each_map P f xs h.1)

-- a premise that each item shares
each_under : {X : Type 0} (A : Type 0) (P : X → Type 0) (xs : List X) → (A → AllByRecursion P xs) → AllByRecursion (λ x. A → P x) xs
each_under A P [] h = tt
each_under A P (x ∷ xs) h = ((λ a. (h a).0), each_under A P xs (λ a. (h a).1))

some_still : {X Y : Type 0} (f : X → Y) (o : Option X) → IsSome o → IsSome (option_map f o)
some_still f None some = some
some_still f (Some x) some = refl

as_many_fillers : (columns : List Column) (fillers : List (Option Value)) → AreDefaults columns fillers → length columns ≡ length fillers
as_many_fillers [] [] h = refl
as_many_fillers [] (filler ∷ fillers) h = absurd h
as_many_fillers (column ∷ columns) [] h = absurd h
as_many_fillers (column ∷ columns) (filler ∷ fillers) h = ap suc (as_many_fillers columns fillers h.1)

-- ---- the tables

-- a row of the table of this number has a value for each of its columns
abbrev pub IsWide : List Table → ℕ → ℕ → List Value → Type 0
IsWide tables t u row = u ≡ t → length row ≡ length (table_at tables t).columns

abbrev pub AreWide : List Table → ℕ → Rows → Type 0
AreWide tables t rows = AllByRecursion (λ (e : ℕ × List Value). IsWide tables t e.0 e.1) rows

module _ (tables : List Table) (t : ℕ) (column : Column) (filler : Value) (made : AreMade tables) (is : IsTableNumber tables t) where
  abbrev width : ℕ
  width = length (table_at tables t).columns

  abbrev grown : Table
  grown = with_new_column (table_at tables t) column filler

  abbrev after : List Table
  after = with_added tables t column filler

  own_made : IsMade tables t (table_at tables t)
  own_made = made t is.0 is.1

  own_table : table_at after t ≡ grown
  own_table = get_or-set_same tables (t - 1) grown no_table (let low = is.0 in let high = is.1 in omega arith)

  other_table : (u : ℕ) → (u - 1 ≡ t - 1 → ⊥) → table_at after u ≡ table_at tables u
  other_table u other = get_or-set_other tables (t - 1) (u - 1) grown no_table other

  -- what the column leaves of a table
  left_of : {X : Type 0} (part : Table → X) → part grown ≡ part (table_at tables t) → (u : ℕ) → part (table_at after u) ≡ part (table_at tables u)
  left_of part own u = elim (cases_eq (u - 1) (t - 1)) [
    | inl same ↦ ap (λ n. part (slice_index_or after n no_table)) same ∙ ap part own_table ∙ own ∙ sym (ap (λ n. part (slice_index_or tables n no_table)) same)
    | inr other ↦ ap part (other_table u other)
  ]

  -- what holds of the grown table and row, and of each other table and its row
  of_each : (P : Table → List Value → Type 0) (u : ℕ) (row : List Value) → 1 ≤ u → (u ≡ t → P grown (row ++ filler ∷ [])) → P (table_at tables u) row → P (table_at after u) (grown_row t filler u row)
  of_each P u row low own other =
      elim (u == t) as (λ b. (u == t) ≡ b → P (table_at after u) (cond b (row ++ filler ∷ []) row)) [
        | true ↦ λ same. let one = eqb-true u t same in subst (λ (x : Table). P x (row ++ filler ∷ [])) (sym (ap (table_at after) one ∙ own_table)) (own one)
        | false ↦ λ differ. subst (λ (x : Table). P x row) (sym (other_table u (apart differ))) other
      ] refl
    where
      apart : (u == t) ≡ false → u - 1 ≡ t - 1 → ⊥
      apart differ same = let from_one = is.0 in let one : u ≡ t = omega (arith, low, from_one, same) in false≢true (sym differ ∙ eq-eqb u t one)

  -- ---- values at columns

  cells_still : (u : ℕ) (cols : List ℕ) (row : List Value) → IsWide tables t u row → (u ≡ t → All (λ col. col < width) cols) → cells cols (grown_row t filler u row) ≡ cells cols row
  cells_still u cols row wide inside =
      elim (u == t) as (λ b. (u == t) ≡ b → cells cols (cond b (row ++ filler ∷ []) row) ≡ cells cols row) [
        | true ↦ λ same. let one = eqb-true u t same in let long = wide one in values_before (λ col. col) cols row filler width (omega (arith, long)) (inside one)
        | false ↦ λ _. refl
      ] refl

  key_inside : (u : ℕ) → u ≡ t → All (λ col. col < width) (table_at tables u).key
  key_inside u one = subst (λ n. All (λ col. col < width) (table_at tables n).key) (sym one) own_made.key.inside

  limits_inside : (u : ℕ) → AllByRecursion (λ (limit : Limit). u ≡ t → All (λ col. col < width) limit.cols) (table_at tables u).limits
  limits_inside u =
      each_under (u ≡ t) (λ (limit : Limit). All (λ col. col < width) limit.cols) (table_at tables u).limits (λ one.
      subst (λ n. AllByRecursion (λ (limit : Limit). All (λ col. col < width) limit.cols) (table_at tables n).limits) (sym one)
      (each_weaker (IsMadeLimit width) (λ (limit : Limit). All (λ col. col < width) limit.cols) (λ limit h. h.cols.inside) (table_at tables t).limits (recursion_from_All (IsMadeLimit width) (table_at tables t).limits own_made.limits)))

  foreign_inside : (u : ℕ) → AllByRecursion (λ (foreign : Foreign). u ≡ t → All (λ col. col < width) foreign.cols) (table_at tables u).foreign
  foreign_inside u =
      let columns = (table_at tables t).columns in
      each_under (u ≡ t) (λ (foreign : Foreign). All (λ col. col < width) foreign.cols) (table_at tables u).foreign (λ one.
      subst (λ n. AllByRecursion (λ (foreign : Foreign). All (λ col. col < width) foreign.cols) (table_at tables n).foreign) (sym one)
      (each_weaker (IsMadeForeign tables t columns) (λ (foreign : Foreign). All (λ col. col < width) foreign.cols) (λ foreign h. h.inside) (table_at tables t).foreign (recursion_from_All (IsMadeForeign tables t columns) (table_at tables t).foreign own_made.foreign)))

  -- ---- the rows of one table

  rows_of-grown : (rows : Rows) (u : ℕ) → rows_of u (grown_rows t filler rows) ≡ map (grown_row t filler u) (rows_of u rows)
  rows_of-grown [] u = refl
  rows_of-grown (e ∷ es) u =
      let rest = rows_of u (grown_rows t filler es) in
      elim (e.0 == u) as (λ b. (e.0 == u) ≡ b → cond b (grown_row t filler e.0 e.1 ∷ rest) rest ≡ map (grown_row t filler u) (cond b (e.1 ∷ rows_of u es) (rows_of u es))) [
        | true ↦ λ same. λ i. grown_row t filler (eqb-true e.0 u same i) e.1 ∷ rows_of-grown es u i
        | false ↦ λ _. rows_of-grown es u
      ] refl

  -- the test of values at columns that were there
  agree_still : (cols : List ℕ) (values : List Value) (u : ℕ) (rows : Rows) → AreWide tables t rows → (u ≡ t → All (λ col. col < width) cols) → AllByRecursion (λ row. agrees cols values (grown_row t filler u row) ≡ agrees cols values row) (rows_of u rows)
  agree_still cols values u [] wide inside = tt
  agree_still cols values u (e ∷ es) wide inside =
      elim (e.0 == u) as (λ b. (e.0 == u) ≡ b → AllByRecursion (λ row. agrees cols values (grown_row t filler u row) ≡ agrees cols values row) (cond b (e.1 ∷ rows_of u es) (rows_of u es))) [
        | true ↦ λ same. (ap (λ xs. same_values xs values) (cells_still u cols e.1 (λ one. wide.0 (eqb-true e.0 u same ∙ one)) inside), agree_still cols values u es wide.1 inside)
        | false ↦ λ _. agree_still cols values u es wide.1 inside
      ] refl

  row_at-wide : (rows : Rows) → AreWide tables t rows → (u : ℕ) (key : List Value) → row_at after (grown_rows t filler rows) u key ≡ option_map (grown_row t filler u) (row_at tables rows u key)
  row_at-wide rows wide u key =
      let cols = (table_at tables u).key in
      ap (λ (cols : List ℕ). lists.find (agrees cols key) (rows_of u (grown_rows t filler rows))) (left_of (λ (x : Table). x.key) refl u)
      ∙ ap (lists.find (agrees cols key)) (rows_of-grown rows u)
      ∙ find-map (agrees cols key) (agrees cols key) (grown_row t filler u) (rows_of u rows) (agree_still cols key u rows wide (key_inside u))

  group_of-grown : (rows : Rows) → AreWide tables t rows → (u : ℕ) (cols : List ℕ) (values : List Value) → (u ≡ t → All (λ col. col < width) cols) → length (group_of u cols values (grown_rows t filler rows)) ≡ length (group_of u cols values rows)
  group_of-grown rows wide u cols values inside =
      let own = λ (row : List Value). agrees cols values (grown_row t filler u row) in
      ap (λ (l : List (List Value)). length (filter (agrees cols values) l)) (rows_of-grown rows u)
      ∙ ap length (filter-map (agrees cols values) (grown_row t filler u) (rows_of u rows))
      ∙ length-map (filter own (rows_of u rows)) (grown_row t filler u)
      ∙ ap length (filter_same own (agrees cols values) (rows_of u rows) (agree_still cols values u rows wide inside))

  -- ---- pairs

  module _ (few : width ≤ 31) where
    fillers_long : width ≡ length (table_at tables t).fillers
    fillers_long = as_many_fillers (table_at tables t).columns (table_at tables t).fillers own_made.fillers

    pairs_still : (u : ℕ) (row : List Value) → 1 ≤ u → IsWide tables t u row → pairs_of_row u (table_at after u) (grown_row t filler u row) ≡ pairs_of_row u (table_at tables u) row
    pairs_still u row low wide =
        of_each (λ (x : Table) (r : List Value). pairs_of_row u x r ≡ pairs_of_row u (table_at tables u) row) u row low (λ one.
        pairs_before u (table_at tables t) column filler row (wide one) fillers_long few own_made.key.inside own_made.indexes
        ∙ ap (λ n. pairs_of_row u (table_at tables n) row) (sym one)) refl

    code_still : (u : ℕ) (row : List Value) → 1 ≤ u → IsWide tables t u row → stored_code (table_at after u) (grown_row t filler u row) ≡ stored_code (table_at tables u) row
    code_still u row low wide =
        of_each (λ (x : Table) (r : List Value). stored_code x r ≡ stored_code (table_at tables u) row) u row low (λ one.
        code_before (table_at tables t) column filler row (wide one) fillers_long few
        ∙ ap (λ n. stored_code (table_at tables n) row) (sym one)) refl

    row_pairs-wide : (rows : Rows) → AllByRecursion (λ (e : ℕ × List Value). IsTableNumber tables e.0) rows → AreWide tables t rows → row_pairs after (grown_rows t filler rows) ≡ row_pairs tables rows
    row_pairs-wide [] known wide = refl
    row_pairs-wide (e ∷ es) known wide = λ i. pairs_still e.0 e.1 known.0.0 wide.0 i ++ row_pairs-wide es known.1 wide.1 i

    short_still : (rows : Rows) → AllByRecursion (λ (e : ℕ × List Value). IsTableNumber tables e.0) rows → AreWide tables t rows → AllByRecursion (λ (e : ℕ × List Value). length (stored_code (table_at tables e.0) e.1) ≤ 4096) rows → AllByRecursion (λ (e : ℕ × List Value). length (stored_code (table_at after e.0) (grown_row t filler e.0 e.1)) ≤ 4096) rows
    short_still [] known wide short = tt
    short_still (e ∷ es) known wide short =
        (subst (λ (code : List ℕ). length code ≤ 4096) (sym (code_still e.0 e.1 known.0.0 wide.0)) short.0, short_still es known.1 wide.1 short.1)

  -- ---- what the rows keep

  key_still : (u : ℕ) (row : List Value) → IsWide tables t u row → key_of (table_at after u) (grown_row t filler u row) ≡ key_of (table_at tables u) row
  key_still u row wide = ap (λ (cols : List ℕ). cells cols (grown_row t filler u row)) (left_of (λ (x : Table). x.key) refl u) ∙ cells_still u (table_at tables u).key row wide (key_inside u)

  has_key-grown : (e f : ℕ × List Value) → IsWide tables t e.0 e.1 → IsWide tables t f.0 f.1 → has_key after e.0 (key_of (table_at after e.0) (grown_row t filler e.0 e.1)) (with_filler t filler f) ≡ has_key tables e.0 (key_of (table_at tables e.0) e.1) f
  has_key-grown e f wide other =
      let key' = key_of (table_at after e.0) (grown_row t filler e.0 e.1) in
      let key = key_of (table_at tables e.0) e.1 in
      elim (f.0 == e.0) as (λ b. (f.0 == e.0) ≡ b → (b && agrees (table_at after e.0).key key' (grown_row t filler f.0 f.1)) ≡ (b && agrees (table_at tables e.0).key key f.1)) [
        | true ↦ λ same.
            let one = eqb-true f.0 e.0 same in
            let own : cells (table_at after e.0).key (grown_row t filler f.0 f.1) ≡ cells (table_at tables e.0).key f.1 =
            subst (λ n. key_of (table_at after n) (grown_row t filler f.0 f.1) ≡ key_of (table_at tables n) f.1) one (key_still f.0 f.1 other) in
            λ i. same_values (own i) (key_still e.0 e.1 wide i)
        | false ↦ λ _. refl
      ] refl

  apart-grown : (rows : Rows) → AreWide tables t rows → AreApart tables rows → AreApart after (grown_rows t filler rows)
  apart-grown [] wide apart = tt
  apart-grown (e ∷ es) wide apart =
      let key' = key_of (table_at after e.0) (grown_row t filler e.0 e.1) in
      let key = key_of (table_at tables e.0) e.1 in (
        each_map (λ (f : ℕ × List Value). has_key after e.0 key' f ≡ false) (with_filler t filler) es (each_both (λ (f : ℕ × List Value). IsWide tables t f.0 f.1) (λ (f : ℕ × List Value). has_key tables e.0 key f ≡ false) (λ (f : ℕ × List Value). has_key after e.0 key' (with_filler t filler f) ≡ false) (λ f other h. has_key-grown e f wide.0 other ∙ h) es wide.1 apart.0),
        apart-grown es wide.1 apart.1,
      )

  fits_still : (u : ℕ) (row : List Value) → 1 ≤ u → FitsType column.ty filler → AllFit (types_of (table_at tables u)) row → AllFit (types_of (table_at after u)) (grown_row t filler u row)
  fits_still u row low last fits =
      of_each (λ (x : Table) (r : List Value). AllFit (types_of x) r) u row low (λ one.
      subst (λ (ts : List ColType). AllFit ts (row ++ filler ∷ [])) (sym (map_push (λ (c : Column). c.ty) (table_at tables t).columns column))
      (fits_behind (types_of (table_at tables t)) column.ty row filler (subst (λ n. AllFit (types_of (table_at tables n)) row) one fits) last)) fits

  within_still : (rows : Rows) → AreWide tables t rows → (u : ℕ) → AllByRecursion (IsWithinLimit u rows) (table_at tables u).limits → AllByRecursion (IsWithinLimit u (grown_rows t filler rows)) (table_at after u).limits
  within_still rows wide u within =
      subst (λ (limits : List Limit). AllByRecursion (IsWithinLimit u (grown_rows t filler rows)) limits) (sym (left_of (λ (x : Table). x.limits) refl u))
      (each_both (λ (limit : Limit). u ≡ t → All (λ col. col < width) limit.cols) (IsWithinLimit u rows) (IsWithinLimit u (grown_rows t filler rows)) (λ limit inside most values plain. subst (λ n. n ≤ limit.n) (sym (group_of-grown rows wide u limit.cols values inside)) (most values plain)) (table_at tables u).limits (limits_inside u) within)

  parent_still : (rows : Rows) → AreWide tables t rows → (u : ℕ) (row : List Value) → IsWide tables t u row → (foreign : Foreign) → (u ≡ t → All (λ col. col < width) foreign.cols) → HasParent tables rows row foreign → HasParent after (grown_rows t filler rows) (grown_row t filler u row) foreign
  parent_still rows wide u row own foreign inside parent plain =
      let same = cells_still u foreign.cols row own inside in
      let key = cells foreign.cols row in
      let there : IsSome (row_at tables rows foreign.table key) = parent (ap has_null (sym same) ∙ plain) in
      subst (λ (key : List Value). IsSome (row_at after (grown_rows t filler rows) foreign.table key)) (sym same)
      (subst (λ (o : Option (List Value)). IsSome o) (sym (row_at-wide rows wide foreign.table key)) (some_still (grown_row t filler foreign.table) (row_at tables rows foreign.table key) there))

  parents_still : (rows : Rows) → AreWide tables t rows → (u : ℕ) (row : List Value) → IsWide tables t u row → AllByRecursion (HasParent tables rows row) (table_at tables u).foreign → AllByRecursion (HasParent after (grown_rows t filler rows) (grown_row t filler u row)) (table_at after u).foreign
  parents_still rows wide u row own parents =
      subst (λ (foreign : List Foreign). AllByRecursion (HasParent after (grown_rows t filler rows) (grown_row t filler u row)) foreign) (sym (left_of (λ (x : Table). x.foreign) refl u))
      (each_both (λ (foreign : Foreign). u ≡ t → All (λ col. col < width) foreign.cols) (HasParent tables rows row) (HasParent after (grown_rows t filler rows) (grown_row t filler u row)) (λ foreign inside parent. parent_still rows wide u row own foreign inside parent) (table_at tables u).foreign (foreign_inside u) parents)

  -- ---- rows that keep their tables

  all_wide : (rows : Rows) → Keeps tables rows → AreWide tables t rows
  all_wide rows keeps =
      each_weaker (λ (e : ℕ × List Value). AllFit (types_of (table_at tables e.0)) e.1) (λ (e : ℕ × List Value). IsWide tables t e.0 e.1) (λ e fits one.
      length_from_fits (types_of (table_at tables t)) e.1 (subst (λ n. AllFit (types_of (table_at tables n)) e.1) one fits)
      ∙ length-map (table_at tables t).columns (λ (c : Column). c.ty)) rows keeps.fit

  pub row_at-grown : (rows : Rows) → Keeps tables rows → (u : ℕ) (key : List Value) → row_at after (grown_rows t filler rows) u key ≡ option_map (grown_row t filler u) (row_at tables rows u key)
  row_at-grown rows keeps = row_at-wide rows (all_wide rows keeps)

  pub row_pairs-grown : width ≤ 31 → (rows : Rows) → Keeps tables rows → row_pairs after (grown_rows t filler rows) ≡ row_pairs tables rows
  row_pairs-grown few rows keeps = row_pairs-wide few rows keeps.known (all_wide rows keeps)

  pub pairs-grown : width ≤ 31 → (rows : Rows) (others : List Pair) → Keeps tables rows → content_pairs after (grown_rows t filler rows) others ≡ content_pairs tables rows others
  unfolding content_pairs
  pairs-grown few rows others keeps = ap (λ (l : List Pair). from_entries {R = key_cmp} (l ++ others)) (row_pairs-grown few rows keeps)

  -- the grown rows keep the tables with the column
  pub keeps-grown : width ≤ 31 → (rows : Rows) → Keeps tables rows → FitsType column.ty filler → Keeps after (grown_rows t filler rows)
  keeps-grown few rows keeps last =
      let wide = all_wide rows keeps in
      let now : Rows = grown_rows t filler rows in
      let Known : ℕ × List Value → Type 0 = λ e. IsTableNumber tables e.0 in
      let Wide : ℕ × List Value → Type 0 = λ e. IsWide tables t e.0 e.1 in
      record {
        schema = record {
          known = each_map (λ (e : ℕ × List Value). IsTableNumber after e.0) (with_filler t filler) rows (each_weaker Known (λ (e : ℕ × List Value). IsTableNumber after e.0) (λ e number. (number.0, subst (λ n. e.0 ≤ n) (sym (length-set tables (t - 1) grown)) number.1)) rows keeps.known);
          fit = each_map (λ (e : ℕ × List Value). AllFit (types_of (table_at after e.0)) e.1) (with_filler t filler) rows (each_both Known (λ (e : ℕ × List Value). AllFit (types_of (table_at tables e.0)) e.1) (λ (e : ℕ × List Value). AllFit (types_of (table_at after e.0)) (grown_row t filler e.0 e.1)) (λ e number fits. fits_still e.0 e.1 number.0 last fits) rows keeps.known keeps.fit);
          apart = apart-grown rows wide keeps.apart;
          limits = λ u number. within_still rows wide u (keeps.limits u (number.0, subst (λ n. u ≤ n) (length-set tables (t - 1) grown) number.1));
          foreign = each_map (λ (e : ℕ × List Value). AllByRecursion (HasParent after now e.1) (table_at after e.0).foreign) (with_filler t filler) rows (each_both Wide (λ (e : ℕ × List Value). AllByRecursion (HasParent tables rows e.1) (table_at tables e.0).foreign) (λ (e : ℕ × List Value). AllByRecursion (HasParent after now (grown_row t filler e.0 e.1)) (table_at after e.0).foreign) (λ e own parents. parents_still rows wide e.0 e.1 own parents) rows wide keeps.foreign);
        };
        short = each_map (λ (e : ℕ × List Value). length (stored_code (table_at after e.0) e.1) ≤ 4096) (with_filler t filler) rows (short_still few rows keeps.known wide keeps.short);
      }
