-- Counters that a definition adds, rows with one more column, and no rows.
use Rattle.std.proofs.Common.{◌≡◌, ℕ, ◌≤◌, Bool, true, false, cond, not, ◌==◌, List, [], ◌∷◌, ◌++◌, map, length, filter, refl, sym, ap, ◌∙◌, subst, arith}
use Rattle.std.specs.List.{AllByRecursion}
use Rattle.std.proofs.lemmas.Bool.{eqb-true}
use Rattle.std.proofs.lemmas.List.{append-nil, length-map}
use Rattle.std.proofs.lemmas.List.Concat.{flat_map-append}
use Rattle.pq_base.specs.declared.value.Value.{Value}
use Rattle.pq_base.specs.Values.{AllFit, has_null}
use Rattle.pq_base.proofs.Members.{each_append, filter-map, flat_map_same}
use Rattle.pq_base.proofs.TypeFits.{length_from_fits}
use Rattle.pq_schema.specs.declared.table.Column.{Column}
use Rattle.pq_schema.specs.declared.table.Table.{Table}
use Rattle.pq_schema.specs.Tables.{table_at}
use Rattle.pq_content.specs.Pairs.{Pair}
use Rattle.pq_content.specs.Tables.{Rows, Keeps, rows_of, cells, agrees, same_values, types_of}
use Rattle.pq_added.specs.Added.{grown_row, grown_rows}
use Rattle.pq_added.proofs.Before.{values_before}
use Rattle.pq_index_keep.proofs.Inserting.{each_by}
use Rattle.pq_tallies.specs.Counters.{tally, counted_rows, most_count, counter_key, count_code, counter_pair, group_pairs, counter_pairs, AreFewRows}
use Rattle.pq_tallies.specs.Defined.{NumberedCounter, IsCounter, AreCounters}
use Rattle.pq_tallies.proofs.Written.{plain_at}

-- ---- a new counter

-- a table without rows has no group
no_tally : (c : NumberedCounter) (rows : Rows) → rows_of c.table rows ≡ [] → (v : List Value) → tally rows c v ≤ most_count
no_tally c rows none v = subst (λ (l : List (List Value)). length (filter (agrees c.cols v) (filter (plain_at c) l)) ≤ most_count) (sym none) (omega arith)

pub new_counter : (cs : List NumberedCounter) (c : NumberedCounter) (rows : Rows) → rows_of c.table rows ≡ [] → counter_pairs (cs ++ c ∷ []) rows ≡ counter_pairs cs rows
new_counter cs c rows none =
    flat_map-append (group_pairs rows) cs (c ∷ [])
    ∙ ap (λ (l : List Pair). counter_pairs cs rows ++ l) (append-nil (group_pairs rows c) ∙ ap (λ (l : List (List Value)). map (λ row. counter_pair rows c (cells c.cols row)) (filter (plain_at c) l)) none)
    ∙ append-nil (counter_pairs cs rows)

pub new_few : (cs : List NumberedCounter) (c : NumberedCounter) (rows : Rows) → rows_of c.table rows ≡ [] → AreFewRows cs rows → AreFewRows (cs ++ c ∷ []) rows
new_few cs c rows none few = each_append (λ (d : NumberedCounter). (v : List Value) → tally rows d v ≤ most_count) cs (c ∷ []) few (no_tally c rows none, tt)

-- ---- no rows

pub no_rows : (cs : List NumberedCounter) → counter_pairs cs [] ≡ []
no_rows [] = refl
no_rows (c ∷ cs) = no_rows cs

pub no_rows_few : (cs : List NumberedCounter) → AreFewRows cs []
no_rows_few [] = tt
no_rows_few (c ∷ cs) = (no_tally c [] refl, no_rows_few cs)

-- ---- one more column

-- the values of the rows in groups
abbrev values_in : NumberedCounter → Rows → List (List Value)
values_in c rows = map (cells c.cols) (counted_rows c rows)

map_twice : {X Y Z : Type 0} (f : X → Y) (g : Y → Z) (xs : List X) → map (λ x. g (f x)) xs ≡ map g (map f xs)
map_twice f g [] = refl
map_twice f g (x ∷ xs) = ap (λ l. g (f x) ∷ l) (map_twice f g xs)

-- tallies and pairs go by these values alone
tally_by : (c : NumberedCounter) (rows : Rows) (v : List Value) → tally rows c v ≡ length (filter (λ values. same_values values v) (values_in c rows))
tally_by c rows v =
    let rs = counted_rows c rows in
    sym (ap length (filter-map (λ (values : List Value). same_values values v) (cells c.cols) rs) ∙ length-map (filter (agrees c.cols v) rs) (cells c.cols))

module _ (c : NumberedCounter) (rows made : Rows) (same : values_in c made ≡ values_in c rows) where
  tally_same : (v : List Value) → tally made c v ≡ tally rows c v
  tally_same v =
      tally_by c made v
      ∙ ap (λ (l : List (List Value)). length (filter (λ values. same_values values v) l)) same
      ∙ sym (tally_by c rows v)

  pairs_same : group_pairs made c ≡ group_pairs rows c
  pairs_same =
      map_twice (cells c.cols) (counter_pair made c) (counted_rows c made)
      ∙ (λ i. map (λ values. (counter_key c.number values, count_code (tally_same values i))) (same i))
      ∙ sym (map_twice (cells c.cols) (counter_pair rows c) (counted_rows c rows))

map_cond : (f : List Value → List Value) (b : Bool) (x : List Value) (xs : List (List Value)) → map f (cond b (x ∷ xs) xs) ≡ cond b (f x ∷ map f xs) (map f xs)
map_cond f true x xs = refl
map_cond f false x xs = refl

module _ (tables : List Table) (t : ℕ) (filler : Value) (c : NumberedCounter) (is : IsCounter tables c) where
  -- the values of a row at the counter's columns stay
  cells_still : (u : ℕ) (row : List Value) → u ≡ c.table → AllFit (types_of (table_at tables u)) row → cells c.cols (grown_row t filler u row) ≡ cells c.cols row
  cells_still u row own fits =
      let columns = (table_at tables c.table).columns in
      let long : length row ≡ length columns =
      length_from_fits (types_of (table_at tables c.table)) row (subst (λ (m : ℕ). AllFit (types_of (table_at tables m)) row) own fits)
      ∙ length-map columns (λ (column : Column). column.ty) in
      elim (u == t) as (λ b. cells c.cols (cond b (row ++ filler ∷ []) row) ≡ cells c.cols row) [
        | true ↦ values_before (λ col. col) c.cols row filler (length columns) (omega arith) is.inside
        | false ↦ refl
      ]

  values_still : (rows : Rows) → AllByRecursion (λ (e : ℕ × List Value). AllFit (types_of (table_at tables e.0)) e.1) rows → values_in c (grown_rows t filler rows) ≡ values_in c rows
  values_still [] fit = refl
  values_still (e ∷ es) fit =
      let now = rows_of c.table (grown_rows t filler es) in
      let was = rows_of c.table es in
      let row = grown_row t filler e.0 e.1 in
      let rest : values_in c (grown_rows t filler es) ≡ values_in c es = values_still es fit.1 in
      elim (e.0 == c.table) as (λ b. (e.0 == c.table) ≡ b → map (cells c.cols) (filter (plain_at c) (cond b (row ∷ now) now)) ≡ map (cells c.cols) (filter (plain_at c) (cond b (e.1 ∷ was) was))) [
        | true ↦ λ own.
            let here : cells c.cols row ≡ cells c.cols e.1 = cells_still e.0 e.1 (eqb-true e.0 c.table own) fit.0 in
            map_cond (cells c.cols) (plain_at c row) row (filter (plain_at c) now)
            ∙ (λ i. cond (not (has_null (here i))) (here i ∷ rest i) (rest i))
            ∙ sym (map_cond (cells c.cols) (plain_at c e.1) e.1 (filter (plain_at c) was))
        | false ↦ λ _. rest
      ] refl

module _ (tables : List Table) (t : ℕ) (filler : Value) (rows : Rows) (keeps : Keeps tables rows) where
  all_still : (cs : List NumberedCounter) → AllByRecursion (IsCounter tables) cs → AllByRecursion (λ (c : NumberedCounter). values_in c (grown_rows t filler rows) ≡ values_in c rows) cs
  all_still [] is = tt
  all_still (c ∷ cs) is = (values_still tables t filler c is.0 rows keeps.fit, all_still cs is.1)

  -- a column more behind the others changes no pair
  pub pairs_grown : (cs : List NumberedCounter) → AreCounters tables cs → counter_pairs cs (grown_rows t filler rows) ≡ counter_pairs cs rows
  pairs_grown cs are = flat_map_same (group_pairs (grown_rows t filler rows)) (group_pairs rows) cs (each cs (all_still cs (each_by (IsCounter tables) cs are.each)))
    where
      each : (ds : List NumberedCounter) → AllByRecursion (λ (c : NumberedCounter). values_in c (grown_rows t filler rows) ≡ values_in c rows) ds → AllByRecursion (λ (c : NumberedCounter). group_pairs (grown_rows t filler rows) c ≡ group_pairs rows c) ds
      each [] h = tt
      each (d ∷ ds) h = (pairs_same d rows (grown_rows t filler rows) h.0, each ds h.1)

  -- and no tally
  pub few_grown : (cs : List NumberedCounter) → AreCounters tables cs → AreFewRows cs rows → AreFewRows cs (grown_rows t filler rows)
  few_grown cs are few = each cs (all_still cs (each_by (IsCounter tables) cs are.each)) few
    where
      each : (ds : List NumberedCounter) → AllByRecursion (λ (c : NumberedCounter). values_in c (grown_rows t filler rows) ≡ values_in c rows) ds → AreFewRows ds rows → AreFewRows ds (grown_rows t filler rows)
      each [] h few = tt
      each (d ∷ ds) h few = ((λ v. subst (λ (n : ℕ). n ≤ most_count) (sym (tally_same d rows (grown_rows t filler rows) h.0 v)) (few.0 v)), each ds h.1 few.1)
