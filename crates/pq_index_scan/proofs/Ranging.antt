-- What one range gives behind an input.
use Rattle.std.proofs.Common.{◌≡◌, ℕ, suc, ◌-◌, ◌≤◌, Bool, true, false, cond, inl, inr, List, [], ◌∷◌, ◌++◌, length, map, take, count_ones, IsPermutation, refl, sym, ap, ◌∙◌, subst, arith}
use Rattle.std.specs.List.{AllByRecursion}
use Rattle.std.proofs.lemmas.Bool.{cases_lt}
use Rattle.std.proofs.lemmas.List.{length-map, length-take, length_push, take_all}
use Rattle.pq_base.specs.Columns.{set_of}
use Rattle.pq_base.specs.Members.{In}
use Rattle.pq_base.specs.Order.{position_cmp}
use Rattle.pq_base.specs.Sorting.{sort_by}
use Rattle.pq_base.specs.Values.{AllFit, has_null}
use Rattle.pq_base.specs.declared.value.Value.{Value}
use Rattle.pq_base.proofs.Members.{at_in, each_in, each_by_in, get_at, in_filter}
use Rattle.pq_base.proofs.Sorts.{each-sort_by, length-sort_by, IsPermutation-sort_by}
use Rattle.pq_key_code.specs.KeyCode.{past_code}
use Rattle.pq_schema.specs.declared.table.Access.{Access}
use Rattle.pq_schema.specs.declared.table.Access.TheVariants.{Primary, Secondary}
use Rattle.pq_schema.specs.declared.table.KeyPart.{KeyPart}
use Rattle.pq_schema.specs.declared.table.Limit.{Limit}
use Rattle.pq_schema.specs.declared.table.Table.{Table}
use Rattle.pq_schema.specs.declared.query.Query.{Query}
use Rattle.pq_schema.specs.Candidates.{no_limit}
use Rattle.pq_schema.specs.Keys.{dirs_of}
use Rattle.pq_schema.specs.Relations.{relation_at, table_of, no_relation}
use Rattle.pq_schema.specs.Resolved.{IsResolved, IsRelation}
use Rattle.pq_schema.specs.Rows.{Rows, IsTableNumber, IsWithinLimit, agrees, group_of, rows_of, types_of}
use Rattle.pq_schema.specs.Sequences.{ascending_part, columns_of, IsAccess, index_numbered, no_index, sequence_of}
use Rattle.pq_schema.specs.Tables.{table_at}
use Rattle.pq_store.specs.Content.{pairs_within}
use Rattle.pq_calls.specs.Keys.{sequence_key}
use Rattle.pq_content.specs.Pairs.{Pair, AreBeside, content_pairs, row_pair}
use Rattle.pq_content.specs.Tables.{AllOfKinds, Keeps, first_columns, types_at, values_of}
use Rattle.pq_content.proofs.Scans.{rows_under, entries_under, columns_of-primary}
use Rattle.pq_plan.specs.Answer.{Question, row_of, question}
use Rattle.pq_plan.specs.Running.{matching, limit_columns}
use Rattle.pq_plan.proofs.Fixed.{last, earlier_row}
use Rattle.pq_nodes.specs.Combos.{FitsTables}
use Rattle.pq_nodes.specs.Inverse.{IsRelationOf}
use Rattle.pq_nodes.specs.Operators.{IsAsked}
use Rattle.pq_nodes.specs.Tied.{tied_cells, range_prefix, HasRange}
use Rattle.pq_nodes.proofs.Ranges.{has_range, same_nulls}
use Rattle.pq_nodes.proofs.Tied.{matching_group, within_tied}
use Rattle.pq_operands.specs.Ties.{cells_tied}
use Rattle.pq_entries.specs.Entries.{AreEnds, pair_of}
use Rattle.pq_index_scan.specs.declared.limit.LimitRange.{LimitRange}
use Rattle.pq_index_scan.specs.Ranged.{own_limit, first_of_range, IsRangeOf}

-- ---- the relation, its table and its limit

module _ (tables : List Table) (query : Query) (resolved : IsResolved tables query) (rel : ℕ) (relation : IsRelationOf query rel) where
  own_relation : IsRelation tables (relation_at query rel)
  own_relation = let low = relation.from_one in let high = relation.there in resolved.relations (rel - 1) no_relation (omega arith)

  pub relation_number : IsTableNumber tables (relation_at query rel).table
  relation_number = (own_relation.from_one, own_relation.there)

-- its table is the relation's
pub range_table : (tables : List Table) (query : Query) (range : LimitRange) → IsRangeOf tables query range → table_of tables query range.rel ≡ table_at tables range.number
range_table tables query range is = ap (table_at tables) (sym is.number)

-- the values that begin the keys of a range are at most as many as the sequence has
pub start_short : (tables : List Table) (query : Query) (params : List Value) (range : LimitRange) (input : List (List Value)) → IsRangeOf tables query range → length (cells_tied query params range.rel input range.first) ≤ length (sequence_of (table_of tables query range.rel) range.access)
start_short tables query params range input is =
    let sequence = sequence_of (table_of tables query range.rel) range.access in
    let q = question tables query [] params in
    let count = count_ones (set_of (own_limit tables query range.rel range.limit).cols) in
    let first = ap (λ (cols : List ℕ). length (tied_cells q range.rel cols input)) is.first in
    let values = values_long q (take count (columns_of sequence)) in
    let taken = length-take count (columns_of sequence) in
    let columns = length-map sequence (λ (part : KeyPart). part.col) in
    omega (arith, first, values, taken, columns)
  where
    values_long : (q : Question) (cols : List ℕ) → length (tied_cells q range.rel cols input) ≡ length cols
    values_long q [] = refl
    values_long q (col ∷ cols) = ap suc (values_long q cols)

-- both ends of the range begin as the keys of the sequence do
pub ends_of : (t : ℕ) (table : Table) (access : Access) (values : List Value) → AreEnds t access (sequence_key t table access values) (past_code (sequence_key t table access values))
ends_of t table Primary values = record { from = (_, refl); upto = (_, refl) }
ends_of t table (Secondary index) values = record { from = (_, refl); upto = (_, refl) }

pub ends_as : (t : ℕ) (table : Table) (access : Access) (values : List Value) (low high : List ℕ) → low ≡ sequence_key t table access values → high ≡ past_code low → AreEnds t access low high
ends_as t table access values low high from upto =
    subst (λ (h : List ℕ). AreEnds t access low h) (sym upto)
    (subst (λ (l : List ℕ). AreEnds t access l (past_code l)) (sym from) (ends_of t table access values))

-- ---- the pairs under some first values

module _ (tables : List Table) (rows : Rows) (others : List Pair) (keeps : Keeps tables rows) (beside : AreBeside others) (t : ℕ) where
  abbrev pub rows_by : Access → List Value → List (List Value)
  rows_by access ps =
      let sequence = sequence_of (table_at tables t) access in
      sort_by (position_cmp (dirs_of sequence)) (values_of sequence) (group_of t (take (length ps) (columns_of sequence)) ps rows)

  pub pairs_under : (access : Access) → IsAccess (table_at tables t) access → (ps : List Value) → AllOfKinds (take (length ps) (types_at (table_at tables t).columns (columns_of (sequence_of (table_at tables t) access)))) ps → length ps ≤ length (sequence_of (table_at tables t) access)
      → pairs_within (content_pairs tables rows others) (sequence_key t (table_at tables t) access ps) (past_code (sequence_key t (table_at tables t) access ps)) ≡ map (pair_of t (table_at tables t) access) (rows_by access ps)
  pairs_under Primary is ps kinds short =
      let table = table_at tables t in
      let cols = columns_of-primary table.key in
      let long = length-map table.key ascending_part in
      rows_under tables rows others keeps.fit keeps.apart beside t ps
      (subst (λ (cs : List ℕ). AllOfKinds (take (length ps) (types_at table.columns cs)) ps) cols kinds) (omega (arith, long, short))
      ∙ ap (λ (cs : List ℕ). map (row_pair t table) (sort_by (position_cmp (dirs_of (sequence_of table Primary))) (values_of (sequence_of table Primary)) (group_of t (take (length ps) cs) ps rows))) (sym cols)
  pairs_under (Secondary number) is ps kinds short =
      let table = table_at tables t in
      let low = is.0 in
      let high = is.1 in
      entries_under tables rows others keeps.fit keeps.apart beside t (number - 1) (index_numbered table number)
      (get_at table.indexes (number - 1) no_index (omega arith)) number (omega arith) ps kinds short

-- ---- what a range gives

module _ (tables : List Table) (query : Query) (params : List Value) (given : IsAsked tables query params) (range : LimitRange) (is : IsRangeOf tables query range) (input : List (List Value)) (fits : FitsTables tables query (range.rel - 1) input) (rows : Rows) (others : List Pair) (keeps : Keeps tables rows) (beside : AreBeside others) where
  abbrev q : Question
  q = question tables query rows params

  abbrev t : ℕ
  t = (relation_at query range.rel).table

  abbrev own : Limit
  own = own_limit tables query range.rel range.limit

  abbrev prefix : List Value
  prefix = range_prefix q range.rel own.cols range.access input

  pub under : HasRange q range.rel own.cols range.access input
  under = has_range tables query rows params given.resolved given.params_fit range.rel input fits keeps.schema own.cols is.ready.is.tied range.access is.ready.indexed.1

  abbrev pub found_rows : List (List Value)
  found_rows = rows_by tables rows others keeps beside t range.access prefix

  -- no tied value is NULL
  module _ (plain : has_null prefix ≡ false) where
    cells_plain : has_null (tied_cells q range.rel own.cols input) ≡ false
    cells_plain = sym (same_nulls tables query rows params given.resolved given.params_fit range.rel input fits keeps.schema own.cols is.ready.is.tied range.access is.ready.indexed.1) ∙ plain

    -- there are at most n of them
    matching_short : length (matching q range.rel own.cols input) ≤ own.n
    matching_short =
        let number = relation_number tables query given.resolved range.rel is.ready.is.relation in
        let table = table_of tables query range.rel in
        let low = is.ready.is.from_one in
        let high = is.ready.is.there in
        let values = tied_cells q range.rel own.cols input in
        let few = each_in (IsWithinLimit t rows) table.limits (keeps.limits t number) own (at_in table.limits (range.limit - 1) no_limit (omega arith)) values cells_plain in
        let same = ap (λ (l : List (List Value)). length l)
        (matching_group tables query rows params given.resolved given.params_fit range.rel input fits keeps.schema own.cols (within_tied query range.rel own.cols is.ready.is.tied)
        ∙ ap (λ (b : Bool). cond b [] (group_of t own.cols values rows)) cells_plain) in
        omega (arith, few, same)

    -- and they are those of the range
    range_found : group_of t (take (length prefix) (columns_of (sequence_of (table_at tables t) range.access))) prefix rows ≡ matching q range.rel own.cols input
    range_found =
        sym (ap (λ (b : Bool). cond b [] (group_of t (take (length prefix) (columns_of (sequence_of (table_at tables t) range.access))) prefix rows)) plain)
        ∙ under.found

    found_short : length found_rows ≤ own.n
    found_short =
        let sequence = sequence_of (table_at tables t) range.access in
        let sorted = length-sort_by (position_cmp (dirs_of sequence)) (values_of sequence) (group_of t (take (length prefix) (columns_of sequence)) prefix rows) in
        let same = ap (λ (l : List (List Value)). length l) range_found in
        let few = matching_short in
        omega (arith, sorted, same, few)

  pub found_there : AllByRecursion (λ row. In row (rows_of t rows)) found_rows
  found_there =
      let sequence = sequence_of (table_at tables t) range.access in
      let cols = take (length prefix) (columns_of sequence) in
      each-sort_by (position_cmp (dirs_of sequence)) (values_of sequence) (λ row. In row (rows_of t rows)) (group_of t cols prefix rows)
      (each_by_in (λ row. In row (rows_of t rows)) (group_of t cols prefix rows) (λ row here. (in_filter (agrees cols prefix) row (rows_of t rows) here).0))

  module _ (plain : has_null prefix ≡ false) where
    found_permuted : IsPermutation (matching q range.rel own.cols input) found_rows
    found_permuted =
        let sequence = sequence_of (table_at tables t) range.access in
        let cols = take (length prefix) (columns_of sequence) in
        subst (λ (l : List (List Value)). IsPermutation l found_rows) (range_found plain)
        (IsPermutation-sort_by (position_cmp (dirs_of sequence)) (values_of sequence) (group_of t cols prefix rows))

    pub taken_permuted : (limit : ℕ) → limit ≡ own.n → IsPermutation (matching q range.rel own.cols input) (take limit found_rows)
    taken_permuted limit size =
        let few = found_short plain in
        subst (IsPermutation (matching q range.rel own.cols input)) (sym (take_all limit found_rows (omega (arith, few, size)))) found_permuted

  -- and where one is NULL, nothing matches
  pub none_matching : has_null prefix ≡ true → matching q range.rel own.cols input ≡ []
  none_matching null =
      sym under.found
      ∙ ap (λ (b : Bool). cond b [] (group_of t (take (length prefix) (columns_of (sequence_of (table_at tables t) range.access))) prefix rows)) null

-- the tied values of the range's first columns are its prefix
pub prefix_is : (tables : List Table) (query : Query) (params : List Value) (range : LimitRange) (input : List (List Value)) → IsRangeOf tables query range → (values : List Value) → values ≡ cells_tied query params range.rel input range.first
    → values ≡ tied_cells (question tables query [] params) range.rel (first_columns (sequence_of (table_of tables query range.rel) range.access) (own_limit tables query range.rel range.limit).cols) input
prefix_is tables query params range input is values from =
    from ∙ ap (λ (cols : List ℕ). tied_cells (question tables query [] params) range.rel cols input) is.first

-- behind an input with a tied NULL nothing matches
pub none_match : (tables : List Table) (query : Query) (params : List Value) (range : LimitRange) (input : List (List Value)) (rows : Rows) (others : List Pair) → IsAsked tables query params → IsRangeOf tables query range → FitsTables tables query (range.rel - 1) input → Keeps tables rows → AreBeside others → has_null (cells_tied query params range.rel input range.first) ≡ true
    → let q = question tables query rows params in matching q range.rel (limit_columns q range.rel range.limit) input ≡ []
none_match tables query params range input rows others given is fits keeps beside null =
    none_matching tables query params given range is input fits rows others keeps beside
    (sym (ap has_null (prefix_is tables query params range input is (cells_tied query params range.rel input range.first) refl)) ∙ null)

-- the pairs of the range behind an input are those of rows, of which the first ones match
pub record HasMatching (tables : List Table) (query : Query) (params : List Value) (range : LimitRange) (input : List (List Value)) (rows : Rows) (others : List Pair) : Type 0 where
  pub within : List (List Value)
  pub there : AllByRecursion (λ row. In row (rows_of range.number rows)) within
  pub pairs : let low = first_of_range tables query params range input in pairs_within (content_pairs tables rows others) low (past_code low) ≡ map (pair_of range.number (table_at tables range.number) range.access) within
  pub matches : let q = question tables query rows params in IsPermutation (matching q range.rel (limit_columns q range.rel range.limit) input) (take range.n within)

pub has_matching : (tables : List Table) (query : Query) (params : List Value) (range : LimitRange) (input : List (List Value)) (rows : Rows) (others : List Pair) → IsAsked tables query params → IsRangeOf tables query range → FitsTables tables query (range.rel - 1) input → Keeps tables rows → AreBeside others → has_null (cells_tied query params range.rel input range.first) ≡ false
    → HasMatching tables query params range input rows others
has_matching tables query params range input rows others given is fits keeps beside plain = record {
  within = found_rows tables query params given range is input fits rows others keeps beside;
  there = subst (λ (t : ℕ). AllByRecursion (λ row. In row (rows_of t rows)) (found_rows tables query params given range is input fits rows others keeps beside)) (sym is.number) (found_there tables query params given range is input fits rows others keeps beside);
  pairs =
      subst (λ (l : List ℕ). pairs_within (content_pairs tables rows others) l (past_code l) ≡ map (pair_of range.number (table_at tables range.number) range.access) (found_rows tables query params given range is input fits rows others keeps beside)) (sym low_is)
      (subst (λ (t : ℕ). pairs_within (content_pairs tables rows others) (sequence_key t (table_at tables t) range.access values) (past_code (sequence_key t (table_at tables t) range.access values)) ≡ map (pair_of t (table_at tables t) range.access) (found_rows tables query params given range is input fits rows others keeps beside)) (sym is.number)
      (pairs_under tables rows others keeps beside (relation_at query range.rel).table range.access is.ready.indexed.0 values has.kinds has.short));
  matches = taken_permuted tables query params given range is input fits rows others keeps beside (sym (ap has_null (prefix_is tables query params range input is (cells_tied query params range.rel input range.first) refl)) ∙ plain) range.n is.n;
}
  where
    values : List Value
    values = tied_cells (question tables query [] params) range.rel (first_columns (sequence_of (table_of tables query range.rel) range.access) (own_limit tables query range.rel range.limit).cols) input

    has : HasRange (question tables query rows params) range.rel (own_limit tables query range.rel range.limit).cols range.access input
    has = under tables query params given range is input fits rows others keeps beside

    low_is : first_of_range tables query params range input ≡ sequence_key range.number (table_at tables range.number) range.access values
    low_is = λ i. sequence_key range.number (range_table tables query range is i) range.access (tied_cells (question tables query [] params) range.rel (is.first i) input)

-- ---- combinations

-- an input followed by a row of the next relation fits
pub fits_next : (tables : List Table) (query : Query) (rel : ℕ) → 1 ≤ rel → (input : List (List Value)) (row : List Value) → FitsTables tables query (rel - 1) input → AllFit (types_of (table_of tables query rel)) row → FitsTables tables query rel (input ++ row ∷ [])
fits_next tables query rel low input row fits own =
    let long = fits.long in
    let more = length_push input row in
    record {
      long = omega (arith, more, long, low);
      rows = λ j from upto. elim (cases_lt j rel) [
        | inl before ↦ subst (AllFit (types_of (table_of tables query j))) (sym (earlier_row input (row ∷ []) j from (omega (arith, long, before)))) (fits.rows j from (omega (arith, before)))
        | inr after ↦
            let same : j ≡ rel = omega (arith, after, upto) in
            subst (λ (n : ℕ). AllFit (types_of (table_of tables query n)) (row_of n (input ++ row ∷ []))) (sym same)
            (subst (AllFit (types_of (table_of tables query rel))) (sym (last input row rel (omega (arith, long, low)))) own)
      ];
    }
