-- The indexes of a valid schema have few columns, so that the rows of its tables can be written.
use Rattle.std.proofs.Common.{◌≡◌, ℕ, ◌+◌, ◌-◌, ◌<◌, ◌≤◌, inl, inr, List, [], ◌∷◌, ◌++◌, length, map, fold, get_or, filter, Option, Some, None, Result, Ok, Err, cond, sym, ap, ◌∙◌, subst, arith, length-append}
use Rattle.std.specs.Prelude.{All, IfSome, is_some, nat_le}
use Rattle.std.specs.List.{AllByRecursion, range_with_len}
use Rattle.std.proofs.Math.Seq.{get_or-append_seam}
use Rattle.std.proofs.lemmas.Bool.{cases_lt, cond_both}
use Rattle.std.proofs.lemmas.List.{length-map, get_or_past}
use Rattle.std.proofs.lemmas.List.Elements.{All-nil, All-push, All-set, All-get_or, All-from_get_or, All-weaker}
use Rattle.std.proofs.lemmas.List.FromFn.{length-range_with_len}
use Rattle.std.proofs.lemmas.List.Sums.{length-filter, count_by-le-length}
use Rattle.pq_base.specs.Columns.{has_col, set_of}
use Rattle.pq_base.specs.declared.number.Choice.{Choice}
use Rattle.pq_base.specs.declared.number.Choice.TheVariants.{Whole, Stop}
use Rattle.pq_base.specs.declared.refusal.Refusal.{Refusal}
use Rattle.pq_base.specs.declared.refusal.Refusal.TheVariants as refusal
use Rattle.pq_base.specs.declared.value.Value.{Value}
use Rattle.pq_schema.specs.declared.definition.TableDef.{TableDef}
use Rattle.pq_schema.specs.declared.query.Query.{Query}
use Rattle.pq_schema.specs.declared.table.Column.{Column}
use Rattle.pq_schema.specs.declared.table.Foreign.{Foreign}
use Rattle.pq_schema.specs.declared.table.Index.{Index}
use Rattle.pq_schema.specs.declared.table.Limit.{Limit}
use Rattle.pq_schema.specs.declared.table.NewIndex.{NewIndex}
use Rattle.pq_schema.specs.declared.table.Table.{Table}
use Rattle.pq_schema.specs.Candidates.{Candidate, candidates, least}
use Rattle.pq_schema.specs.Definitions.{column_of, bare_table, new_table, altered_table}
use Rattle.pq_schema.specs.Relations.{relation_at, table_of, tied_set, order_rest, is_rest, part_of}
use Rattle.pq_schema.specs.Schema.{Schema, with_new_index, with_wanted, with_new_column, with_added}
use Rattle.pq_schema.specs.Sequences.{ascending_part, group_access, groups, with_group, serving_access, new_index}
use Rattle.pq_schema.specs.Sound.{IsMade, IsMadeLimit, IsMadeForeign, AreMade}
use Rattle.pq_schema.specs.Tables.{table_at, no_table}
use Rattle.pq_schema.specs.Valid.{IsValid}
use Rattle.pq_schema.specs.Valid.IsValid.{empty, then_table, then_query, then_column, then_counter}
use Rattle.pq_schema.specs.Wanted.{is_large, index_at, index_of, too_many_indexes, ChosenCandidate, with_index, chosen_of, IsWanted}
use Rattle.pq_schema.proofs.Accepted.{all_groups, made_is}
use Rattle.pq_schema.proofs.Groups.{IsAsBefore, group_index, groups_as_before}
use Rattle.pq_schema.proofs.Soundness.{foreign_linked, all_made}
use Rattle.pq_schema.proofs.Valid.{valid_made, column_parts, counter_parts}
use Rattle.pq_index_keep.specs.Sound.{IsWritable, AreWritable}

-- an index's own columns are at most those of a table and of an order
abbrev IsNarrow : Index → Type 0
IsNarrow index = length index.cols ≤ 36

-- made tables with indexes of few columns are ones whose rows can be written
writable : (tables : List Table) → AreMade tables → All (λ (t : Table). All IsNarrow t.indexes) tables → AreWritable tables
writable tables made narrow = All-from_get_or (IsWritable tables) tables no_table (λ i there.
    let place : i + 1 - 1 ≡ i = omega arith in
    record {
      number = i + 1;
      made = subst (λ n. IsMade tables (i + 1) (get_or tables n no_table)) place (made (i + 1) (omega arith) (omega arith));
      narrow = All-get_or (λ (t : Table). All IsNarrow t.indexes) tables i no_table there narrow;
    })

-- ---- the indexes of a new table

abbrev IsShort : List ℕ → Type 0
IsShort cols = length cols ≤ 4

group_narrow : (table : Table) (cols : List ℕ) → All IsNarrow table.indexes → IsShort cols → All IsNarrow (with_group table cols).indexes
group_narrow table cols all short =
    cond_both (is_some (group_access table (set_of cols))) table (with_new_index table (group_index cols)) (λ (t : Table). All IsNarrow t.indexes) (λ _. all)
    (λ _. All-push IsNarrow table.indexes (group_index cols) all (let long = length-map cols ascending_part in omega (arith, long, short)))

groups_narrow : (gs : List (List ℕ)) (table : Table) → All IsNarrow table.indexes → AllByRecursion IsShort gs → All IsNarrow (fold with_group table gs).indexes
groups_narrow [] table all short = all
groups_narrow (g ∷ gs) table all short = groups_narrow gs (with_group table g) (group_narrow table g all short.0) short.1

module _ (tables : List Table) (number : ℕ) (table : Table) (keys : (k : ℕ) → 1 ≤ k → k < number → length (table_at tables k).key ≤ 4) where
  foreign_short : (foreign : Foreign) → IsMadeForeign tables number table.columns foreign → IsShort foreign.cols
  foreign_short foreign made =
      let few = keys foreign.table made.from_one made.earlier in
      omega (arith, few, (foreign_linked tables number table foreign made).long)

  -- the columns of each limit and of each foreign key are at most 4
  groups_short : IsMade tables number table → AllByRecursion IsShort (groups table)
  groups_short made =
      all_groups IsShort table
      (All-weaker (IsMadeLimit (length table.columns)) (λ (l : Limit). IsShort l.cols) (λ l is. is.cols.few) table.limits made.limits)
      (All-weaker (IsMadeForeign tables number table.columns) (λ (f : Foreign). IsShort f.cols) foreign_short table.foreign made.foreign)

same_groups : (before now : Table) → IsAsBefore before now → groups now ≡ groups before
same_groups before now same = λ i. map (λ (l : Limit). l.cols) (same.limits i) ++ map (λ (f : Foreign). f.cols) (same.foreign i)

-- the indexes that a new table gets have few columns
pub narrow_made : (schema : Schema) (def : TableDef) (table : Table) → new_table schema def ≡ Ok table → AreMade (schema.tables ++ table ∷ []) → All (λ (index : Index). length index.cols ≤ 36) table.indexes
narrow_made schema def table made all =
    let bare = bare_table schema def in
    let tables = schema.tables ++ table ∷ [] in
    let number = length schema.tables + 1 in
    let long : length tables ≡ number = length-append schema.tables (table ∷ []) in
    let place : number - 1 ≡ length schema.tables = omega arith in
    let last : table_at tables number ≡ table = ap (λ n. get_or tables n no_table) place ∙ get_or-append_seam schema.tables table [] no_table in
    let is : IsMade tables number table = subst (IsMade tables number) last (all number (omega arith) (omega (arith, long))) in
    let made_by = made_is schema def table made in
    let same : IsAsBefore bare table = subst (IsAsBefore bare) made_by (groups_as_before (groups bare) bare) in
    let keys : (k : ℕ) → 1 ≤ k → k < number → length (table_at tables k).key ≤ 4 = λ k one below. (all k one (omega (arith, long, below))).key.few in
    let short = subst (AllByRecursion IsShort) (same_groups bare table same) (groups_short tables number table keys is) in
    subst (λ (t : Table). All IsNarrow t.indexes) made_by (groups_narrow (groups bare) bare (All-nil IsNarrow) short)

-- ---- the indexes of a valid schema

abbrev AreNarrow : Table → Type 0
AreNarrow table = All IsNarrow table.indexes

at_any : (P : Table → Type 0) (tables : List Table) (number : ℕ) → P no_table → All P tables → P (table_at tables number)
at_any P tables number none all = elim (cases_lt (number - 1) (length tables)) [
  | inl there ↦ All-get_or P tables (number - 1) no_table there all
  | inr past ↦ subst P (sym (get_or_past tables (number - 1) no_table past)) none
]

abbrev IsNarrowAnswer : Result (Option NewIndex) Refusal → Type 0
IsNarrowAnswer (Ok wanted) = IfSome wanted (λ new. IsNarrow new.index)
IsNarrowAnswer (Err why) = Unit {0}

abbrev IsNarrowChoice : Result ChosenCandidate Refusal → Type 0
IsNarrowChoice (Ok chosen) = IfSome chosen.wanted (λ new. IsNarrow new.index)
IsNarrowChoice (Err why) = Unit {0}

module _ (tables : List Table) (query : Query) (few_columns : All (λ (t : Table). length t.columns ≤ 32) tables) (few_order : length query.order ≤ 4) where
  -- an index that a query wants has the columns of a table and of an order at most
  narrow_new : (p : ℕ) → IsNarrow (new_index (table_of tables query p) (tied_set query p) (order_rest query p))
  narrow_new p =
      let table = table_of tables query p in
      let columns = range_with_len 0 (length table.columns) in
      let front = filter (has_col (tied_set query p)) columns in
      let rest = filter (is_rest p (tied_set query p)) query.order in
      let few : length table.columns ≤ 32 = at_any (λ (t : Table). length t.columns ≤ 32) tables (relation_at query p).table (omega arith) few_columns in
      let front_few : length front ≤ length columns = subst (λ n. n ≤ length columns) (sym (length-filter (has_col (tied_set query p)) columns)) (count_by-le-length (has_col (tied_set query p)) columns) in
      let rest_few : length rest ≤ length query.order = subst (λ n. n ≤ length query.order) (sym (length-filter (is_rest p (tied_set query p)) query.order)) (count_by-le-length (is_rest p (tied_set query p)) query.order) in
      let wide : length columns ≡ length table.columns = length-range_with_len 0 (length table.columns) in
      let both = length-append (map ascending_part front) (order_rest query p) in
      let one : length (map ascending_part front) ≡ length front = length-map front ascending_part in
      let two : length (order_rest query p) ≡ length rest = length-map rest part_of in
      omega (arith, both, one, two, wide, front_few, rest_few, few, few_order)

  narrow_answer : (p : ℕ) → IsNarrowAnswer (index_at tables query p)
  narrow_answer p =
      let table = table_of tables query p in
      let new : NewIndex = record { table = (relation_at query p).table; number = length table.indexes + 1; index = new_index table (tied_set query p) (order_rest query p) } in
      let full = nat_le 16 (length table.indexes) in
      cond_both (is_some (serving_access table (tied_set query p) (order_rest query p))) (Ok None) (cond full (Err too_many_indexes) (Ok (Some new))) IsNarrowAnswer (λ _. tt)
      (λ _. cond_both full (Err too_many_indexes) (Ok (Some new)) IsNarrowAnswer (λ _. tt) (λ _. narrow_new p))

  narrow_index : (choice : Choice) → IsNarrowAnswer (index_of tables query choice)
  narrow_index Whole = tt
  narrow_index (Stop p) = narrow_answer p

  narrow_with : (best : Candidate) (answer : Result (Option NewIndex) Refusal) → IsNarrowAnswer answer → IsNarrowChoice (with_index best answer)
  narrow_with best (Ok wanted) narrow = narrow
  narrow_with best (Err why) narrow = tt

  narrow_chosen : (best : Option Candidate) → IsNarrowChoice (chosen_of tables query best)
  narrow_chosen None = tt
  narrow_chosen (Some best) =
      let why = refusal.BoundLarge best.bound.ops best.bound.entries in
      cond_both (is_large best.bound) (Err why) (with_index best (index_of tables query best.choice)) IsNarrowChoice (λ _. tt)
      (λ _. narrow_with best (index_of tables query best.choice) (narrow_index best.choice))

  narrow_wanted : (wanted : Option NewIndex) → IsWanted tables query wanted → IfSome wanted (λ new. IsNarrow new.index)
  narrow_wanted wanted is = subst IsNarrowChoice is.chosen (narrow_chosen (least (candidates tables query)))

narrow_with_wanted : (tables : List Table) (wanted : Option NewIndex) → All AreNarrow tables → IfSome wanted (λ new. IsNarrow new.index) → All AreNarrow (with_wanted tables wanted)
narrow_with_wanted tables None all narrow = all
narrow_with_wanted tables (Some new) all narrow =
    let table = table_at tables new.table in
    let own : AreNarrow table = at_any AreNarrow tables new.table (All-nil IsNarrow) all in
    All-set AreNarrow tables (new.table - 1) (with_new_index table new.index) (All-push IsNarrow table.indexes new.index own narrow) all

-- an added column leaves the indexes
narrow_with_added : (tables : List Table) (number : ℕ) (column : Column) (filler : Value) → All AreNarrow tables → All AreNarrow (with_added tables number column filler)
narrow_with_added tables number column filler all =
    let table = table_at tables number in
    All-set AreNarrow tables (number - 1) (with_new_column table column filler) (at_any AreNarrow tables number (All-nil IsNarrow) all) all

-- each index of a valid schema has few columns
pub valid_narrow : {s : Schema} → IsValid s → All (λ (t : Table). All (λ (index : Index). length index.cols ≤ 36) t.indexes) s.tables
valid_narrow empty = All-nil AreNarrow
valid_narrow (then_table s def table v d made) =
    All-push AreNarrow s.tables table (valid_narrow v) (narrow_made s def table made (valid_made (then_table s def table v d made)))
valid_narrow (then_query s query wanted v d) =
    let few = all_made (λ (t : Table). length t.columns ≤ 32) s.tables (λ number table is. is.few_columns) (valid_made v) in
    narrow_with_wanted s.tables wanted (valid_narrow v) (narrow_wanted s.tables query few d.resolved.few_order wanted d.chosen)
valid_narrow (then_column s def next v is) =
    subst (λ (x : Schema). All AreNarrow x.tables) (column_parts s def next is.accepted).1
    (narrow_with_added s.tables (altered_table s def) (column_of def.column) def.filler (valid_narrow v))
valid_narrow (then_counter s def next v is) =
    subst (λ (x : Schema). All AreNarrow x.tables) (counter_parts s def next is.accepted).1 (valid_narrow v)

-- the rows of a valid schema's tables can be written
pub valid_writable : {s : Schema} → IsValid s → AreWritable s.tables
valid_writable {s} v = writable s.tables (valid_made v) (valid_narrow v)
