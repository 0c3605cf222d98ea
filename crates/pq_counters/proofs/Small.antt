-- Numbers of columns, of counters and of changes are small.
use Rattle.std.proofs.Common.{◌≡◌, ℕ, suc, ◌+◌, ◌-◌, ◌*◌, ◌≤◌, ◌<◌, true, false, cond, ◌&&◌, ◌==◌, List, [], ◌∷◌, ◌++◌, length, take, get_or, refl, sym, ap, ◌∙◌, subst, arith}
use Rattle.std.specs.Prelude.{All}
use Rattle.std.specs.List.{sum_by}
use Rattle.std.proofs.lemmas.Bool.Decides.{nat_tests}
use Rattle.std.proofs.lemmas.List.{take_more, take_all, append-nil, append_assoc}
use Rattle.std.proofs.lemmas.List.Elements.{All-from_get_or}
use Rattle.std.proofs.lemmas.List.Sums.{count_by-le-length, sum_by-append, sum_by-cons}
use Rattle.pq_schema.proofs.Counters.{counter_made}
use Rattle.pq_schema.proofs.Valid.{valid_small}
use Rattle.pq_schema.specs.Counters.{IsCounterNumber, IsMadeCounter}
use Rattle.pq_schema.specs.Schema.{Schema, IsCounterDefinition, counter_of, definition_at, no_definition}
use Rattle.pq_schema.specs.Tables.{table_at}
use Rattle.pq_schema.specs.Valid.{IsValid}
use Rattle.pq_schema.specs.declared.counter.Counter.{Counter}
use Rattle.pq_schema.specs.declared.made.Definition.{Definition}
use Rattle.pq_schema.specs.declared.made.Definition.TheVariants.{OfTable, OfQuery, OfColumn, OfCounter}
use Rattle.pq_schema.specs.declared.table.Table.{Table}
use Rattle.pq_content.specs.Standing.{write_ops}
use Rattle.pq_index_keep.specs.Bounds.{most_changes}
use Rattle.pq_index_keep.specs.Sound.{AreWritable, IsWrite}
use Rattle.pq_index_keep.specs.Tested.{touches, touches_index, scope_of}
use Rattle.pq_index_keep.specs.declared.write.Write.{Write}
use Rattle.pq_index_keep.specs.declared.write.Write.TheVariants as write
use Rattle.pq_index_keep.proofs.Few.{IsFew, small_of}
use Rattle.pq_index_keep.proofs.Inserting.{writable_at}
use Rattle.pq_index_keep.proofs.Narrow.{valid_writable}
use Rattle.pq_index_keep.proofs.Updating.{sets_small}
use Rattle.pq_tallies.specs.Defined.{NumberedCounter, counters_in, numbered_of, numbered_from, with_number}
use Rattle.pq_counters.specs.Bounds.{most_moves, all_moves, rereading, counter_reads, whole_bound}
use Rattle.pq_counters.specs.Steps.{HasSmallColumns, HasSmallCounter}

-- ---- columns

pub small_columns : (tables : List Table) (w : Write) → AreWritable tables → IsWrite tables w → HasSmallColumns w
small_columns tables (write.Insert t row) sound may = tt
small_columns tables (write.Update t key sets conds) sound may = sets_small (table_at tables t) sets (writable_at tables t sound may.number).made.few_columns may.each
small_columns tables (write.Delete t key conds) sound may = tt

counter_small : (schema : Schema) (counter : Counter) → IsValid schema → IsMadeCounter schema.tables counter → All (λ col. col < 32) counter.cols
counter_small schema counter v made k col less =
    let inside = made.cols.inside k col less in
    let few = (writable_at schema.tables counter.table (valid_writable v) (made.from_one, made.there)).made.few_columns in
    omega arith

small_at : (schema : Schema) (number : ℕ) → IsValid schema → 1 ≤ number → number ≤ length schema.definitions → HasSmallCounter (definition_at schema number)
small_at schema number v one there = by (definition_at schema number) refl
  where
    by : (d : Definition) → definition_at schema number ≡ d → HasSmallCounter d
    by (OfTable table columns made) is = tt
    by (OfQuery query made) is = tt
    by (OfColumn table col) is = tt
    by (OfCounter counter) is =
        let number_is : IsCounterNumber schema number = record { from_one = one; there = there; counter = subst IsCounterDefinition (sym is) tt } in
        counter_small schema counter v (subst (IsMadeCounter schema.tables) (ap counter_of is) (counter_made schema number v number_is))

pub counters_small : (schema : Schema) → IsValid schema → All HasSmallCounter schema.definitions
counters_small schema v = All-from_get_or HasSmallCounter schema.definitions no_definition (λ i there.
    let place : i + 1 - 1 ≡ i = omega arith in
    subst (λ n. HasSmallCounter (get_or schema.definitions n no_definition)) place (small_at schema (i + 1) v (omega arith) (omega arith)))

-- ---- the moves of one more definition

numbered_push : (number : ℕ) (front : List Definition) (last : Definition) → numbered_from number (front ++ last ∷ []) ≡ numbered_from number front ++ numbered_of (number + length front) last
numbered_push number [] last = append-nil (numbered_of number last) ∙ ap (λ n. numbered_of n last) (same number)
  where
    same : (n : ℕ) → n ≡ n + 0
    same n = omega arith
numbered_push number (d ∷ front) last =
    ap (λ (l : List NumberedCounter). numbered_of number d ++ l) (numbered_push (number + 1) front last)
    ∙ sym (append_assoc (numbered_of number d) (numbered_from (number + 1) front) (numbered_of (number + 1 + length front) last))
    ∙ ap (λ n. (numbered_of number d ++ numbered_from (number + 1) front) ++ numbered_of n last) (next number (length front))
  where
    next : (n k : ℕ) → n + 1 + k ≡ n + suc k
    next n k = omega arith

pub moves_more : (w : Write) (definitions : List Definition) (i : ℕ) (d : Definition) (moves : ℕ) → i < length definitions → ((number : ℕ) → moves ≡ all_moves (numbered_of number (get_or definitions i d)) w)
    → all_moves (numbered_from 1 (take (i + 1) definitions)) w ≡ all_moves (numbered_from 1 (take i definitions)) w + moves
moves_more w definitions i d moves less is =
    let f = most_moves w in
    let front = take i definitions in
    let last = get_or definitions i d in
    ap (λ (l : List Definition). sum_by f (numbered_from 1 l)) (take_more definitions i d less)
    ∙ ap (sum_by f) (numbered_push 1 front last)
    ∙ sum_by-append f (numbered_from 1 front) (numbered_of (1 + length front) last)
    ∙ ap (λ n. sum_by f (numbered_from 1 front) + n) (sym (is (1 + length front)))

pub all_taken : (w : Write) (schema : Schema) (count moves : ℕ) → count ≡ length schema.definitions → moves ≡ all_moves (numbered_from 1 (take count schema.definitions)) w → moves ≡ all_moves (counters_in schema) w
all_taken w schema count moves all is = is ∙ ap (λ (l : List Definition). all_moves (numbered_from 1 l) w) (ap (λ n. take n schema.definitions) all ∙ take_all (length schema.definitions) schema.definitions (omega arith))

-- at most two for each definition
pub most_few : (w : Write) (c : NumberedCounter) → most_moves w c ≤ 2
most_few (write.Insert t row) c = elim (t == c.table) as (λ b. cond b 1 0 ≤ 2) [ true ↦ omega arith | false ↦ omega arith ]
most_few (write.Update t key sets conds) c = elim ((t == c.table) && touches (scope_of sets) c.cols) as (λ b. cond b 2 0 ≤ 2) [ true ↦ omega arith | false ↦ omega arith ]
most_few (write.Delete t key conds) c = elim (t == c.table) as (λ b. cond b 1 0 ≤ 2) [ true ↦ omega arith | false ↦ omega arith ]

definition_few : (w : Write) (number : ℕ) (d : Definition) → all_moves (numbered_of number d) w ≤ 2
definition_few w number (OfTable table columns made) = omega arith
definition_few w number (OfQuery query made) = omega arith
definition_few w number (OfColumn table col) = omega arith
definition_few w number (OfCounter counter) =
    let c = with_number number counter in
    let few = most_few w c in
    let one = sum_by-cons (most_moves w) c [] in
    omega arith

pub moves_few : (schema : Schema) (w : Write) → IsValid schema → all_moves (counters_in schema) w ≤ 512
moves_few schema w v = let most = from 1 schema.definitions in let few = (valid_small v).definitions in omega arith
  where
    from : (number : ℕ) (ds : List Definition) → all_moves (numbered_from number ds) w ≤ 2 * length ds
    from number [] = omega arith
    from number (d ∷ ds) =
        let parts = sum_by-append (most_moves w) (numbered_of number d) (numbered_from (number + 1) ds) in
        let here = definition_few w number d in
        let rest = from (number + 1) ds in
        omega arith

-- ---- bounds

pub few_row_changes : (tables : List Table) (w : Write) → AreWritable tables → IsWrite tables w → most_changes tables w ≤ 33
few_row_changes tables (write.Insert t row) sound may = let few = (writable_at tables t sound may.number).made.few_indexes in omega arith
few_row_changes tables (write.Update t key sets conds) sound may =
    let table = table_at tables t in
    let few = (writable_at tables t sound may.number).made.few_indexes in
    let some = count_by-le-length (touches_index (scope_of sets) table) table.indexes in
    omega arith
few_row_changes tables (write.Delete t key conds) sound may = let few = (writable_at tables t sound may.number).made.few_indexes in omega arith

pub some_changes : (tables : List Table) (w : Write) → 1 ≤ most_changes tables w
some_changes tables (write.Insert t row) = omega arith
some_changes tables (write.Update t key sets conds) = omega arith
some_changes tables (write.Delete t key conds) = omega arith

pub more_ops : (n m : ℕ) → 1 ≤ n → write_ops n ≤ write_ops (n + m)
more_ops n m some = grind (arith, nat_tests)

few_ops : (n : ℕ) → write_ops n ≤ n + 2
few_ops n = grind (arith, nat_tests)

reads_few : (cs : List NumberedCounter) (w : Write) → counter_reads cs w ≤ 1 + all_moves cs w
reads_few cs w =
    let moves = all_moves cs w in
    let again = again_few w in
    elim (moves == 0) as (λ b. cond b 0 (rereading w) + moves ≤ 1 + moves) [ true ↦ omega arith | false ↦ omega arith ]
  where
    again_few : (w : Write) → rereading w ≤ 1
    again_few (write.Insert t row) = omega arith
    again_few (write.Update t key sets conds) = omega arith
    again_few (write.Delete t key conds) = omega arith

-- the whole bound is as small as the one of rows and entries
pub whole_few : (schema : Schema) (w : Write) → IsValid schema → IsWrite schema.tables w → IsFew (whole_bound schema w)
whole_few schema w v may =
    let rows = small_of schema.tables w (valid_writable v) (valid_small v).tables may in
    let moves = moves_few schema w v in
    let reads = reads_few (counters_in schema) w in
    let changes = few_row_changes schema.tables w (valid_writable v) may in
    let commits = few_ops (most_changes schema.tables w + all_moves (counters_in schema) w) in
    let ops = rows.ops in
    let entries = rows.entries in
    record { ops = omega arith; entries = omega arith }
