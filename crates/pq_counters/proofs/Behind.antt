-- What a write may read and change behind other writes.
use Rattle.std.proofs.Common.{◌≡◌, ℕ, ◌+◌, ◌*◌, ◌≤◌, true, false, cond, ◌&&◌, ◌==◌, List, [], ◌∷◌, length, refl, sym, ap, ◌∙◌, arith}
use Rattle.std.specs.Prelude.{filter}
use Rattle.std.proofs.lemmas.Bool.{eqb-true, eq-eqb, false≢true}
use Rattle.std.proofs.lemmas.List.{length-map}
use Rattle.std.proofs.lemmas.List.Sums.{sum_by-cons}
use Rattle.pq_base.specs.declared.number.Bound.{Bound}
use Rattle.pq_schema.proofs.Counters.{few_counters}
use Rattle.pq_schema.specs.Schema.{Schema, counters_of}
use Rattle.pq_schema.specs.Valid.{IsValid}
use Rattle.pq_index_keep.specs.Bounds.{tests_behind}
use Rattle.pq_index_keep.specs.Sound.{IsWrite}
use Rattle.pq_index_keep.specs.Tested.{touches, scope_of}
use Rattle.pq_index_keep.specs.declared.write.Write.{Write}
use Rattle.pq_index_keep.specs.declared.write.Write.TheVariants as write
use Rattle.pq_index_keep.proofs.Narrow.{valid_writable}
use Rattle.pq_tallies.specs.Defined.{NumberedCounter, counters_in, counter_numbered}
use Rattle.pq_tallies.specs.Writes.{written_table}
use Rattle.pq_tallies.proofs.Defined.{counters_of_table}
use Rattle.pq_counters.specs.Bounds.{most_moves, all_moves, counter_reads}
use Rattle.pq_counters.specs.Whole.{whole_changes, reads_behind}
use Rattle.pq_counters.proofs.Small.{most_few, few_row_changes}

-- ---- changes

-- a counter of another table has none
flip : (a b : ℕ) → (b == a) ≡ false → (a == b) ≡ false
flip a b h = elim (a == b) as (λ x. (a == b) ≡ x → x ≡ false) [ true ↦ λ is. absurd (false≢true (sym h ∙ eq-eqb b a (sym (eqb-true a b is)))) | false ↦ λ _. refl ] refl

most_other : (w : Write) (c : NumberedCounter) → (c.table == written_table w) ≡ false → most_moves w c ≡ 0
most_other (write.Insert t row) c other = ap (λ b. cond b 1 0) (flip t c.table other)
most_other (write.Update t key sets conds) c other = ap (λ b. cond (b && touches (scope_of sets) c.cols) 2 0) (flip t c.table other)
most_other (write.Delete t key conds) c other = ap (λ b. cond b 1 0) (flip t c.table other)

own_few : (w : Write) (cs : List NumberedCounter) → all_moves cs w ≤ 2 * length (filter (λ c. c.table == written_table w) cs)
own_few w [] = omega arith
own_few w (c ∷ cs) =
    let own = λ (d : NumberedCounter). d.table == written_table w in
    let parts = sum_by-cons (most_moves w) c cs in
    let rest = own_few w cs in
    elim (c.table == written_table w) as (λ b. (c.table == written_table w) ≡ b → all_moves (c ∷ cs) w ≤ 2 * length (cond b (c ∷ filter own cs) (filter own cs))) [
      | true ↦ λ _. let two = most_few w c in omega (arith, parts, rest, two)
      | false ↦ λ other. let none = most_other w c other in omega (arith, parts, rest, none)
    ] refl

-- a table has at most four counters
pub few_moves : (schema : Schema) (w : Write) → IsValid schema → all_moves (counters_in schema) w ≤ 8
few_moves schema w v =
    let t = written_table w in
    let few = few_counters t v in
    let own = own_few w (counters_in schema) in
    let same : length (filter (λ c. c.table == t) (counters_in schema)) ≡ length (counters_of schema t) =
    sym (ap length (counters_of_table schema t)) ∙ length-map (counters_of schema t) (counter_numbered schema) in
    omega (arith, few, own, same)

-- a write changes at most 41 pairs
pub few_changes : (schema : Schema) (w : Write) → IsValid schema → IsWrite schema.tables w → whole_changes schema w ≤ 41
few_changes schema w v may =
    let rows = few_row_changes schema.tables w (valid_writable v) may in
    let moves = few_moves schema w v in
    omega (arith, rows, moves)

-- ---- reads

-- the reads of the tests, and behind them those of the counters
pub reads_are : (removers : ℕ) (schema : Schema) (w : Write) (tests : Bound) (reads : ℕ) → tests ≡ tests_behind removers schema.tables w → reads ≡ counter_reads (counters_in schema) w
    → record { ops = tests.ops + reads; entries = tests.entries + reads } ≡ reads_behind removers schema w
reads_are removers schema w tests reads is same =
    let ops : tests.ops ≡ (tests_behind removers schema.tables w).ops = ap (λ (b : Bound). b.ops) is in
    let entries : tests.entries ≡ (tests_behind removers schema.tables w).entries = ap (λ (b : Bound). b.entries) is in
    let all_ops : tests.ops + reads ≡ (reads_behind removers schema w).ops = omega (arith, ops, same) in
    let all_entries : tests.entries + reads ≡ (reads_behind removers schema w).entries = omega (arith, entries, same) in
    λ i. record { ops = all_ops i; entries = all_entries i }
