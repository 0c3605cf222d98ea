-- The bounds of writes are small numbers.
use Rattle.std.proofs.Common.{ℕ, ◌+◌, ◌^◌, ◌<◌, ◌≤◌, ◌==◌, Bool, true, false, List, length, arith}
use Rattle.std.specs.Prelude.{if◌then◌else◌}
use Rattle.std.proofs.lemmas.List.Sums.{sum_by-le, count_by-le-length}
use Rattle.std.proofs.lemmas.List.Elements.{All-weaker}
use Rattle.pq_base.specs.declared.number.Bound.{Bound}
use Rattle.pq_schema.specs.Sound.{IsMadeLimit}
use Rattle.pq_schema.specs.declared.table.Limit.{Limit}
use Rattle.pq_schema.specs.declared.table.Foreign.{Foreign}
use Rattle.pq_schema.specs.declared.table.Table.{Table}
use Rattle.pq_schema.specs.Tables.{table_at}
use Rattle.pq_index_keep.specs.declared.write.Scope.{Scope}
use Rattle.pq_index_keep.specs.declared.write.Scope.TheVariants as scope
use Rattle.pq_index_keep.specs.declared.write.Write.{Write}
use Rattle.pq_index_keep.specs.declared.write.Write.TheVariants as write
use Rattle.pq_index_keep.specs.Bounds.{tested_n, refers, referring_count, tests, write_bound, most_changes}
use Rattle.pq_index_keep.specs.Sound.{IsWritable, AreWritable, IsWrite}
use Rattle.pq_index_keep.specs.Tested.{touches, touches_index, scope_of}
use Rattle.pq_index_keep.proofs.Inserting.{writable_at}
use Rattle.pq_content.specs.Standing.{write_ops}

pub record IsFew (bound : Bound) : Type 0 where
  pub ops : bound.ops < 2 ^ 32
  pub entries : bound.entries < 2 ^ 32

n_of : (b : Bool) (n : ℕ) → n ≤ 10000 → (if b then n else 0) ≤ 10000
n_of true n most = most
n_of false n most = omega arith

pub tests_few : (tables : List Table) (table : Table) (of : Scope) → IsWritable tables table → ((tests of table).ops ≤ 9) × ((tests of table).entries ≤ 40005)
tests_few tables table of sound =
    let parents = count_by-le-length (λ (f : Foreign). touches of f.cols) table.foreign in
    let limits = count_by-le-length (λ (limit : Limit). touches of limit.cols) table.limits in
    let rows = sum_by-le (tested_n of) 10000 table.limits (All-weaker (IsMadeLimit (length table.columns)) (λ limit. tested_n of limit ≤ 10000) (λ limit is. n_of (touches of limit.cols) limit.n is.most) table.limits sound.made.limits) in
    let few_foreign = sound.made.few_foreign in
    let few_limits = sound.made.few_limits in
    (omega (arith, parents, limits, few_foreign, few_limits), omega (arith, parents, rows, few_foreign, few_limits))

pub referring_few : (tables : List Table) (t : ℕ) → AreWritable tables → length tables ≤ 64 → referring_count tables t ≤ 256
referring_few tables t sound few =
    let each = All-weaker (IsWritable tables) (λ table. refers t table ≤ 4)
    (λ table w. let most = count_by-le-length (λ (f : Foreign). f.table == t) table.foreign in let short = w.made.few_foreign in omega (arith, most, short)) tables sound in
    omega (arith, sum_by-le (refers t) 4 tables each, few)

commit_few : (n : ℕ) → write_ops n ≤ n + 2
commit_few n = elim (n == 1) as (λ b. (if b then 1 else n + 2) ≤ n + 2) [
  | true ↦ omega arith
  | false ↦ omega arith
]

-- at most so many operations and entries
pub record IsSmallBound (bound : Bound) : Type 0 where
  pub ops : bound.ops ≤ 300
  pub entries : bound.entries ≤ 40005

pub small_of : (tables : List Table) (write : Write) → AreWritable tables → length tables ≤ 64 → IsWrite tables write → IsSmallBound (write_bound tables write)
small_of tables (write.Insert t row) sound small is =
    let table = writable_at tables t sound is.number in
    let few = tests_few tables (table_at tables t) scope.All table in
    let indexes = table.made.few_indexes in
    let commits = commit_few (1 + length (table_at tables t).indexes) in
    record { ops = omega (arith, few.0, indexes, commits); entries = omega (arith, few.1) }
small_of tables (write.Update t key sets conds) sound small is =
    let table = writable_at tables t sound is.number in
    let few = tests_few tables (table_at tables t) (scope_of sets) table in
    let indexes = table.made.few_indexes in
    let touched = count_by-le-length (touches_index (scope_of sets) (table_at tables t)) (table_at tables t).indexes in
    let commits = commit_few (most_changes tables (write.Update t key sets conds)) in
    record { ops = omega (arith, few.0, indexes, touched, commits); entries = omega (arith, few.1) }
small_of tables (write.Delete t key conds) sound small is =
    let table = writable_at tables t sound is.number in
    let few = referring_few tables t sound small in
    let indexes = table.made.few_indexes in
    let commits = commit_few (1 + length (table_at tables t).indexes) in
    record { ops = omega (arith, few, indexes, commits); entries = omega (arith, few) }

pub few_of : (tables : List Table) (write : Write) → AreWritable tables → length tables ≤ 64 → IsWrite tables write → IsFew (write_bound tables write)
few_of tables write sound small is =
    let most = small_of tables write sound small is in
    let ops = most.ops in
    let entries = most.entries in
    record { ops = omega (arith, ops); entries = omega (arith, entries) }
