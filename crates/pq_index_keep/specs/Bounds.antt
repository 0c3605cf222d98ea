-- The bounds of writes.
use Rattle.std.specs.Prelude.{ℕ, Bool, ◌+◌, ◌*◌, ◌==◌, if◌then◌else◌, List, length}
use Rattle.std.specs.List.{sum_by, count_by}
use Rattle.pq_base.specs.declared.number.Bound.{Bound}
use Rattle.pq_schema.specs.declared.table.Foreign.{Foreign}
use Rattle.pq_schema.specs.declared.table.Limit.{Limit}
use Rattle.pq_schema.specs.declared.table.Table.{Table}
use Rattle.pq_schema.specs.Tables.{table_at}
use Rattle.pq_index_keep.specs.declared.write.Scope.{Scope}
use Rattle.pq_index_keep.specs.declared.write.Scope.TheVariants as scope
use Rattle.pq_index_keep.specs.declared.write.Write.{Write}
use Rattle.pq_index_keep.specs.declared.write.Write.TheVariants as write
use Rattle.pq_index_keep.specs.Tested.{touches, touches_index, scope_of}
use Rattle.pq_content.specs.Standing.{write_ops}

-- ---- foreign keys and limits of a table that are tested

abbrev pub tested_foreign : Scope → List Foreign → ℕ
tested_foreign of foreign = count_by (λ f. touches of f.cols) foreign

abbrev pub tested_limits : Scope → List Limit → ℕ
tested_limits of limits = count_by (λ limit. touches of limit.cols) limits

-- one for what is tested, and the n of a limit that is tested
abbrev pub one_if : Bool → ℕ
one_if tested = if tested then 1 else 0

abbrev pub tested_n : Scope → Limit → ℕ
tested_n of limit = if touches of limit.cols then limit.n else 0

-- foreign keys that refer to a table
abbrev pub refers : ℕ → Table → ℕ
refers t table = count_by (λ f. f.table == t) table.foreign

abbrev pub referring_count : List Table → ℕ → ℕ
referring_count tables t = sum_by (refers t) tables

-- ---- operations and entries of the tests

abbrev pub tests : Scope → Table → Bound
tests of table = record {
  ops = 1 + tested_foreign of table.foreign + tested_limits of table.limits;
  entries = 1 + tested_foreign of table.foreign + sum_by (tested_n of) table.limits;
}

abbrev pub write_tests : List Table → Write → Bound
write_tests tables (write.Insert t row) = tests scope.All (table_at tables t)
write_tests tables (write.Update t key sets conds) = tests (scope_of sets) (table_at tables t)
write_tests tables (write.Delete t key conds) =
    record { ops = 1 + referring_count tables t; entries = 1 + referring_count tables t }

-- the greatest number of pairs that change
abbrev pub most_changes : List Table → Write → ℕ
most_changes tables (write.Insert t row) = 1 + length (table_at tables t).indexes
most_changes tables (write.Update t key sets conds) =
    1 + 2 * count_by (touches_index (scope_of sets) (table_at tables t)) (table_at tables t).indexes
most_changes tables (write.Delete t key conds) = 1 + length (table_at tables t).indexes

abbrev pub write_bound : List Table → Write → Bound
write_bound tables write = record {
  ops = (write_tests tables write).ops + write_ops (most_changes tables write);
  entries = (write_tests tables write).entries;
}

-- ---- behind other writes of a batch

-- the limits, and the foreign keys that refer to a row's table, whose rows a write may count
abbrev pub counted : List Table → Write → ℕ
counted tables (write.Insert t row) = tested_limits scope.All (table_at tables t).limits
counted tables (write.Update t key sets conds) = tested_limits (scope_of sets) (table_at tables t).limits
counted tables (write.Delete t key conds) = referring_count tables t

-- what may be read of the rows of a limit that is tested, behind so many writes that remove pairs
abbrev pub tested_n_behind : ℕ → Scope → Limit → ℕ
tested_n_behind removers of limit = if touches of limit.cols then limit.n + removers else 0

-- the same with the tests of foreign keys
abbrev pub tested_behind : ℕ → Scope → Table → Bound
tested_behind removers of table = record {
  ops = (tests of table).ops;
  entries = 1 + tested_foreign of table.foreign + sum_by (tested_n_behind removers of) table.limits;
}

-- of foreign keys and limits alone
abbrev pub row_behind : ℕ → Scope → Table → Bound
row_behind removers of table = record {
  ops = tested_foreign of table.foreign + tested_limits of table.limits;
  entries = tested_foreign of table.foreign + sum_by (tested_n_behind removers of) table.limits;
}

-- what a look at one key takes
abbrev pub one_get : Bound
one_get = record { ops = 1; entries = 1 }

-- so many operations and entries more
abbrev pub with_more : ℕ → Bound → Bound
with_more n bound = record { ops = n + bound.ops; entries = n + bound.entries }

-- what may be read of the rows that name a row of a table
abbrev pub names_behind : ℕ → ℕ → Foreign → ℕ
names_behind removers t foreign = if foreign.table == t then 1 + removers else 0

abbrev pub refers_behind : ℕ → ℕ → Table → ℕ
refers_behind removers t table = sum_by (names_behind removers t) table.foreign

abbrev pub referring_behind : ℕ → List Table → ℕ → ℕ
referring_behind removers tables t = sum_by (refers_behind removers t) tables

-- of all foreign keys that refer to the table
abbrev pub children_behind : ℕ → List Table → ℕ → Bound
children_behind removers tables t =
    record { ops = referring_count tables t; entries = referring_behind removers tables t }

-- behind so many writes that remove pairs each count may read as many more
abbrev pub tests_behind : ℕ → List Table → Write → Bound
tests_behind removers tables write = record {
  ops = (write_tests tables write).ops;
  entries = (write_tests tables write).entries + counted tables write * removers;
}

-- whether the write removes pairs: 1 where it does
abbrev pub removers_of : Write → ℕ
removers_of (write.Insert t row) = 0
removers_of (write.Update t key sets conds) = 1
removers_of (write.Delete t key conds) = 1
