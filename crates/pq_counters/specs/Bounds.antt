-- What counters add to the bound of a write.
use Rattle.std.specs.Prelude.{ℕ, ◌+◌, ◌-◌, ◌==◌, ◌&&◌, if◌then◌else◌, List}
use Rattle.std.specs.List.{sum_by}
use Rattle.pq_base.specs.declared.number.Bound.{Bound}
use Rattle.pq_schema.specs.Schema.{Schema}
use Rattle.pq_content.specs.Standing.{write_ops}
use Rattle.pq_index_keep.specs.Bounds.{most_changes, write_bound}
use Rattle.pq_index_keep.specs.Tested.{touches, scope_of}
use Rattle.pq_index_keep.specs.declared.write.SetCol.{SetCol}
use Rattle.pq_index_keep.specs.declared.write.Write.{Write}
use Rattle.pq_index_keep.specs.declared.write.Write.TheVariants as write
use Rattle.pq_tallies.specs.Defined.{NumberedCounter, counters_in}

-- how many pairs of a counter a write changes at most, and so how many it reads: one of a counter of the table, and
-- for an UPDATE two of one that holds a set column
abbrev pub update_moves : ℕ → List SetCol → NumberedCounter → ℕ
update_moves t sets counter = if (t == counter.table) && touches (scope_of sets) counter.cols then 2 else 0

abbrev pub most_moves : Write → NumberedCounter → ℕ
most_moves (write.Insert t row) counter = if t == counter.table then 1 else 0
most_moves (write.Update t key sets conds) counter = update_moves t sets counter
most_moves (write.Delete t key conds) counter = if t == counter.table then 1 else 0

abbrev pub all_moves : List NumberedCounter → Write → ℕ
all_moves counters write = sum_by (most_moves write) counters

-- an UPDATE and a DELETE read the old row again, where a counter may lose one
abbrev pub rereading : Write → ℕ
rereading (write.Insert t row) = 0
rereading (write.Update t key sets conds) = 1
rereading (write.Delete t key conds) = 1

abbrev pub reread : List NumberedCounter → Write → ℕ
reread counters write = if all_moves counters write == 0 then 0 else rereading write

-- operations and entries of reading
abbrev pub counter_reads : List NumberedCounter → Write → ℕ
counter_reads counters write = reread counters write + all_moves counters write

-- one round where something is asked for, else none
abbrev pub round_of : ℕ → ℕ
round_of n = if n == 0 then 0 else 1

-- the groups of all counters are asked for in one round
abbrev pub counter_rounds : List NumberedCounter → Write → ℕ
counter_rounds counters write = round_of (all_moves counters write)

-- the operations of the changes of rows, entries and counters
abbrev pub whole_ops : Schema → Write → ℕ
whole_ops schema write = write_ops (most_changes schema.tables write + all_moves (counters_in schema) write)

-- what the counters add: their reads, and the operations of their changes
abbrev pub counter_bound : Schema → Write → Bound
counter_bound schema write = record {
  ops = counter_reads (counters_in schema) write
      + (whole_ops schema write - write_ops (most_changes schema.tables write));
  entries = counter_reads (counters_in schema) write;
}

-- the bound of a write with what the counters add
abbrev pub whole_bound : Schema → Write → Bound
whole_bound schema write = record {
  ops = (write_bound schema.tables write).ops + (counter_bound schema write).ops;
  entries = (write_bound schema.tables write).entries + (counter_bound schema write).entries;
}
