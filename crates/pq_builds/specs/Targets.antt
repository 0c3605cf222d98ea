-- The index that a build fills.
use Rattle.std.specs.Prelude.{ℕ}
use Rattle.pq_schema.specs.declared.table.Index.{Index}
use Rattle.pq_schema.specs.declared.table.Table.{Table}
use Rattle.pq_schema.specs.Rows.{types_of}
use Rattle.pq_schema.specs.Sequences.{index_sequence}
use Rattle.pq_builds.specs.declared.target.Target.{Target}

-- an index of a table, by both numbers
abbrev pub target_of : ℕ → ℕ → Table → Index → Target
target_of number place table index =
    record {
      table = number;
      index = place;
      types = types_of table;
      fillers = table.fillers;
      parts = index_sequence table index;
    }
