use Rattle.std.proofs.Common.{◌≡◌, ◌-◌}
use Rattle.std.specs.Prelude.{flat_map}
use Rattle.std.specs.List.{range_with_len}
use Rattle.pq_query_read.specs.Columns.{all_of}
use Rattle.pq_query_read.proofs.columns.all_columns.Given as goal

abbrev pub invariant-loop-rel : goal.invariant-loop-rel
invariant-loop-rel l = l.refs ≡ flat_map (all_of l.catalog.tables l.relations) (range_with_len 1 (l.rel - 1))
