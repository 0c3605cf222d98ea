use Rattle.std.proofs.Common.{◌≡◌, []}
use Rattle.std.specs.List.{filter_map, range_with_len, cons_option}
use Rattle.pq_query_read.specs.Columns.{named_in}
use Rattle.pq_query_read.proofs.columns.only_named.Given as goal

abbrev pub invariant-loop-place : goal.invariant-loop-place
invariant-loop-place l = cons_option l.found [] ≡ filter_map (named_in l.catalog.tables l.relations l.name) (range_with_len 1 l.place)
