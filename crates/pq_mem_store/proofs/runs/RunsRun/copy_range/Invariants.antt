use Rattle.std.proofs.Common.{◌≡◌, ◌≤◌, ◌++◌, map, take, filter, length}
use Rattle.std.specs.List.{flat_map}
use Rattle.pq_store.specs.Content.{entry, is_within}
use Rattle.pq_mem_store.proofs.runs.RunsRun.copy_range.Given as goal

abbrev pub invariant-loop-run : goal.invariant-loop-run
invariant-loop-run g l = record {
  few : length l.copies ≤ l.fn.most;
  so_far : map entry l.copies ≡ take l.fn.most (map entry l.fn.copies ++ filter (is_within l.fn.low l.fn.high) (flat_map g.R.Begins.pairs (take l.run-index l.run-items)));
}
