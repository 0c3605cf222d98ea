use Rattle.std.proofs.Common.{◌≡◌, min, take, filter, length}
use Rattle.std.specs.List.{flat_map}
use Rattle.pq_store.specs.Content.{is_within}
use Rattle.pq_mem_store.proofs.runs.RunsRun.number.Given as goal

abbrev pub invariant-loop-run : goal.invariant-loop-run
invariant-loop-run g l = l.n ≡ min l.fn.cap (length (filter (is_within l.fn.low l.fn.high) (flat_map g.R.Begins.pairs (take l.run-index l.run-items))))
