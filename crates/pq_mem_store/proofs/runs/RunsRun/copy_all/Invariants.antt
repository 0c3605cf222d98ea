use Rattle.std.proofs.Common.{◌≡◌, ◌++◌, map, take}
use Rattle.std.specs.List.{flat_map}
use Rattle.pq_store.specs.Content.{entry}
use Rattle.pq_mem_store.proofs.runs.RunsRun.copy_all.Given as goal

abbrev pub invariant-loop-run : goal.invariant-loop-run
invariant-loop-run g l = map entry l.copies ≡ map entry l.fn.copies ++ flat_map g.R.Begins.pairs (take l.run-index l.run-items)
