use Rattle.std.proofs.Common.{◌≡◌, ◌≤◌, ◌++◌, map, take, length}
use Rattle.pq_store.specs.Content.{entry}
use Rattle.pq_mem_store.proofs.block.copy_first.Given as goal

abbrev pub invariant-loop-pair : goal.invariant-loop-pair
invariant-loop-pair l = record {
  few : length l.copies ≤ l.fn.most;
  so_far : map entry l.copies ≡ take l.fn.most (map entry l.fn.copies ++ take l.pair-index l.held);
}
