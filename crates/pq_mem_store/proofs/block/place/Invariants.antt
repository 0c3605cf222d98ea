use Rattle.std.proofs.Common.{◌-◌, ◌≤◌, IsTrue, length, take, drop}
use Rattle.pq_mem_store.specs.Runs.{are_behind}
use Rattle.pq_mem_store.specs.Split.{are_before}
use Rattle.pq_mem_store.proofs.block.place.Given as goal

abbrev pub invariant-loop-low : goal.invariant-loop-low
invariant-loop-low l = record {
  order : l.low ≤ l.high;
  within : l.high ≤ length l.fn.held;
  before : IsTrue (are_before l.fn.key (take l.low l.fn.held));
  behind : IsTrue (are_behind l.fn.key (drop l.high l.fn.held));
}

abbrev pub decreases-loop-low : goal.decreases-loop-low
decreases-loop-low l = l.high - l.low
