use Rattle.std.proofs.Common.{◌≡◌, ◌≤◌, ◌-◌, length, take, sum_by}
use Rattle.std.specs.List.{AllZip}
use Rattle.pq_store.specs.Counts.{raised_counts}
use Rattle.pq_store.specs.Rounds.{Pays, IsValueAnswered, one_if_some}
use Rattle.pq_host.specs.Ends.{HasAskedAll, HasAskedValues, any_answer}
use Rattle.pq_host.proofs.host_store.HostStoreStore.gets.Given as goal

abbrev pub invariant-loop-alloc : goal.invariant-loop-alloc
invariant-loop-alloc g l = record {
  few : length l.found ≤ length l.keys;
  zip : AllZip (IsValueAnswered any_answer) (take (length l.found) l.keys) l.found;
  later : l.fn.self.faults ≤ l.self.faults;
  paid : Pays l.fn.allowance l.allowance l.fn.meter l.meter (length l.found) (length l.found);
  counted : l.meter ≡ raised_counts l.fn.meter (sum_by one_if_some (take (length l.found) l.keys)) (sum_by one_if_some l.found);
  asked : HasAskedAll l.most (HasAskedValues l.fn.self.node) l.fn.self.link l.self.link (take (length l.found) l.keys) l.found;
  node : l.self.node ≡ l.fn.self.node;
  rounds : l.self.rounds ≡ l.fn.self.rounds;
}

abbrev pub decreases-loop-alloc : goal.decreases-loop-alloc
decreases-loop-alloc g l = length l.keys - length l.found
