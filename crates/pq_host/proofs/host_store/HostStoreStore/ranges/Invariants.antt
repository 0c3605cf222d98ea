use Rattle.std.proofs.Common.{◌≡◌, ◌≤◌, ◌-◌, ◌*◌, length, take, sum_by}
use Rattle.std.specs.List.{AllZip}
use Rattle.pq_store.specs.Counts.{raised_counts}
use Rattle.pq_store.specs.Rounds.{Pays, IsPartAsked, one_if_some}
use Rattle.pq_host.specs.Ends.{HasAskedAll, HasAskedParts}
use Rattle.pq_host.proofs.host_store.HostStoreStore.ranges.Given as goal

abbrev pub invariant-loop-alloc : goal.invariant-loop-alloc
invariant-loop-alloc g l = record {
  few : length l.found ≤ length l.asks;
  zip : AllZip (IsPartAsked l.limit) (take (length l.found) l.asks) l.found;
  later : l.fn.self.faults ≤ l.self.faults;
  paid : Pays l.fn.allowance l.allowance l.fn.meter l.meter (length l.found) (length l.found * l.limit);
  counted : l.meter ≡ raised_counts l.fn.meter (sum_by one_if_some (take (length l.found) l.asks)) (sum_by length l.found);
  asked : HasAskedAll l.most (HasAskedParts l.fn.self.node l.limit) l.fn.self.link l.self.link (take (length l.found) l.asks) l.found;
  node : l.self.node ≡ l.fn.self.node;
  rounds : l.self.rounds ≡ l.fn.self.rounds;
}

abbrev pub decreases-loop-alloc : goal.decreases-loop-alloc
decreases-loop-alloc g l = length l.asks - length l.found
