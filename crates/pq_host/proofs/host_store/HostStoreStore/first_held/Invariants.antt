use Rattle.std.proofs.Common.{◌≡◌, ◌≤◌, ◌-◌, None, [], length, take, sum_by}
use Rattle.pq_store.specs.Rounds.{Pays, test_entries}
use Rattle.pq_store.proofs.Rounds.{AreNoneCounted}
use Rattle.pq_host.specs.Ends.{HasAskedAll, HasAskedUnheld}
use Rattle.pq_host.proofs.host_store.HostStoreStore.first_held.Given as goal

abbrev pub invariant-loop-begin : goal.invariant-loop-begin
invariant-loop-begin g l = record {
  few : l.begin ≤ length l.tests;
  later : l.fn.self.faults ≤ l.self.faults;
  paid : Pays l.fn.allowance l.allowance l.fn.meter l.meter l.begin (sum_by test_entries (take l.begin l.tests));
  counted : AreNoneCounted None l.fn.meter l.meter l.tests l.begin;
  asked : HasAskedAll l.most (HasAskedUnheld l.fn.self.node) l.fn.self.link l.self.link (take l.begin l.tests) [];
  node : l.self.node ≡ l.fn.self.node;
  rounds : l.self.rounds ≡ l.fn.self.rounds;
}

abbrev pub decreases-loop-begin : goal.decreases-loop-begin
decreases-loop-begin g l = length l.tests - l.begin
