use Rattle.std.proofs.Common.{◌≡◌, ◌≤◌, length, take}
use Rattle.std.specs.List.{AllZip, sum_by}
use Rattle.pq_store.specs.Counts.{raised_counts}
use Rattle.pq_store.specs.Rounds.{one_if_some, Pays, IsValueOf, IsValueAnswered}
use Rattle.pq_store.proofs.store.Store.gets_singly.Given as goal

abbrev pub invariant-loop-asked : goal.invariant-loop-asked
invariant-loop-asked g l = record {
  long : length l.found ≡ l.asked-index;
  answer : AllZip (IsValueOf (g.Self.Store.content l.fn.self)) (take l.asked-index l.keys) l.found;
  answered : AllZip (IsValueAnswered g.Self.Store.answers) (take l.asked-index l.keys) l.found;
  same : g.Self.Store.content l.self ≡ g.Self.Store.content l.fn.self;
  later : g.Self.Store.faults l.fn.self ≤ g.Self.Store.faults l.self;
  paid : Pays l.fn.allowance l.allowance l.fn.meter l.meter l.asked-index l.asked-index;
  counted : l.meter ≡ raised_counts l.fn.meter (sum_by one_if_some (take l.asked-index l.keys)) (sum_by one_if_some l.found);
}
