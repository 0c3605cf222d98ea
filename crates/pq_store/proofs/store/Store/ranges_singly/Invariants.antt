use Rattle.std.proofs.Common.{◌≡◌, ◌≤◌, ◌*◌, length, take}
use Rattle.std.specs.List.{AllZip, AllByRecursion, sum_by}
use Rattle.pq_store.specs.Content.{AreAnswers}
use Rattle.pq_store.specs.Counts.{raised_counts}
use Rattle.pq_store.specs.Rounds.{one_if_some, Pays, ArePairsOf, IsPartAsked}
use Rattle.pq_store.proofs.store.Store.ranges_singly.Given as goal

abbrev pub invariant-loop-asked : goal.invariant-loop-asked
invariant-loop-asked g l = record {
  long : length l.found ≡ l.asked-index;
  answer : AllZip (ArePairsOf (g.Self.Store.content l.fn.self) l.limit) (take l.asked-index l.asks) l.found;
  parts : AllZip (IsPartAsked l.limit) (take l.asked-index l.asks) l.found;
  answered : AllByRecursion (AreAnswers g.Self.Store.answers) l.found;
  same : g.Self.Store.content l.self ≡ g.Self.Store.content l.fn.self;
  later : g.Self.Store.faults l.fn.self ≤ g.Self.Store.faults l.self;
  paid : Pays l.fn.allowance l.allowance l.fn.meter l.meter l.asked-index (l.asked-index * l.limit);
  counted : l.meter ≡ raised_counts l.fn.meter (sum_by one_if_some (take l.asked-index l.asks)) (sum_by length l.found);
}
