use Rattle.std.proofs.Common.{◌≡◌, ◌+◌, ◌≤◌, map, take}
use Rattle.pq_content.specs.Standing.{change_of}
use Rattle.pq_intent.specs.Changing.{content_after}
use Rattle.pq_intent.specs.Spending.{Spends}
use Rattle.pq_intent.proofs.write.write_changes.Given as goal

abbrev pub invariant-loop-change : goal.invariant-loop-change
invariant-loop-change g l = record {
  made : g.S.Store.content l.store ≡ content_after (take l.change-index (map change_of l.changes)) (g.S.Store.content l.initial.store);
  spends : Spends l.change-index l.initial.allowance l.allowance l.initial.meter l.meter;
  each : l.meter.ops ≡ l.initial.meter.ops + l.change-index;
  rounds : g.S.Store.rounds l.store ≤ g.S.Store.rounds l.initial.store + l.change-index;
  later : g.S.Store.faults l.initial.store ≤ g.S.Store.faults l.store;
}
