use Rattle.std.proofs.Common.{◌≡◌, ◌+◌, ◌≤◌, map, take}
use Rattle.std.specs.Prelude.{IfSome}
use Rattle.pq_store.specs.Content.{entry}
use Rattle.pq_intent.specs.Changing.{StaysUntold}
use Rattle.pq_builds.specs.Filling.{Enters}
use Rattle.pq_builds.proofs.entries.write_entries.Given as goal

abbrev pub invariant-loop-pair : goal.invariant-loop-pair
invariant-loop-pair g l = record {
  enters : IfSome (g.S.Store.content l.initial.store) (λ c. Enters l.target (take l.pair-index (map entry l.pairs)) c (g.S.Store.content l.store));
  each : l.meter.ops ≡ l.initial.meter.ops + l.pair-index;
  entries : l.meter.entries ≡ l.initial.meter.entries;
  untold : StaysUntold (g.S.Store.content l.initial.store) (g.S.Store.content l.store);
  later : g.S.Store.faults l.initial.store ≤ g.S.Store.faults l.store;
}
