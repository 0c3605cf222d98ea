use Rattle.std.proofs.Common.{◌-◌, ◌≤◌, List, ℕ, Option}
use Rattle.pq_shell.specs.Making.{moment}
use Rattle.pq_shell.proofs.Filled.{FillsSoFar}
use Rattle.pq_shell.proofs.filling.fill_store.Given as goal

abbrev pub invariant-loop-made : goal.invariant-loop-made
invariant-loop-made g l = record {
  within : l.made ≤ l.count;
  store_later : g.S.Store.faults l.initial.store ≤ g.S.Store.faults l.store;
  so_far : (held : Option (List ℕ)) → FillsSoFar l.n l.initial.session l.session l.fn.used (moment (g.S.Store.content l.initial.store) held l.initial.meter)
      (moment (g.S.Store.content l.store) held l.meter) l.made l.filled;
}

abbrev pub decreases-loop-made : goal.decreases-loop-made
decreases-loop-made g l = l.count - l.made
