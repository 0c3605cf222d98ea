use Rattle.std.proofs.Common.{◌≡◌, ◌+◌, ◌*◌, ◌≤◌, true}
use Rattle.std.specs.Prelude.{IfSome}
use Rattle.pq_content.specs.Pairs.{is_in_space}
use Rattle.pq_intent.specs.Changing.{StaysUntold}
use Rattle.pq_builds.specs.Filling.{first_key, Follows}
use Rattle.pq_builds.proofs.fill.fill_rows.Given as goal

abbrev pub invariant-loop-full : goal.invariant-loop-full
invariant-loop-full g l = record {
  follows : IfSome (g.S.Store.content l.initial.store) (λ c. Follows l.target (first_key l.target.table) (256 * l.full) c (g.S.Store.content l.store) l.low);
  space : is_in_space 2 l.low ≡ true;
  each : l.meter.ops ≡ l.initial.meter.ops + 257 * l.full;
  entries : l.meter.entries ≡ l.initial.meter.entries + 256 * l.full;
  untold : StaysUntold (g.S.Store.content l.initial.store) (g.S.Store.content l.store);
  later : g.S.Store.faults l.initial.store ≤ g.S.Store.faults l.store;
}
