use Rattle.std.proofs.Common.{◌≡◌, ◌≤◌, None, take}
use Rattle.std.specs.Prelude.{IfSome}
use Rattle.std.specs.List.{position, sum_by}
use Rattle.pq_store.specs.Rounds.{Pays, test_entries, is_held}
use Rattle.pq_store.proofs.Rounds.{AreNoneCounted}
use Rattle.pq_store.proofs.store.Store.first_held_singly.Given as goal

abbrev pub invariant-loop-i : goal.invariant-loop-i
invariant-loop-i g l = record {
  none : IfSome (g.Self.Store.content l.fn.self) (λ pairs. position (is_held pairs) (take l.i l.tests) ≡ None);
  same : g.Self.Store.content l.self ≡ g.Self.Store.content l.fn.self;
  later : g.Self.Store.faults l.fn.self ≤ g.Self.Store.faults l.self;
  paid : Pays l.fn.allowance l.allowance l.fn.meter l.meter l.i (sum_by test_entries (take l.i l.tests));
  counted : AreNoneCounted (g.Self.Store.content l.fn.self) l.fn.meter l.meter l.tests l.i;
}
