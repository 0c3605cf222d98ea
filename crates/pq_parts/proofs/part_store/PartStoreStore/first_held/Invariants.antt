use Rattle.std.proofs.Common.{◌≡◌, ◌≤◌, ◌-◌, None, length, take, position, sum_by}
use Rattle.std.specs.Prelude.{IfSome}
use Rattle.pq_store.specs.Rounds.{Pays, is_held, test_entries}
use Rattle.pq_store.proofs.Rounds.{AreNoneCounted}
use Rattle.pq_parts.specs.Spans.{spans, joined_content, faults_of}
use Rattle.pq_parts.proofs.part_store.PartStoreStore.first_held.Given as goal

abbrev pub invariant-loop-made : goal.invariant-loop-made
invariant-loop-made g l = record {
  few : l.made ≤ length l.tests;
  none : IfSome (joined_content (spans g.S.Store.content l.fn.self.parts)) (λ pairs. position (is_held pairs) (take l.made l.tests) ≡ None);
  same : joined_content (spans g.S.Store.content l.self.parts) ≡ joined_content (spans g.S.Store.content l.fn.self.parts);
  later : faults_of g.S.Store.faults l.fn.self.parts ≤ faults_of g.S.Store.faults l.self.parts;
  paid : Pays l.fn.allowance l.allowance l.fn.meter l.meter l.made (sum_by test_entries (take l.made l.tests));
  counted : AreNoneCounted (joined_content (spans g.S.Store.content l.fn.self.parts)) l.fn.meter l.meter l.tests l.made;
}

abbrev pub decreases-loop-made : goal.decreases-loop-made
decreases-loop-made g l = length l.tests - l.made
