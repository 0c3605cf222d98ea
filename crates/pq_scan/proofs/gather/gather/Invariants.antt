use Rattle.std.proofs.Common.{length, take}
use Rattle.std.specs.Prelude.{IfSome}
use Rattle.std.specs.List.{AllByRecursion}
use Rattle.std.specs.Option.{option_copied}
use Rattle.pq_scan.specs.Candidates.{IsCandidate, AreCandidates}
use Rattle.pq_scan.specs.Scanned.{AreGathered}
use Rattle.pq_scan.proofs.gather.gather.Given as goal

abbrev pub invariant-loop-place : goal.invariant-loop-place
invariant-loop-place g l = record {
  kept : AllByRecursion (IsCandidate l.scan (g.S.Store.content l.fn.calls.store.now) (length l.inputs)) l.found;
  codes : IfSome (g.S.Store.content l.fn.calls.store.now) (AreGathered l.scan l.limit (option_copied l.after) 0 (take l.place l.inputs) l.found);
  answer : AreCandidates l.scan (g.S.Store.content l.fn.calls.store.now) l.limit (option_copied l.after) (take l.place l.inputs) l.found;
}
