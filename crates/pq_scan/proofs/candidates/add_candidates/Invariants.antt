use Rattle.std.proofs.Common.{◌≡◌, ◌++◌, map}
use Rattle.pq_scan.specs.Forms.{formed_at}
use Rattle.pq_scan.proofs.candidates.add_candidates.Given as goal

abbrev pub invariant-loop-row : goal.invariant-loop-row
invariant-loop-row l = l.found ≡ l.initial.found ++ map (formed_at l.scan l.form l.input) l.yielded
