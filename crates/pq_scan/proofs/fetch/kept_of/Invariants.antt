use Rattle.std.proofs.Common.{◌≡◌, map}
use Rattle.pq_scan.specs.Candidates.{place_in, kept_in}
use Rattle.pq_scan.proofs.fetch.kept_of.Given as goal

abbrev pub invariant-loop-candidate : goal.invariant-loop-candidate
invariant-loop-candidate l = record {
  places : l.places ≡ map place_in l.yielded;
  held : l.rows ≡ map kept_in l.yielded;
}
