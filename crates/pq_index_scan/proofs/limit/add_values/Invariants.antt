use Rattle.std.proofs.Common.{◌≡◌, ◌++◌, map}
use Rattle.pq_index_scan.proofs.limit.add_values.Given as goal

abbrev pub invariant-loop-held : goal.invariant-loop-held
invariant-loop-held l = record {
  places : l.entries.places ≡ l.initial.entries.places ++ map (λ held. l.place) l.yielded;
  values : l.entries.values ≡ l.initial.entries.values ++ l.yielded;
}
