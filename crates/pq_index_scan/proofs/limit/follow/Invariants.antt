use Rattle.std.proofs.Common.{◌≡◌, [], ◌∷◌, ◌++◌, map}
use Rattle.pq_index_scan.proofs.limit.follow.Given as goal

abbrev pub invariant-loop-row : goal.invariant-loop-row
invariant-loop-row l = l.found ≡ l.initial.found ++ map (λ row. l.input ++ row ∷ []) l.yielded
