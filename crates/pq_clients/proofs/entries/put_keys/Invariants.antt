use Rattle.std.proofs.Common.{◌≡◌, ℕ, ◌+◌, ◌++◌, List, drop, map}
use Rattle.pq_content.specs.Pairs.{entries_from}
use Rattle.pq_clients.proofs.entries.put_keys.Given as goal

abbrev pub invariant-loop-i : goal.invariant-loop-i
invariant-loop-i l = l.keys ++ map (λ (pair : List ℕ × List ℕ). pair.0) (entries_from l.number (l.i + 1) l.table (drop l.i l.indexes) l.row)
    ≡ l.initial.keys ++ map (λ (pair : List ℕ × List ℕ). pair.0) (entries_from l.number 1 l.table l.indexes l.row)
