use Rattle.std.proofs.Common.{◌≡◌, ◌++◌, length, map}
use Rattle.std.specs.List.{flat_map}
use Rattle.pq_store.specs.Content.{entry}
use Rattle.pq_host.specs.Frames.{number, pair_bytes}
use Rattle.pq_host.proofs.answer.cut_pairs.Given as goal

abbrev pub invariant-loop : goal.invariant-loop
invariant-loop l = (length l.pairs ≡ l.counter) × (l.bytes ≡ number l.number ++ (flat_map pair_bytes (map entry l.pairs) ++ l.rest))
