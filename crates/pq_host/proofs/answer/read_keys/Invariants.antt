use Rattle.std.proofs.Common.{◌≡◌, ◌++◌, length}
use Rattle.std.specs.List.{flat_map}
use Rattle.pq_host.specs.Frames.{number, sized}
use Rattle.pq_host.proofs.answer.read_keys.Given as goal

abbrev pub invariant-loop : goal.invariant-loop
invariant-loop l = (length l.keys ≡ l.counter) × (l.body ≡ number l.number ++ (flat_map sized l.keys ++ l.rest))
