use Rattle.std.proofs.Common.{◌≡◌, ◌++◌, drop}
use Rattle.pq_clients.specs.Flights.{left_out}
use Rattle.pq_clients.proofs.entries.left_out.Given as goal

abbrev pub invariant-loop-key : goal.invariant-loop-key
invariant-loop-key l = l.left ++ left_out (drop l.key-index l.keys) l.others ≡ left_out l.keys l.others
