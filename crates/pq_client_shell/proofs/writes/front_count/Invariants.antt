use Rattle.std.proofs.Common.{◌≡◌, ◌+◌, drop}
use Rattle.pq_client_shell.specs.Writes.{front_count}
use Rattle.pq_client_shell.proofs.writes.front_count.Given as goal

abbrev pub invariant-loop-piece : goal.invariant-loop-piece
invariant-loop-piece l = (l.count ≡ l.piece-index) × (front_count l.pieces ≡ l.count + front_count (drop l.piece-index l.pieces))
