use Rattle.std.proofs.Common.{◌≡◌, ◌++◌, drop, false}
use Rattle.pq_shape.specs.Shapes.{undoubled_quotes}
use Rattle.pq_shape.proofs.next.undouble.Given as goal

abbrev pub invariant-loop-byte : goal.invariant-loop-byte
invariant-loop-byte l = l.plain ++ undoubled_quotes l.quoted (drop l.byte-index l.bytes) ≡ undoubled_quotes false l.bytes
