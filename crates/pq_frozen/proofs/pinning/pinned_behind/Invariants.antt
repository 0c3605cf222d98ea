use Rattle.std.proofs.Common.{◌≡◌, ◌+◌, Some}
use Rattle.pq_catalog.specs.Model.{Model}
use Rattle.pq_catalog.specs.Stands.{Opens}
use Rattle.pq_frozen.proofs.Still.{IsMade}
use Rattle.pq_frozen.proofs.pinning.pinned_behind.Given as goal

abbrev pub invariant-loop-piece : goal.invariant-loop-piece
invariant-loop-piece g l = record {
  number : l.number ≡ l.piece-index + 1;
  made : (m : Model) → Opens (Some l.fn.store) m → IsMade m l.pieces l.piece-index l.store l.session;
}
