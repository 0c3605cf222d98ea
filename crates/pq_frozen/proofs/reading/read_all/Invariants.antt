use Rattle.std.proofs.Common.{◌≡◌, ◌+◌, Some}
use Rattle.pq_catalog.specs.Model.{Model}
use Rattle.pq_catalog.specs.Stands.{HoldsModel}
use Rattle.pq_frozen.specs.Reading.{AllRead}
use Rattle.pq_frozen.proofs.Still.{IsReading}
use Rattle.pq_frozen.proofs.reading.read_all.Given as goal

abbrev pub invariant-loop-piece : goal.invariant-loop-piece
invariant-loop-piece g l = record {
  number : l.number ≡ l.piece-index + 1;
  reading : (m : Model) → HoldsModel (Some l.fn.store.held) m → AllRead m.schema l.pieces → IsReading m l.pieces l.piece-index l.store.held l.session l.reports;
}
