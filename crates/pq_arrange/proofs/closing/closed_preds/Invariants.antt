use Rattle.std.proofs.Common.{◌≡◌, take, flat_map}
use Rattle.pq_arrange.specs.Classes.{class_preds}
use Rattle.pq_arrange.proofs.closing.closed_preds.Given as goal

abbrev pub invariant-loop-class : goal.invariant-loop-class
invariant-loop-class l = l.found ≡ flat_map (class_preds l.catalog.tables l.query) (take l.class-index l.class-items)
