use Rattle.std.proofs.Common.{◌≡◌, drop, find}
use Rattle.pq_arrange.specs.Classes.{gives}
use Rattle.pq_arrange.proofs.closing.first_given.Given as goal

abbrev pub invariant-loop-pred : goal.invariant-loop-pred
invariant-loop-pred l = find (gives l.classes l.class) l.preds ≡ find (gives l.classes l.class) (drop l.pred-index l.preds)
