use Rattle.std.proofs.Common.{◌≡◌, map, take}
use Rattle.pq_fk_join.specs.Joined.{tied_at}
use Rattle.pq_fk_join.proofs.join.partners_at.Given as goal

abbrev pub invariant-loop-input : goal.invariant-loop-input
invariant-loop-input l = l.asked ≡ map (tied_at l.request.catalog.now.tables l.request.query.now l.request.params.now l.rel) (take l.input-index l.inputs)
