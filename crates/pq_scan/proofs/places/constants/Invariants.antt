use Rattle.std.proofs.Common.{◌≡◌, map, take, []}
use Rattle.pq_serving.specs.Scanning.{constant}
use Rattle.pq_scan.specs.Prepared.{asked_over}
use Rattle.pq_scan.proofs.places.constants.Given as goal

abbrev pub invariant-loop-item : goal.invariant-loop-item
invariant-loop-item l = l.constants ≡ map (constant (asked_over l.scan []) l.scan.rel l.combo) (take l.item-index l.scan.items)
