use Rattle.std.proofs.Common.{◌≡◌, take}
use Rattle.pq_scan.specs.Prepared.{item_directions}
use Rattle.pq_scan.proofs.prepared.item_dirs.Given as goal

abbrev pub invariant-loop-item : goal.invariant-loop-item
invariant-loop-item l = l.dirs ≡ item_directions (take l.item-index l.items)
