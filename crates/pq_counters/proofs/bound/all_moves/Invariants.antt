use Rattle.std.proofs.Common.{◌≡◌, ◌≤◌, ◌*◌, take}
use Rattle.pq_tallies.specs.Defined.{numbered_from}
use Rattle.pq_counters.specs.Bounds.{all_moves}
use Rattle.pq_counters.proofs.bound.all_moves.Given as goal

abbrev pub invariant-loop-place : goal.invariant-loop-place
invariant-loop-place l = (l.sum ≡ all_moves (numbered_from 1 (take l.place l.catalog.definitions)) l.write) × (l.sum ≤ 2 * l.place)
