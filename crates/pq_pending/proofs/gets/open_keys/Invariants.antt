use Rattle.std.proofs.Common.{◌≡◌, map, take}
use Rattle.pq_pending.specs.Gets.{open_key}
use Rattle.pq_pending.proofs.gets.open_keys.Given as goal

abbrev pub invariant-loop-key : goal.invariant-loop-key
invariant-loop-key l = l.asked ≡ map (open_key l.pending.changes) (take l.key-index l.keys)
