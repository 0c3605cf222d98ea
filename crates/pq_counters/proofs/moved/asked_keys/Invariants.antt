use Rattle.std.proofs.Common.{◌≡◌, map, take}
use Rattle.pq_counters.specs.Groups.{asked_key}
use Rattle.pq_counters.proofs.moved.asked_keys.Given as goal

abbrev pub invariant-loop-group : goal.invariant-loop-group
invariant-loop-group l = l.keys ≡ map asked_key (take l.group-index l.groups)
