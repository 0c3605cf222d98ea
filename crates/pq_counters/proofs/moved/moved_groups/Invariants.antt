use Rattle.std.proofs.Common.{◌≡◌, flat_map, take}
use Rattle.std.specs.Option.{option_copied}
use Rattle.pq_counters.specs.Groups.{groups_at}
use Rattle.pq_counters.proofs.moved.moved_groups.Given as goal

abbrev pub invariant-loop-number : goal.invariant-loop-number
invariant-loop-number l = l.groups ≡ flat_map (groups_at l.catalog l.table (option_copied l.old) (option_copied l.new)) (take l.number-index l.numbers)
