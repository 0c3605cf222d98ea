use Rattle.std.proofs.Common.{◌≡◌, ◌+◌, ◌-◌, ◌≤◌, drop, length}
use Rattle.pq_schema.specs.Sequences.{then_key, same_parts}
use Rattle.pq_index_pick.proofs.pick.matches.Given as goal

abbrev pub invariant-other : goal.invariant-other
invariant-other l = record {
  same : same_parts (drop l.from (then_key l.parts l.set l.key)) (then_key l.order l.both l.key)
      ≡ same_parts (drop (l.from + l.other) (then_key l.parts l.set l.key)) (drop l.other (then_key l.order l.both l.key));
  within : l.other ≤ length (then_key l.order l.both l.key);
}

abbrev pub decreases-other : goal.decreases-other
decreases-other l = length (then_key l.order l.both l.key) - l.other
