use Rattle.std.proofs.Common.{◌≡◌, ◌≤◌, take, sum_by}
use Rattle.pq_store.specs.Rounds.{one_if_some}
use Rattle.pq_parts.proofs.asking.number_of.Given as goal

abbrev pub invariant-loop-place : goal.invariant-loop-place
invariant-loop-place g l = (l.number ≡ sum_by one_if_some (take l.place-index l.places)) × (l.number ≤ l.place-index)
