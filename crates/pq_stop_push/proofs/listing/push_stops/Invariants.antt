use Rattle.std.proofs.Common.{◌≡◌, ◌++◌, ◌-◌, map}
use Rattle.std.specs.Prelude.{flat_map}
use Rattle.std.specs.List.{range_with_len}
use Rattle.pq_schema.specs.Candidates.{stop_at}
use Rattle.pq_stop_push.specs.Pushes.{held_plan, planned_push}
use Rattle.pq_stop_push.proofs.listing.push_stops.Given as goal

abbrev pub invariant-loop-p : goal.invariant-loop-p
invariant-loop-p l = map held_plan l.list ≡ map held_plan l.initial.list ++ map (planned_push l.catalog.tables l.query) (flat_map (stop_at l.catalog.tables l.query l.k) (range_with_len 1 (l.p - 1)))
