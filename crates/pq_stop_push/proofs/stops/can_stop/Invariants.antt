use Rattle.std.proofs.Common.{◌≡◌, ◌-◌, ◌+◌, length}
use Rattle.std.specs.List.{list_any, range_with_len}
use Rattle.pq_schema.specs.Candidates.{can_stop_at}
use Rattle.pq_stop_push.proofs.stops.can_stop.Given as goal

abbrev pub invariant-loop-p : goal.invariant-loop-p
invariant-loop-p l =
    list_any (can_stop_at l.catalog.tables l.query) (range_with_len 1 (length l.query.relations + 1 - 1))
    ≡ list_any (can_stop_at l.catalog.tables l.query) (range_with_len l.p (length l.query.relations + 1 - l.p))
