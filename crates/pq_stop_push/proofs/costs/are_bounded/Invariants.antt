use Rattle.std.proofs.Common.{◌≡◌, ◌-◌, ◌+◌}
use Rattle.std.specs.Prelude.{is_some}
use Rattle.std.specs.List.{list_all, range_with_len}
use Rattle.pq_schema.specs.Candidates.{bound_at, are_bounded}
use Rattle.pq_stop_push.proofs.costs.are_bounded.Given as goal

abbrev pub invariant-loop-rel : goal.invariant-loop-rel
invariant-loop-rel l =
    are_bounded l.catalog.tables l.query l.count ≡ list_all (λ rel. is_some (bound_at l.catalog.tables l.query rel)) (range_with_len l.rel (l.count + 1 - l.rel))
