use Rattle.std.proofs.Common.{◌≡◌, ◌-◌}
use Rattle.std.specs.List.{list_any, range_with_len}
use Rattle.pq_schema.specs.Relations.{is_tied}
use Rattle.pq_predicates.proofs.total.is_total.Given as goal

abbrev pub invariant-loop-earlier : goal.invariant-loop-earlier
invariant-loop-earlier l =
    list_any (is_tied l.catalog.tables l.query l.rel) (range_with_len 1 (l.rel - 1)) ≡ list_any (is_tied l.catalog.tables l.query l.rel) (range_with_len l.earlier (l.rel - l.earlier))
