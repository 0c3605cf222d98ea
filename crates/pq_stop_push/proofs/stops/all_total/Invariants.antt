use Rattle.std.proofs.Common.{◌≡◌, ◌-◌, ◌+◌, length}
use Rattle.std.specs.List.{list_all, range_with_len}
use Rattle.pq_schema.specs.Relations.{is_total}
use Rattle.pq_stop_push.proofs.stops.all_total.Given as goal

abbrev pub invariant-loop-rel : goal.invariant-loop-rel
invariant-loop-rel l =
    list_all (is_total l.catalog.tables l.query) (range_with_len l.fn.from (length l.query.relations + 1 - l.fn.from))
    ≡ list_all (is_total l.catalog.tables l.query) (range_with_len l.rel (length l.query.relations + 1 - l.rel))
