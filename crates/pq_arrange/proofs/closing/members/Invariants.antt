use Rattle.std.proofs.Common.{◌≡◌, filter, flat_map, take, length}
use Rattle.std.specs.List.{range_with_len}
use Rattle.pq_arrange.specs.Classes.{is_in, column_refs_at}
use Rattle.pq_arrange.proofs.closing.members.Given as goal

abbrev pub invariant-loop-rel : goal.invariant-loop-rel
invariant-loop-rel l = l.found ≡ filter (is_in l.query.preds l.class) (flat_map (column_refs_at l.catalog.tables l.query) (take l.rel-index (range_with_len 1 (length l.query.relations))))
