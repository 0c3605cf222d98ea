use Rattle.std.proofs.Common.{◌≡◌, drop}
use Rattle.pq_query_read.specs.Resolving.{item_of, items_of}
use Rattle.pq_query_read.specs.Trying.{each_after}
use Rattle.pq_query_read.proofs.ordering.order.Given as goal

abbrev pub invariant-loop-def : goal.invariant-loop-def
invariant-loop-def l =
    each_after (item_of l.catalog.tables l.relations) l.items (drop l.def-index l.defs) ≡ items_of l.catalog.tables l.relations l.defs
