use Rattle.std.proofs.Common.{◌≡◌, drop}
use Rattle.pq_query_read.specs.Columns.{ref_of, refs_of}
use Rattle.pq_query_read.specs.Trying.{each_after}
use Rattle.pq_query_read.proofs.columns.named_columns.Given as goal

abbrev pub invariant-loop-def : goal.invariant-loop-def
invariant-loop-def l =
    each_after (λ before def. ref_of l.catalog.tables l.relations def) l.refs (drop l.def-index l.defs) ≡ refs_of l.catalog.tables l.relations l.defs
