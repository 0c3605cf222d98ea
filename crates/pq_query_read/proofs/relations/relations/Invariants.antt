use Rattle.std.proofs.Common.{◌≡◌, All, drop, length}
use Rattle.pq_query_read.specs.Columns.{HasTable}
use Rattle.pq_query_read.specs.Resolving.{relation_of, relations_of}
use Rattle.pq_query_read.specs.Trying.{each_after}
use Rattle.pq_query_read.proofs.relations.relations.Given as goal

abbrev pub invariant-loop-def : goal.invariant-loop-def
invariant-loop-def l = record {
  done : each_after (relation_of l.catalog) l.made (drop l.def-index l.defs) ≡ relations_of l.catalog l.defs;
  there : All (HasTable l.catalog.tables) l.made;
  long : length l.made ≡ l.def-index;
}
