use Rattle.std.proofs.Common.{◌≡◌, All, drop, length}
use Rattle.pq_query_read.specs.Compared.{IsLeftIn}
use Rattle.pq_query_read.specs.Resolving.{pred_of, preds_of}
use Rattle.pq_query_read.specs.Trying.{each_after}
use Rattle.pq_query_read.proofs.conditions.predicates.Given as goal

abbrev pub invariant-loop-def : goal.invariant-loop-def
invariant-loop-def l = record {
  done : each_after (pred_of l.catalog.tables l.relations) l.preds (drop l.def-index l.defs) ≡ preds_of l.catalog.tables l.relations l.defs;
  there : All (IsLeftIn l.catalog.tables l.relations) l.preds;
  long : length l.preds ≡ l.def-index;
}
