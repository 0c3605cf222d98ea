use Rattle.std.proofs.Common.{◌≤◌, ◌*◌, [], take, length}
use Rattle.std.specs.Prelude.{IfSome}
use Rattle.std.specs.List.{AllByRecursion}
use Rattle.pq_nodes.specs.Combos.{FitsTables}
use Rattle.pq_index_scan.specs.Ranged.{AreFollowed, AddsRanged}
use Rattle.pq_index_scan.proofs.limit.range_primary.Given as goal

abbrev pub invariant-loop-place : goal.invariant-loop-place
invariant-loop-place g l = record {
  few : length l.found ≤ l.place * l.range.n;
  fit : AllByRecursion (FitsTables l.request.catalog.now.tables l.request.query.now l.range.rel) l.found;
  codes : IfSome (g.S.Store.content l.fn.calls.store.now) (AreFollowed l.request.catalog.now.tables l.request.query.now l.request.params.now l.range (take l.place l.inputs) l.found);
  answer : AddsRanged (g.S.Store.content l.fn.calls.store.now) l.request.catalog.now.tables l.request.query.now l.request.params.now l.range.rel l.range.limit (take l.place l.inputs) [] l.found;
}
