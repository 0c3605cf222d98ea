use Rattle.std.proofs.Common.{◌≡◌, ◌≤◌, ◌-◌, ◌++◌, [], length}
use Rattle.std.specs.List.{AllByRecursion}
use Rattle.std.specs.Vec.Iter.{into_iter_items}
use Rattle.pq_nodes.specs.Combos.{FitsTables}
use Rattle.pq_fk_join.specs.Joined.{AddsJoined, AddsLookedUp}
use Rattle.pq_fk_join.proofs.join.join_several.Given as goal

abbrev pub invariant-loop-input : goal.invariant-loop-input
invariant-loop-input g l = record {
  whole : l.yielded ++ into_iter_items l.input-iterator ≡ l.fn.inputs;
  place : l.place ≡ length l.yielded;
  few : length l.found ≤ length l.yielded;
  left : AllByRecursion (FitsTables l.request.catalog.now.tables l.request.query.now (l.rel - 1)) (into_iter_items l.input-iterator);
  fit : AllByRecursion (FitsTables l.request.catalog.now.tables l.request.query.now l.rel) l.found;
  codes : AddsJoined (g.S.Store.content l.fn.calls.store.now) l.request.catalog.now.tables l.request.query.now l.request.params.now l.rel l.yielded [] l.found;
  answer : AddsLookedUp (g.S.Store.content l.fn.calls.store.now) l.request.catalog.now.tables l.request.query.now l.request.params.now l.rel l.yielded [] l.found;
}
