use Rattle.std.proofs.Common.{◌≡◌, map, take}
use Rattle.pq_index_scan.specs.Ranged.{ends_behind}
use Rattle.pq_index_scan.proofs.limit.all_ends.Given as goal

abbrev pub invariant-loop-input : goal.invariant-loop-input
invariant-loop-input l = l.asks ≡ map (ends_behind l.request.catalog.now.tables l.request.query.now l.request.params.now l.range) (take l.input-index l.inputs)
