use Rattle.std.proofs.Common.{take}
use Rattle.pq_index_scan.specs.Ranged.{AreEntriesBehind}
use Rattle.pq_index_scan.proofs.limit.range_entries.Given as goal

abbrev pub invariant-loop-place : goal.invariant-loop-place
invariant-loop-place g l = AreEntriesBehind (g.S.Store.content l.fn.calls.store.now) l.request.catalog.now.tables l.request.query.now l.request.params.now l.range l.inputs (take l.place l.inputs) l.entries
