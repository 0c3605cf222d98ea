use Rattle.std.proofs.Common.{subst}
use Rattle.std.specs.Prelude.{IfErr}
use Rattle.pq_nodes.specs.Operators.{IsSoundOverRows}
use Rattle.pq_scan.specs.declared.request.Request.{Request}
use Rattle.pq_scan.proofs.Stopping.{stops_undamaged}
use Rattle.pq_fk_join.proofs.join.fk_join.Goals as goal

pub returns-clause-undamaged : goal.returns-clause-undamaged
returns-clause-undamaged g c =
    subst (λ (r : Request). IfErr c.join_inputs.result (IsSoundOverRows (g.S.Store.content c.args.store.now) r.catalog.now.tables)) c.from_start-request.ensures
    (stops_undamaged g.S.Store c.from_start-request.result.catalog.now.tables _ _ c.join_inputs.result c.join_inputs.ensures.stops)
