use Rattle.std.proofs.lemmas.Result.{IfOk-weaker}
use Rattle.pq_fk_join.proofs.Coded.{are_joined}
use Rattle.pq_fk_join.proofs.join.join_inputs.Goals as goal

pub returns-clause-codes : goal.returns-clause-codes
returns-clause-codes g c =
    IfOk-weaker c.join_each.result _ _ (λ found codes. are_joined c.args.request.now.catalog.now.tables c.args.request.now.query.now c.args.request.now.params.now c.args.rel
    (g.S.Store.content c.args.calls.now.store.now) c.args.inputs found codes) c.join_each.ensures.codes
