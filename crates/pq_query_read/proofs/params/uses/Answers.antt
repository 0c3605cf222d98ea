use Rattle.std.proofs.Common.{List, [], ◌∷◌, ◌++◌, take, Option, sym, ap, ◌∙◌}
use Rattle.std.specs.List.{cons_option}
use Rattle.std.proofs.lemmas.List.{append-nil}
use Rattle.pq_query_read.specs.Parameters.{uses}
use Rattle.pq_query_read.specs.declared.params.ParamUse.{ParamUse}
use Rattle.pq_query_read.proofs.Uses.{one_more}
use Rattle.pq_query_read.proofs.params.uses.Goals as goal
use Rattle.pq_query_read.proofs.params.uses.Goals.{in-Some+in_ok-push, in_default}

pub loop-pred-preserved : goal.loop-pred-preserved
loop-pred-preserved c =
    let before = uses c.args.catalog.now.tables c.args.relations.now (take c.loop-pred.pred-index c.args.preds.now) in
    let more = one_more c.args.catalog.now.tables c.args.relations.now c.args.preds.now c.loop-pred.pred-index c.pred-item.result c.use_in.result c.loop-pred-test.true c.pred-item.is c.use_in.ensures in
    elim c.match-use_in.branch [
      | in-Some+in_ok-push w ↦
          w.made-is ∙ w.in_ok-push.ensures.ok ∙ ap (λ (made : List ParamUse). made ++ w.in-Some.next ∷ []) c.loop-pred.invariant
          ∙ sym (more ∙ ap (λ (o : Option ParamUse). before ++ cons_option o []) w.in-Some.is)
      | in_default w ↦
          w.made-is ∙ c.loop-pred.invariant ∙ sym (append-nil before) ∙ sym (more ∙ ap (λ (o : Option ParamUse). before ++ cons_option o []) w.in_default.is)
    ]
