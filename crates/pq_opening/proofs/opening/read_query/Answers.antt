use Rattle.std.proofs.Common.{◌∙◌, sym, subst}
use Rattle.std.proofs.lemmas.Result.{IfOk-weaker}
use Rattle.pq_schema.specs.Schema.{Schema}
use Rattle.pq_planning.specs.Planned.{IsPlanned}
use Rattle.pq_planning.specs.Planning.{plan_from}
use Rattle.pq_opening.proofs.Openings.{planned_adds}
use Rattle.pq_opening.proofs.opening.read_query.Goals as goal

pub returns : goal.returns
returns c =
    let planned = subst (λ (s : Schema). IsPlanned s c.args.name (plan_from s c.args.name c.args.text.now c.args.tokens.now c.args.from) c.in-Ok.plan) c.catalog.ensures c.in-Ok.ensures.planned in
    IfOk-weaker c.add_planned.result _ _ (λ next is. is ∙ sym (planned_adds c.args.planned c.args.name c.args.text.now c.args.tokens.now c.args.from c.in-Ok.plan planned)) c.add_planned.ensures
