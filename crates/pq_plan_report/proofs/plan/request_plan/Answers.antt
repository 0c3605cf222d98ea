use Rattle.std.proofs.Common.{inl, inr, string_bytes}
use Rattle.std.proofs.lemmas.Result.{IfOk-weaker}
use Rattle.pq_plan_report.proofs.Plans.{planned_is, planned_told, other_told}
use Rattle.pq_plan_report.proofs.plan.request_plan.Goals as goal

pub planned_text-requires : goal.planned_text-requires
planned_text-requires c = planned_is c.args.catalog.now c.args.request.now c.in-Prepare.plan c.in-Prepare.is c.requires

pub returns-in-Prepare : goal.returns-in-Prepare
returns-in-Prepare c =
    IfOk-weaker c.planned_text.result _ _ (λ told tells. planned_told c.args.catalog.now c.args.request.now c.in-Prepare.plan (string_bytes told) c.in-Prepare.is tells) c.planned_text.ensures

pub returns-in_default : goal.returns-in_default
returns-in_default c =
    other_told c.args.catalog.now c.args.request.now _ (λ computed has. elim has [
      | inl e ↦ c.in_default.not-Prepare computed e
      | inr r ↦ elim r [ inl e ↦ c.in_default.not-Explain computed e | inr e ↦ c.in_default.not-Select computed e ]
    ]) c.new.ensures.bytes
