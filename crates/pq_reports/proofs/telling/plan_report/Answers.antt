use Rattle.std.proofs.Common.{sym, subst}
use Rattle.pq_schema.specs.Schema.{Schema}
use Rattle.pq_planning.specs.Planned.{IsComputed}
use Rattle.pq_planning.proofs.Shown.{is_lined}
use Rattle.pq_reports.proofs.telling.plan_report.Goals as goal

pub planned_lines-requires : goal.planned_lines-requires
planned_lines-requires c =
    let is = subst (λ (s : Schema). IsComputed s.tables c.args.plan.now) (sym c.catalog.ensures) c.requires in
    is_lined c.catalog.result.now.tables c.args.plan.now.query c.args.plan.now.compiled.wanted is.resolved (record { best = is.compiled.best; chosen = is.compiled.least })
