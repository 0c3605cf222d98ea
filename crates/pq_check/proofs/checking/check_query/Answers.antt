use Rattle.std.proofs.Common.{◌≡◌, refl, sym, subst}
use Rattle.pq_plan.specs.Cost.{cost}
use Rattle.pq_schema.specs.Schema.{Schema}
use Rattle.pq_planning.specs.Lines.{planned_lines}
use Rattle.pq_planning.specs.Planned.{IsComputed}
use Rattle.pq_check.proofs.Checked.{prepared_checked}
use Rattle.pq_planning.proofs.Shown.{is_lined}
use Rattle.pq_check.proofs.checking.check_query.Goals as goal

pub planned_lines-requires : goal.planned_lines-requires
planned_lines-requires c =
    let is = subst (λ (s : Schema). IsComputed s.tables c.args.plan) (sym c.catalog.ensures) c.requires.computed_is in
    is_lined c.catalog.result.now.tables c.args.plan.query c.args.plan.compiled.wanted is.resolved (record { best = is.compiled.best; chosen = is.compiled.least })

pub returns : goal.returns
returns c asked is =
    let lined = subst (λ (x : Schema). c.in_ok-lines.lines ≡ planned_lines x.tables c.args.plan.query.name c.args.plan.compiled.choice (cost c.args.plan.compiled.plan) c.args.plan.compiled.wanted) c.catalog.ensures c.in_ok-lines.ensures in
    prepared_checked c.args.planned c.args.number c.args.plan asked is c.args.plan.compiled.wanted refl _ c.in_ok-planned.ensures c.in_ok-lines.lines lined _ (rw (← c.prepare_bound-bound.ensures) c.unpaid_report.ensures)
