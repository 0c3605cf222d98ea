use Rattle.std.proofs.Common.{ℕ, List, Result, subst, ap, ◌∙◌}
use Rattle.pq_base.specs.declared.refusal.Refusal.{Refusal}
use Rattle.pq_builds.specs.Bounds.{bound}
use Rattle.pq_print.specs.declared.report.End.TheVariants.{Done}
use Rattle.pq_print.specs.declared.report.Line.{Line}
use Rattle.pq_catalog.specs.Extends.{ExtendsCounting}
use Rattle.pq_reports.specs.Step.{report_of}
use Rattle.pq_check.proofs.Checked.{counted_checked}
use Rattle.pq_check.proofs.checking.check_counter.Goals as goal

pub returns-in-Ok : goal.returns-in-Ok
returns-in-Ok c =
    let e = subst (λ (r : Result ℕ Refusal). ExtendsCounting c.args.planned c.args.def c.in_ok-planned.planned r) c.in-Ok.is c.in_ok-planned.ensures in
    let report = c.unpaid_report.ensures ∙ ap (λ (lines : List Line). report_of c.args.number lines Done (bound 2 1)) c.new.ensures in
    counted_checked c.args.planned c.args.number c.args.def c.in_ok-planned.planned _ e.made report e.added
