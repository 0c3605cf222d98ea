-- The generated script, made, and what was noted of its reports.
use Rattle.std.specs.Prelude.{◌≡◌, ℕ, List, fold, zip}
use Rattle.std.specs.List.{list_any}
use Rattle.pq_base.specs.declared.number.Used.{Used}
use Rattle.pq_fill.specs.Script.{fill_kinds}
use Rattle.pq_fill.specs.Summary.{no_reports, with_report}
use Rattle.pq_fill.specs.declared.words.Form.TheVariants.{Fill}
use Rattle.pq_schema.specs.Schema.{Schema}
use Rattle.pq_print.specs.Report.{is_refusal}
use Rattle.pq_print.specs.declared.report.Report.{Report}
use Rattle.pq_shell.specs.Fold.{Moment, MadeReports}
use Rattle.pq_shell.specs.Forms.{fill_items}
use Rattle.pq_shell.specs.declared.filling.Filled.{Filled}

-- all of them were
pub record Fills (n : ℕ) (first : Schema) (used : Used) (from to : Moment) (filled : Filled) : Type 0 where
  pub reports : List Report
  pub last : Schema
  pub made : MadeReports (Fill n) first last from to 1 (fill_items n) reports
  pub noted : filled.summary ≡ fold with_report (no_reports used) (zip (fill_kinds n) reports)
  pub refused_is : filled.refused ≡ list_any is_refusal reports
