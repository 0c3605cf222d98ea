-- Reports and openings that the model allows.
use Rattle.std.specs.Prelude.{◌≡◌, ◌≤◌}
use Rattle.pq_print.specs.declared.report.Report.{Report}

-- all is equal but the used numbers, and these are at most the bound
pub record Matches (expected report : Report) : Type 0 where
  pub same : record expected { used = report.used } ≡ report
  pub ops : report.used.ops ≤ expected.bound.ops
  pub entries : report.used.entries ≤ expected.bound.entries
