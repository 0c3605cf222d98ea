-- The report of a page.
use Rattle.std.specs.Prelude.{ℕ, map, length}
use Rattle.pq_print.specs.declared.report.Line.TheVariants.{Row}
use Rattle.pq_print.specs.declared.report.End.TheVariants.{Rows}
use Rattle.pq_print.specs.declared.report.Report.{Report}
use Rattle.pq_pages.specs.declared.page.Page.{Page}

-- its rows, the cursor of the next one, its bound and what was used
abbrev pub page_report : ℕ → Page → Report
page_report number page = record {
  number = number;
  lines = map Row page.rows;
  end = Rows (length page.rows) page.next;
  bound = page.bound;
  used = page.used;
}
