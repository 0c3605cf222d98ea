-- Reports with what was used.
use Rattle.std.specs.Prelude.{ℕ, ◌*◌, List, [], ◌∷◌, None}
use Rattle.pq_base.specs.declared.number.Used.{Used}
use Rattle.pq_print.specs.declared.report.Line.{Line}
use Rattle.pq_print.specs.declared.report.End.TheVariants.{Done, Rows}
use Rattle.pq_print.specs.declared.report.Report.{Report}
use Rattle.pq_base.specs.declared.refusal.Refusal.{Refusal}
use Rattle.pq_builds.specs.Stages.{build_ops}
use Rattle.pq_builds.specs.Bounds.{bound}
use Rattle.pq_reports.specs.Step.{count_line, refusal_report, report_of}

abbrev pub used_numbers : ℕ → ℕ → Used
used_numbers ops entries = record { ops = ops; entries = entries }

-- one write
abbrev pub define_report : ℕ → List Line → Report
define_report number lines = record (report_of number lines Done (bound 1 0)) { used = used_numbers 1 0 }

-- an index that was filled over so many rows
abbrev pub build_report : ℕ → List Line → ℕ → Report
build_report number lines count =
    record (report_of number lines Done (bound (build_ops count) (2 * count)))
    { used = used_numbers (build_ops count) (2 * count) }

-- rows that were counted, and are too many
abbrev pub too_many_report : ℕ → Refusal → Report
too_many_report number why = record (refusal_report number why (bound 1 1000001)) { used = used_numbers 1 1000001 }

-- a counter: no row was counted, and its definition was written
abbrev pub counter_report : ℕ → Report
counter_report number = record (report_of number [] Done (bound 2 1)) { used = used_numbers 2 0 }

-- and one over a table of which a row was counted
abbrev pub crowded_report : ℕ → Refusal → Report
crowded_report number why = record (refusal_report number why (bound 2 1)) { used = used_numbers 1 1 }

-- a number of rows
abbrev pub count_report : ℕ → ℕ → Used → Report
count_report number n used = record (report_of number (count_line n ∷ []) (Rows 1 None) (bound 1 1)) { used = used }
