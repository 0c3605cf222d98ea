-- What the script and the summary promise by themselves.
use Rattle.std.specs.Prelude.{◌≡◌, ℕ, ◌+◌, ◌*◌, ◌≤◌, List, [], ◌∷◌, ◌++◌, length, sum_by, Some}
use Rattle.pq_print.specs.declared.report.Opened.{Opened}
use Rattle.pq_print.specs.declared.report.Report.{Report}
use Rattle.pq_fill.specs.Script.{followed_user, fill_script, fill_kinds, fill_kind}
use Rattle.pq_fill.specs.Summary.{no_reports, with_report, summary_of}
use Rattle.pq_fill.specs.declared.item.Kind.{Kind}
use Rattle.pq_fill.specs.declared.numbers.Numbers.{Numbers}

-- four definitions, and for each user one INSERT, those of the subscriptions, five of thoughts, and one RUN
abbrev pub HasStatements : ℕ → Type 0
HasStatements n = length (fill_script n) ≡ 4 + n + n * followed_user n + 5 * n + n

-- each statement has one kind
abbrev pub HasKinds : ℕ → Type 0
HasKinds n = length (fill_kinds n) ≡ length (fill_script n)

-- the summary of no reports
abbrev pub BeginsSummary : ℕ → Opened → Type 0
BeginsSummary n opened = summary_of n opened [] ≡ no_reports opened.used

-- the summary with one report more, of the next statement, which has this kind
abbrev pub GoesOn : ℕ → Opened → List Report → Type 0
GoesOn n opened reports =
    (kind : Kind) (report : Report) → fill_kind n (length reports) ≡ Some kind
    → summary_of n opened (reports ++ report ∷ []) ≡ with_report (summary_of n opened reports) (kind, report)

-- so many reports were noted, and the total is what the opening and all of them used
pub record IsTotalled (opened : Opened) (reports : List Report) (s : Numbers) : Type 0 where
  pub many : s.reports ≡ length reports
  pub ops : s.total.ops ≡ opened.used.ops + sum_by (λ (r : Report). r.used.ops) reports
  pub entries : s.total.entries ≡ opened.used.entries + sum_by (λ (r : Report). r.used.entries) reports

-- the summary of no more reports than statements
abbrev pub IsTotalledFor : ℕ → Opened → List Report → Type 0
IsTotalledFor n opened reports =
    length reports ≤ length (fill_script n) → IsTotalled opened reports (summary_of n opened reports)
