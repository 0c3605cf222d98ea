-- The numbers of a summary over all its reports.
use Rattle.std.proofs.Common.{◌≡◌, ◌∙◌, ap, ℕ, ◌+◌, ◌≤◌, List, [], ◌∷◌, ◌++◌, length, Some, refl, arith}
use Rattle.std.specs.Prelude.{fold, sum_by, zip}
use Rattle.std.specs.List.{slice_get}
use Rattle.std.proofs.lemmas.List.Sums.{sum_by-cons}
use Rattle.pq_print.specs.declared.report.Opened.{Opened}
use Rattle.pq_print.specs.declared.report.Report.{Report}
use Rattle.pq_fill.specs.Laws.{BeginsSummary, GoesOn, IsTotalledFor}
use Rattle.pq_fill.specs.Script.{fill_kinds}
use Rattle.pq_fill.specs.Summary.{with_report, no_reports, summary_of}
use Rattle.pq_fill.specs.declared.item.Kind.{Kind}
use Rattle.pq_fill.specs.declared.numbers.Numbers.{Numbers}
use Rattle.pq_fill.proofs.Places.{kinds_long}

-- ---- report by report

none_noted : (kinds : List Kind) (s : Numbers) → fold with_report s (zip kinds []) ≡ s
none_noted [] s = refl
none_noted (k ∷ ks) s = refl

one_more : (kinds : List Kind) (reports : List Report) (s : Numbers) (kind : Kind) (report : Report) → slice_get kinds (length reports) ≡ Some kind → fold with_report s (zip kinds (reports ++ report ∷ [])) ≡ with_report (fold with_report s (zip kinds reports)) (kind, report)
one_more [] reports s kind report e = absurd (cc e)
one_more (k ∷ ks) [] s kind report e =
    let same : k ≡ kind = cc e in
    none_noted ks (with_report s (k, report)) ∙ ap (λ k. with_report s (k, report)) same
one_more (k ∷ ks) (r ∷ rs) s kind report e = one_more ks rs (with_report s (k, r)) kind report e

pub begins : (n : ℕ) (opened : Opened) → BeginsSummary n opened
unfolding summary_of
begins n opened = none_noted (fill_kinds n) (no_reports opened.used)

pub goes_on : (n : ℕ) (opened : Opened) (reports : List Report) → GoesOn n opened reports
unfolding summary_of
goes_on n opened reports kind report e = one_more (fill_kinds n) reports (no_reports opened.used) kind report e

-- ---- what all reports used

reports_from : (kinds : List Kind) (reports : List Report) (s : Numbers) → length reports ≤ length kinds → (fold with_report s (zip kinds reports)).reports ≡ s.reports + length reports
reports_from [] [] s few = omega arith
reports_from [] (r ∷ rs) s few = absurd (omega (arith, few))
reports_from (k ∷ ks) [] s few = omega arith
reports_from (k ∷ ks) (r ∷ rs) s few =
    let rest = reports_from ks rs (with_report s (k, r)) (omega (arith, few)) in
    omega (arith, rest)

ops_from : (kinds : List Kind) (reports : List Report) (s : Numbers) → length reports ≤ length kinds → (fold with_report s (zip kinds reports)).total.ops ≡ s.total.ops + sum_by (λ (r : Report). r.used.ops) reports
ops_from [] [] s few = omega arith
ops_from [] (r ∷ rs) s few = absurd (omega (arith, few))
ops_from (k ∷ ks) [] s few = omega arith
ops_from (k ∷ ks) (r ∷ rs) s few =
    let rest = ops_from ks rs (with_report s (k, r)) (omega (arith, few)) in
    let sum = sum_by-cons (λ (r : Report). r.used.ops) r rs in
    omega (arith, rest, sum)

entries_from : (kinds : List Kind) (reports : List Report) (s : Numbers) → length reports ≤ length kinds → (fold with_report s (zip kinds reports)).total.entries ≡ s.total.entries + sum_by (λ (r : Report). r.used.entries) reports
entries_from [] [] s few = omega arith
entries_from [] (r ∷ rs) s few = absurd (omega (arith, few))
entries_from (k ∷ ks) [] s few = omega arith
entries_from (k ∷ ks) (r ∷ rs) s few =
    let rest = entries_from ks rs (with_report s (k, r)) (omega (arith, few)) in
    let sum = sum_by-cons (λ (r : Report). r.used.entries) r rs in
    omega (arith, rest, sum)

pub totals : (n : ℕ) (opened : Opened) (reports : List Report) → IsTotalledFor n opened reports
unfolding summary_of
totals n opened reports few =
    let kinds = kinds_long n in
    let enough : length reports ≤ length (fill_kinds n) = omega (arith, few, kinds) in
    let many = reports_from (fill_kinds n) reports (no_reports opened.used) enough in
    record {
      many = omega (arith, many);
      ops = ops_from (fill_kinds n) reports (no_reports opened.used) enough;
      entries = entries_from (fill_kinds n) reports (no_reports opened.used) enough;
    }
