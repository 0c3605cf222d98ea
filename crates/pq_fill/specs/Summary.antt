-- The summary of the reports of the generated script.
use Rattle.std.specs.Prelude.{ℕ, ℤ, pos, ◌+◌, ◌*◌, ◌^◌, ◌-◌, ◌≤◌, ◌+ℤ◌, ◌≤ℤ◌, max, Bool, true, false, List, [], ◌∷◌, ◌++◌, take, fold, zip, codes, decimal}
use Rattle.std.specs.Fmt.{signed_decimal}
use Rattle.pq_base.specs.declared.number.Bound.{Bound}
use Rattle.pq_base.specs.declared.number.Used.{Used}
use Rattle.pq_base.specs.declared.value.Value.{Value}
use Rattle.pq_base.specs.declared.value.Value.TheVariants as value
use Rattle.pq_print.specs.Report.{line_of, bound_text, used_text, is_refusal}
use Rattle.pq_print.specs.declared.report.End.{End}
use Rattle.pq_print.specs.declared.report.End.TheVariants as end
use Rattle.pq_print.specs.declared.report.Line.{Line}
use Rattle.pq_print.specs.declared.report.Line.TheVariants as line
use Rattle.pq_print.specs.declared.report.Opened.{Opened}
use Rattle.pq_print.specs.declared.report.Report.{Report}
use Rattle.pq_fill.specs.Script.{fill_kinds}
use Rattle.pq_fill.specs.declared.item.Kind.{Kind}
use Rattle.pq_fill.specs.declared.item.Kind.TheVariants as kind
use Rattle.pq_fill.specs.declared.numbers.Numbers.{Numbers}
use Rattle.pq_fill.specs.declared.numbers.Total.{Total}

-- ---- the numbers

-- before the first statement: what the opening used
abbrev pub no_reports : Used → Numbers
no_reports used = record {
  reports = 0;
  refused = 0;
  users = 0;
  subs = 0;
  thoughts = 0;
  runs = 0;
  rows = 0;
  sum = pos 0;
  home = record { ops = 0; entries = 0 };
  most = record { ops = 0; entries = 0 };
  total = record { ops = used.ops; entries = used.entries };
}

abbrev pub plus_used : Total → Used → Total
plus_used total used = record { ops = total.ops + used.ops; entries = total.entries + used.entries }

abbrev pub greater_used : Used → Used → Used
greater_used a b = record { ops = max a.ops b.ops; entries = max a.entries b.entries }

-- how many rows are answered
abbrev pub end_count : End → ℕ
end_count end.Done = 0
end_count (end.Rows count next) = count
end_count (end.Refused why) = 0
end_count (end.InBatch place cause) = 0

-- the rows that are answered: a report of rows has no other lines, so they are its first ones, as many as it counts
abbrev pub answer_lines : Report → List Line
answer_lines report = take (end_count report.end) report.lines

abbrev pub value_number : Value → ℤ
value_number value.Null = pos 0
value_number (value.Int n) = n
value_number (value.Bool b) = pos 0
value_number (value.Text t) = pos 0

-- the second value of a row, 0 where it is no number
abbrev pub second_number : List Value → ℤ
second_number [] = pos 0
second_number (x ∷ []) = pos 0
second_number (x ∷ y ∷ ys) = value_number y

abbrev pub line_number : Line → ℤ
line_number (line.Row row) = second_number row
line_number (line.Query name choice most) = pos 0
line_number (line.Index table number cols) = pos 0
line_number (line.Def number text) = pos 0

abbrev pub sum_of : List Line → ℤ
sum_of lines = fold (λ so_far item. so_far +ℤ line_number item) (pos 0) lines

-- an accepted run more
abbrev pub with_run : Report → Numbers → Numbers
with_run report s = record s {
  runs = s.runs + 1;
  rows = s.rows + end_count report.end;
  sum = s.sum +ℤ sum_of (answer_lines report);
  home = report.bound;
}

-- an accepted statement more
abbrev pub with_accepted : Kind → Report → Numbers → Numbers
with_accepted kind.Definition report s = s
with_accepted kind.User report s = record s { users = s.users + 1 }
with_accepted kind.Sub report s = record s { subs = s.subs + 1 }
with_accepted kind.Thought report s = record s { thoughts = s.thoughts + 1 }
with_accepted kind.Run report s = with_run report s

abbrev pub with_outcome : Bool → Kind → Report → Numbers → Numbers
with_outcome true kind report s = record s { refused = s.refused + 1 }
with_outcome false kind report s = with_accepted kind report s

-- what the runs used at most
abbrev pub with_most : Kind → Used → Used → Used
with_most kind.Definition used most = most
with_most kind.User used most = most
with_most kind.Sub used most = most
with_most kind.Thought used most = most
with_most kind.Run used most = greater_used most used

-- one report more
abbrev pub with_report : Numbers → Kind × Report → Numbers
with_report s (kind, report) = record (with_outcome (is_refusal report) kind report s) {
  reports = s.reports + 1;
  most = with_most kind report.used s.most;
  total = plus_used s.total report.used;
}

-- the summary of these reports of the script
unfoldable pub summary_of : ℕ → Opened → List Report → Numbers
summary_of n opened reports = fold with_report (no_reports opened.used) (zip (fill_kinds n) reports)

-- ---- how large they are

-- a sum over so many things, of which each adds or takes at most this share
abbrev pub IsShared : ℕ → ℕ → ℤ → Type 0
IsShared share many number = (number ≤ℤ pos (many * share)) × (pos 0 ≤ℤ (number +ℤ pos (many * share)))

-- the numbers are those of at most so many reports
pub record AreCounted (many : ℕ) (s : Numbers) : Type 0 where
  pub refused : s.refused ≤ many
  pub users : s.users ≤ many
  pub subs : s.subs ≤ many
  pub thoughts : s.thoughts ≤ many
  pub runs : s.runs ≤ many
  pub rows : s.rows ≤ many * (2 ^ 32 - 1)
  pub sum : IsShared (2 ^ 95) many s.sum

-- so is the total, of the opening's and that many reports' numbers of 64 bits
pub record IsTotalOf (many : ℕ) (total : Total) : Type 0 where
  pub ops : total.ops ≤ (many + 1) * (2 ^ 64 - 1)
  pub entries : total.entries ≤ (many + 1) * (2 ^ 64 - 1)

-- no number is larger than the reports that were noted allow
pub record AreWithin (s : Numbers) : Type 0 where
  pub counted : AreCounted s.reports s
  pub total : IsTotalOf s.reports s.total

-- ---- the text

abbrev pub count_line : List ℕ → ℕ → List ℕ
count_line word count = line_of (word ++ codes " " ++ decimal count)

abbrev pub sum_line : ℤ → List ℕ
sum_line sum = line_of (codes "sum " ++ signed_decimal sum)

-- the bound of the last accepted run, and what one used at most
abbrev pub home_line : Bound → Used → List ℕ
home_line home most = line_of (codes "home" ++ bound_text home ++ used_text most)

abbrev pub total_line : Total → List ℕ
total_line total = line_of (codes "total " ++ decimal total.ops ++ codes " " ++ decimal total.entries)

-- the counts of statements and of rows
abbrev pub counts_text : Numbers → List ℕ
counts_text s =
    count_line (codes "refused") s.refused
    ++ count_line (codes "users") s.users
    ++ count_line (codes "subs") s.subs
    ++ count_line (codes "thoughts") s.thoughts
    ++ count_line (codes "runs") s.runs
    ++ count_line (codes "rows") s.rows

abbrev pub sums_text : Numbers → List ℕ
sums_text s = sum_line s.sum ++ home_line s.home s.most ++ total_line s.total

unfoldable pub summary_text : ℕ → Numbers → List ℕ
summary_text n s = count_line (codes "fill") n ++ counts_text s ++ sums_text s
