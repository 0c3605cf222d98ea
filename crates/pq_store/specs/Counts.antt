-- Counts of store operations and entries.
use Rattle.std.specs.Prelude.{ℕ, ◌+◌, ◌-◌}
use Rattle.pq_base.specs.declared.number.Used.{Used}

-- how many operations were made, and how many entries they answered
pub record Counts : Type 0 where
  pub ops : ℕ
  pub entries : ℕ

abbrev pub no_counts : Counts
no_counts = record { ops = 0; entries = 0 }

-- one operation more, and so many entries
abbrev pub charged_counts : Counts → ℕ → Counts
charged_counts counts n = record { ops = counts.ops + 1; entries = counts.entries + n }

-- so many operations and entries more
abbrev pub raised_counts : Counts → ℕ → ℕ → Counts
raised_counts counts ops entries = record { ops = counts.ops + ops; entries = counts.entries + entries }

-- what is left, and what was granted
pub record AllowedCounts : Type 0 where
  pub left : Counts
  pub granted : Counts

abbrev pub granted_counts : ℕ → ℕ → AllowedCounts
granted_counts ops entries = record {
  left = record { ops = ops; entries = entries };
  granted = record { ops = ops; entries = entries };
}

-- one operation and so many entries less are left
abbrev pub spent_counts : AllowedCounts → ℕ → AllowedCounts
spent_counts a n = record { left = record { ops = a.left.ops - 1; entries = a.left.entries - n }; granted = a.granted }

abbrev pub used_of : AllowedCounts → Used
used_of a = record { ops = a.granted.ops - a.left.ops; entries = a.granted.entries - a.left.entries }
