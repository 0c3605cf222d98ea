-- The bound of a PREPARE: fixed by the schema and the text alone where it makes no index, and else by the rows too.
use Rattle.std.specs.Prelude.{ℕ, ◌*◌, nat_le, length, Option, Some, None, if◌then◌else◌}
use Rattle.pq_base.specs.declared.number.Bound.{Bound}
pub use Rattle.pq_schema.specs.Costs.{bound}
use Rattle.pq_schema.specs.declared.table.NewIndex.{NewIndex}
use Rattle.pq_content.specs.Tables.{Rows, rows_of}
use Rattle.pq_builds.specs.Stages.{build_ops, left_ops}

-- over so many rows: all of the build, or the count alone, which refuses it
abbrev pub build_bound : ℕ → Bound
build_bound rows = if nat_le rows 1000000 then bound (build_ops rows) (2 * rows) else bound 1 1000001

-- of the completion of a build that was left over so many rows
abbrev pub left_bound : ℕ → Bound
left_bound rows = bound (left_ops rows) (2 * rows)

abbrev pub prepare_bound : Option NewIndex → Rows → Bound
prepare_bound None rows = bound 1 0
prepare_bound (Some new) rows = build_bound (length (rows_of new.table rows))

-- the bound that schema and text fix: none exactly for a build
abbrev pub fixed_bound : Option NewIndex → Option Bound
fixed_bound None = Some (bound 1 0)
fixed_bound (Some new) = None
