use Rattle.std.proofs.Common.{◌≡◌, Some, take, map}
use Rattle.std.specs.List.{AllByRecursion}
use Rattle.pq_base.specs.Values.{AllFit}
use Rattle.pq_schema.specs.Rows.{types_of}
use Rattle.pq_content.specs.Tables.{stored_code}
use Rattle.pq_entries.proofs.fetch.rows_at.Given as goal

abbrev pub invariant-loop-place : goal.invariant-loop-place
invariant-loop-place l = record {
  fit : AllByRecursion (AllFit (types_of l.table)) l.rows;
  codes : take l.place l.codes ≡ map (λ row. Some (stored_code l.table row)) l.rows;
}
