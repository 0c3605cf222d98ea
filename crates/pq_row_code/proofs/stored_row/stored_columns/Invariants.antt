use Rattle.std.proofs.Common.{◌≡◌, ◌≤◌, length}
use Rattle.pq_row_code.specs.StoredRow.{len_below, stored_len}
use Rattle.pq_row_code.proofs.stored_row.stored_columns.Given as goal

abbrev pub invariant-loop-len : goal.invariant-loop-len
invariant-loop-len l = record {
  inside : l.len ≤ length l.row;
  total : len_below l.fillers l.row l.len ≡ stored_len l.fillers l.row;
}

abbrev pub decreases-loop-len : goal.decreases-loop-len
decreases-loop-len l = l.len
