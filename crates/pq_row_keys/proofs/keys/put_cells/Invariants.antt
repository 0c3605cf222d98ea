use Rattle.std.proofs.Common.{◌≡◌, ◌++◌, drop, length}
use Rattle.std.specs.Prelude.{replicate}
use Rattle.pq_base.specs.declared.value.Dir.TheVariants.{Asc}
use Rattle.pq_key_code.specs.KeyCode.{code_of}
use Rattle.pq_content.specs.Tables.{cells}
use Rattle.pq_row_keys.proofs.keys.put_cells.Given as goal

abbrev pub invariant-loop-col : goal.invariant-loop-col
invariant-loop-col l = l.out ++ code_of (replicate (length (drop l.col-index l.cols)) Asc) (cells (drop l.col-index l.cols) l.row) ≡ l.fn.out ++ code_of (replicate (length l.cols) Asc) (cells l.cols l.row)
