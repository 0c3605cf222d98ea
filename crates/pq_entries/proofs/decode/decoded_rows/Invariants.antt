use Rattle.std.proofs.Common.{◌≡◌, take, map}
use Rattle.std.specs.List.{AllByRecursion}
use Rattle.pq_base.specs.Shapes.{row_shape}
use Rattle.pq_base.specs.Values.{AllFit}
use Rattle.pq_row_code.specs.StoredRow.{code_as}
use Rattle.pq_entries.proofs.decode.decoded_rows.Given as goal

abbrev pub invariant-loop-pair : goal.invariant-loop-pair
invariant-loop-pair l = record {
  codes : map (code_as (row_shape l.types l.fillers)) l.rows ≡ map (λ pair. pair.value) (take l.pair-index l.pairs);
  fit : AllByRecursion (AllFit l.types) l.rows;
}
