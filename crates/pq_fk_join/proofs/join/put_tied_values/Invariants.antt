use Rattle.std.proofs.Common.{◌≡◌, ◌++◌, drop, length}
use Rattle.std.specs.Prelude.{replicate}
use Rattle.pq_base.specs.declared.value.Dir.TheVariants.{Asc}
use Rattle.pq_base.specs.Values.{has_null}
use Rattle.pq_key_code.specs.KeyCode.{code_of}
use Rattle.pq_operands.specs.Ties.{cells_tied}
use Rattle.pq_fk_join.proofs.join.put_tied_values.Given as goal

abbrev pub invariant-loop-col : goal.invariant-loop-col
invariant-loop-col l = record {
  plain : has_null (cells_tied l.request.query.now l.request.params.now l.rel l.input (drop l.col-index l.cols)) ≡ has_null (cells_tied l.request.query.now l.request.params.now l.rel l.input l.cols);
  code : l.out ++ code_of (replicate (length (drop l.col-index l.cols)) Asc) (cells_tied l.request.query.now l.request.params.now l.rel l.input (drop l.col-index l.cols)) ≡ l.fn.out ++ code_of (replicate (length l.cols) Asc) (cells_tied l.request.query.now l.request.params.now l.rel l.input l.cols);
}
