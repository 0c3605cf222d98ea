use Rattle.std.proofs.Common.{◌≡◌, ◌≤◌, ◌*◌, cond, take, drop, length}
use Rattle.pq_base.specs.Values.{has_null}
use Rattle.pq_row_code.specs.RowCode.{fields}
use Rattle.pq_row_code.proofs.encode.lens.Given as goal

abbrev pub invariant-loop-value : goal.invariant-loop-value
invariant-loop-value l = record {
  front : cond (has_null (drop l.value-index l.values)) 5 l.front ≡ cond (has_null l.values) 5 1;
  fields : l.fields ≡ length (fields (take l.value-index l.values));
  small : l.fields ≤ 1002 * l.value-index;
}
