use Rattle.std.proofs.Common.{List, map, sym, ap, ◌∙◌}
use Rattle.pq_base.specs.declared.value.Value.{Value}
use Rattle.pq_local_ops.specs.Rising.{value_in}
use Rattle.pq_local_ops.proofs.Gathered.{values_in}
use Rattle.pq_local_ops.proofs.moved.take_values.Goals as goal

pub returns-then-are_rising : goal.returns-then-are_rising
returns-then-are_rising c =
    c.gathered.ensures
    ∙ ap (λ (row : List Value). map (value_in row) c.args.cols.now) c.take_row.ensures
    ∙ sym (values_in c.first_relation-rel.result c.args.combo c.args.cols.now (sym c.are_of.ensures ∙ c.if-are_of.true))
