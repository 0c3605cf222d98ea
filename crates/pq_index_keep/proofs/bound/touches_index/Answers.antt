use Rattle.std.proofs.Common.{◌∙◌, not, ◌&&◌}
use Rattle.std.specs.List.{list_any}
use Rattle.pq_base.specs.Columns.{has_col, set_of}
use Rattle.pq_schema.specs.Sequences.{columns_of}
use Rattle.pq_index_keep.proofs.Touching.{or_true, or_false, touches_as}
use Rattle.pq_index_keep.proofs.bound.touches_index.Goals as goal

pub returns-then-touches_parts : goal.returns-then-touches_parts
returns-then-touches_parts c =
    or_true c.touches_parts.result (list_any (λ col. not (has_col (set_of (columns_of c.args.index.now.cols)) col) && has_col c.in-Columns.set col) c.args.table.now.key) c.if-touches_parts.true
    ∙ rw (c.touches_parts.ensures, c.items-parts.ensures) (touches_as c.args.scope.now c.in-Columns.set c.args.table.now c.args.index.now c.in-Columns.is)

pub returns-else-touches_parts : goal.returns-else-touches_parts
returns-else-touches_parts c =
    or_false c.touches_parts.result _ c.if-touches_parts.false
    ∙ rw (c.touches_parts.ensures, c.touches_rest.ensures, c.columns_in.ensures, c.items.ensures, c.items-parts.ensures) (touches_as c.args.scope.now c.in-Columns.set c.args.table.now c.args.index.now c.in-Columns.is)
