use Rattle.std.proofs.Common.{◌≡◌, length}
use Rattle.pq_grammar.specs.Reader.{many_at}
use Rattle.pq_shape.specs.Front.{is_mark_shape}
use Rattle.pq_shape.specs.declared.mark.TheConstants.{COMMA}
use Rattle.pq_def_read.specs.Definitions.{next_constraint_at, constraints_at}
use Rattle.pq_def_read.proofs.Parted.{behind}
use Rattle.pq_def_read.proofs.definition.all_constraints.Given as goal

abbrev pub invariant-more : goal.invariant-more
invariant-more l = behind l.held (many_at (is_mark_shape COMMA) next_constraint_at l.c) ≡ constraints_at l.fn.c

abbrev pub decreases-more : goal.decreases-more
decreases-more l = length l.c
