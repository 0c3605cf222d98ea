use Rattle.std.proofs.Common.{◌≡◌, length}
use Rattle.pq_grammar.specs.Reader.{many_at}
use Rattle.pq_shape.specs.Front.{is_name_shape}
use Rattle.pq_def_read.specs.Definitions.{ended_column_at, columns_at}
use Rattle.pq_def_read.proofs.definition.columns.Given as goal
use Rattle.pq_grammar.proofs.Loops.{with_front}

abbrev pub invariant-more : goal.invariant-more
invariant-more l = with_front l.columns (many_at is_name_shape ended_column_at l.c) ≡ columns_at l.fn.c

abbrev pub decreases-more : goal.decreases-more
decreases-more l = length l.c
