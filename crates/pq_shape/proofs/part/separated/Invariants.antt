use Rattle.std.proofs.Common.{◌≡◌, length}
use Rattle.pq_grammar.specs.Reader.{many_at, skip_at, separated_at}
use Rattle.pq_shape.specs.Front.{is_between, between_at}
use Rattle.pq_shape.proofs.part.separated.Given as goal
use Rattle.pq_grammar.proofs.Loops.{with_front}

abbrev pub invariant-more : goal.invariant-more
invariant-more g l = with_front l.items (many_at (is_between l.between) (skip_at (between_at l.between) g.P.Part.reads) l.c) ≡ separated_at (is_between l.between) (between_at l.between) g.P.Part.reads l.fn.c

abbrev pub decreases-more : goal.decreases-more
decreases-more g l = length l.c
