use Rattle.pq_plan_report.proofs.Pieces.{ToldSoFar}
use Rattle.pq_plan_report.proofs.telling.tell_pieces.Given as goal

abbrev pub invariant-loop-piece : goal.invariant-loop-piece
invariant-loop-piece l = ToldSoFar l.pieces l.piece-index l.telling
