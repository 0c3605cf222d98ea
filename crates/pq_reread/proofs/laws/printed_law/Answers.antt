use Rattle.pq_reread.proofs.Pieces.{pieces_cut}
use Rattle.pq_reread.proofs.laws.printed_law.Goals as goal

pub returns : goal.returns
returns c = pieces_cut
