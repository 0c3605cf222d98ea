use Rattle.std.proofs.Common.{length}
use Rattle.pq_scan.proofs.forms.+put_filled_cells.Given as goal

abbrev pub decreases-put_filled_cells : goal.decreases-put_filled_cells
decreases-put_filled_cells l = length l.parts.now
