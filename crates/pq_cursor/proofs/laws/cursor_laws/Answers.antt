use Rattle.pq_cursor.proofs.Cursors.{cursor_again, one_cursor}
use Rattle.pq_cursor.proofs.laws.cursor_laws.Goals as goal

pub returns-clause-again : goal.returns-clause-again
returns-clause-again c = cursor_again

pub returns-clause-one : goal.returns-clause-one
returns-clause-one c = one_cursor
