use Rattle.pq_content.proofs.Updates.{update_row}
use Rattle.pq_content.proofs.KeepingWrites.{keeps_update}
use Rattle.pq_content.proofs.laws.update_laws.Goals as goal

pub returns-clause-changes : goal.returns-clause-changes
returns-clause-changes c = update_row

pub returns-clause-keeps : goal.returns-clause-keeps
returns-clause-keeps c = keeps_update
