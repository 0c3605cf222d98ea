use Rattle.pq_content.proofs.Deletes.{delete_row}
use Rattle.pq_content.proofs.KeepingWrites.{keeps_delete}
use Rattle.pq_content.proofs.laws.delete_laws.Goals as goal

pub returns-clause-changes : goal.returns-clause-changes
returns-clause-changes c = delete_row

pub returns-clause-keeps : goal.returns-clause-keeps
returns-clause-keeps c = keeps_delete
