use Rattle.pq_content.proofs.Keeping.{keeps_insert}
use Rattle.pq_content.proofs.Writes.{insert_row, insert_plain_row}
use Rattle.pq_content.proofs.laws.insert_laws.Goals as goal

pub returns-clause-changes : goal.returns-clause-changes
returns-clause-changes c = insert_row

pub returns-clause-one_write : goal.returns-clause-one_write
returns-clause-one_write c = insert_plain_row

pub returns-clause-keeps : goal.returns-clause-keeps
returns-clause-keeps c = keeps_insert
