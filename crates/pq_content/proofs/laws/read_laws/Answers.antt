use Rattle.pq_content.proofs.Gets.{get_row}
use Rattle.pq_content.proofs.Keeping.{row_found, rows_with_key}
use Rattle.pq_content.proofs.laws.read_laws.Goals as goal

pub returns-clause-get : goal.returns-clause-get
returns-clause-get c tables rows others t key keeps = get_row tables rows others t key keeps.fit

pub returns-clause-found : goal.returns-clause-found
returns-clause-found c = row_found

pub returns-clause-only : goal.returns-clause-only
returns-clause-only c tables rows t key keeps = rows_with_key tables rows t key keeps.apart
