use Rattle.pq_content.proofs.MoreTables.{row_at-more, row_pairs-more, keeps-more}
use Rattle.pq_content.proofs.laws.table_laws.Goals as goal

pub returns-clause-found : goal.returns-clause-found
returns-clause-found c = row_at-more

pub returns-clause-pairs : goal.returns-clause-pairs
returns-clause-pairs c tables table rows keeps = row_pairs-more tables table rows keeps.known

pub returns-clause-keeps : goal.returns-clause-keeps
returns-clause-keeps c = keeps-more
