use Rattle.pq_content.proofs.Beside.{rows_alone, beside_are, made_of_rows}
use Rattle.pq_content.proofs.laws.beside_laws.Goals as goal

pub returns-clause-alone : goal.returns-clause-alone
returns-clause-alone c = rows_alone

pub returns-clause-beside : goal.returns-clause-beside
returns-clause-beside c = beside_are

pub returns-clause-whatever : goal.returns-clause-whatever
returns-clause-whatever c = made_of_rows
