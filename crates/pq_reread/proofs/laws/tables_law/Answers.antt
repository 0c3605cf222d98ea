use Rattle.pq_reread.proofs.Tables.{table_reads}
use Rattle.pq_reread.proofs.Defined.{defined_says, defined_reads}
use Rattle.pq_reread.proofs.TablesAgain.{later_reads}
use Rattle.pq_reread.proofs.laws.tables_law.Goals as goal

pub returns-clause-said : goal.returns-clause-said
returns-clause-said c = table_reads

pub returns-clause-made : goal.returns-clause-made
returns-clause-made c = defined_says

pub returns-clause-again : goal.returns-clause-again
returns-clause-again c = defined_reads

pub returns-clause-later : goal.returns-clause-later
returns-clause-later c = later_reads
