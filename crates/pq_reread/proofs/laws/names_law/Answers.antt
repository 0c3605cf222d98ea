use Rattle.pq_reread.proofs.Named.{created_named, altered_named, counted_named, prepared_named}
use Rattle.pq_reread.proofs.laws.names_law.Goals as goal

pub returns-clause-tables : goal.returns-clause-tables
returns-clause-tables c = created_named

pub returns-clause-columns : goal.returns-clause-columns
returns-clause-columns c = altered_named

pub returns-clause-counters : goal.returns-clause-counters
returns-clause-counters c = counted_named

pub returns-clause-queries : goal.returns-clause-queries
returns-clause-queries c = prepared_named
