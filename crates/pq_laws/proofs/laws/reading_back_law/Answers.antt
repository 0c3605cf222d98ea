use Rattle.pq_opening.proofs.Rereading.{table_read, query_read, column_read, counter_read}
use Rattle.pq_laws.proofs.laws.reading_back_law.Goals as goal

pub returns-clause-tables : goal.returns-clause-tables
returns-clause-tables c schema def table valid is made = (table_read schema def table valid is made).defines

pub returns-clause-queries : goal.returns-clause-queries
returns-clause-queries c schema query wanted valid defined = (query_read schema query wanted valid defined).defines

pub returns-clause-columns : goal.returns-clause-columns
returns-clause-columns c schema def next valid is = (column_read schema def next valid is).defines

pub returns-clause-counters : goal.returns-clause-counters
returns-clause-counters c schema def next valid is = (counter_read schema def next valid is).defines
