use Rattle.pq_tallies.proofs.Defined.{schema_counters, numbered_in, counters_of_table, one_more_table, one_more_query, one_more_column, one_more_counter}
use Rattle.pq_tallies.proofs.laws.schema_laws.Goals as goal

pub returns-clause-counters : goal.returns-clause-counters
returns-clause-counters c = schema_counters

pub returns-clause-numbered : goal.returns-clause-numbered
returns-clause-numbered c = numbered_in

pub returns-clause-of_table : goal.returns-clause-of_table
returns-clause-of_table c = counters_of_table

pub returns-clause-with_table : goal.returns-clause-with_table
returns-clause-with_table c = one_more_table

pub returns-clause-with_query : goal.returns-clause-with_query
returns-clause-with_query c = one_more_query

pub returns-clause-with_column : goal.returns-clause-with_column
returns-clause-with_column c = one_more_column

pub returns-clause-with_counter : goal.returns-clause-with_counter
returns-clause-with_counter c = one_more_counter
