use Rattle.std.proofs.Common.{None}
use Rattle.pq_query_read.proofs.Refs.{answer_there}
use Rattle.pq_query_read.proofs.columns.column.Goals as goal

pub returns-in-None-clause-there : goal.returns-in-None-clause-there
returns-in-None-clause-there c = answer_there c.args.catalog.now.tables c.args.relations.now c.args.def.now.first None c.unqualified.result c.unqualified.ensures
