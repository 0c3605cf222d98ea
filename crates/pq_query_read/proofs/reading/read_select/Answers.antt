use Rattle.std.proofs.Common.{Ok, Err}
use Rattle.pq_query_read.proofs.Answered.{found_of, only_of, fault_of}
use Rattle.pq_query_read.proofs.reading.read_select.Goals as goal

pub returns-in-Ok-clause-found : goal.returns-in-Ok-clause-found
returns-in-Ok-clause-found c = found_of c.args.text.now c.args.tokens.now c.args.from (Ok c.in-Ok.select) c.in-Ok.ensures.reads

pub returns-in-Ok-clause-only : goal.returns-in-Ok-clause-only
returns-in-Ok-clause-only c = only_of c.args.text.now c.args.tokens.now c.args.from (Ok c.in-Ok.select) c.in-Ok.ensures.reads tt

pub returns-in-Err-clause-only : goal.returns-in-Err-clause-only
returns-in-Err-clause-only c = only_of c.args.text.now c.args.tokens.now c.args.from (Err c.in-Err.stopped) tt c.in-Err.ensures.stops

pub returns-in-Err-clause-fault : goal.returns-in-Err-clause-fault
returns-in-Err-clause-fault c = fault_of c.args.text.now c.args.tokens.now c.args.from (Err c.in-Err.stopped) c.requires c.in-Err.ensures.stops
