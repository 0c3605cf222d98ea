use Rattle.std.proofs.Common.{Ok, Err}
use Rattle.pq_text.specs.Tokens.{tokens_of}
use Rattle.pq_def_read.proofs.Answered.{found_of, only_of, fault_of}
use Rattle.pq_def_read.proofs.reading.read_text.Goals as goal

pub returns-in-Ok-clause-found : goal.returns-in-Ok-clause-found
returns-in-Ok-clause-found c = found_of c.args.text.now (tokens_of c.args.text.now) (Ok c.in-Ok.statement) c.in-Ok.ensures.reads

pub returns-in-Ok-clause-only : goal.returns-in-Ok-clause-only
returns-in-Ok-clause-only c = only_of c.args.text.now (tokens_of c.args.text.now) (Ok c.in-Ok.statement) c.in-Ok.ensures.reads tt

pub returns-in-Err-clause-only : goal.returns-in-Err-clause-only
returns-in-Err-clause-only c = only_of c.args.text.now (tokens_of c.args.text.now) (Err c.in-Err.stopped) tt c.in-Err.ensures.stops

pub returns-in-Err-clause-fault : goal.returns-in-Err-clause-fault
returns-in-Err-clause-fault c = fault_of c.args.text.now (tokens_of c.args.text.now) (Err c.in-Err.stopped) c.in-Err.ensures.stops
