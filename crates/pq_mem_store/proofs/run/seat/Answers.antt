use Rattle.pq_mem_store.proofs.Seats.{seat_of}
use Rattle.pq_mem_store.proofs.run.seat.Goals as goal

pub returns : goal.returns
returns g c = seat_of g.R.Begins.pairs c.args.runs.now c.args.key.now c.requires.have c.requires.rising c.begun.result c.saturating_sub.result c.requires.some c.saturating_sub.ensures c.begun.ensures
