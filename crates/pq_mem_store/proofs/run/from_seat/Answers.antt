use Rattle.std.proofs.lemmas.List.{take_rest}
use Rattle.pq_mem_store.proofs.Seats.{have_from, rising_from, within_seat}
use Rattle.pq_mem_store.proofs.run.from_seat.Goals as goal

pub returns : goal.returns
returns g c = rw (take_rest c.args.runs.now c.seat-at.result) record {
  have = have_from g.R.Begins.pairs c.args.runs.now c.seat-at.result c.requires.have;
  rising = rising_from g.R.Begins.pairs c.args.runs.now c.args.low.now c.requires.have c.requires.rising c.seat-at.result;
  same = within_seat g.R.Begins.pairs c.args.runs.now c.args.low.now c.seat-at.result c.seat-at.ensures;
}
