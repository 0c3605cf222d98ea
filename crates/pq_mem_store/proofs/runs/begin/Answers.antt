use Rattle.pq_mem_store.proofs.Seats.{only_run}
use Rattle.pq_mem_store.proofs.runs.begin.Goals as goal

pub returns : goal.returns
returns g c =
    let made = only_run g.R.Begins.pairs c.args.runs.now.items c.push.new.self.items c.put.new.self c.new-run.result c.args.pair.0 c.args.pair.1 c.requires c.new-run.ensures c.in_ok-put.ensures.ok c.in_ok-push.ensures.items in
    record { have = made.0; ok = made.1; err = tt }
