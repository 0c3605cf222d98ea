use Rattle.std.proofs.Common.{◌∙◌, ap, subst}
use Rattle.std.specs.FinMap.{put}
use Rattle.pq_store.specs.Content.{key_cmp}
use Rattle.pq_mem_store.specs.Runs.{IsSeat}
use Rattle.pq_mem_store.proofs.Split.{on_ok, on_err}
use Rattle.pq_mem_store.proofs.Seats.{put_seat, same_set, have_either}
use Rattle.pq_mem_store.proofs.runs.put_in.Goals as goal

pub returns : goal.returns
returns g c =
    let seat = subst (λ key. IsSeat g.R.Begins.pairs c.room_at.new.runs.items key c.in_ok-at.at) c.key.ensures c.in_ok-at.ensures.at in
    record {
      have = have_either g.R.Begins.pairs c.room_at.new.runs.items c.in_ok-at.at c.args.pair.0 c.args.pair.1 c.index_mut.result.now c.put.new.self c.put.result
          c.index_mut.ensures.value seat.0 c.in_ok-at.ensures.have c.put.ensures.ok c.put.ensures.err;
      ok = on_ok c.put.result (λ is. put_seat g.R.Begins.pairs c.room_at.new.runs.items c.args.pair.0 c.in_ok-at.at c.index_mut.result.now c.index_mut.ensures.value seat c.args.pair.1 c.put.new.self is
          ∙ ap (put key_cmp c.args.pair.0 c.args.pair.1) c.in_ok-at.ensures.same) c.put.ensures.ok;
      err = on_err c.put.result (λ is. same_set g.R.Begins.pairs c.room_at.new.runs.items c.in_ok-at.at c.index_mut.result.now c.put.new.self c.index_mut.ensures.value seat.0 is
          ∙ c.in_ok-at.ensures.same) c.put.ensures.err;
    }
