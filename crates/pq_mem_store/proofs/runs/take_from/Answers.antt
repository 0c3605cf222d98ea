use Rattle.std.proofs.Common.{◌∙◌, subst}
use Rattle.pq_mem_store.specs.Runs.{IsSeat}
use Rattle.pq_mem_store.proofs.Seats.{others_seat, have_gone}
use Rattle.pq_mem_store.proofs.runs.take_from.Goals as goal

pub drop_empty-requires-clause-have : goal.drop_empty-requires-clause-have
drop_empty-requires-clause-have g c =
    let seat = subst (λ rs. IsSeat g.R.Begins.pairs rs c.args.key.now c.seat-at.result) c.as_slice.ensures.value c.seat-at.ensures in
    have_gone g.R.Begins.pairs c.args.runs.now.items c.args.key.now c.seat-at.result c.index_mut.result.now c.index_mut.ensures.value seat c.take_out.new.self c.requires.have

pub returns : goal.returns
returns g c =
    let seat = subst (λ rs. IsSeat g.R.Begins.pairs rs c.args.key.now c.seat-at.result) c.as_slice.ensures.value c.seat-at.ensures in
    record {
      have = c.drop_empty.ensures.have;
      others = c.drop_empty.ensures.same
          ∙ others_seat g.R.Begins.pairs c.args.runs.now.items c.args.key.now c.seat-at.result c.index_mut.result.now c.index_mut.ensures.value seat c.take_out.new.self c.take_out.ensures;
    }
