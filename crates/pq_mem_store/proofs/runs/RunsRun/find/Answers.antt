use Rattle.std.proofs.Common.{◌∙◌, ap}
use Rattle.std.specs.List.{flat_map}
use Rattle.std.specs.FinMap.{find}
use Rattle.pq_store.specs.Content.{key_cmp}
use Rattle.pq_mem_store.proofs.Seats.{find_seat}
use Rattle.pq_mem_store.proofs.runs.RunsRun.find.Goals as goal

pub returns : goal.returns
returns g c = c.find.ensures
    ∙ find_seat g.R.Begins.pairs c.as_slice-runs.result.now c.args.key.now c.seat.result c.index-runs-seat.result c.index-runs-seat.is c.seat.ensures
    ∙ ap (λ rs. find key_cmp c.args.key.now (flat_map g.R.Begins.pairs rs)) c.as_slice-runs.ensures.value
    ∙ ap (find key_cmp c.args.key.now) c.self.view_is
