use Rattle.std.proofs.Common.{◌∙◌, ap, not, length}
use Rattle.std.specs.Bool.{◌==◌}
use Rattle.pq_mem_store.specs.Runs.{has_pairs}
use Rattle.pq_mem_store.proofs.Seats.{none_flat}
use Rattle.pq_mem_store.proofs.runs.RunsRun.is_empty.Goals as goal

pub returns : goal.returns
returns g c =
    none_flat g.R.Begins.pairs c.self.inside.runs.items c.is_empty.result c.self.invariant.0 (c.is_empty.ensures ∙ ap (λ rs. length rs == 0) c.as_slice.ensures.value)
    ∙ ap (λ ps. not (has_pairs ps)) c.self.view_is
