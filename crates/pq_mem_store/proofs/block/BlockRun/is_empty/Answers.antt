use Rattle.std.proofs.Common.{◌∙◌, ap, not}
use Rattle.pq_mem_store.specs.Runs.{has_pairs}
use Rattle.pq_mem_store.proofs.Places.{empty_is}
use Rattle.pq_mem_store.proofs.block.BlockRun.is_empty.Goals as goal

pub returns : goal.returns
returns c = empty_is c.as_slice.result.now c.is_empty.result c.is_empty.ensures ∙ ap (λ ps. not (has_pairs ps)) (c.as_slice.ensures.value ∙ c.self.view_is)
