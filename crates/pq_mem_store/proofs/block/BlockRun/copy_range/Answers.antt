use Rattle.std.proofs.Common.{◌++◌, ◌∙◌, map, take, filter, ap}
use Rattle.pq_store.specs.Content.{entry, is_within}
use Rattle.pq_mem_store.proofs.Split.{on_ok}
use Rattle.pq_mem_store.proofs.block.BlockRun.copy_range.Goals as goal

pub returns : goal.returns
returns c = record {
  few = c.copy_first.ensures.few;
  ok = on_ok c.copy_first.result (λ is. is ∙ ap (λ ps. take c.args.most (map entry c.args.copies.now ++ ps))
      (c.between.ensures ∙ ap (filter (is_within c.args.low.now c.args.high.now)) (c.as_slice.ensures.value ∙ c.self.view_is))) c.copy_first.ensures.ok;
}
