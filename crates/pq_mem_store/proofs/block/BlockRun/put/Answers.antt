use Rattle.std.proofs.Common.{◌∙◌, ap}
use Rattle.std.specs.FinMap.{put}
use Rattle.pq_store.specs.Content.{key_cmp}
use Rattle.pq_mem_store.proofs.Split.{on_ok, on_err, rising_either}
use Rattle.pq_mem_store.proofs.block.BlockRun.put.Goals as goal

pub invariant_of-self : goal.invariant_of-self
invariant_of-self c = rising_either c.put_in.result c.args.pair.0 c.args.pair.1 c.self.inside.held.items c.put_in.new.held.items c.put_in.ensures.ok c.put_in.ensures.err c.self.invariant

pub returns : goal.returns
returns c = record {
  ok = on_ok c.put_in.result (λ is. is ∙ ap (put key_cmp c.args.pair.0 c.args.pair.1) c.self.view_is) c.put_in.ensures.ok;
  err = on_err c.put_in.result (λ is. is ∙ c.self.view_is) c.put_in.ensures.err;
}
