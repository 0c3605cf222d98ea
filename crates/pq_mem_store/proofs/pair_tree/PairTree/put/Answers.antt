use Rattle.std.proofs.Common.{◌∙◌, ap, sym}
use Rattle.std.specs.FinMap.{insert}
use Rattle.pq_store.proofs.Views.{seen, seen_put}
use Rattle.pq_mem_store.proofs.Split.{on_ok, on_err, rising_either}
use Rattle.pq_mem_store.proofs.pair_tree.PairTree.put.Goals as goal

pub invariant_of-self : goal.invariant_of-self
invariant_of-self c = rising_either c.put.result c.in_ok-pair.pair.0 c.in_ok-pair.pair.1 c.self.inside.runs c.put.new.self c.put.ensures.ok c.put.ensures.err c.self.invariant

pub returns : goal.returns
returns c = record {
  ok = on_ok c.put.result (λ is. seen_put c.in_ok-pair.pair.0 c.in_ok-pair.pair.1 c.self.inside.runs c.put.new.self c.self.invariant (sym is)
      ∙ ap (λ pair. insert (seen c.self.inside.runs) pair.0 pair.1) c.in_ok-pair.ensures ∙ ap (λ content. insert content c.args.key.now c.args.value.now) c.self.view_is) c.put.ensures.ok;
  err = on_err c.put.result (λ is. ap seen is ∙ c.self.view_is) c.put.ensures.err;
}
