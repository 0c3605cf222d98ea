use Rattle.std.proofs.Common.{◌∙◌, ap}
use Rattle.std.specs.List.{flat_map}
use Rattle.std.specs.FinMap.{put}
use Rattle.pq_store.specs.Content.{key_cmp}
use Rattle.pq_mem_store.proofs.Split.{on_ok, on_err, rising_either}
use Rattle.pq_mem_store.proofs.runs.RunsRun.put.Goals as goal

pub invariant_of-self : goal.invariant_of-self
invariant_of-self g c = (
  c.begin.ensures.have,
  rising_either c.begin.result c.args.pair.0 c.args.pair.1 (flat_map g.R.Begins.pairs c.self.inside.runs.items) (flat_map g.R.Begins.pairs c.begin.new.runs.items)
      c.begin.ensures.ok c.begin.ensures.err c.self.invariant.1,
)

pub invariant_of-self-else-is_empty : goal.invariant_of-self-else-is_empty
invariant_of-self-else-is_empty g c = (
  c.put_in.ensures.have,
  rising_either c.put_in.result c.args.pair.0 c.args.pair.1 (flat_map g.R.Begins.pairs c.self.inside.runs.items) (flat_map g.R.Begins.pairs c.put_in.new.runs.items)
      c.put_in.ensures.ok c.put_in.ensures.err c.self.invariant.1,
)

pub returns-then-is_empty : goal.returns-then-is_empty
returns-then-is_empty g c = record {
  ok = on_ok c.begin.result (λ is. is ∙ ap (put key_cmp c.args.pair.0 c.args.pair.1) c.self.view_is) c.begin.ensures.ok;
  err = on_err c.begin.result (λ is. is ∙ c.self.view_is) c.begin.ensures.err;
}

pub returns-else-is_empty : goal.returns-else-is_empty
returns-else-is_empty g c = record {
  ok = on_ok c.put_in.result (λ is. is ∙ ap (put key_cmp c.args.pair.0 c.args.pair.1) c.self.view_is) c.put_in.ensures.ok;
  err = on_err c.put_in.result (λ is. is ∙ c.self.view_is) c.put_in.ensures.err;
}
