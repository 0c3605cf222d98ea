use Rattle.std.proofs.Common.{◌∙◌, ap, sym, subst, IsTrue}
use Rattle.std.specs.List.{flat_map}
use Rattle.pq_mem_store.specs.Runs.{all_have}
use Rattle.pq_mem_store.proofs.Seats.{gone_same, have_back, none_of, some_of}
use Rattle.pq_mem_store.proofs.runs.drop_empty.Goals as goal

pub returns-then-is_empty-clause-have : goal.returns-then-is_empty-clause-have
returns-then-is_empty-clause-have g c = subst (λ rs. IsTrue (all_have g.R.Begins.pairs rs)) (sym c.remove.ensures.items) c.requires.have

pub returns-then-is_empty-clause-same : goal.returns-then-is_empty-clause-same
returns-then-is_empty-clause-same g c = ap (flat_map g.R.Begins.pairs) c.remove.ensures.items
    ∙ gone_same g.R.Begins.pairs c.args.runs.now.items c.args.at c.index.result.now c.requires.at c.index.ensures (none_of _ c.is_empty.result c.is_empty.ensures c.if-is_empty.true)

pub returns-else-is_empty-clause-have : goal.returns-else-is_empty-clause-have
returns-else-is_empty-clause-have g c = have_back g.R.Begins.pairs c.args.runs.now.items c.args.at c.index.result.now c.requires.at c.index.ensures
    (some_of _ c.is_empty.result c.is_empty.ensures c.if-is_empty.false) c.requires.have
