use Rattle.std.proofs.Common.{◌∙◌, ap, sym, subst, IsTrue}
use Rattle.pq_mem_store.specs.Runs.{has_pairs, first_key}
use Rattle.pq_mem_store.proofs.Seats.{first_run}
use Rattle.pq_mem_store.proofs.runs.RunsBegins.key.Goals as goal

pub returns : goal.returns
returns g c = c.key.ensures
    ∙ first_run g.R.Begins.pairs c.self.inside.runs.items c.index.result.now c.self.invariant.0 (subst (λ ps. IsTrue (has_pairs ps)) (sym c.self.view_is) c.requires) c.index.ensures
    ∙ ap first_key c.self.view_is
