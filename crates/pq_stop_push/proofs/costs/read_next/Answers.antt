use Rattle.std.proofs.Common.{subst, sym, ◌^◌, suc}
use Rattle.pq_plan.specs.Totals.{reached_total, Below}
use Rattle.pq_plan.proofs.Small.{next_below}
use Rattle.pq_stop_push.proofs.costs.read_next.Goals as goal

pub returns-clause-below : goal.returns-clause-below
returns-clause-below c = λ k below.
    subst (Below (30000 ^ suc k)) (sym c.read_each.ensures)
    (next_below c.size_at-size.result c.read_cost-cost.result k (reached_total c.args.total) c.size_at-size.ensures.small c.read_cost-cost.ensures.ops c.read_cost-cost.ensures.entries below)
