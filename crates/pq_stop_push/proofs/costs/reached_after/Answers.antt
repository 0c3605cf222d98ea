use Rattle.std.proofs.Common.{◌≡◌, ◌≤◌, ◌+◌, ◌-◌, ◌^◌, suc, subst, sym, ap, ◌∙◌, arith}
use Rattle.pq_schema.specs.Costs.{start}
use Rattle.pq_schema.specs.Candidates.{read_next}
use Rattle.pq_plan.specs.Totals.{reached_total, Below}
use Rattle.pq_plan.proofs.Small.{low}
use Rattle.pq_stop_push.proofs.Ranges.{fold_next}
use Rattle.pq_stop_push.proofs.costs.reached_after.Goals as goal

pub read_next-total-requires-clause-low : goal.read_next-total-requires-clause-low
read_next-total-requires-clause-low c =
    let few : c.loop-rel.rel - 1 ≤ 6 = omega (arith, c.requires.query.few_relations) in
    low (c.loop-rel.rel - 1) c.loop-rel.total c.loop-rel.invariant.below few

pub loop-rel-preserved : goal.loop-rel-preserved
loop-rel-preserved c =
    let tables = c.args.catalog.now.tables in
    let query = c.args.query.now in
    let n : suc (c.loop-rel.rel - 1) ≡ c.loop-rel.rel + 1 - 1 = omega arith in
    record {
      total = c.read_next-total.ensures.total ∙ ap (λ r. read_next tables query r c.loop-rel.rel) c.loop-rel.invariant.total
          ∙ sym (fold_next (read_next tables query) start c.loop-rel.rel (omega arith));
      below = subst (λ k. Below (30000 ^ k) (reached_total c.read_next-total.result)) n (c.read_next-total.ensures.below (c.loop-rel.rel - 1) c.loop-rel.invariant.below);
    }

pub returns-clause-low : goal.returns-clause-low
returns-clause-low c =
    let few : c.loop-rel.rel - 1 ≤ 6 = omega (arith, c.requires.query.few_relations) in
    low (c.loop-rel.rel - 1) c.loop-rel.total c.loop-rel.invariant.below few
