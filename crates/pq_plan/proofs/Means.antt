-- Each of the trees of a query means its answer.
use Rattle.std.proofs.Common.{◌≡◌, ℕ, ◌≤◌, List, true, length, map, Some, ap, ◌∙◌}
use Rattle.pq_schema.specs.declared.table.Table.{Table}
use Rattle.pq_schema.specs.declared.query.Query.{Query}
use Rattle.pq_schema.specs.Sound.{IsQuery}
use Rattle.pq_schema.specs.Candidates.{bound_at, can_stop_at, stop_size}
use Rattle.pq_plan.specs.Answer.{selected_values}
use Rattle.pq_plan.specs.Meaning.{MeansAnswer}
use Rattle.pq_plan.specs.Rewrites.{tree_of_reads, placed_stops, pushed_tree}
use Rattle.pq_base.specs.declared.number.Choice.{Choice}
use Rattle.pq_plan.specs.declared.physical.Physical.{Physical}
use Rattle.pq_plan.specs.Plans.{IsPlanFor}
use Rattle.pq_plan.specs.Running.{run, PlanMeansAnswer}
use Rattle.pq_plan.proofs.Bounds.{asked}
use Rattle.pq_plan.proofs.PlanMeaning.{plan_answers}
use Rattle.pq_plan.proofs.Totals.{built_answers, placed_answers, pushed_answers}

pub built_means : (tables : List Table) (query : Query) → IsQuery tables query → MeansAnswer tables query (tree_of_reads (length query.relations) (stop_size query.stop))
unfolding MeansAnswer
built_means tables query sound rows kept params after = ap (map (selected_values query)) (built_answers tables query rows params sound kept after)

pub placed_means : (tables : List Table) (query : Query) → IsQuery tables query → MeansAnswer tables query (placed_stops (bound_at tables query) (tree_of_reads (length query.relations) (stop_size query.stop)))
unfolding MeansAnswer
placed_means tables query sound rows kept params after = ap (map (selected_values query)) (placed_answers tables query rows params sound kept after)

pub pushed_means : (tables : List Table) (query : Query) (p k : ℕ) → IsQuery tables query → stop_size query.stop ≡ Some k → 1 ≤ p → p ≤ length query.relations → can_stop_at tables query p ≡ true → MeansAnswer tables query (pushed_tree p k (placed_stops (bound_at tables query) (tree_of_reads (length query.relations) (stop_size query.stop))))
unfolding MeansAnswer
pushed_means tables query p k sound stop low high can rows kept params after = ap (map (selected_values query)) (pushed_answers tables query rows params sound kept p k stop low high can after)

-- and each plan
pub plan_means : (tables : List Table) (query : Query) (choice : Choice) (tree : Physical) → IsQuery tables query → IsPlanFor tables query choice tree → PlanMeansAnswer tables query tree
unfolding PlanMeansAnswer
plan_means tables query choice tree sound plan rows kept params after =
    ap (λ list. map (selected_values query) (run (asked tables query rows params sound kept) after list)) plan.built
    ∙ ap (map (selected_values query)) (plan_answers tables query rows params sound kept after choice plan.candidate)
