use Rattle.std.proofs.Common.{◌≡◌, Ok, Err, ap, ◌∙◌, sym, subst, length, IfOk}
use Rattle.pq_schema.specs.Candidates.{bound_at}
use Rattle.pq_plan.specs.Meaning.{tree_of, MeansAnswer}
use Rattle.pq_plan.specs.Rewrites.{placed_stops}
use Rattle.pq_plan.proofs.Means.{placed_means}
use Rattle.pq_stop_push.specs.Pushes.{IsOver}
use Rattle.pq_stop_push.proofs.Trees.{over_built}
use Rattle.pq_stop_push.proofs.rewrites.place_data_stops.Goals as goal

pub place-requires-clause-over : goal.place-requires-clause-over
place-requires-clause-over c = subst (IsOver (length c.args.query.now.relations)) (sym c.requires.built) (over_built c.args.query.now)

pub returns-clause-meaning : goal.returns-clause-meaning
returns-clause-meaning c =
    let query = c.args.query.now in
    let tables = c.args.catalog.now.tables in
    elim c.place.result as (λ r. IfOk r (λ t. tree_of t ≡ placed_stops (bound_at tables query) (tree_of c.args.tree)) → IfOk r (λ t. MeansAnswer tables query (tree_of t))) [
      | Ok t ↦ λ e. subst (MeansAnswer tables query) (sym (e ∙ ap (placed_stops (bound_at tables query)) c.requires.built)) (placed_means tables query c.requires.query)
      | Err e ↦ λ _. tt
    ] c.place.ensures
