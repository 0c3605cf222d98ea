use Rattle.std.proofs.Common.{◌≡◌, Ok, Err, sym, subst, IfOk}
use Rattle.pq_plan.specs.Meaning.{tree_of, MeansAnswer}
use Rattle.pq_plan.proofs.Means.{built_means}
use Rattle.pq_stop_push.specs.Pushes.{built_tree}
use Rattle.pq_stop_push.proofs.rewrites.build.Goals as goal

pub returns-clause-meaning : goal.returns-clause-meaning
returns-clause-meaning c = λ tables sound.
    let query = c.args.query.now in
    elim c.tree_with.result as (λ r. IfOk r (λ t. tree_of t ≡ built_tree query) → IfOk r (λ t. MeansAnswer tables query (tree_of t))) [
      | Ok t ↦ λ e. subst (MeansAnswer tables query) (sym e) (built_means tables query sound)
      | Err e ↦ λ _. tt
    ] c.tree_with.ensures
