use Rattle.std.proofs.Common.{◌≡◌, ap, ◌∙◌, sym, subst}
use Rattle.pq_plan.specs.Meaning.{tree_of, MeansAnswer}
use Rattle.pq_plan.specs.Rewrites.{pushed_tree}
use Rattle.pq_plan.proofs.Means.{pushed_means}
use Rattle.pq_stop_push.proofs.Trees.{there}
use Rattle.pq_stop_push.proofs.rewrites.push_stop.Goals as goal

pub returns-in_ok-push-in-Some-clause-meaning : goal.returns-in_ok-push-in-Some-clause-meaning
returns-in_ok-push-in-Some-clause-meaning c =
    let query = c.args.query.now in
    let tables = c.args.catalog.now.tables in
    let can = there tables query c.args.rel c.in-Some.k (sym c.in-Some.ensures) in
    let tree : tree_of c.in_ok-push-in-Some.field-0 ≡ pushed_tree c.args.rel c.in-Some.k (tree_of c.args.tree) = c.in_ok-push-in-Some.ensures in
    subst (MeansAnswer tables query) (sym (tree ∙ ap (pushed_tree c.args.rel c.in-Some.k) c.requires.placed)) (pushed_means tables query c.args.rel c.in-Some.k c.requires.query can.0 c.requires.one c.requires.there can.1)
