use Rattle.std.proofs.Common.{map, ap, ◌∙◌}
use Rattle.pq_stop_push.specs.Pushes.{held_plan}
use Rattle.pq_compile.proofs.Best.{best_there}
use Rattle.pq_compile.proofs.compiler.compile.Goals as goal

pub compile_best-requires-clause-best : goal.compile_best-requires-clause-best
compile_best-requires-clause-best c =
    best_there c.args.catalog.now.tables c.args.query.now (map held_plan c.items.result.now) (held_plan c.in-Some.best.now)
    (ap (map held_plan) c.items.ensures ∙ c.in_ok-list.ensures) c.in-Some.ensures
