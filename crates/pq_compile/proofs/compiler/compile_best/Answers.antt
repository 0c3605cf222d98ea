use Rattle.std.proofs.Common.{◌≡◌, false, sym, ap, ◌∙◌, subst}
use Rattle.pq_plan.specs.Cost.{cost}
use Rattle.pq_plan.specs.Plans.{IsPlanFor}
use Rattle.pq_plan.specs.Running.{PlanMeansAnswer}
use Rattle.pq_stop_push.specs.Pushes.{held_plan}
use Rattle.pq_schema.specs.Wanted.{is_large}
use Rattle.pq_compile.proofs.Plans.{same_choice, has_choice, over, plan_is, plan_for, numbers, meaning, chosen_made}
use Rattle.pq_compile.proofs.compiler.compile_best.Goals as goal

pub index_of-requires-clause-choice : goal.index_of-requires-clause-choice
index_of-requires-clause-choice c = has_choice c.args.catalog.now.tables c.args.query.now c.requires.query (held_plan c.args.best.now) c.requires.best

pub lower-requires-clause-over : goal.lower-requires-clause-over
lower-requires-clause-over c = over c.args.catalog.now.tables c.args.query.now c.requires.query (held_plan c.args.best.now) c.requires.best

pub wrap-requires : goal.wrap-requires
wrap-requires c = plan_is c.args.catalog.now.tables c.args.query.now c.requires.query (held_plan c.args.best.now) c.requires.best c.in_ok-tree.tree c.in_ok-tree.ensures

pub returns-clause-made : goal.returns-clause-made
returns-clause-made c =
    let tables = c.args.catalog.now.tables in
    let query = c.args.query.now in
    let h = held_plan c.args.best.now in
    let t = c.in_ok-tree.tree in
    let small : is_large c.args.best.now.bound ≡ false = sym c.is_large.ensures ∙ c.if-is_large.false in
    record {
      best = c.requires.best.best;
      least = chosen_made tables query c.requires.query h c.requires.best c.in_ok-wanted.wanted small c.in_ok-wanted.ensures;
      choice = same_choice tables query c.requires.query h c.requires.best;
      plan = subst (IsPlanFor tables query c.args.best.now.choice) (sym c.wrap.ensures) (plan_for tables query c.requires.query h c.requires.best t c.in_ok-tree.ensures);
      numbers = ap cost c.wrap.ensures ∙ numbers tables query c.requires.query h c.requires.best t c.in_ok-tree.ensures;
      meaning = subst (PlanMeansAnswer tables query) (sym c.wrap.ensures) (meaning tables query c.requires.query h c.requires.best t c.in_ok-tree.ensures);
    }
