use Rattle.std.proofs.Common.{sym, subst}
use Rattle.pq_schema.specs.Resolved.{IsResolved}
use Rattle.pq_schema.specs.Schema.{Schema}
use Rattle.pq_schema.specs.Wanted.{IsWanted}
use Rattle.pq_catalog.specs.Kept.{IsPlanWanting}
use Rattle.pq_catalog.proofs.Extending.{query_extended}
use Rattle.pq_catalog.proofs.planned.PlannedCatalog.with_query.Goals as goal

pub invariant_of-result : goal.invariant_of-result
invariant_of-result c =
    let e = c.add_query-added.ensures in
    query_extended c.self.inside.catalog c.add_query-added.new.catalog c.self.inside.plans c.keep_plan.new.plans c.in_ok-made.made c.self.invariant.0 c.self.invariant.1
    c.args.query c.args.plan c.args.wanted c.add_query-added.result c.requires.name
    (subst (λ (s : Schema). IsResolved s.tables c.args.query) (sym c.self.view_is) c.requires.resolved)
    (subst (λ (s : Schema). IsWanted s.tables c.args.query c.args.wanted) (sym c.self.view_is) c.requires.chosen)
    (subst (λ (s : Schema). IsPlanWanting s.tables c.args.query c.args.plan c.args.wanted) (sym c.self.view_is) c.requires.compiled)
    e.added e.kept c.in_ok-made.ensures
