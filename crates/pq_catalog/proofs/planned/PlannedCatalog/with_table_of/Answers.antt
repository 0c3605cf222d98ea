use Rattle.pq_catalog.proofs.Extending.{table_extended}
use Rattle.pq_catalog.proofs.planned.PlannedCatalog.with_table_of.Goals as goal

pub invariant_of-result : goal.invariant_of-result
invariant_of-result c =
    let e = c.add_table-added.ensures in
    table_extended c.self.inside.catalog c.add_table-added.new.catalog c.self.inside.plans c.keep_plan.new.plans c.in_ok-made.made c.self.invariant.0 c.self.invariant.1
    c.args.def c.add_table-added.result c.requires e.added e.kept c.in_ok-made.ensures
