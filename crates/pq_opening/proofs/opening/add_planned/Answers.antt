use Rattle.std.proofs.Common.{refl}
use Rattle.pq_catalog.proofs.Kept.{computed_wanting}
use Rattle.pq_opening.proofs.opening.add_planned.Goals as goal

pub with_query-requires-clause-compiled : goal.with_query-requires-clause-compiled
with_query-requires-clause-compiled c = computed_wanting c.args.planned.tables c.args.plan c.args.plan.compiled.wanted refl c.requires.computed
