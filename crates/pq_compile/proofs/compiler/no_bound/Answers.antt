use Rattle.std.proofs.Common.{◌∙◌, sym}
use Rattle.pq_compile.proofs.Best.{unbounded}
use Rattle.pq_compile.proofs.compiler.no_bound.Goals as goal

pub unreachable-requires : goal.unreachable-requires
unreachable-requires c = unbounded c.args.catalog.now.tables c.args.query.now c.requires.none (sym c.first_unbounded.ensures.first ∙ c.in_default.is)
