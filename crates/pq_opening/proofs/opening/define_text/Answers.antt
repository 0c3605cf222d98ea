use Rattle.pq_planning.proofs.Names.{named_statement}
use Rattle.pq_opening.proofs.opening.define_text.Goals as goal

pub define-requires-clause-named : goal.define-requires-clause-named
define-requires-clause-named c = named_statement c.args.text.now c.in_ok-found.found c.in-Ok.statement c.in_ok-found.ensures.found c.in-Ok.ensures.reads
