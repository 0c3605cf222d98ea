use Rattle.pq_shape.specs.Shapes.{shapes_of}
use Rattle.pq_reread.proofs.WholeStatements.{whole_is_spelled, spelled_is_whole, whole_stops}
use Rattle.pq_reread.proofs.laws.whole_statements_law.Goals as goal

pub returns-clause-found : goal.returns-clause-found
returns-clause-found c = λ text tokens. whole_is_spelled (shapes_of text tokens)

pub returns-clause-only : goal.returns-clause-only
returns-clause-only c = λ text tokens. spelled_is_whole (shapes_of text tokens)

pub returns-clause-place : goal.returns-clause-place
returns-clause-place c = λ text tokens. whole_stops (shapes_of text tokens)
