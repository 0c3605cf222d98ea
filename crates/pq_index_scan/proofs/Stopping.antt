-- The combination of no relation is an input of relation 1.
use Rattle.std.proofs.Common.{◌≡◌, ℕ, List, [], ◌∷◌, arith}
use Rattle.pq_schema.specs.declared.query.Query.{Query}
use Rattle.pq_schema.specs.declared.table.Table.{Table}
use Rattle.pq_nodes.specs.Operators.{AreInputs}

pub no_relations : (tables : List Table) (query : Query) (rel : ℕ) → rel ≡ 1 → AreInputs tables query rel ([] ∷ [])
no_relations tables query rel first = (record { long = omega arith; rows = λ r one upto. absurd (omega arith) }, tt)
