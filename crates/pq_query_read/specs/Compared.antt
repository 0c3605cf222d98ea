-- The sides of a predicate are columns of the relations.
use Rattle.std.specs.Prelude.{List}
use Rattle.pq_schema.specs.declared.query.Operand.{Operand}
use Rattle.pq_schema.specs.declared.query.Operand.TheVariants as operand
use Rattle.pq_schema.specs.declared.query.Pred.{Pred}
use Rattle.pq_schema.specs.declared.query.Relation.{Relation}
use Rattle.pq_schema.specs.declared.table.Table.{Table}
use Rattle.pq_query_read.specs.Columns.{IsIn}

abbrev pub IsSideIn : List Table → List Relation → Operand → Type 0
IsSideIn tables relations (operand.Const value) = Unit {0}
IsSideIn tables relations (operand.Param number) = Unit {0}
IsSideIn tables relations (operand.Col ref) = IsIn tables relations ref

abbrev pub IsLeftIn : List Table → List Relation → Pred → Type 0
IsLeftIn tables relations pred = IsIn tables relations pred.left
