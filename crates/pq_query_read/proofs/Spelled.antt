-- Queries as texts spell them: their aliases are names, and their constants are in their kinds' ranges.
use Rattle.std.specs.Prelude.{◌≡◌, true, false}
use Rattle.std.specs.List.{AllByRecursion}
use Rattle.pq_base.specs.Values.{IsValue}
use Rattle.pq_base.specs.declared.value.Value.TheVariants as value
use Rattle.pq_base.specs.Comparing.{is_null_test}
use Rattle.pq_schema.specs.Names.{IsName}
use Rattle.pq_base.specs.declared.op.Op.{Op}
use Rattle.pq_base.specs.declared.op.Op.TheVariants as op
use Rattle.pq_query_read.specs.Resolving.{alias_of}
use Rattle.pq_query_read.specs.declared.select.OperandDef.{OperandDef}
use Rattle.pq_query_read.specs.declared.select.OperandDef.TheVariants as operand_def
use Rattle.pq_query_read.specs.declared.select.PredDef.{PredDef}
use Rattle.pq_query_read.specs.declared.select.RelationDef.{RelationDef}
use Rattle.pq_query_read.specs.declared.select.SelectDef.{SelectDef}

abbrev pub IsRelationDef : RelationDef → Type 0
IsRelationDef def = IsName (alias_of def)

-- a constant in its kind's range, NULL behind IS NULL; only equalities have a column on the right
abbrev pub IsOperandDef : Op → OperandDef → Type 0
IsOperandDef o (operand_def.Const constant) = IsValue constant × (is_null_test o ≡ true → constant ≡ value.Null)
IsOperandDef o (operand_def.Param number) = is_null_test o ≡ false
IsOperandDef o (operand_def.Ref ref) = o ≡ op.Eq

abbrev pub IsPredDef : PredDef → Type 0
IsPredDef def = IsOperandDef def.op def.right

pub record IsSelectDef (def : SelectDef) : Type 0 where
  pub relations : AllByRecursion IsRelationDef def.relations
  pub preds : AllByRecursion IsPredDef def.preds
