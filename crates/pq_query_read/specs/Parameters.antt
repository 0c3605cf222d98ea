-- The parameters of a query: their numbers and their types.
use Rattle.std.specs.Prelude.{ℕ, ℤ, pos, negsuc, ◌-◌, max, Bool, not, nat_le, nat_lt, ◌==◌, ◌&&◌, ◌||◌, if◌then◌else◌, List, map, filter_map, fold, find, unwrap_or, Option, Some, None, option_map, Result, Ok}
use Rattle.std.specs.List.{list_all, list_any, range_with_len}
use Rattle.pq_base.specs.declared.refusal.Refusal.{Refusal}
use Rattle.pq_base.specs.declared.refusal.Refusal.TheVariants as refusal
use Rattle.pq_base.specs.declared.value.ColType.{ColType}
use Rattle.pq_base.specs.declared.value.ColType.TheVariants as type
use Rattle.pq_schema.specs.Definitions.{refused_if}
use Rattle.pq_schema.specs.Resolved.{param_type}
use Rattle.pq_base.specs.Values.{same_kind}
use Rattle.pq_schema.specs.declared.query.ColRef.{ColRef}
use Rattle.pq_schema.specs.declared.query.Operand.{Operand}
use Rattle.pq_schema.specs.declared.query.Operand.TheVariants as operand
use Rattle.pq_schema.specs.declared.query.Pred.{Pred}
use Rattle.pq_schema.specs.declared.query.Relation.{Relation}
use Rattle.pq_schema.specs.declared.table.Table.{Table}
use Rattle.pq_query_read.specs.Columns.{type_of}
use Rattle.pq_query_read.specs.Trying.{◌>>=◌, passed_unless}
use Rattle.pq_query_read.specs.declared.params.ParamUse.{ParamUse}

-- the number of a parameter: 0, which no parameter has, for one that isn't from 1 to 16, since a query has at most
-- 16 predicates and so at most 16 parameters
abbrev pub param_number : ℤ → ℕ
param_number (pos n) = if nat_le n 16 then n else 0
param_number (negsuc n) = 0

-- ---- the uses of parameters

module _ (tables : List Table) (relations : List Relation) where
  -- a parameter's number and the type of what is compared with the column
  abbrev pub use_in : ColRef → Operand → Option ParamUse
  use_in left (operand.Const value) = None
  use_in left (operand.Param number) =
      Some (record { number = number; ty = param_type (type_of tables relations left) })
  use_in left (operand.Col right) = None

  -- the parameters that the predicates use
  abbrev pub uses : List Pred → List ParamUse
  uses preds = filter_map (λ pred. use_in pred.left pred.right) preds

-- ---- the types of parameters

abbrev pub has_number : ℕ → ParamUse → Bool
has_number number param = param.number == number

-- each number is 1, or the number below it is used too
abbrev pub has_param_number : List ParamUse → ParamUse → Bool
has_param_number uses param = param.number == 1 || nat_lt 1 param.number
    && list_any (has_number (param.number - 1)) uses

-- the same parameter is compared with columns of one kind
abbrev pub same_use : ParamUse → ParamUse → Bool
same_use param other = not (param.number == other.number) || same_kind param.ty other.ty

abbrev pub agrees_with_all : List ParamUse → ParamUse → Bool
agrees_with_all uses param = list_all (same_use param) uses

-- the numbers are exactly 1 to n, and each has one kind
abbrev pub are_params : List ParamUse → Bool
are_params uses = list_all (has_param_number uses) uses && list_all (agrees_with_all uses) uses

-- n, the greatest number
abbrev pub param_count : List ParamUse → ℕ
param_count uses = fold max 0 (map (λ param. param.number) uses)

-- the type of the parameter of this number, from its first use
abbrev pub param_type_of : List ParamUse → ℕ → ColType
param_type_of uses number = unwrap_or (option_map (λ param. param.ty) (find (has_number number) uses)) type.Bool

abbrev pub param_types : List ParamUse → List ColType
param_types uses = map (param_type_of uses) (range_with_len 1 (param_count uses))

abbrev pub params_of : List ParamUse → Result (List ColType) Refusal
params_of uses = passed_unless (refused_if (not (are_params uses)) refusal.Params) >>= λ numbered. Ok (param_types uses)
