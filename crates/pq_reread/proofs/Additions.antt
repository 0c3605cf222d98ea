-- What an added column has where nothing refuses it.
use Rattle.std.proofs.Common.{◌≡◌, ℕ, true, false, not, length, Option, Some, None, refl}
use Rattle.std.specs.Prelude.{nat_le, is_some, unwrap_or}
use Rattle.pq_schema.specs.declared.definition.AlterDef.{AlterDef}
use Rattle.pq_schema.specs.Definitions.{has_type, refused_if, room_refusal, altered_refusal, column_refusal, altered_table}
use Rattle.pq_schema.specs.Schema.{Schema, find_column, find_table}
use Rattle.pq_schema.specs.Tables.{table_at}
use Rattle.pq_reread.proofs.Defined.{neither_refuses, not_refused, not_false, found_name}

-- the table has the name, and has no column of the new one's name
pub record IsFree (schema : Schema) (def : AlterDef) (number : ℕ) : Type 0 where
  pub named : (table_at schema.tables number).name ≡ def.table
  pub typed : has_type def.column ≡ true
  pub free : is_some (find_column (table_at schema.tables number).columns def.column.name) ≡ false

free_by : (schema : Schema) (def : AlterDef) (found : Option ℕ) → find_table schema def.table ≡ found → altered_refusal schema def found ≡ None → IsFree schema def (unwrap_or found 0)
free_by schema def None at none = absurd cc
free_by schema def (Some number) at none =
    let table = table_at schema.tables number in
    let first = neither_refuses (refused_if (nat_le 32 (length table.columns)) _) _ none in
    let second = neither_refuses (refused_if (not (has_type def.column)) _) _ first.1 in
    let third = neither_refuses (refused_if (is_some (find_column table.columns def.column.name)) _) _ second.1 in
    record {
      named = found_name schema def.table number at;
      typed = not_false (has_type def.column) (not_refused _ _ second.0);
      free = not_refused _ _ third.0;
    }

pub accepted_column : (schema : Schema) (def : AlterDef) → column_refusal schema def ≡ None → IsFree schema def (altered_table schema def)
accepted_column schema def none = free_by schema def (find_table schema def.table) refl (neither_refuses (room_refusal schema) (altered_refusal schema def (find_table schema def.table)) none).1
