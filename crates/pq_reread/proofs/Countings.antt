-- What a counter has where nothing refuses it.
use Rattle.std.proofs.Common.{◌≡◌, ℕ, ◌<◌, ◌≤◌, length, Option, Some, None, refl, subst}
use Rattle.std.specs.Prelude.{nat_le, find, unwrap_or, IfSome}
use Rattle.pq_schema.specs.declared.definition.CounterDef.{CounterDef}
use Rattle.pq_schema.specs.ColumnNames.{is_unknown, no_column, unknown_refusal, names_refusal}
use Rattle.pq_schema.specs.Definitions.{refused_if, is_outside, definition_refusal, counting_refusal, counter_refusal, counted_table}
use Rattle.pq_schema.specs.Schema.{Schema, counters_of, find_table}
use Rattle.pq_schema.specs.Tables.{table_at}
use Rattle.pq_schema.proofs.Numbered.{table_there}
use Rattle.pq_reread.proofs.Defined.{neither_refuses, not_refused, none_mapped, inside_some, found_name}
use Rattle.pq_reread.proofs.Lengths.{inside_most}

-- there is the table, it has the name and each of the columns, and these are one to four
pub record IsCounting (schema : Schema) (def : CounterDef) (number : ℕ) : Type 0 where
  pub from_one : 1 ≤ number
  pub there : number ≤ length schema.tables
  pub named : (table_at schema.tables number).name ≡ def.table
  pub known : find (is_unknown (table_at schema.tables number).columns) def.cols ≡ None
  pub some : 0 < length def.cols
  pub few : length def.cols ≤ 4

counting_by : (schema : Schema) (def : CounterDef) (found : Option ℕ) → find_table schema def.table ≡ found → counting_refusal schema def found ≡ None → IsCounting schema def (unwrap_or found 0)
counting_by schema def None at none = absurd cc
counting_by schema def (Some number) at none =
    let columns = (table_at schema.tables number).columns in
    let place = subst (λ (o : Option ℕ). IfSome o (λ n. (1 ≤ n) × (n ≤ length schema.tables))) at (table_there schema def.table) in
    let first = neither_refuses (refused_if (nat_le 4 (length (counters_of schema number))) _) _ none in
    let second = neither_refuses (names_refusal columns def.cols) _ first.1 in
    let names = neither_refuses (unknown_refusal columns def.cols) _ second.0 in
    let count = not_refused (is_outside (length def.cols) 4) _ second.1 in
    record {
      from_one = place.0;
      there = place.1;
      named = found_name schema def.table number at;
      known = none_mapped no_column _ names.0;
      some = inside_some (length def.cols) 4 count;
      few = inside_most (length def.cols) 4 count;
    }

pub accepted_counter : (schema : Schema) (def : CounterDef) → counter_refusal schema def ≡ None → IsCounting schema def (counted_table schema def)
accepted_counter schema def none = counting_by schema def (find_table schema def.table) refl (neither_refuses (definition_refusal schema def.name) (counting_refusal schema def (find_table schema def.table)) none).1
