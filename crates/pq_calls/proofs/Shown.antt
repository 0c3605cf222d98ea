-- What damage that reading a row tells shows of a content.
use Rattle.std.proofs.Common.{ℕ, List, Option, Some, None}
use Rattle.pq_base.specs.declared.value.Value.{Value}
use Rattle.pq_key_code.specs.KeyCode.{row_key}
use Rattle.pq_schema.specs.declared.table.Table.{Table}
use Rattle.pq_schema.specs.Keys.{AllOfKinds, key_types}
use Rattle.pq_schema.specs.Rows.{IsTableNumber, shape_of}
use Rattle.pq_schema.specs.Tables.{table_at}
use Rattle.pq_store.specs.Content.{Content}
use Rattle.pq_store.specs.declared.damage.Broke.{Broke}
use Rattle.pq_store.specs.declared.damage.Damage.{Damage}
use Rattle.pq_calls.specs.Evidence.{IsNoRowAt, IsNoRow}
use Rattle.pq_calls.specs.World.{World, Explains, where_told}
use Rattle.pq_calls.proofs.Steps.{explained_as}

module _ (tables : List Table) (t : ℕ) (key : List Value) (number : IsTableNumber tables t) (kinds : AllOfKinds (key_types (table_at tables t)) key) where
  no_row_told : (told : Option Content) (damage : Damage) → IsNoRowAt (shape_of (table_at tables t)) (row_key t key) told damage → where_told (IsNoRow tables) told damage
  no_row_told None damage h = tt
  no_row_told (Some content) damage h = record { table = t; key = key; number = number; kinds = kinds; shown = h }

  -- at the key of a row of a table
  pub no_row_explains : (a b : World) (error : Broke) → Explains (IsNoRowAt (shape_of (table_at tables t)) (row_key t key)) a b error → Explains (where_told (IsNoRow tables)) a b error
  no_row_explains a b error h = explained_as (IsNoRowAt (shape_of (table_at tables t)) (row_key t key)) (where_told (IsNoRow tables)) no_row_told a b error h
