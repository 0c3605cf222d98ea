-- A catalog after a definition.
use Rattle.std.specs.Prelude.{◌≡◌, ℕ, ◌+◌, length, Option, Result, Ok, Err}
use Rattle.pq_base.specs.declared.refusal.Refusal.{Refusal}
use Rattle.pq_schema.specs.declared.definition.AlterDef.{AlterDef}
use Rattle.pq_schema.specs.declared.definition.CounterDef.{CounterDef}
use Rattle.pq_schema.specs.declared.definition.TableDef.{TableDef}
use Rattle.pq_schema.specs.declared.query.Query.{Query}
use Rattle.pq_schema.specs.declared.table.NewIndex.{NewIndex}
use Rattle.pq_schema.specs.declared.table.Table.{Table}
use Rattle.pq_schema.specs.Definitions.{AddsColumn, AddsCounter, new_column, new_counter, new_table, new_query}
use Rattle.pq_schema.specs.Schema.{Schema, with_table, with_query}

-- the table was added, with this number; or the definition is refused, and nothing changed
abbrev pub Extends : Schema → TableDef → Schema → Result ℕ Refusal → Type 0
Extends old def next (Ok number) = (table : Table) × (new_table old def ≡ Ok table)
    × (next ≡ with_table old table) × (number ≡ length old.tables + 1)
Extends old def next (Err why) = (new_table old def ≡ Err why) × (next ≡ old)

-- the column was added, by the definition of this number; or it is refused, and nothing changed
abbrev pub ExtendsWith : Schema → AlterDef → Schema → Result ℕ Refusal → Type 0
ExtendsWith old def next (Ok number) = AddsColumn old def next number
ExtendsWith old def next (Err why) = (new_column old def ≡ Err why) × (next ≡ old)

-- the counter was defined, by the definition of this number; or it is refused, and nothing changed
abbrev pub ExtendsCounting : Schema → CounterDef → Schema → Result ℕ Refusal → Type 0
ExtendsCounting old def next (Ok number) = AddsCounter old def next number
ExtendsCounting old def next (Err why) = (new_counter old def ≡ Err why) × (next ≡ old)

-- the query was added with its index, with this number; or it is refused, and nothing changed
abbrev pub ExtendsBy : Schema → Query → Option NewIndex → Schema → Result ℕ Refusal → Type 0
ExtendsBy old query wanted next (Ok number) =
    (new_query old query wanted ≡ Ok (with_query old query wanted)) × (next ≡ with_query old query wanted)
    × (number ≡ length old.definitions + 1)
ExtendsBy old query wanted next (Err why) = (new_query old query wanted ≡ Err why) × (next ≡ old)
