-- The refusals that a write can have, whatever the store holds.
use Rattle.std.specs.Prelude.{◌≡◌, ◌⊎◌, ℕ, ◌<◌, List, [], ◌∷◌, length, slice_index_or}
use Rattle.pq_base.specs.declared.refusal.Refusal.{Refusal}
use Rattle.pq_base.specs.declared.refusal.Refusal.TheVariants as refusal
use Rattle.pq_schema.specs.Tables.{no_table, table_at}
use Rattle.pq_schema.specs.declared.table.Table.{Table}
use Rattle.pq_base.specs.Members.{In}
use Rattle.pq_store.specs.declared.store.Test.{Test}
use Rattle.pq_index_keep.specs.Effects.{no_parent, no_room, no_row, no_sum, referenced_refusal, unmet}
use Rattle.pq_index_keep.specs.declared.plan.Planned.{Planned}
use Rattle.pq_index_keep.specs.declared.plan.Planned.TheVariants as planned
use Rattle.pq_index_keep.specs.declared.write.Cond.{Cond}
use Rattle.pq_index_keep.specs.declared.write.SetCol.{SetCol}
use Rattle.pq_index_keep.specs.declared.write.Write.{Write}
use Rattle.pq_index_keep.specs.declared.write.Write.TheVariants as write

-- by one of the table's foreign keys, or by one of its limits
abbrev pub IsTestRefusal : Table → Refusal → Type 0
IsTestRefusal table why =
    ((place : ℕ) × (place < length table.foreign) × (why ≡ no_parent table place))
    ⊎ ((place : ℕ) × (place < length table.limits) × (why ≡ no_room table place))

-- of a row that is inserted: its key is taken, or it doesn't pass a test
abbrev pub IsInsertRefusal : Table → Refusal → Type 0
IsInsertRefusal table why = (why ≡ refusal.DuplicateKey table.name) ⊎ IsTestRefusal table why

-- the same where the key is asked for by one test, or not at all
abbrev pub IsAskedRefusal : List Test → Table → Refusal → Type 0
IsAskedRefusal [] table why = IsTestRefusal table why
IsAskedRefusal (test ∷ own) table why = IsInsertRefusal table why

-- of a row that is updated: its code is too long, or it doesn't pass a test
abbrev pub IsUpdateRefusal : Table → Refusal → Type 0
IsUpdateRefusal table why =
    ((bytes : ℕ) × (4096 < bytes) × (why ≡ refusal.RowLong table.name bytes)) ⊎ IsTestRefusal table why

-- of a row that is deleted: by a foreign key of one of the tables
abbrev pub IsDeleteRefusal : List Table → Refusal → Type 0
IsDeleteRefusal tables why = (child : ℕ) × (child < length tables) × (place : ℕ)
    × (place < length (slice_index_or tables child no_table).foreign)
    × (why ≡ referenced_refusal (slice_index_or tables child no_table) place)

-- by one of its conditions
abbrev pub IsUnmet : Table → List Cond → Refusal → Type 0
IsUnmet table conds why = (place : ℕ) × (place < length conds) × (why ≡ unmet table place)

-- by the ADD of one of the columns that are set
abbrev pub IsNoSum : Table → List SetCol → Refusal → Type 0
IsNoSum table sets why = (set : SetCol) × In set sets × (why ≡ no_sum table set)

-- the row that an UPDATE and a DELETE name may not be there, and be another than the write says
abbrev pub CanRefuse : List Table → Write → Refusal → Type 0
CanRefuse tables (write.Insert t row) why = IsInsertRefusal (table_at tables t) why
CanRefuse tables (write.Update t key sets conds) why =
    (why ≡ no_row tables t) ⊎ IsUnmet (table_at tables t) conds why ⊎ IsNoSum (table_at tables t) sets why
    ⊎ IsUpdateRefusal (table_at tables t) why
CanRefuse tables (write.Delete t key conds) why =
    (why ≡ no_row tables t) ⊎ IsUnmet (table_at tables t) conds why ⊎ IsDeleteRefusal tables why

-- what is planned is refused as the write can be
abbrev pub RefusesAs : List Table → Write → Planned → Type 0
RefusesAs tables write (planned.Changes changes) = Unit {0}
RefusesAs tables write (planned.Refused why) = CanRefuse tables write why
