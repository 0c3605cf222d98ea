-- What a client's view has to have of a schema, over any store.
use Rattle.std.specs.Prelude.{◌≡◌, ℕ, ◌<◌, ◌≤◌, List, length, All, IsSome}
use Rattle.std.specs.List.{AllByRecursion}
use Rattle.pq_base.specs.declared.refusal.Refusal.{Refusal}
use Rattle.pq_base.specs.declared.refusal.Refusal.TheVariants as refusal
use Rattle.pq_base.specs.Columns.{set_of}
use Rattle.pq_schema.specs.declared.table.Table.{Table}
use Rattle.pq_schema.specs.Sequences.{group_access}
use Rattle.pq_schema.specs.Sound.{IsTable, AreColumns, AreMade}
use Rattle.pq_content.specs.Tables.{IsTableNumber}
use Rattle.pq_index_keep.specs.Sound.{AreWritable, IsWrite}
use Rattle.pq_index_keep.specs.declared.write.SetCol.{SetCol}
use Rattle.pq_index_keep.specs.declared.write.Write.{Write}
use Rattle.pq_index_keep.specs.declared.write.Write.TheVariants as write
use Rattle.pq_clients.specs.Flights.{Flight, Check, Parent, Child, flight_table, IsGranted}
use Rattle.pq_clients.specs.Clients.{Stage, Checking, Adding, Testing, Putting, Clearing, Freeing, Undoing, Releasing, Next, Reading, Taking, Looking, Flying}
use Rattle.pq_clients.specs.Steps.{Then, On, Puts, Ends}

-- tables over which writes are made, and a write of them
pub record MayWrite (tables : List Table) (w : Write) : Type 0 where
  pub sound : AreWritable tables
  pub made : AreMade tables
  pub write : IsWrite tables w

-- columns that a write sets are those of a set of columns
abbrev pub HasColumns : Write → Type 0
HasColumns (write.Insert t row) = Unit {0}
HasColumns (write.Update t key sets conds) = All (λ set. set.col < 32) sets
HasColumns (write.Delete t key conds) = Unit {0}

-- what keys of rows, entries and groups of a table take
pub record IsMadeTable (table : Table) : Type 0 where
  pub is_table : IsTable table
  pub foreign : All (λ f. AreColumns f.cols) table.foreign
  pub few_foreign : length table.foreign ≤ 4
  pub foreign_groups : All (λ f. IsSome (group_access table (set_of f.cols))) table.foreign
  pub limit_groups : All (λ limit. IsSome (group_access table (set_of limit.cols))) table.limits

abbrev pub IsCheck : List Table → Check → Type 0
IsCheck tables (Parent place u at) = IsTableNumber tables u × (place < 4)
IsCheck tables (Child u place front) = IsTableNumber tables u × (place < 4)

-- a refusal that a test behind the take gives
abbrev pub IsLate : Refusal → Type 0
IsLate (refusal.NoParent name number) = Unit {0}
IsLate (refusal.Referenced name number) = Unit {0}
IsLate (refusal.Cardinality name number n) = Unit {0}
IsLate _ = ⊥

abbrev pub IsTest : List Table → Flight → ℕ → Type 0
IsTest tables f place = place < length (flight_table tables f).limits

abbrev pub FitsStage : List Table → Flight → Stage → Type 0
FitsStage tables f (Checking check left) = IsCheck tables check × AllByRecursion (IsCheck tables) left
FitsStage tables f (Adding entry left added) = Unit {0}
FitsStage tables f (Testing place left passed) = IsTest tables f place × AllByRecursion (IsTest tables f) left
FitsStage tables f Putting = Unit {0}
FitsStage tables f (Clearing entry left) = Unit {0}
FitsStage tables f Freeing = Unit {0}
FitsStage tables f (Undoing entry left why) = IsLate why
FitsStage tables f (Releasing why) = IsLate why

abbrev pub FitsNext : List Table → Next → Type 0
FitsNext tables Reading = Unit {0}
FitsNext tables (Taking f) = IsGranted tables f
FitsNext tables (Looking f) = Unit {0}
FitsNext tables (Flying f stage) = IsGranted tables f × FitsStage tables f stage

abbrev pub FitsThen : List Table → Then → Type 0
FitsThen tables (On next) = FitsNext tables next
FitsThen tables (Puts next) = FitsNext tables next
FitsThen tables (Ends outcome) = Unit {0}

-- the write is an UPDATE that sets this
abbrev pub IsUpdateOf : Write → List SetCol → Type 0
IsUpdateOf (write.Insert t row) sets = ⊥
IsUpdateOf (write.Update t key own conds) sets = own ≡ sets
IsUpdateOf (write.Delete t key conds) sets = ⊥
