-- A write in flight, as the code has it, and what a step of it makes of a store.
use Rattle.std.specs.Prelude.{ℕ, List, IfOk, Result}
use Rattle.pq_schema.specs.declared.table.Table.{Table}
use Rattle.pq_store.specs.Counts.{Counts}
use Rattle.pq_store.specs.declared.store.Store.{Ghosts}
use Rattle.pq_index_keep.specs.declared.write.Write.{Write}
use Rattle.pq_clients.specs.declared.flight.InFlight.{InFlight}
use Rattle.pq_clients.specs.declared.halt.Halt.{Halt}
use Rattle.pq_clients.specs.declared.stage.Course.{Course}
use Rattle.pq_clients.specs.Calling.{gone_from, IsWay}
use Rattle.pq_clients.specs.Clients.{Next}
use Rattle.pq_clients.specs.Fitting.{MayWrite}
use Rattle.pq_clients.specs.Flights.{Flight, IsGranted}
use Rattle.pq_clients.specs.Goes.{Goes, Spot, spot}
use Rattle.pq_clients.specs.Seen.{flight, seen_course}

-- the tables over which it is made
abbrev pub tables_of : InFlight → List Table
tables_of f = f.catalog.now.tables

abbrev pub seen_flight : InFlight → Flight
seen_flight f = flight f.write.now f.read.now

-- it is a write of its tables, and the row that was read, where there is one, doesn't refuse it
pub record MayFly (f : InFlight) : Type 0 where
  pub write : MayWrite (tables_of f) f.write.now
  pub granted : IsGranted (tables_of f) (seen_flight f)

-- a store as it is, and what the meter counted
module _ {S L : Type 0} (s : Ghosts S L) where
  abbrev pub spot_of : S → Counts → Spot
  spot_of store used = spot (s.content store) (s.faults store) used

-- the one call of a step of this write, from this point on: where a content is told it leaves and answers what the
-- definitions say, and over every store the write goes on in the way of some answer
pub record StepsFrom (tables : List Table) (client number : ℕ) (w : Write) (next : Next) (f : Flight)
    (before after : Spot) (result : Result Course Halt) : Type 0 where
  pub goes : Goes (seen_course f) (gone_from tables client number w next) before after result
  pub way : IfOk result (λ course. IsWay tables client w next (seen_course f course))
