-- A call that uses no more than its caller may, and what a plan of rows promises of a write.
use Rattle.std.proofs.Common.{ℕ, ◌≤◌, List, Option, Result, arith}
use Rattle.std.specs.Prelude.{IfErr}
use Rattle.std.proofs.lemmas.Result.{IfErr-weaker}
use Rattle.pq_base.specs.declared.value.Value.{Value}
use Rattle.pq_content.specs.Tables.{IsTableNumber}
use Rattle.pq_schema.specs.Schema.{Schema}
use Rattle.pq_store.specs.Content.{Content}
use Rattle.pq_store.specs.Counts.{AllowedCounts}
use Rattle.pq_store.specs.declared.damage.Broke.{Broke}
use Rattle.pq_pending.specs.Calls.{Uses}
use Rattle.pq_calls.specs.World.{World, Affords, Explains, where_told}
use Rattle.pq_pending.specs.declared.calls.PendingCalls.{PendingCalls}
use Rattle.pq_pending.proofs.Steps.{uses_within}
use Rattle.pq_index_keep.specs.declared.plan.Planned.{Planned}
use Rattle.pq_index_keep.specs.declared.plan.Planned.TheVariants.{Changes, Refused}
use Rattle.pq_index_keep.specs.declared.write.Write.{Write}
use Rattle.pq_tallies.specs.Defined.{NumberedCounter}
use Rattle.pq_counters.specs.Bounds.{all_moves, counter_reads}
use Rattle.pq_counters.specs.Evidence.{ShowsCounted}
use Rattle.pq_counters.specs.Planning.{IsReadBy}
use Rattle.pq_counters.specs.Promises.{IsCountedWithin}
use Rattle.pq_counters.specs.Steps.{AreOfTable, SpoilsMoves}
use Rattle.pq_counters.proofs.Showing.{moves_explain}

pub affords_less : (allowed : AllowedCounts) (n m : ℕ) → n ≤ m → Affords allowed m m → Affords allowed n n
affords_less allowed n m le left = let ops = left.ops_left in let entries = left.entries_left in record { ops_left = omega arith; entries_left = omega arith }

pub uses_more : {S L : Type 0} (content : S → Option Content) (faults : S → ℕ) (a b : PendingCalls S L) (n m : ℕ) → n ≤ m → Uses content faults a b n n → Uses content faults a b m m
uses_more content faults a b n m le u = uses_within content faults a b n n m m u le le

-- the reads of counters are at least as many as the pairs that may change
pub moves_read : (counters : List NumberedCounter) (w : Write) → all_moves counters w ≤ counter_reads counters w
moves_read counters w = omega arith

pub counted_more : (n m : ℕ) → n ≤ m → (planned : Planned) → IsCountedWithin n planned → IsCountedWithin m planned
counted_more n m le (Changes changes) h = let few = h.few in record { few = omega arith; each = h.each }
counted_more n m le (Refused why) h = tt

-- why a plan of rows gives up
pub explained : {A : Type 0} (schema : Schema) (t : ℕ) (old new : Option (List Value)) → IsTableNumber schema.tables t → AreOfTable schema.tables t old new → (a b : World) (result : Result A Broke) → IsReadBy schema.tables a.told t old → IfErr result (Explains (SpoilsMoves schema t old new) a b) → IfErr result (Explains (where_told (ShowsCounted schema)) a b)
explained schema t old new number rows a b result read h = IfErr-weaker result (Explains (SpoilsMoves schema t old new) a b) (Explains (where_told (ShowsCounted schema)) a b) (λ error. moves_explain schema t old new number rows a b error read) h
