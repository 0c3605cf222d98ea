-- What a batch makes of the rows, and what it may use.
use Rattle.std.specs.Prelude.{ℕ, ◌+◌, ◌*◌, nat_le, List, [], ◌∷◌, map, length, Result, Ok, Err, if◌then◌else◌}
use Rattle.std.specs.List.{sum_by}
use Rattle.pq_base.specs.declared.number.Bound.{Bound}
use Rattle.pq_base.specs.declared.refusal.Refusal.{Refusal}
use Rattle.pq_row_code.specs.declared.changes.Change.{Change as Coded}
use Rattle.pq_row_code.specs.Changes.{changes_code}
use Rattle.pq_schema.specs.Schema.{Schema}
use Rattle.pq_content.specs.Pairs.{Change}
use Rattle.pq_content.specs.Standing.{write_ops}
use Rattle.pq_content.specs.Tables.{Rows}
use Rattle.pq_pending.specs.Pending.{with_changes}
use Rattle.pq_index_keep.specs.Bounds.{counted, removers_of}
use Rattle.pq_index_keep.specs.Rounds.{alone_rounds}
use Rattle.pq_index_keep.specs.declared.write.Write.{Write}
use Rattle.pq_tallies.specs.Defined.{counters_in}
use Rattle.pq_tallies.specs.Writes.{counted_effect}
use Rattle.pq_counters.specs.Bounds.{counter_rounds}
use Rattle.pq_counters.specs.Whole.{reads_behind, changes_by, whole_changes}

-- ---- the bound

abbrev pub no_reads : Bound
no_reads = record { ops = 0; entries = 0 }

abbrev pub both : Bound → Bound → Bound
both first more = record { ops = first.ops + more.ops; entries = first.entries + more.entries }

-- what the tests of writes and the reads of their counters take, behind so many writes that remove pairs
unfoldable pub batch_reads : Schema → ℕ → List Write → Bound
batch_reads schema removers [] = no_reads
batch_reads schema removers (write ∷ writes) =
    both (reads_behind removers schema write) (batch_reads schema (removers + removers_of write) writes)

-- how often the store is asked for a write behind changes of others: what is tested may each be asked by itself then,
-- between two rounds
abbrev pub rounds_behind : Schema → Write → ℕ
rounds_behind schema write =
    alone_rounds write + 2 * counted schema.tables write + counter_rounds (counters_in schema) write

abbrev pub batch_rounds : Schema → List Write → ℕ
batch_rounds schema writes = sum_by (rounds_behind schema) writes

-- the greatest number of pairs that change
abbrev pub batch_changes : Schema → List Write → ℕ
batch_changes schema writes = sum_by (whole_changes schema) writes

-- the reads, and then the changes of all writes as one commit
abbrev pub batch_bound : Schema → List Write → Bound
batch_bound schema writes = record {
  ops = (batch_reads schema 0 writes).ops + write_ops (batch_changes schema writes);
  entries = (batch_reads schema 0 writes).entries;
}

-- ---- the effect

-- why a batch isn't made: the write at this place, from 1, is refused, or the code of the changes has so many bytes
pub data Unmade : Type 0 where
  InBatch : ℕ → Refusal → Unmade
  TooLong : ℕ → Unmade

-- the rows behind some writes, and the changes that make them of those before
pub record Batched : Type 0 where
  pub rows : Rows
  pub changes : List Change

-- what is made on the rows of the write at a place, or its refusal
abbrev pub made_on : ℕ → Result Rows Refusal → (Rows → Result Batched Unmade) → Result Batched Unmade
made_on place (Ok rows) next = next rows
made_on place (Err why) next = Err (InBatch place why)

-- writes from a place on, each on the rows of the one before
unfoldable pub made_from : Schema → ℕ → Rows → List Change → List Write → Result Batched Unmade
made_from schema place rows changes [] = Ok (record { rows = rows; changes = changes })
made_from schema place rows changes (write ∷ writes) =
    made_on place (counted_effect schema rows write)
    (λ made. made_from schema (place + 1) made (with_changes changes (changes_by schema rows write)) writes)

abbrev pub coded : Change → Coded
coded change = record { key = change.0; new = change.1 }

-- the bytes of the changes as an intent
abbrev pub changes_length : List Change → ℕ
changes_length changes = length (changes_code (map coded changes))

-- an intent of a batch has at most 1,048,576 bytes
abbrev pub unless_long : Result Batched Unmade → Result Rows Unmade
unless_long (Err why) = Err why
unless_long (Ok batched) =
    if nat_le (changes_length batched.changes) 1048576 then Ok batched.rows
    else Err (TooLong (changes_length batched.changes))

-- the rows behind the last write, or why none is made
unfoldable pub batch_effect : Schema → Rows → List Write → Result Rows Unmade
batch_effect schema rows writes = unless_long (made_from schema 1 rows [] writes)
