-- Which row a write makes go and which one come, and so what it makes of the counters' pairs.
use Rattle.std.specs.Prelude.{ℕ, List, Option, Some, None, option_map, Result, Ok, Err}
use Rattle.pq_base.specs.declared.refusal.Refusal.{Refusal}
use Rattle.pq_base.specs.declared.refusal.Refusal.TheVariants as refusal
use Rattle.pq_base.specs.declared.value.Value.{Value}
use Rattle.pq_schema.specs.declared.table.Table.{Table}
use Rattle.pq_schema.specs.Definitions.{or_ok}
use Rattle.pq_schema.specs.Schema.{Schema}
use Rattle.pq_content.specs.Pairs.{Change}
use Rattle.pq_content.specs.Tables.{Rows, row_at}
use Rattle.pq_index_keep.specs.declared.write.Write.{Write}
use Rattle.pq_index_keep.specs.declared.write.Write.TheVariants as write
use Rattle.pq_index_keep.specs.Effects.{effect}
use Rattle.pq_index_keep.specs.Tested.{with_sets}
use Rattle.pq_tallies.specs.Defined.{NumberedCounter, counters_in}
use Rattle.pq_tallies.specs.Moves.{moves_changes, first_full}

abbrev pub written_table : Write → ℕ
written_table (write.Insert t row) = t
written_table (write.Update t key sets conds) = t
written_table (write.Delete t key conds) = t

-- the row that goes
abbrev pub old_row : List Table → Rows → Write → Option (List Value)
old_row tables rows (write.Insert t row) = None
old_row tables rows (write.Update t key sets conds) = row_at tables rows t key
old_row tables rows (write.Delete t key conds) = row_at tables rows t key

-- the row that comes
abbrev pub new_row : List Table → Rows → Write → Option (List Value)
new_row tables rows (write.Insert t row) = Some row
new_row tables rows (write.Update t key sets conds) = option_map (with_sets sets) (row_at tables rows t key)
new_row tables rows (write.Delete t key conds) = None

-- the changes of the counters' pairs that a write makes
unfoldable pub counter_changes : Schema → Rows → Write → List Change
counter_changes schema rows write = moves_changes (counters_in schema) rows (written_table write)
    (old_row schema.tables rows write) (new_row schema.tables rows write)

abbrev pub counter_full : NumberedCounter → Refusal
counter_full counter = refusal.CounterFull counter.name

-- the first counter, in the order of definition, of which a group that would grow is full
unfoldable pub full_refusal : Schema → Rows → Write → Option Refusal
full_refusal schema rows write = option_map counter_full (first_full (counters_in schema) rows (written_table write)
    (old_row schema.tables rows write) (new_row schema.tables rows write))

-- a write that a full counter refuses last
abbrev pub unless_full : Option Refusal → Result Rows Refusal → Result Rows Refusal
unless_full full (Ok made) = or_ok full made
unless_full full (Err why) = Err why

-- what a write makes of the rows, or its first refusal
unfoldable pub counted_effect : Schema → Rows → Write → Result Rows Refusal
counted_effect schema rows write =
    unless_full (full_refusal schema rows write) (effect schema.tables rows write)
