-- The changes of a row's entry in one index.
use Rattle.std.specs.Prelude.{ℕ, List, [], ◌∷◌, Some, None, if◌then◌else◌}
use Rattle.pq_base.specs.declared.value.Value.{Value}
use Rattle.pq_schema.specs.declared.table.Index.{Index}
use Rattle.pq_schema.specs.declared.table.Table.{Table}
use Rattle.pq_schema.specs.Sequences.{index_sequence}
use Rattle.pq_content.specs.Pairs.{Change, entry_pair}
use Rattle.pq_content.specs.Tables.{values_of, same_values}

-- the removal of the old entry and the write of the new one, where they differ
abbrev pub moved_entry_changes : ℕ → ℕ → Table → Index → List Value → List Value → List Change
moved_entry_changes t i table index old new =
    if same_values (values_of (index_sequence table index) old) (values_of (index_sequence table index) new) then []
    else ((entry_pair t i (index_sequence table index) old).0, None)
    ∷ ((entry_pair t i (index_sequence table index) new).0, Some []) ∷ []
