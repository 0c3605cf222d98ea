-- The writes of a batch, or the first of them that is refused by reading.
use Rattle.std.specs.Prelude.{ℕ, ◌+◌, ◌≤◌, nat_le, List, [], ◌∷◌, length, Result, Ok, Err, if◌then◌else◌}
use Rattle.pq_base.specs.declared.count_word.TheConstants.{WRITES}
use Rattle.pq_base.specs.declared.refusal.Refusal.{Refusal}
use Rattle.pq_base.specs.declared.refusal.Refusal.TheVariants as refusal
use Rattle.pq_schema.specs.Schema.{Schema}
use Rattle.pq_def_read.specs.declared.statement.Statement.{Statement}
use Rattle.pq_def_read.specs.declared.statement.Statement.TheVariants as statement
use Rattle.pq_def_read.specs.declared.write.WriteDef.{WriteDef}
use Rattle.pq_index_keep.specs.Checking.{checked_write}
use Rattle.pq_index_keep.specs.declared.write.Write.{Write}

-- the write at a place before those behind it, or the first refusal with its place
abbrev pub with_checked : ℕ → Result Write Refusal → Result (List Write) (ℕ × Refusal)
    → Result (List Write) (ℕ × Refusal)
with_checked place (Err why) checked = Err (place, why)
with_checked place (Ok write) (Ok writes) = Ok (write ∷ writes)
with_checked place (Ok write) (Err first) = Err first

-- writes from a place on
unfoldable pub checked_writes : Schema → ℕ → List WriteDef → Result (List Write) (ℕ × Refusal)
checked_writes schema place [] = Ok []
checked_writes schema place (def ∷ defs) =
    with_checked place (checked_write schema def) (checked_writes schema (place + 1) defs)

-- at most 256 of them are asked for
abbrev pub unless_many : {A : Type 0} → List WriteDef → A → Result A Refusal
unless_many defs asked = if nat_le (length defs) 256 then Ok asked else Err (refusal.Count WRITES)

-- a batch that is spelled has a write
abbrev pub HasWrites : Statement → Type 0
HasWrites (statement.Create def) = Unit {0}
HasWrites (statement.Write write) = Unit {0}
HasWrites (statement.Batch defs) = 1 ≤ length defs
HasWrites (statement.Prepare name from) = Unit {0}
HasWrites (statement.Explain from) = Unit {0}
HasWrites (statement.Run name params after) = Unit {0}
HasWrites (statement.Alter def) = Unit {0}
HasWrites (statement.Counter def) = Unit {0}
HasWrites (statement.Read name values) = Unit {0}
HasWrites statement.Show = Unit {0}
HasWrites statement.Select = Unit {0}
