-- What calls that write spend of an allowance, and what a settling takes at most.
use Rattle.std.specs.Prelude.{◌≡◌, ℕ, ◌+◌, ◌≤◌, ◌<◌, Option, Some, None}
use Rattle.pq_base.specs.declared.number.Bound.{Bound}
use Rattle.pq_store.specs.Content.{Content}
use Rattle.pq_store.specs.Counts.{Counts, AllowedCounts}
pub use Rattle.pq_content.specs.Standing.{write_ops}
use Rattle.pq_intent.specs.Counting.{HasChanges}

-- at most so many operations and no entries, and exactly those that the meter rose by are spent
pub record Spends (limit : ℕ) (before after : AllowedCounts) (counts now : Counts) : Type 0 where
  pub granted : after.granted ≡ before.granted
  pub ops : after.left.ops + now.ops ≡ before.left.ops + counts.ops
  pub rise : counts.ops ≤ now.ops
  pub few : now.ops ≤ counts.ops + limit
  pub entries_left : after.left.entries ≡ before.left.entries
  pub entries : now.entries ≡ counts.entries

-- ---- a settling

-- the meter has risen by at most a bound
pub record TakesAtMost (most : Bound) (before after : Counts) : Type 0 where
  pub ops : after.ops ≤ before.ops + most.ops
  pub entries : after.entries ≤ before.entries + most.entries

-- without an intent one read, which finds nothing; and with one of so many changes one read with its entry, the
-- changes, and the removal of the intent
abbrev pub settling_bound : Option ℕ → Bound
settling_bound None = record { ops = 1; entries = 0 }
settling_bound (Some changes) = record { ops = changes + 2; entries = 1 }

-- within the settling of some number of changes that an intent may hold
pub record IsWithinSettling (before after : Counts) : Type 0 where
  pub changes : ℕ
  pub few : changes < 65536
  pub takes : TakesAtMost (settling_bound (Some changes)) before after

-- within the settling of what this content has at the intent's key
abbrev pub IsWithinSettlingOf : Counts → Counts → Content → Type 0
IsWithinSettlingOf before after content = (changes : Option ℕ) → HasChanges content changes
    → TakesAtMost (settling_bound changes) before after
