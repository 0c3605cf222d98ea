-- What an opening takes, over every store and over one that opens to a model.
use Rattle.std.specs.Prelude.{◌≡◌, ℕ, ◌+◌, ◌≤◌, Option}
use Rattle.pq_base.specs.declared.number.Bound.{Bound}
use Rattle.pq_print.specs.declared.report.Opened.{Opened}
use Rattle.pq_store.specs.Content.{Content}
use Rattle.pq_store.specs.Counts.{Counts}
use Rattle.pq_intent.specs.Counting.{AreFewChanges}
use Rattle.pq_intent.specs.Spending.{TakesAtMost}
use Rattle.pq_catalog.specs.Model.{Model}
use Rattle.pq_opening.specs.Opening.{AreFewRows, opening_bound, IsOpeningBound}

-- the bound of an opening, for changes that an intent may hold and rows that an index is filled over, or for none
pub record IsSomeOpeningBound (most : Bound) : Type 0 where
  pub changes : Option ℕ
  pub few_changes : AreFewChanges changes
  pub rows : Option ℕ
  pub few_rows : AreFewRows rows
  pub is : most ≡ opening_bound changes rows

-- an opening's line has such a bound, and tells at most that as used
pub record IsBounded (opened : Opened) : Type 0 where
  pub most : IsSomeOpeningBound opened.bound
  pub ops : opened.used.ops ≤ opened.bound.ops
  pub entries : opened.used.entries ≤ opened.bound.entries

-- where an opening breaks off, it is within such a bound, and the entries of one range more: the catalog may have a
-- pair more than there may be definitions, and a store may give other rows than it counts
pub record StopsWithin (before after : Counts) : Type 0 where
  pub most : Bound
  pub some : IsSomeOpeningBound most
  pub ops : after.ops ≤ before.ops + most.ops
  pub entries : after.entries ≤ before.entries + most.entries + 256

-- within the bound of this content's own opening, which opens to the model
pub record IsWithinOpening (m : Model) (before after : Counts) (content : Content) : Type 0 where
  pub most : Bound
  pub is : IsOpeningBound m content most
  pub takes : TakesAtMost most before after
