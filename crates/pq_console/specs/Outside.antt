-- What a source and a sink do, and when their faults come.
use Rattle.std.specs.Prelude.{◌≡◌, ℕ, ◌≤◌, ◌<◌, List, ◌++◌, length, OnErr, Result}
use Rattle.pq_store.specs.Content.{HasRisen}

-- the count of faults has not fallen, and has risen where the call failed
pub record HasFaultCause {A E : Type 0} (before now : ℕ) (result : Result A E) : Type 0 where
  pub later : before ≤ now
  pub failed : OnErr result (HasRisen before now)

-- a first part of the text, and not the whole
pub record IsCut (part text : List ℕ) : Type 0 where
  pub rest : List ℕ
  pub whole : text ≡ part ++ rest
  pub some_left : 0 < length rest
