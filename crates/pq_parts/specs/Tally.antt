-- Counts of the calls of nodes.
use Rattle.std.specs.Prelude.{◌≡◌, ◌≤◌, ℕ, ◌+◌, min, max, Result, IsOk}
use Rattle.pq_store.specs.Counts.{Counts}
use Rattle.pq_store.specs.declared.store.StoreErr.{StoreErr}

-- what the meter has, and the numbers beside it
pub record TalliedCalls : Type 0 where
  pub nodes : Counts
  pub ops : ℕ
  pub entries : ℕ

-- a number of 64 bits, raised by so much up to its end
abbrev pub raised_number : ℕ → ℕ → ℕ
raised_number number more = max number (min (number + more) 18446744073709551615)

-- so many calls more, which answered so many entries
abbrev pub counted_call : TalliedCalls → ℕ → ℕ → TalliedCalls
counted_call before calls entries = record {
  nodes = record { ops = before.nodes.ops + calls; entries = before.nodes.entries + entries };
  ops = raised_number before.ops calls;
  entries = raised_number before.entries entries;
}

-- at most so many calls, which answered these entries
pub record HasCalled (before now : TalliedCalls) (most found : ℕ) : Type 0 where
  pub calls : ℕ
  pub few : calls ≤ most
  pub counts : now ≡ counted_call before calls found

-- at most as many calls as parts are met, which answered all the entries of the whole answer
pub record HasAsked {A : Type 0} (before now : TalliedCalls) (met limit answered : ℕ) (result : Result A StoreErr) :
    Type 0 where
  pub found : ℕ
  pub called : HasCalled before now met found
  pub within : found ≤ limit
  pub whole : IsOk result → found ≡ answered
