-- What a run of clients leaves, with all that is promised of it.
use Rattle.std.specs.Prelude.{◌≡◌, ℕ, zero, suc, ◌≤◌, ◌==◌, true, length, List, [], ◌∷◌, ◌++◌, map, take, Option, Some}
use Rattle.std.specs.List.{AllByRecursion, slice_get, sum_by, count_by}
use Rattle.pq_schema.specs.declared.table.Table.{Table}
use Rattle.pq_content.specs.Pairs.{Pair}
use Rattle.pq_content.specs.Tables.{Rows}
use Rattle.pq_store.specs.Content.{Content}
use Rattle.pq_clients.specs.declared.outcome.Told.{Told}
use Rattle.pq_clients.specs.declared.outcome.Wrote.{Wrote}
use Rattle.pq_clients.specs.Clients.{View, is_over}
use Rattle.pq_clients.specs.Runs.{Event}
use Rattle.pq_clients.specs.Promises.{HoldsThroughout, reached, calls_of_write}
use Rattle.pq_clients.specs.Running.{IsRun}

-- ---- when all are over

-- the most calls that the client may make
abbrev pub calls_of_client : List Table → View → ℕ
calls_of_client tables v = sum_by (λ w. calls_of_write tables w) v.writes

-- the client at this place has nothing left to do
abbrev pub IsOverAt : List View → ℕ → Type 0
IsOverAt left p = (v : View) × (slice_get left p ≡ Some v) × (is_over v ≡ true)

-- the places from 0 up to k
abbrev pub places_below : ℕ → List ℕ
places_below zero = []
places_below (suc k) = places_below k ++ k ∷ []

-- the order by turns: each of k places once, and so n times over
abbrev pub by_turns : ℕ → ℕ → List ℕ
by_turns k zero = []
by_turns k (suc n) = places_below k ++ by_turns k n

-- a client is over whose place came as often as it may call; and all are over after so many rounds that none of them
-- may make more calls
pub record AreOverAfter (tables : List Table) (clients : List View) (places : List ℕ) (left : List View) : Type 0 where
  pub each : (p : ℕ) (v : View) → slice_get clients p ≡ Some v
      → calls_of_client tables v ≤ count_by (λ q. q == p) places → IsOverAt left p
  pub rounds : (n : ℕ) → AllByRecursion (λ v. calls_of_client tables v ≤ n) clients
      → places ≡ by_turns (length clients) n
      → AllByRecursion (λ v. is_over v ≡ true) left

-- ---- all of it

-- the clients took their steps at just these places, each with some fate; what is left, told and put is what these
-- steps leave from these rows; and all that is promised holds of them and of the first n of them, for every n
pub record RunsAsPromised (tables : List Table) (rows : Rows) (others : List Pair) (clients : List View)
    (places : List ℕ)
    (content : Option Content) (left : List View) (told : List Told) (puts : List Wrote) : Type 0 where
  pub events : List Event
  pub at : map (λ (e : Event). e.place) events ≡ places
  pub leaves : IsRun (reached tables rows others clients events) content left told puts
  pub holds : HoldsThroughout tables rows others clients events
  pub held : (n : ℕ) → HoldsThroughout tables rows others clients (take n events)
  pub over : AreOverAfter tables clients places left
