-- What holds after every schedule, from tables that keep their schema.
use Rattle.std.proofs.Common.{◌≡◌, ℕ, ◌==◌, true, false, cond, List, [], ◌∷◌, Option, Some, None, refl}
use Rattle.std.specs.List.{AllByRecursion}
use Rattle.std.specs.FinMap.{get}
use Rattle.pq_schema.specs.declared.table.Table.{Table}
use Rattle.pq_content.specs.Pairs.{Pair, is_of_rows, content_pairs}
use Rattle.pq_content.specs.Tables.{Rows}
use Rattle.pq_index_keep.proofs.Inserting.{each_by}
use Rattle.pq_clients.specs.declared.outcome.Outcome.{Outcome}
use Rattle.pq_clients.specs.Flights.{Flight}
use Rattle.pq_clients.specs.Clients.{Stage, Next, Reading, Taking, Looking, Flying, View}
use Rattle.pq_clients.specs.Runs.{Event, begun}
use Rattle.pq_clients.specs.Promises.{Begins, reached, KeepsPresent, IsResting, IsSettledAgain}
use Rattle.pq_clients.specs.Invariant.{Idle, stance_at, stance_of}
use Rattle.pq_clients.proofs.AtKeys.{present_coded}
use Rattle.pq_clients.proofs.Begin.{sound_rows, begins_holding}
use Rattle.pq_clients.proofs.Ends.{keeps_present, settled_again}
use Rattle.pq_clients.proofs.BeginRows.{beside_same}
use Rattle.pq_clients.proofs.Whole.{stances_of, Holding, run_holds}

module _ (tables : List Table) where
  rests : (at : ℕ) (over : Option Outcome) (next : Next) → over ≡ None → ((f : Flight) (stage : Stage) → next ≡ Flying f stage → ⊥) → stance_at tables at over next ≡ Idle
  rests at over Reading unbroken never = refl
  rests at None (Taking f) unbroken never = refl
  rests at (Some o) (Taking f) unbroken never = absurd (cc)
  rests at over (Looking f) unbroken never = refl
  rests at over (Flying f stage) unbroken never = absurd (never f stage refl)

  all_idle : (vs : List View) → AllByRecursion IsResting vs → (i : ℕ) → stances_of tables vs i ≡ Idle
  all_idle [] all i = refl
  all_idle (v ∷ vs) all i = elim (i == v.number) as (λ b. cond b (stance_of tables v) (stances_of tables vs i) ≡ Idle) [
    | true ↦ rests v.at v.over v.next all.0.unbroken all.0.rests
    | false ↦ all_idle vs all.1 i
  ]

  module _ (rows : Rows) (others : List Pair) (clients : List View) (b : Begins tables rows others clients) (events : List Event) where
    -- the invariant's parts on holders, entries and limits, and the shape of the content
    pub holding : Holding tables b.sound (get (content_pairs tables rows others)) (reached tables rows others clients events)
    holding = run_holds tables b.sound (get (content_pairs tables rows others)) events (begun (content_pairs tables rows others) clients) (begins_holding tables rows others clients b)

    -- indexes, keys and limits are kept
    pub present_kept : KeepsPresent tables (reached tables rows others clients events).content
    present_kept = keeps_present tables b.sound (reached tables rows others clients events).content (get (content_pairs tables rows others)) holding.shaped (stances_of tables (reached tables rows others clients events).clients) holding.good
        (λ t key number kinds. present_coded tables b.sound (get (content_pairs tables rows others)) (reached tables rows others clients events).content holding.shaped t key kinds)

    -- other pairs stay as they are
    pub beside_kept : (q : List ℕ) → is_of_rows q ≡ false → get (reached tables rows others clients events).content q ≡ get (content_pairs tables rows others) q
    beside_kept q out = holding.shaped.beside q out

    -- where no write is in flight and none ended by a fault, the content is that of the present tables
    pub rests_settled : IsSettledAgain tables others (reached tables rows others clients events)
    rests_settled resting =
        settled_again tables b.sound (reached tables rows others clients events).content (get (content_pairs tables rows others)) holding.shaped (stances_of tables (reached tables rows others clients events).clients) holding.good
        others b.beside (λ q out. beside_same tables others b.beside rows (sound_rows tables rows b.keeps) q out)
        (all_idle (reached tables rows others clients events).clients (each_by IsResting (reached tables rows others clients events).clients resting))
