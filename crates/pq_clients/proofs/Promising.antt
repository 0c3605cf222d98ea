-- What a run leaves is promised: the run of the definitions that it is, and what holds of every one.
use Rattle.std.proofs.Common.{◌≡◌, ℕ, List, [], map, take, Option, Some, subst}
use Rattle.std.specs.Prelude.{IfSome}
use Rattle.pq_schema.specs.declared.table.Table.{Table}
use Rattle.pq_content.specs.Pairs.{Pair, content_pairs}
use Rattle.pq_content.specs.Tables.{Rows}
use Rattle.pq_store.specs.Content.{Content}
use Rattle.pq_clients.specs.Clients.{View}
use Rattle.pq_clients.specs.Runs.{Event, begun, run}
use Rattle.pq_clients.specs.Promises.{Begins}
use Rattle.pq_clients.specs.Goes.{Spot}
use Rattle.pq_clients.specs.Running.{Moment, moment, IsRun, LeavesRun}
use Rattle.pq_clients.specs.Promised.{RunsAsPromised}
use Rattle.pq_clients.proofs.Ending.{are_over}
use Rattle.pq_clients.proofs.Holding.{holds_throughout}

abbrev Leaves : List Table → List ℕ → List View → Moment → Content → Type 0
Leaves tables places clients after c = (events : List Event) × (map (λ (e : Event). e.place) events ≡ places)
    × IsRun (run tables (begun c clients) events) after.spot.told after.clients after.told after.puts

pub runs_as_promised : (tables : List Table) (rows : Rows) (others : List Pair) (clients : List View) (places : List ℕ) (start : Spot) (after : Moment)
    → LeavesRun tables places (moment start clients [] []) after
    → Begins tables rows others clients → start.told ≡ Some (content_pairs tables rows others)
    → RunsAsPromised tables rows others clients places after.spot.told after.clients after.told after.puts
runs_as_promised tables rows others clients places start after leaves begins told =
    let ran : Leaves tables places clients after (content_pairs tables rows others) =
    subst (λ (o : Option Content). IfSome o (Leaves tables places clients after)) told leaves in
    record {
      events = ran.0;
      at = ran.1;
      leaves = ran.2;
      holds = holds_throughout tables rows others clients begins ran.0;
      held = λ n. holds_throughout tables rows others clients begins (take n ran.0);
      over = are_over tables (content_pairs tables rows others) clients ran.0 places after.clients begins.fresh ran.1 ran.2.views;
    }
