use Rattle.std.proofs.Common.{◌<◌, List, length, sym, subst, All}
use Rattle.pq_clients.specs.declared.client.Client.{Client}
use Rattle.pq_clients.specs.Goes.{spot}
use Rattle.pq_clients.specs.Running.{moment}
use Rattle.pq_clients.proofs.Seats.{AreClients}
use Rattle.pq_clients.proofs.Turning.{turns_same, leaves_run, makes_calls}
use Rattle.pq_clients.proofs.Promising.{runs_as_promised}
use Rattle.pq_clients.proofs.run.run_clients.Goals as goal

pub turns-requires-clause-clients : goal.turns-requires-clause-clients
turns-requires-clause-clients g c =
    subst (AreClients c.args.catalog.now.tables) (sym c.in_ok-running.ensures.clients) c.requires.clients

pub turns-requires-clause-places : goal.turns-requires-clause-places
turns-requires-clause-places g c =
    subst (λ (l : List Client). All (λ place. place < length l) c.args.order.now) (sym c.in_ok-running.ensures.clients) c.requires.places

pub returns-clause-turns : goal.returns-clause-turns
returns-clause-turns g c =
    turns_same c.args.catalog.now.tables c.args.order.now
    (spot (g.S.Store.content c.args.store.now) (g.S.Store.faults c.args.store.now) c.args.meter.now)
    (spot (g.S.Store.content c.turns.new.store) (g.S.Store.faults c.turns.new.store) c.turns.new.meter)
    _ _ _ _ _ _ _ _ _ _ _ _ c.in_ok-running.ensures.clients c.in_ok-running.ensures.told c.in_ok-running.ensures.puts
    (sym c.end.ensures.clients) (sym c.end.ensures.told) (sym c.end.ensures.puts) c.turns.ensures

pub returns-clause-run : goal.returns-clause-run
returns-clause-run g c = leaves_run c.args.catalog.now.tables c.args.order.now _ _ (returns-clause-turns g c)

pub returns-clause-promises : goal.returns-clause-promises
returns-clause-promises g c rows others begins told =
    runs_as_promised c.args.catalog.now.tables rows others _ c.args.order.now
    (spot (g.S.Store.content c.args.store.now) (g.S.Store.faults c.args.store.now) c.args.meter.now)
    (moment (spot (g.S.Store.content c.turns.new.store) (g.S.Store.faults c.turns.new.store) c.turns.new.meter) _ _ _)
    (returns-clause-run g c) begins told

pub returns-clause-calls : goal.returns-clause-calls
returns-clause-calls g c = makes_calls c.args.catalog.now.tables c.args.order.now _ _ (returns-clause-turns g c)
