use Rattle.std.proofs.Common.{◌≡◌, length, take, All}
use Rattle.pq_clients.specs.InFlight.{spot_of}
use Rattle.pq_clients.specs.Running.{HasRoom, moment_of, Turns}
use Rattle.pq_clients.specs.Stepping.{view_of, IsClient}
use Rattle.pq_clients.proofs.run.Running.turns.Given as goal

abbrev pub invariant-loop-place : goal.invariant-loop-place
invariant-loop-place g l = record {
  turns : Turns l.catalog.tables (take l.place-index l.order)
      (moment_of (spot_of g.S.Store l.initial.store l.initial.meter) l.initial.self)
      (moment_of (spot_of g.S.Store l.store l.meter) l.self);
  clients : All (λ client. IsClient l.catalog.tables (view_of client)) l.self.clients.items;
  same : length l.self.clients.items ≡ length l.initial.self.clients.items;
  room : HasRoom l.self;
}
