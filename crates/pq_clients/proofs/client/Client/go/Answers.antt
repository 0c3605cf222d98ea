use Rattle.std.proofs.Common.{sym, subst, arith}
use Rattle.std.specs.Prelude.{IfOk}
use Rattle.pq_store.specs.Content.{Content}
use Rattle.pq_index_keep.specs.declared.write.Write.{Write}
use Rattle.pq_clients.specs.declared.stage.Course.{Course}
use Rattle.pq_clients.specs.Fitting.{MayWrite, FitsNext}
use Rattle.pq_clients.specs.Seen.{flight, seen_next, seen_course}
use Rattle.pq_clients.specs.Steps.{gone_on}
use Rattle.pq_clients.specs.Stepping.{gone_from, IsWay, view_of, hand_of, at_hand}
use Rattle.pq_clients.specs.Goes.{Goes}
use Rattle.pq_clients.specs.InFlight.{spot_of}
use Rattle.pq_clients.proofs.Going.{regone}
use Rattle.pq_clients.proofs.Hands.{going_at, hand_writes, hand_is, small_at, gone_same}
use Rattle.pq_clients.proofs.client.Client.go.Goals as goal

pub overflow_cast-number : goal.overflow_cast-number
overflow_cast-number g c = omega (arith, small_at c.args.catalog.now.tables (view_of c.args.self.now) c.requires.client c.requires.going)

pub write-write-requires-clause-there : goal.write-write-requires-clause-there
write-write-requires-clause-there g c = going_at (view_of c.args.self.now) c.requires.going

pub go-requires-clause-write : goal.go-requires-clause-write
go-requires-clause-write g c =
    subst (MayWrite c.args.catalog.now.tables) (sym c.write-write.ensures)
    (hand_writes c.args.catalog.now.tables (view_of c.args.self.now) c.requires.client c.requires.going c.requires.sound c.requires.made)

pub go-requires-clause-fits : goal.go-requires-clause-fits
go-requires-clause-fits g c =
    subst (λ (w : Write). FitsNext c.args.catalog.now.tables (seen_next (flight w c.args.self.now.read) c.args.self.now.next)) (sym c.write-write.ensures)
    c.requires.client.next

pub returns-clause-goes : goal.returns-clause-goes
returns-clause-goes g c =
    let tables = c.args.catalog.now.tables in
    let v = view_of c.args.self.now in
    let w = at_hand c.args.self.now.writes c.args.self.now.at in
    let before = spot_of g.S.Store c.args.store.now c.args.meter.now in
    let after = spot_of g.S.Store c.go.new.store c.go.new.meter in
    regone (seen_course (hand_of c.args.self.now)) (gone_from tables v.number v.at w v.next) (gone_on tables v v.next) before after c.go.result
    (subst (λ (x : Write). Goes (seen_course (flight x c.args.self.now.read))
    (gone_from tables c.args.self.now.number c.args.self.now.at x (seen_next (flight x c.args.self.now.read) c.args.self.now.next)) before after c.go.result)
    c.write-write.ensures c.go.ensures.goes)
    (λ (k : Content). gone_same tables v w v.next k (hand_is tables v c.requires.client c.requires.going))

pub returns-clause-way : goal.returns-clause-way
returns-clause-way g c =
    subst (λ (x : Write). IfOk c.go.result (λ (course : Course). IsWay c.args.catalog.now.tables c.args.self.now.number x
    (seen_next (flight x c.args.self.now.read) c.args.self.now.next) (seen_course (flight x c.args.self.now.read) course)))
    c.write-write.ensures c.go.ensures.way
