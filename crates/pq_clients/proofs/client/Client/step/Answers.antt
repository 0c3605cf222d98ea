use Rattle.std.proofs.Common.{sym, ◌∙◌, refl}
use Rattle.pq_index_keep.proofs.Narrow.{valid_writable}
use Rattle.pq_schema.proofs.Valid.{valid_made}
use Rattle.pq_clients.specs.Goes.{spot}
use Rattle.pq_clients.specs.Steps.{gone_on}
use Rattle.pq_clients.specs.Stepping.{view_of, hand_of}
use Rattle.pq_clients.proofs.Conclusions.{leaves_step, makes_call, over_leaves, over_calls, differ}
use Rattle.pq_clients.proofs.Hands.{hand_writes, small_at}
use Rattle.pq_clients.proofs.Keeping.{keeps_client, takes_way}
use Rattle.pq_clients.proofs.client.Client.step.Goals as goal

pub go-went-requires-clause-sound : goal.go-went-requires-clause-sound
go-went-requires-clause-sound g c = valid_writable c.known.ensures

pub go-went-requires-clause-made : goal.go-went-requires-clause-made
go-went-requires-clause-made g c = valid_made c.known.ensures

pub returns-clause-told : goal.returns-clause-told
returns-clause-told g c =
    let v = view_of c.args.self.now in
    leaves_step c.args.catalog.now.tables v (hand_of c.args.self.now)
    (spot (g.S.Store.content c.args.store.now) (g.S.Store.faults c.args.store.now) c.args.meter.now)
    (spot (g.S.Store.content c.go-went.new.store) (g.S.Store.faults c.go-went.new.store) c.go-went.new.meter)
    c.go-went.result _ c.conclude.result (sym c.is_over.ensures ∙ c.if-is_over.false) c.go-went.ensures.goes c.conclude.ensures

pub returns-clause-calls : goal.returns-clause-calls
returns-clause-calls g c =
    let v = view_of c.args.self.now in
    makes_call v (hand_of c.args.self.now) (gone_on c.args.catalog.now.tables v v.next)
    (spot (g.S.Store.content c.args.store.now) (g.S.Store.faults c.args.store.now) c.args.meter.now)
    (spot (g.S.Store.content c.go-went.new.store) (g.S.Store.faults c.go-went.new.store) c.go-went.new.meter)
    c.go-went.result _ c.conclude.result (sym c.is_over.ensures ∙ c.if-is_over.false) c.go-went.ensures.goes c.conclude.ensures

pub returns-clause-way : goal.returns-clause-way
returns-clause-way g c = λ going.
    takes_way c.args.catalog.now.tables (view_of c.args.self.now) _ (hand_of c.args.self.now) c.go-went.result c.conclude.result refl
    c.go-went.ensures.way c.conclude.ensures

pub returns-clause-kept : goal.returns-clause-kept
returns-clause-kept g c =
    let v = view_of c.args.self.now in
    let going = sym c.is_over.ensures ∙ c.if-is_over.false in
    keeps_client c.args.catalog.now.tables v _ (hand_of c.args.self.now) c.args.self.now.next c.go-went.result c.conclude.result refl
    (hand_writes c.args.catalog.now.tables v c.requires going (valid_writable c.known.ensures) (valid_made c.known.ensures)) c.requires
    c.go-went.ensures.way c.conclude.ensures

pub returns-then-is_over-clause-told : goal.returns-then-is_over-clause-told
returns-then-is_over-clause-told g c =
    over_leaves c.args.catalog.now.tables (view_of c.args.self.now) (g.S.Store.content c.args.store.now) (sym c.is_over.ensures ∙ c.if-is_over.true)

pub returns-then-is_over-clause-way : goal.returns-then-is_over-clause-way
returns-then-is_over-clause-way g c = λ going. absurd (differ (sym (sym c.is_over.ensures ∙ c.if-is_over.true) ∙ going))

pub returns-then-is_over-clause-kept : goal.returns-then-is_over-clause-kept
returns-then-is_over-clause-kept g c = c.requires

pub returns-then-is_over-clause-calls : goal.returns-then-is_over-clause-calls
returns-then-is_over-clause-calls g c =
    over_calls (view_of c.args.self.now) (spot (g.S.Store.content c.args.store.now) (g.S.Store.faults c.args.store.now) c.args.meter.now)
    (sym c.is_over.ensures ∙ c.if-is_over.true)

pub go-went-requires-clause-client : goal.go-went-requires-clause-client
go-went-requires-clause-client g c = c.requires

pub go-went-requires-clause-going : goal.go-went-requires-clause-going
go-went-requires-clause-going g c = sym c.is_over.ensures ∙ c.if-is_over.false

pub conclude-requires : goal.conclude-requires
conclude-requires g c =
    small_at c.args.catalog.now.tables (view_of c.args.self.now) c.requires (sym c.is_over.ensures ∙ c.if-is_over.false)
