use Rattle.std.proofs.Common.{◌∙◌, arith}
use Rattle.pq_clients.proofs.Turning.{turns_next, turns_all}
use Rattle.pq_clients.proofs.run.Running.turns.Goals as goal

pub turn-requires-clause-place : goal.turn-requires-clause-place
turn-requires-clause-place g c =
    omega (arith, c.requires.places c.loop-place.place-index 0 c.loop-place-test.true, c.loop-place.invariant.same)

pub loop-place-preserved : goal.loop-place-preserved
loop-place-preserved g c = record {
  turns = turns_next c.args.catalog.now.tables c.args.order.now c.loop-place.place-index _ _ _ c.loop-place-test.true c.loop-place.invariant.turns c.turn.ensures.turn;
  clients = c.turn.ensures.clients;
  same = c.turn.ensures.same ∙ c.loop-place.invariant.same;
  room = c.turn.ensures.room;
}

pub returns : goal.returns
returns g c = turns_all c.args.catalog.now.tables c.args.order.now c.loop-place.place-index _ _ c.loop-place-test.false c.loop-place.invariant.turns
