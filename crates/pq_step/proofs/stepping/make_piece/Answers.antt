use Rattle.std.proofs.Common.{arith}
use Rattle.pq_statement.specs.Actions.{action_of}
use Rattle.pq_step.proofs.Asking.{unasked}
use Rattle.pq_reports.proofs.Promises.{broken_same}
use Rattle.pq_step.proofs.stepping.make_piece.Goals as goal

pub returns-in-Err-NoMem-clause-step : goal.returns-in-Err-NoMem-clause-step
returns-in-Err-NoMem-clause-step g c = broken_same _ _ _ c.args.planned _ _ tt

pub returns-in-Ok-clause-answered : goal.returns-in-Ok-clause-answered
returns-in-Ok-clause-answered g c = c.act.ensures.answered _ c.in-Ok.ensures.asks

pub returns-in-Ok-clause-unbuilt : goal.returns-in-Ok-clause-unbuilt
returns-in-Ok-clause-unbuilt g c = c.act.ensures.unbuilt _ c.in-Ok.ensures.asks

pub returns-in-Ok-clause-rounds : goal.returns-in-Ok-clause-rounds
returns-in-Ok-clause-rounds g c = c.act.ensures.rounds _ c.in-Ok.ensures.asks

pub returns-in-Err-NoMem-clause-rounds : goal.returns-in-Err-NoMem-clause-rounds
returns-in-Err-NoMem-clause-rounds g c = unasked c.args.planned (g.S.Store.rounds c.args.store.now) (g.S.Store.rounds c.args.store.now) (action_of c.args.planned c.args.piece.now) (omega arith)

pub returns-in-Err-Refused-clause-rounds : goal.returns-in-Err-Refused-clause-rounds
returns-in-Err-Refused-clause-rounds g c = unasked c.args.planned (g.S.Store.rounds c.args.store.now) (g.S.Store.rounds c.args.store.now) (action_of c.args.planned c.args.piece.now) (omega arith)
