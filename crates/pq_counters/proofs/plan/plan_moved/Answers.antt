use Rattle.std.specs.Option.{option_copied}
use Rattle.std.proofs.lemmas.Result.{IfOk-weaker}
use Rattle.pq_pending.specs.Calls.{seen}
use Rattle.pq_counters.proofs.Planning.{rounds_within}
use Rattle.pq_counters.proofs.Rows.{moved_asks, moved_counts}
use Rattle.pq_counters.proofs.Within.{affords_less}
use Rattle.pq_counters.proofs.plan.plan_moved.Goals as goal

pub plan_moves-requires-clause-share : goal.plan_moves-requires-clause-share
plan_moves-requires-clause-share g c = rw c.written_table.ensures (affords_less _ _ _ c.requires.rows.few c.requires.share)

pub returns-clause-asks : goal.returns-clause-asks
returns-clause-asks g c =
    moved_asks g.S.Store c.args.calls.now c.plan_moves.new.calls c.plan_moves.result c.args.catalog.now c.args.write.now (option_copied c.args.old) (option_copied c.args.new) c.requires.rows
    (rw c.written_table.ensures at c.plan_moves.ensures.asks)

pub returns-clause-rounds : goal.returns-clause-rounds
returns-clause-rounds g c = rounds_within _ _ _ _ c.requires.rows.few (rw c.written_table.ensures at c.plan_moves.ensures.rounds)

pub returns-clause-plan : goal.returns-clause-plan
returns-clause-plan g c =
    IfOk-weaker c.plan_moves.result _ _ (moved_counts c.args.catalog.now (seen g.S.Store.content c.args.calls.now) c.requires.valid c.args.write.now (option_copied c.args.old) (option_copied c.args.new) c.requires.write c.requires.rows)
    (rw c.written_table.ensures at c.plan_moves.ensures.plan)
