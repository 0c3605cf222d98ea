use Rattle.std.proofs.Common.{sym, ◌∙◌}
use Rattle.pq_index_keep.proofs.Narrow.{valid_writable}
use Rattle.pq_pending.specs.Calls.{seen}
use Rattle.pq_tallies.specs.Defined.{counters_in}
use Rattle.pq_counters.proofs.Rows.{asks_within, nothing_moved}
use Rattle.pq_counters.proofs.Small.{small_columns, counters_small}
use Rattle.pq_counters.proofs.Within.{affords_less, moves_read}
use Rattle.pq_counters.proofs.plan.plan_any.Goals as goal

pub all_moves-requires-clause-sets : goal.all_moves-requires-clause-sets
all_moves-requires-clause-sets g c = small_columns c.args.catalog.now.tables c.args.write.now (valid_writable c.requires.valid) c.requires.write

pub all_moves-requires-clause-columns : goal.all_moves-requires-clause-columns
all_moves-requires-clause-columns g c = counters_small c.args.catalog.now c.requires.valid

pub returns-then-all_moves-eq0-clause-plan : goal.returns-then-all_moves-eq0-clause-plan
returns-then-all_moves-eq0-clause-plan g c =
    nothing_moved c.args.catalog.now (seen g.S.Store.content c.args.calls.now) c.requires.valid c.args.write.now c.args.old.now c.requires.rows.fits c.requires.write (sym c.all_moves.ensures.moves ∙ c.if-all_moves-eq0.true) _ c.new.ensures

pub plan_by-requires-clause-share : goal.plan_by-requires-clause-share
plan_by-requires-clause-share g c = affords_less _ _ _ (moves_read (counters_in c.args.catalog.now) c.args.write.now) c.requires.share

pub returns-clause-asks : goal.returns-clause-asks
returns-clause-asks g c = asks_within g.S.Store c.args.calls.now c.plan_by.new.calls c.plan_by.result _ _ _ (moves_read (counters_in c.args.catalog.now) c.args.write.now) c.plan_by.ensures.asks
