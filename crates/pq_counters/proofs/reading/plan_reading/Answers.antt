use Rattle.std.proofs.Common.{sym, ◌∙◌}
use Rattle.pq_index_keep.proofs.Narrow.{valid_writable}
use Rattle.pq_pending.specs.Calls.{seen}
use Rattle.pq_counters.proofs.Loop.{counted_later}
use Rattle.pq_counters.proofs.Rows.{nothing_counted}
use Rattle.pq_counters.proofs.Small.{small_columns, counters_small}
use Rattle.pq_counters.proofs.reading.plan_reading.Goals as goal

pub all_moves-requires-clause-sets : goal.all_moves-requires-clause-sets
all_moves-requires-clause-sets g c = small_columns c.args.catalog.now.tables c.args.write.now (valid_writable c.requires.valid) c.requires.write

pub all_moves-requires-clause-columns : goal.all_moves-requires-clause-columns
all_moves-requires-clause-columns g c = counters_small c.args.catalog.now c.requires.valid

pub returns-then-all_moves-eq0-clause-plan : goal.returns-then-all_moves-eq0-clause-plan
returns-then-all_moves-eq0-clause-plan g c =
    nothing_counted c.args.catalog.now (seen g.S.Store.content c.args.calls.now) c.requires.valid c.args.write.now c.requires.write (sym c.all_moves.ensures.moves ∙ c.if-all_moves-eq0.true) _ c.new.ensures

pub returns-clause-plan : goal.returns-clause-plan
returns-clause-plan g c =
    let plan = c.in-Ok-plan_by.ensures.plan.counted in
    record {
      within = plan.within;
      can = plan.can;
      answer = λ rows made others s is. plan.answer rows made others (counted_later _ _ _ _ c.args.catalog.now rows others c.read_rows.ensures.asks.uses.reads s) is;
    }
