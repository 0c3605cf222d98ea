use Rattle.std.specs.Option.{option_copied}
use Rattle.std.proofs.lemmas.Result.{IfOk-weaker}
use Rattle.pq_schema.specs.Schema.{counters_of}
use Rattle.pq_index_keep.proofs.Narrow.{valid_writable}
use Rattle.pq_counters.proofs.Moving.{small_moves}
use Rattle.pq_pending.specs.Calls.{seen}
use Rattle.pq_counters.proofs.Own.{own_numbers, own_sum}
use Rattle.pq_counters.proofs.Rows.{rows_own}
use Rattle.pq_counters.proofs.steps.plan_moves.Goals as goal

pub plan_each-requires-clause-numbers : goal.plan_each-requires-clause-numbers
plan_each-requires-clause-numbers g c = rw (c.items.ensures, c.in_ok-numbers.ensures) (own_numbers c.args.catalog.now c.args.table)

pub plan_each-requires-clause-small : goal.plan_each-requires-clause-small
plan_each-requires-clause-small g c =
    let schema = c.args.catalog.now in
    rw (c.items.ensures, c.in_ok-numbers.ensures)
    (small_moves schema c.args.table (option_copied c.args.old) (option_copied c.args.new) (counters_of schema c.args.table) c.known.ensures (valid_writable c.known.ensures) c.requires.number c.requires.rows (own_numbers schema c.args.table))

pub plan_each-requires-clause-share : goal.plan_each-requires-clause-share
plan_each-requires-clause-share g c =
    let schema = c.args.catalog.now in
    rw (c.items.ensures, c.in_ok-numbers.ensures, own_sum schema c.args.table (option_copied c.args.old) (option_copied c.args.new)) c.requires.share

pub returns-clause-asks : goal.returns-clause-asks
returns-clause-asks g c =
    rw (c.items.ensures, c.in_ok-numbers.ensures, own_sum c.args.catalog.now c.args.table (option_copied c.args.old) (option_copied c.args.new)) at c.plan_each.ensures.asks

pub returns-clause-rounds : goal.returns-clause-rounds
returns-clause-rounds g c =
    rw (c.items.ensures, c.in_ok-numbers.ensures, own_sum c.args.catalog.now c.args.table (option_copied c.args.old) (option_copied c.args.new)) at c.plan_each.ensures.rounds

pub returns-clause-plan : goal.returns-clause-plan
returns-clause-plan g c =
    IfOk-weaker c.plan_each.result _ _ (rows_own c.args.catalog.now c.args.table (option_copied c.args.old) (option_copied c.args.new) (seen g.S.Store.content c.args.calls.now))
    (rw (c.items.ensures, c.in_ok-numbers.ensures) at c.plan_each.ensures.plan)
