use Rattle.std.specs.Option.{option_copied}
use Rattle.pq_schema.specs.Counters.{IsCounterNumber}
use Rattle.pq_pending.specs.Calls.{seen}
use Rattle.pq_index_keep.proofs.Inserting.{each_by}
use Rattle.pq_counters.specs.Steps.{MovesLittle}
use Rattle.pq_counters.proofs.Grouping.{length_groups, each_group}
use Rattle.pq_counters.proofs.Rows.{each_asks, each_plans}
use Rattle.pq_counters.proofs.steps.plan_each.Goals as goal

pub plan_groups-requires-clause-each : goal.plan_groups-requires-clause-each
plan_groups-requires-clause-each g c =
    let schema = c.args.catalog.now in
    let old = option_copied c.args.old in
    let new = option_copied c.args.new in
    rw (c.items.ensures, c.in_ok-groups.ensures)
    (each_group schema c.args.table old new c.args.numbers.now (each_by (IsCounterNumber schema) _ c.requires.numbers) (each_by (MovesLittle schema c.args.table old new) _ c.requires.small))

pub plan_groups-requires-clause-share : goal.plan_groups-requires-clause-share
plan_groups-requires-clause-share g c =
    rw (c.items.ensures, c.in_ok-groups.ensures, length_groups c.args.catalog.now c.args.table (option_copied c.args.old) (option_copied c.args.new) c.args.numbers.now) c.requires.share

pub returns-clause-asks : goal.returns-clause-asks
returns-clause-asks g c =
    let schema = c.args.catalog.now in
    each_asks g.S.Store c.args.calls.now c.plan_groups.new.calls c.plan_groups.result schema c.args.table (option_copied c.args.old) (option_copied c.args.new) c.args.numbers.now (each_by (IsCounterNumber schema) _ c.requires.numbers)
    (rw (c.items.ensures, c.in_ok-groups.ensures) at c.plan_groups.ensures.asks)

pub returns-clause-rounds : goal.returns-clause-rounds
returns-clause-rounds g c =
    rw (c.items.ensures, c.in_ok-groups.ensures, length_groups c.args.catalog.now c.args.table (option_copied c.args.old) (option_copied c.args.new) c.args.numbers.now) at c.plan_groups.ensures.rounds

pub returns-clause-plan : goal.returns-clause-plan
returns-clause-plan g c =
    let schema = c.args.catalog.now in
    each_plans schema c.args.table (option_copied c.args.old) (option_copied c.args.new) c.args.numbers.now (seen g.S.Store.content c.args.calls.now) c.plan_groups.result c.known.ensures (each_by (IsCounterNumber schema) _ c.requires.numbers)
    (rw (c.items.ensures, c.in_ok-groups.ensures) at c.plan_groups.ensures.plan) c.plan_groups.ensures.can (rw (c.items.ensures, c.in_ok-groups.ensures) at c.plan_groups.ensures.plans)
