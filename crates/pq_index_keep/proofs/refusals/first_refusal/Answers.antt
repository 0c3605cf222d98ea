use Rattle.std.proofs.Common.{◌∙◌, None, Some, length, sym, ap, arith}
use Rattle.std.specs.Prelude.{option_map}
use Rattle.pq_pending.specs.Calls.{seen}
use Rattle.pq_index_keep.specs.Asking.{test_refusal}
use Rattle.pq_index_keep.proofs.Asked.{asked_can, asked_spend, first_told, held_inside, none_held, parent_there, room_there, tests_cheap, tests_countable}
use Rattle.pq_index_keep.proofs.refusals.first_refusal.Goals as goal

pub first_held-requires-clause-few : goal.first_held-requires-clause-few
first_held-requires-clause-few g c =
    tests_countable c.args.calls.now.pending.now.changes c.args.calls.now.pending.now.removers c.known.ensures.thin c.requires.share.removers c.args.own c.items.result.now c.args.new.now.scope.now c.args.new.now.old.now c.args.new.now.number c.args.new.now.table.now c.args.new.now.row.now c.requires.own c.requires.table.some_rows c.requires.table.asks.is_table.sizes
    (c.items.ensures ∙ c.in_ok-asked.ensures.tests)

pub first_held-requires-clause-share : goal.first_held-requires-clause-share
first_held-requires-clause-share g c =
    let cheap = tests_cheap c.args.calls.now.pending.now.changes c.args.calls.now.pending.now.removers c.known.ensures.thin c.args.own c.items.result.now c.args.new.now.scope.now c.args.new.now.old.now c.args.new.now.number c.args.new.now.table.now c.args.new.now.row.now c.requires.own (c.items.ensures ∙ c.in_ok-asked.ensures.tests) in
    record { ops_left = omega (arith, cheap.few, c.requires.share.left.ops_left); entries_left = omega (arith, cheap.short, c.requires.share.left.entries_left) }

pub returns-in_err-first_held-clause-spends : goal.returns-in_err-first_held-clause-spends
returns-in_err-first_held-clause-spends g c =
    asked_spend g.S.Store c.args.calls.now c.first_held.new.self c.args.own c.items.result.now c.args.new.now c.requires.own (c.items.ensures ∙ c.in_ok-asked.ensures.tests) c.known.ensures.thin c.first_held.ensures.asks.uses c.first_held.ensures.asks.rounds

pub returns-in-None-clause-spends : goal.returns-in-None-clause-spends
returns-in-None-clause-spends g c =
    asked_spend g.S.Store c.args.calls.now c.first_held.new.self c.args.own c.items.result.now c.args.new.now c.requires.own (c.items.ensures ∙ c.in_ok-asked.ensures.tests) c.known.ensures.thin c.first_held.ensures.asks.uses c.first_held.ensures.asks.rounds

pub returns-in_err-refusal-in-Some-clause-spends : goal.returns-in_err-refusal-in-Some-clause-spends
returns-in_err-refusal-in-Some-clause-spends g c =
    asked_spend g.S.Store c.args.calls.now c.first_held.new.self c.args.own c.items.result.now c.args.new.now c.requires.own (c.items.ensures ∙ c.in_ok-asked.ensures.tests) c.known.ensures.thin c.first_held.ensures.asks.uses c.first_held.ensures.asks.rounds

pub returns-clause-spends : goal.returns-clause-spends
returns-clause-spends g c =
    asked_spend g.S.Store c.args.calls.now c.first_held.new.self c.args.own c.items.result.now c.args.new.now c.requires.own (c.items.ensures ∙ c.in_ok-asked.ensures.tests) c.known.ensures.thin c.first_held.ensures.asks.uses c.first_held.ensures.asks.rounds

pub test_refusal-requires-clause-parent : goal.test_refusal-requires-clause-parent
test_refusal-requires-clause-parent g c =
    parent_there c.args.own c.args.new.now.scope.now c.args.new.now.old.now c.args.new.now.number c.args.new.now.table.now c.args.new.now.row.now c.items.result.now (length c.items-first.result.now) c.in_ok-asked.asked.parents c.in-Some.at (c.items.ensures ∙ c.in_ok-asked.ensures.tests) (ap length c.items-first.ensures) c.in_ok-asked.ensures.parents
    (held_inside c.items.result.now c.in_ok-first_held.field-0 c.in-Some.at c.in-Some.is c.in_ok-first_held.ensures.within)

pub test_refusal-requires-clause-room : goal.test_refusal-requires-clause-room
test_refusal-requires-clause-room g c =
    room_there c.args.own c.args.new.now.scope.now c.args.new.now.old.now c.args.new.now.number c.args.new.now.table.now c.args.new.now.row.now c.items.result.now (length c.items-first.result.now) c.in_ok-asked.asked.parents c.in-Some.at (c.items.ensures ∙ c.in_ok-asked.ensures.tests) (ap length c.items-first.ensures) c.in_ok-asked.ensures.parents
    (held_inside c.items.result.now c.in_ok-first_held.field-0 c.in-Some.at c.in-Some.is c.in_ok-first_held.ensures.within)

pub returns-clause-can : goal.returns-clause-can
returns-clause-can g c =
    asked_can c.args.own c.args.new.now.scope.now c.args.new.now.old.now c.args.new.now.number c.args.new.now.table.now c.args.new.now.row.now c.items.result.now (length c.items-first.result.now) c.in_ok-asked.asked.parents c.in-Some.at (c.items.ensures ∙ c.in_ok-asked.ensures.tests) (ap length c.items-first.ensures) c.in_ok-asked.ensures.parents
    (held_inside c.items.result.now c.in_ok-first_held.field-0 c.in-Some.at c.in-Some.is c.in_ok-first_held.ensures.within) c.in_ok-refusal-in-Some.refusal c.in_ok-refusal-in-Some.ensures

pub returns-in-None-clause-answer : goal.returns-in-None-clause-answer
returns-in-None-clause-answer g c =
    λ tables rows others s is tested.
    first_told tables rows others (seen g.S.Store.content c.args.calls.now) s c.args.own c.items.result.now c.args.new.now.scope.now c.args.new.now.old.now c.args.new.now.number c.args.new.now.table.now c.args.new.now.row.now (length c.items-first.result.now) c.in_ok-asked.asked.parents c.in_ok-first_held.field-0 None is tested c.requires.table.asks.access c.requires.own
    (c.items.ensures ∙ c.in_ok-asked.ensures.tests) (ap length c.items-first.ensures) c.in_ok-asked.ensures.parents c.in_ok-first_held.ensures.answer (ap (option_map (test_refusal (length c.items-first.result.now) c.in_ok-asked.asked.parents c.args.new.now.scope.now c.args.new.now.old.now c.args.new.now.table.now c.args.new.now.row.now)) (sym c.in-None.is))

pub returns-clause-answer : goal.returns-clause-answer
returns-clause-answer g c =
    λ tables rows others s is tested.
    first_told tables rows others (seen g.S.Store.content c.args.calls.now) s c.args.own c.items.result.now c.args.new.now.scope.now c.args.new.now.old.now c.args.new.now.number c.args.new.now.table.now c.args.new.now.row.now (length c.items-first.result.now) c.in_ok-asked.asked.parents c.in_ok-first_held.field-0 (Some c.in_ok-refusal-in-Some.refusal) is tested c.requires.table.asks.access c.requires.own
    (c.items.ensures ∙ c.in_ok-asked.ensures.tests) (ap length c.items-first.ensures) c.in_ok-asked.ensures.parents c.in_ok-first_held.ensures.answer (ap Some c.in_ok-refusal-in-Some.ensures ∙ ap (option_map (test_refusal (length c.items-first.result.now) c.in_ok-asked.asked.parents c.args.new.now.scope.now c.args.new.now.old.now c.args.new.now.table.now c.args.new.now.row.now)) (sym c.in-Some.is))

pub returns-in-None-clause-passed : goal.returns-in-None-clause-passed
returns-in-None-clause-passed g c =
    none_held (seen g.S.Store.content c.args.calls.now) c.items.result.now _ c.in_ok-first_held.field-0 (c.items.ensures ∙ c.in_ok-asked.ensures.tests) c.in-None.is c.in_ok-first_held.ensures.answer
