use Rattle.std.proofs.Common.{rules, ◌∙◌, ap}
use Rattle.std.specs.Prelude.{option_map}
use Rattle.pq_pending.specs.Tests.{asked_place}
use Rattle.pq_pending.proofs.Held.{asked_share, asked_uses, front_answer, front_within, none_asked, same_changes}
use Rattle.pq_pending.proofs.calls.PendingCalls.front_held.Goals as goal

pub returns-then-are_none-clause-answer : goal.returns-then-are_none-clause-answer
returns-then-are_none-clause-answer g c =
    none_asked c.args.self.now.pending.now.changes c.known.ensures.distinct (g.S.Store.content c.args.self.now.store.now) c.args.tests.now c.items.result.now c.requires.front (c.items.ensures ∙ c.in_ok-asked.ensures) (c.are_none.ensures c.if-are_none.true)

pub stored_first_held-requires : goal.stored_first_held-requires
stored_first_held-requires g c = record {
  share = asked_share c.args.self.now c.args.tests.now c.items-2.result.now (c.items-2.ensures ∙ c.in_ok-asked.ensures) c.requires.share;
}

pub returns-in_err-at-clause-asks : goal.returns-in_err-at-clause-asks
returns-in_err-at-clause-asks g c = record {
  uses = asked_uses g.S.Store.content g.S.Store.faults c.args.self.now c.stored_first_held.new.self c.args.tests.now c.items-2.result.now (c.items-2.ensures ∙ c.in_ok-asked.ensures) c.stored_first_held.ensures.asks.uses;
  rounds = search rules;
  cause = search rules;
  answered = search rules;
}

pub returns-clause-asks : goal.returns-clause-asks
returns-clause-asks g c = record {
  uses = asked_uses g.S.Store.content g.S.Store.faults c.args.self.now c.stored_first_held.new.self c.args.tests.now c.items-2.result.now (c.items-2.ensures ∙ c.in_ok-asked.ensures) c.stored_first_held.ensures.asks.uses;
  rounds = search rules;
  cause = search rules;
  answered = search rules;
}

pub returns-clause-answer : goal.returns-clause-answer
returns-clause-answer g c =
    front_answer c.args.self.now.pending.now.changes c.known.ensures.distinct (g.S.Store.content c.args.self.now.store.now) c.args.tests.now c.items-2.result.now c.placed.result c.in_ok-at.at c.requires.front (c.items-2.ensures ∙ c.in_ok-asked.ensures)
    c.in_ok-at.ensures.answer (c.placed.ensures ∙ ap (λ changes. option_map (asked_place changes c.args.tests.now) c.in_ok-at.at) (same_changes g.S.Store.content g.S.Store.faults c.args.self.now c.stored_first_held.new.self _ _ c.stored_first_held.ensures.asks.uses))

pub returns-clause-within : goal.returns-clause-within
returns-clause-within g c =
    front_within c.args.self.now.pending.now.changes c.args.tests.now c.items-2.result.now c.placed.result c.in_ok-at.at (c.items-2.ensures ∙ c.in_ok-asked.ensures)
    c.in_ok-at.ensures.within (c.placed.ensures ∙ ap (λ changes. option_map (asked_place changes c.args.tests.now) c.in_ok-at.at) (same_changes g.S.Store.content g.S.Store.faults c.args.self.now c.stored_first_held.new.self _ _ c.stored_first_held.ensures.asks.uses))
