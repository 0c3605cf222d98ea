use Rattle.std.proofs.Common.{rules, ◌≡◌, ◌++◌, ◌+◌, ◌∙◌, List, [], ◌∷◌, take, sym, subst, arith}
use Rattle.pq_content.specs.Pairs.{Change}
use Rattle.pq_store.specs.declared.store.Test.{Test}
use Rattle.pq_pending.specs.Calls.{seen}
use Rattle.pq_pending.specs.Tests.{AreCountable}
use Rattle.pq_pending.proofs.Held.{all_go_on, front_goes_on, stop_inside, cut_stop, stop_length, countable_rest, rest_of, rest_shorter, found_front, found_rest, found_settled, whole_share, whole_uses, whole_rounds, same_changes}
use Rattle.pq_pending.proofs.calls.PendingCalls.+seen_first_held.Goals as goal

pub front_held-requires-clause-front : goal.front_held-requires-clause-front
front_held-requires-clause-front g t c = all_go_on c.args.self.now.pending.now.changes c.args.tests.now c.first_stop.result c.first_stop.ensures c.in_default.is

pub front_held-requires-then-not-is_crowded-clause-front : goal.front_held-requires-then-not-is_crowded-clause-front
front_held-requires-then-not-is_crowded-clause-front g t c = front_goes_on c.args.self.now.pending.now.changes c.args.tests.now c.in-Some.front c.first_stop.result c.first_stop.ensures c.in-Some.is

pub returns-then-not-is_crowded-clause-answer : goal.returns-then-not-is_crowded-clause-answer
returns-then-not-is_crowded-clause-answer g t c =
    found_settled c.args.self.now.pending.now.changes c.known.ensures.distinct (g.S.Store.content c.args.self.now.store.now) c.args.tests.now c.in-Some.front c.index-tests-front.result (sym c.first_stop.ensures ∙ c.in-Some.is) c.index-tests-front.is
    (sym c.is_crowded.ensures ∙ c.if-not-is_crowded.true) c.in_ok-before.before c.unwrap_or.result c.unwrap_or.ensures c.in_ok-before.ensures.answer

pub front_and_stop_held-requires-clause-front : goal.front_and_stop_held-requires-clause-front
front_and_stop_held-requires-clause-front g t c = front_goes_on c.args.self.now.pending.now.changes c.args.tests.now c.in-Some.front c.first_stop.result c.first_stop.ensures c.in-Some.is

pub returns-in-Some-2-clause-answer : goal.returns-in-Some-2-clause-answer
returns-in-Some-2-clause-answer g t c =
    let tests = c.args.tests.now in
    let i = c.in-Some.front in
    let stop = c.index-tests-front.result in
    found_front (seen g.S.Store.content c.args.self.now) (take i tests ++ stop ∷ []) (rest_of tests i) tests (cut_stop c.args.self.now.pending.now.changes tests i c.first_stop.result stop c.first_stop.ensures c.in-Some.is c.index-tests-front.is)
    c.in_ok-at.field-0 c.in-Some-2.at c.in-Some-2.is c.in_ok-at.ensures.answer

pub seen_first_held-requires : goal.seen_first_held-requires
seen_first_held-requires g t c κs within =
    let tests = c.args.tests.now in
    let i = c.in-Some.front in
    let stop = c.index-tests-front.result in
    let changes = c.args.self.now.pending.now.changes in
    let less = stop_inside changes tests i c.first_stop.result stop c.first_stop.ensures c.in-Some.is in
    let whole : (take i tests ++ stop ∷ []) ++ rest_of tests i ≡ tests = cut_stop changes tests i c.first_stop.result stop c.first_stop.ensures c.in-Some.is c.index-tests-front.is in
    let few : AreCountable changes (rest_of tests i) = countable_rest changes (take i tests ++ stop ∷ []) (rest_of tests i) (subst (λ (ts : List Test). AreCountable changes ts) (sym whole) c.requires.few) in
    let shorter = rest_shorter tests i less in (
      omega (arith, shorter),
      (
        within.0,
        (
          within.1,
          (
            subst (λ (cs : List Change). AreCountable cs (rest_of tests i)) (sym (same_changes g.S.Store.content g.S.Store.faults c.args.self.now c.front_and_stop_held.new.self _ _ c.front_and_stop_held.ensures.asks.uses)) few,
            whole_share g.S.Store.content g.S.Store.faults c.args.self.now c.front_and_stop_held.new.self (take i tests ++ stop ∷ []) (rest_of tests i) tests whole c.front_and_stop_held.ensures.asks.uses c.requires.share,
          ),
        ),
      ),
    )

pub returns-in_err-rest-clause-asks : goal.returns-in_err-rest-clause-asks
returns-in_err-rest-clause-asks g t c = record {
  uses =
      let tests = c.args.tests.now in
      let i = c.in-Some.front in
      let stop = c.index-tests-front.result in
      whole_uses g.S.Store.content g.S.Store.faults c.args.self.now c.front_and_stop_held.new.self c.seen_first_held.new.self (take i tests ++ stop ∷ []) (rest_of tests i) tests (cut_stop c.args.self.now.pending.now.changes tests i c.first_stop.result stop c.first_stop.ensures c.in-Some.is c.index-tests-front.is)
      c.front_and_stop_held.ensures.asks.uses c.seen_first_held.ensures.asks.uses;
  rounds =
      let tests = c.args.tests.now in
      let i = c.in-Some.front in
      let stop = c.index-tests-front.result in
      whole_rounds g.S.Store.content g.S.Store.faults c.args.self.now c.front_and_stop_held.new.self _ _ c.front_and_stop_held.ensures.asks.uses (take i tests) (rest_of tests i) tests stop (cut_stop c.args.self.now.pending.now.changes tests i c.first_stop.result stop c.first_stop.ensures c.in-Some.is c.index-tests-front.is)
      (sym c.is_crowded.ensures ∙ c.if-not-is_crowded.false) _ _ _ c.front_and_stop_held.ensures.asks.rounds c.seen_first_held.ensures.asks.rounds;
  cause = search rules;
  answered = search rules;
}

pub returns-clause-asks : goal.returns-clause-asks
returns-clause-asks g t c = record {
  uses =
      let tests = c.args.tests.now in
      let i = c.in-Some.front in
      let stop = c.index-tests-front.result in
      whole_uses g.S.Store.content g.S.Store.faults c.args.self.now c.front_and_stop_held.new.self c.seen_first_held.new.self (take i tests ++ stop ∷ []) (rest_of tests i) tests (cut_stop c.args.self.now.pending.now.changes tests i c.first_stop.result stop c.first_stop.ensures c.in-Some.is c.index-tests-front.is)
      c.front_and_stop_held.ensures.asks.uses c.seen_first_held.ensures.asks.uses;
  rounds =
      let tests = c.args.tests.now in
      let i = c.in-Some.front in
      let stop = c.index-tests-front.result in
      whole_rounds g.S.Store.content g.S.Store.faults c.args.self.now c.front_and_stop_held.new.self _ _ c.front_and_stop_held.ensures.asks.uses (take i tests) (rest_of tests i) tests stop (cut_stop c.args.self.now.pending.now.changes tests i c.first_stop.result stop c.first_stop.ensures c.in-Some.is c.index-tests-front.is)
      (sym c.is_crowded.ensures ∙ c.if-not-is_crowded.false) _ _ _ c.front_and_stop_held.ensures.asks.rounds c.seen_first_held.ensures.asks.rounds;
  cause = search rules;
  answered = search rules;
}

pub returns-clause-answer : goal.returns-clause-answer
returns-clause-answer g t c =
    let tests = c.args.tests.now in
    let i = c.in-Some.front in
    let stop = c.index-tests-front.result in
    let changes = c.args.self.now.pending.now.changes in
    let less = stop_inside changes tests i c.first_stop.result stop c.first_stop.ensures c.in-Some.is in
    found_rest (seen g.S.Store.content c.args.self.now) (seen g.S.Store.content c.front_and_stop_held.new.self) (take i tests ++ stop ∷ []) (rest_of tests i) tests (cut_stop changes tests i c.first_stop.result stop c.first_stop.ensures c.in-Some.is c.index-tests-front.is)
    c.front_and_stop_held.ensures.asks.uses.reads.same c.in_ok-at.field-0 c.behind.result c.in_ok-rest.rest (i + 1) (stop_length tests i stop less) c.in_default-2.is c.in_ok-at.ensures.answer c.in_ok-rest.ensures.answer c.behind.ensures
