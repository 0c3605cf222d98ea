use Rattle.std.proofs.Common.{◌≤◌, List, length, get_or, [], refl, subst, arith}
use Rattle.std.proofs.lemmas.List.{take_all}
use Rattle.std.proofs.lemmas.Result.{err_from_is_err_and}
use Rattle.std.specs.Option.{option_copied}
use Rattle.std.specs.Prelude.{IfSome}
use Rattle.pq_base.specs.declared.value.Value.{Value}
use Rattle.pq_store.specs.Content.{AreAnswers}
use Rattle.pq_store.specs.Rounds.{ArePairsOf, IsPartAsked}
use Rattle.pq_calls.specs.Calls.{seen_world}
use Rattle.pq_scan.specs.Asked.{constants_asked}
use Rattle.pq_scan.specs.Candidates.{AreCandidates}
use Rattle.pq_scan.specs.Scanned.{AreGathered}
use Rattle.pq_scan.proofs.Asked.{fronts_there, found_stops, found_answered, found_adds, found_gathered, found_kept, combo_here, form_here, pairs_here, each_here}
use Rattle.pq_scan.proofs.Gathered.{gathered_more}
use Rattle.pq_scan.proofs.Steps.{each_at, candidates_more}
use Rattle.pq_scan.proofs.gather.gather.Goals as goal

pub add_found-requires-clause-front : goal.add_found-requires-clause-front
add_found-requires-clause-front g c =
    let scan = c.args.scan.now in
    let after = option_copied c.args.after in
    let inputs = c.args.inputs.now in
    let place = c.loop-place.place in
    fronts_there scan after (get_or inputs place []) c.args.limit c.items-in-loop-place-3.result.now
    (pairs_here scan after inputs place c.loop-place-test.true _ _ _ _ _ _ c.items.ensures c.in_ok-asks.ensures.ranges c.items-in-loop-place-2.ensures c.index-items-place-in-loop-place.is c.items-in-loop-place-3.ensures
    (IsPartAsked c.args.limit) c.in_ok-parts.ensures.parts)

pub returns-in_err-add_found-clause-stops : goal.returns-in_err-add_found-clause-stops
returns-in_err-add_found-clause-stops g c =
    let scan = c.args.scan.now in
    let after = option_copied c.args.after in
    let inputs = c.args.inputs.now in
    let place = c.loop-place.place in
    let told = g.S.Store.content c.args.calls.now.store.now in
    let pairs = c.items-in-loop-place-3.result.now in
    let p = err_from_is_err_and c.from_residual-in_err-add_found.result c.from_residual-in_err-add_found.ensures.1 in
    rw (p.1, p.2)
    (record {
      cause = found_stops scan after (get_or inputs place []) c.args.limit pairs
          (pairs_here scan after inputs place c.loop-place-test.true _ _ _ _ _ _ c.items.ensures c.in_ok-asks.ensures.ranges c.items-in-loop-place-2.ensures c.index-items-place-in-loop-place.is c.items-in-loop-place-3.ensures
          (IsPartAsked c.args.limit) c.in_ok-parts.ensures.parts)
          (seen_world g.S.Store.content g.S.Store.faults c.args.calls.now) (seen_world g.S.Store.content g.S.Store.faults c.ranges-2.new.self)
          (pairs_here scan after inputs place c.loop-place-test.true _ _ _ _ _ _ c.items.ensures c.in_ok-asks.ensures.ranges c.items-in-loop-place-2.ensures c.index-items-place-in-loop-place.is c.items-in-loop-place-3.ensures
          (ArePairsOf told c.args.limit) c.in_ok-parts.ensures.answer)
          c.in_err-add_found.field-0.0 c.in_err-add_found.ensures.cause c.in_err-add_found.ensures.tells;
      answered = found_answered g.S.Store.answers pairs
          (each_here scan after inputs place c.loop-place-test.true _ _ _ _ _ pairs c.items.ensures c.in_ok-asks.ensures.ranges c.items-in-loop-place-2.ensures c.index-items-place-in-loop-place.is c.items-in-loop-place-3.ensures
          (AreAnswers g.S.Store.answers) c.in_ok-parts.ensures.long c.in_ok-parts.ensures.answers)
          c.in_err-add_found.field-0.0 c.in_err-add_found.ensures.tells;
    })

pub loop-place-preserved : goal.loop-place-preserved
loop-place-preserved g c =
    let scan = c.args.scan.now in
    let after = option_copied c.args.after in
    let inputs = c.args.inputs.now in
    let place = c.loop-place.place in
    let within = c.loop-place-test.true in
    let combo : List (List Value) = get_or inputs place [] in
    let told = g.S.Store.content c.args.calls.now.store.now in
    let pairs = c.items-in-loop-place-3.result.now in
    let old = c.loop-place.found in
    let new = c.add_found.new.found in
    let part = pairs_here scan after inputs place within _ _ _ _ _ pairs c.items.ensures c.in_ok-asks.ensures.ranges c.items-in-loop-place-2.ensures c.index-items-place-in-loop-place.is c.items-in-loop-place-3.ensures (IsPartAsked c.args.limit) c.in_ok-parts.ensures.parts in
    let are = pairs_here scan after inputs place within _ _ _ _ _ pairs c.items.ensures c.in_ok-asks.ensures.ranges c.items-in-loop-place-2.ensures c.index-items-place-in-loop-place.is c.items-in-loop-place-3.ensures (ArePairsOf told c.args.limit) c.in_ok-parts.ensures.answer in
    let constants = constants_asked scan combo in
    let made = c.in_ok-add_found.ensures.adds constants (form_here scan after inputs place within _ _ _ c.in_ok-asks.ensures.forms c.items-in-loop-place.ensures c.index-items-place.is) in
    record {
      kept = found_kept scan after combo c.args.limit pairs part told are constants refl place old new made (length inputs) within c.loop-place.invariant.kept;
      codes = gathered_more scan c.args.limit after told inputs place combo old new within (combo_here scan after inputs place within) c.loop-place.invariant.codes
          (found_gathered scan after combo c.args.limit pairs part told are constants refl place old new made);
      answer = candidates_more scan told c.args.limit after inputs place combo old new within (combo_here scan after inputs place within) c.loop-place.invariant.answer
          (found_adds scan after combo c.args.limit pairs part told are constants refl place old new made c.requires.ready c.requires.cursor
          (each_at _ inputs place combo c.requires.inputs within (combo_here scan after inputs place within)));
    }

pub returns-clause-answer : goal.returns-clause-answer
returns-clause-answer g c =
    let all : length c.args.inputs.now ≤ c.loop-place.place = omega (arith, c.loop-place-test.false) in
    subst (λ (l : List (List (List Value))). AreCandidates c.args.scan.now (g.S.Store.content c.args.calls.now.store.now) c.args.limit (option_copied c.args.after) l c.loop-place.found)
    (take_all c.loop-place.place c.args.inputs.now all) c.loop-place.invariant.answer

pub returns-clause-codes : goal.returns-clause-codes
returns-clause-codes g c =
    let all : length c.args.inputs.now ≤ c.loop-place.place = omega (arith, c.loop-place-test.false) in
    subst (λ (l : List (List (List Value))). IfSome (g.S.Store.content c.args.calls.now.store.now) (AreGathered c.args.scan.now c.args.limit (option_copied c.args.after) 0 l c.loop-place.found))
    (take_all c.loop-place.place c.args.inputs.now all) c.loop-place.invariant.codes
