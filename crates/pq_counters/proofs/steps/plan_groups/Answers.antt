use Rattle.std.proofs.lemmas.Result.{IfOk-weaker, IfErr-weaker}
use Rattle.pq_store.specs.Breaks.{IsAnswered}
use Rattle.pq_calls.specs.World.{Explains}
use Rattle.pq_pending.specs.Calls.{seen_world, seen, answers_of}
use Rattle.pq_counters.specs.Groups.{SpoilsGroups}
use Rattle.pq_counters.proofs.Grouping.{plans_told, spoilt_explains, spoilt_answered}
use Rattle.pq_counters.proofs.steps.plan_groups.Goals as goal

pub returns-clause-asks : goal.returns-clause-asks
returns-clause-asks g c =
    let groups = c.args.groups.now in
    let found = c.in_ok-found.found in
    let before = seen_world g.S.Store.content g.S.Store.faults c.args.calls.now in
    let after = seen_world g.S.Store.content g.S.Store.faults c.found_values.new.calls in
    let answers = answers_of g.S.Store.answers c.args.calls.now in
    record {
      uses = c.found_values.ensures.asks.uses;
      cause = IfErr-weaker c.plan_found.result _ (Explains (SpoilsGroups groups) before after)
          (λ error. spoilt_explains groups found before after error c.in_ok-found.ensures.answer) (rw c.items.ensures at c.plan_found.ensures.spoils);
      answered = IfErr-weaker c.plan_found.result _ (IsAnswered answers)
          (λ error. spoilt_answered answers groups found error c.in_ok-found.ensures.answers) (rw c.items.ensures at c.plan_found.ensures.spoils);
    }

pub returns-clause-plans : goal.returns-clause-plans
returns-clause-plans g c =
    IfOk-weaker c.plan_found.result _ _
    (λ planned. plans_told (seen g.S.Store.content c.args.calls.now) c.args.catalog.now c.args.groups.now c.in_ok-found.found c.in_ok-found.ensures.answer planned) (rw c.items.ensures at c.plan_found.ensures.plans)
