use Rattle.std.proofs.Common.{◌≡◌, ap, ◌∙◌, subst, length, List, Some}
use Rattle.std.proofs.lemmas.Result.{IfOk-weaker, on_ok_weaker, on_err_weaker}
use Rattle.pq_content.specs.Pairs.{Change}
use Rattle.pq_intent.specs.Changing.{content_after, IsPartway}
use Rattle.pq_intent.specs.Counting.{settled_changes, HasNumbers}
use Rattle.pq_intent.specs.Settling.{IsIntentOf, IsNoIntent}
use Rattle.pq_intent.proofs.Ends.{read_rests, steps_are, is_read, none_made, is_made, never_settles, changes_made, changes_stopped, stops_partway}
use Rattle.pq_intent.proofs.settles.settle.Goals as goal

pub returns-in-Ok-None-clause-settles : goal.returns-in-Ok-None-clause-settles
returns-in-Ok-None-clause-settles g c =
    let read = is_read (g.S.Store.content c.args.store.now) c.in-Ok-None.field-0 c.items.result.now c.in_ok-key.key c.items.ensures c.in_ok-key.ensures c.in-Ok-None.ensures.answer in
    none_made _ _ c.in-Ok-None.field-0 read c.in-Ok-None.field-0-is c.get.ensures.same

pub returns-in-Ok-None-clause-made : goal.returns-in-Ok-None-clause-made
returns-in-Ok-None-clause-made g c =
    let read = is_read (g.S.Store.content c.args.store.now) c.in-Ok-None.field-0 c.items.result.now c.in_ok-key.key c.items.ensures c.in_ok-key.ensures c.in-Ok-None.ensures.answer in
    is_made _ _ (none_made _ (g.S.Store.content c.get.new.self) c.in-Ok-None.field-0 read c.in-Ok-None.field-0-is c.get.ensures.same)

pub returns-in-None-clause-sound : goal.returns-in-None-clause-sound
returns-in-None-clause-sound g c =
    let read = is_read (g.S.Store.content c.args.store.now) c.in-Ok-Some.field-0 c.items.result.now c.in_ok-key.key c.items.ensures c.in_ok-key.ensures c.in-Ok-Some.ensures.answer in
    let never = rw c.in-None.is at c.in_ok-intent_of.ensures.none in
    λ settled s. absurd (never_settles _ c.in-Ok-Some.field-0 c.in-Ok-Some.value read c.in-Ok-Some.field-0-is (subst IsNoIntent c.items-2.ensures never) settled s)

pub returns-in-Some-clause-settles : goal.returns-in-Some-clause-settles
returns-in-Some-clause-settles g c =
    let read = is_read (g.S.Store.content c.args.store.now) c.in-Ok-Some.field-0 c.items.result.now c.in_ok-key.key c.items.ensures c.in_ok-key.ensures c.in-Ok-Some.ensures.answer in
    let intent = rw c.in-Some.is at c.in_ok-intent_of.ensures.found in
    let steps = steps_are c.in-Some.changes c.in-Some.changes c.items-in-Some.result.now (λ _. c.in-Some.changes) (c.items-in-Some.ensures ∙ c.in_ok-key.ensures) in
    on_ok_weaker c.settle_changes.result (λ made. changes_made _ (g.S.Store.content c.get.new.self) _ c.in-Ok-Some.field-0 c.in-Ok-Some.value c.in-Some.changes read c.in-Ok-Some.field-0-is (subst (IsIntentOf c.in-Some.changes) c.items-2.ensures intent) c.get.ensures.same
    (made ∙ ap (λ (l : List Change). content_after l (g.S.Store.content c.get.new.self)) steps)) c.settle_changes.ensures.made

pub returns-in-Some-clause-made : goal.returns-in-Some-clause-made
returns-in-Some-clause-made g c =
    on_ok_weaker c.settle_changes.result (is_made (g.S.Store.content c.args.store.now) (g.S.Store.content c.settle_changes.new.store)) (returns-in-Some-clause-settles g c)

pub returns-in-Some-clause-stopped : goal.returns-in-Some-clause-stopped
returns-in-Some-clause-stopped g c =
    let read = is_read (g.S.Store.content c.args.store.now) c.in-Ok-Some.field-0 c.items.result.now c.in_ok-key.key c.items.ensures c.in_ok-key.ensures c.in-Ok-Some.ensures.answer in
    let intent = rw c.in-Some.is at c.in_ok-intent_of.ensures.found in
    let steps = steps_are c.in-Some.changes c.in-Some.changes c.items-in-Some.result.now (λ _. c.in-Some.changes) (c.items-in-Some.ensures ∙ c.in_ok-key.ensures) in
    on_err_weaker c.settle_changes.result (λ p. changes_stopped _ (g.S.Store.content c.get.new.self) _ c.in-Ok-Some.field-0 c.in-Ok-Some.value c.in-Some.changes read c.in-Ok-Some.field-0-is (subst (IsIntentOf c.in-Some.changes) c.items-2.ensures intent) c.get.ensures.same
    (subst (λ (l : List Change). IsPartway l (g.S.Store.content c.get.new.self) (g.S.Store.content c.settle_changes.new.store)) steps p)) c.settle_changes.ensures.stopped

pub returns-in-Some-clause-stops : goal.returns-in-Some-clause-stops
returns-in-Some-clause-stops g c =
    let read = is_read (g.S.Store.content c.args.store.now) c.in-Ok-Some.field-0 c.items.result.now c.in_ok-key.key c.items.ensures c.in_ok-key.ensures c.in-Ok-Some.ensures.answer in
    let intent = rw c.in-Some.is at c.in_ok-intent_of.ensures.found in
    let steps = steps_are c.in-Some.changes c.in-Some.changes c.items-in-Some.result.now (λ _. c.in-Some.changes) (c.items-in-Some.ensures ∙ c.in_ok-key.ensures) in
    on_err_weaker c.settle_changes.result (λ p. stops_partway _ (g.S.Store.content c.get.new.self) _ c.in-Ok-Some.field-0 c.in-Ok-Some.value c.in-Some.changes read c.in-Ok-Some.field-0-is (subst (IsIntentOf c.in-Some.changes) c.items-2.ensures intent) c.get.ensures.same
    (subst (λ (l : List Change). IsPartway l (g.S.Store.content c.get.new.self) (g.S.Store.content c.settle_changes.new.store)) steps p)) c.settle_changes.ensures.stopped

pub returns-in-Some-clause-numbers : goal.returns-in-Some-clause-numbers
returns-in-Some-clause-numbers g c =
    let intent = rw c.in-Some.is at c.in_ok-intent_of.ensures.found in
    IfOk-weaker c.settle_changes.result (λ settled. settled ≡ settled_changes (length c.in-Some.changes)) HasNumbers (λ settled counts. record { changes = Some (length c.in-Some.changes); few = intent.coded.few; is = counts }) c.settle_changes.ensures.counts

pub returns-in_err-intent_of-clause-rests : goal.returns-in_err-intent_of-clause-rests
returns-in_err-intent_of-clause-rests g c = read_rests (g.S.Store.content c.args.store.now) _ c.in-Ok-Some.field-0 c.in-Ok-Some.value (is_read (g.S.Store.content c.args.store.now) c.in-Ok-Some.field-0 c.items.result.now c.in_ok-key.key c.items.ensures c.in_ok-key.ensures c.in-Ok-Some.ensures.answer) c.in-Ok-Some.field-0-is

pub returns-in-None-clause-rests : goal.returns-in-None-clause-rests
returns-in-None-clause-rests g c = read_rests (g.S.Store.content c.args.store.now) _ c.in-Ok-Some.field-0 c.in-Ok-Some.value (is_read (g.S.Store.content c.args.store.now) c.in-Ok-Some.field-0 c.items.result.now c.in_ok-key.key c.items.ensures c.in_ok-key.ensures c.in-Ok-Some.ensures.answer) c.in-Ok-Some.field-0-is

pub returns-in-Some-clause-rests : goal.returns-in-Some-clause-rests
returns-in-Some-clause-rests g c = read_rests (g.S.Store.content c.args.store.now) _ c.in-Ok-Some.field-0 c.in-Ok-Some.value (is_read (g.S.Store.content c.args.store.now) c.in-Ok-Some.field-0 c.items.result.now c.in_ok-key.key c.items.ensures c.in_ok-key.ensures c.in-Ok-Some.ensures.answer) c.in-Ok-Some.field-0-is
