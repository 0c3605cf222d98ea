use Rattle.std.proofs.Common.{◌≡◌, ◌∙◌, ◌++◌, List, None, Some, sym, ap, subst, arith}
use Rattle.std.specs.Prelude.{option_map}
use Rattle.pq_base.specs.declared.refusal.Refusal.{Refusal}
use Rattle.pq_store.specs.declared.store.Test.{Test}
use Rattle.pq_pending.specs.Calls.{seen}
use Rattle.pq_index_keep.specs.Asking.{child_tests, child_refusal_at}
use Rattle.pq_index_keep.specs.Refusals.{IsDeleteRefusal}
use Rattle.pq_index_keep.proofs.Asked.{none_held}
use Rattle.pq_index_keep.proofs.Referring.{child_told, child_can, child_within, children_cheap, children_countable, children_spend}
use Rattle.pq_index_keep.proofs.references.child_refusal.Goals as goal

pub first_held-requires-clause-few : goal.first_held-requires-clause-few
first_held-requires-clause-few g c =
    let are : c.items.result.now ≡ child_tests c.args.number c.args.key.now 1 c.args.tables.now =
    c.items.ensures ∙ c.in_ok-ask_children.ensures ∙ ap (λ (ts : List Test). ts ++ child_tests c.args.number c.args.key.now 1 c.args.tables.now) c.new-tests.ensures in
    children_countable c.args.calls.now.pending.now.changes c.args.calls.now.pending.now.removers c.known.ensures.thin c.requires.share.removers c.args.number c.args.key.now c.args.tables.now c.items.result.now are

pub first_held-requires-clause-share : goal.first_held-requires-clause-share
first_held-requires-clause-share g c =
    let are : c.items.result.now ≡ child_tests c.args.number c.args.key.now 1 c.args.tables.now =
    c.items.ensures ∙ c.in_ok-ask_children.ensures ∙ ap (λ (ts : List Test). ts ++ child_tests c.args.number c.args.key.now 1 c.args.tables.now) c.new-tests.ensures in
    let cheap = children_cheap c.args.calls.now.pending.now.changes c.args.calls.now.pending.now.removers c.known.ensures.thin c.args.number c.args.key.now c.args.tables.now c.items.result.now are in
    record { ops_left = omega (arith, cheap.few, c.requires.share.left.ops_left); entries_left = omega (arith, cheap.short, c.requires.share.left.entries_left) }

pub returns-in_err-first_held-clause-spends : goal.returns-in_err-first_held-clause-spends
returns-in_err-first_held-clause-spends g c =
    let are : c.items.result.now ≡ child_tests c.args.number c.args.key.now 1 c.args.tables.now =
    c.items.ensures ∙ c.in_ok-ask_children.ensures ∙ ap (λ (ts : List Test). ts ++ child_tests c.args.number c.args.key.now 1 c.args.tables.now) c.new-tests.ensures in
    children_spend g.S.Store c.args.calls.now c.first_held.new.self c.args.number c.args.key.now c.args.tables.now c.items.result.now are c.known.ensures.thin c.first_held.ensures.asks.uses c.first_held.ensures.asks.rounds

pub returns-in-None-clause-spends : goal.returns-in-None-clause-spends
returns-in-None-clause-spends g c =
    let are : c.items.result.now ≡ child_tests c.args.number c.args.key.now 1 c.args.tables.now =
    c.items.ensures ∙ c.in_ok-ask_children.ensures ∙ ap (λ (ts : List Test). ts ++ child_tests c.args.number c.args.key.now 1 c.args.tables.now) c.new-tests.ensures in
    children_spend g.S.Store c.args.calls.now c.first_held.new.self c.args.number c.args.key.now c.args.tables.now c.items.result.now are c.known.ensures.thin c.first_held.ensures.asks.uses c.first_held.ensures.asks.rounds

pub returns-in_err-child_refusal_at-in-Some-clause-spends : goal.returns-in_err-child_refusal_at-in-Some-clause-spends
returns-in_err-child_refusal_at-in-Some-clause-spends g c =
    let are : c.items.result.now ≡ child_tests c.args.number c.args.key.now 1 c.args.tables.now =
    c.items.ensures ∙ c.in_ok-ask_children.ensures ∙ ap (λ (ts : List Test). ts ++ child_tests c.args.number c.args.key.now 1 c.args.tables.now) c.new-tests.ensures in
    children_spend g.S.Store c.args.calls.now c.first_held.new.self c.args.number c.args.key.now c.args.tables.now c.items.result.now are c.known.ensures.thin c.first_held.ensures.asks.uses c.first_held.ensures.asks.rounds

pub returns-clause-spends : goal.returns-clause-spends
returns-clause-spends g c =
    let are : c.items.result.now ≡ child_tests c.args.number c.args.key.now 1 c.args.tables.now =
    c.items.ensures ∙ c.in_ok-ask_children.ensures ∙ ap (λ (ts : List Test). ts ++ child_tests c.args.number c.args.key.now 1 c.args.tables.now) c.new-tests.ensures in
    children_spend g.S.Store c.args.calls.now c.first_held.new.self c.args.number c.args.key.now c.args.tables.now c.items.result.now are c.known.ensures.thin c.first_held.ensures.asks.uses c.first_held.ensures.asks.rounds

pub returns-in-None-clause-answer : goal.returns-in-None-clause-answer
returns-in-None-clause-answer g c = λ rows others s.
    let are : c.items.result.now ≡ child_tests c.args.number c.args.key.now 1 c.args.tables.now =
    c.items.ensures ∙ c.in_ok-ask_children.ensures ∙ ap (λ (ts : List Test). ts ++ child_tests c.args.number c.args.key.now 1 c.args.tables.now) c.new-tests.ensures in
    child_told c.args.tables.now rows others (seen g.S.Store.content c.args.calls.now) s c.args.number c.args.key.now c.items.result.now c.in_ok-first_held.field-0 None c.requires.sound c.requires.may are c.in_ok-first_held.ensures.answer
    (ap (option_map (child_refusal_at c.args.number c.args.tables.now)) (sym c.in-None.is))

pub child_refusal_at-requires-clause-within : goal.child_refusal_at-requires-clause-within
child_refusal_at-requires-clause-within g c =
    let are : c.items.result.now ≡ child_tests c.args.number c.args.key.now 1 c.args.tables.now =
    c.items.ensures ∙ c.in_ok-ask_children.ensures ∙ ap (λ (ts : List Test). ts ++ child_tests c.args.number c.args.key.now 1 c.args.tables.now) c.new-tests.ensures in
    child_within c.args.number c.args.key.now c.args.tables.now c.items.result.now c.in_ok-first_held.field-0 c.in-Some.at are c.in-Some.is c.in_ok-first_held.ensures.within

pub returns-clause-can : goal.returns-clause-can
returns-clause-can g c =
    let are : c.items.result.now ≡ child_tests c.args.number c.args.key.now 1 c.args.tables.now =
    c.items.ensures ∙ c.in_ok-ask_children.ensures ∙ ap (λ (ts : List Test). ts ++ child_tests c.args.number c.args.key.now 1 c.args.tables.now) c.new-tests.ensures in
    subst (λ (why : Refusal). IsDeleteRefusal c.args.tables.now why) (sym c.in_ok-child_refusal_at-in-Some.ensures)
    (child_can c.args.number c.args.tables.now c.in-Some.at (child_within c.args.number c.args.key.now c.args.tables.now c.items.result.now c.in_ok-first_held.field-0 c.in-Some.at are c.in-Some.is c.in_ok-first_held.ensures.within))

pub returns-clause-answer : goal.returns-clause-answer
returns-clause-answer g c = λ rows others s.
    let are : c.items.result.now ≡ child_tests c.args.number c.args.key.now 1 c.args.tables.now =
    c.items.ensures ∙ c.in_ok-ask_children.ensures ∙ ap (λ (ts : List Test). ts ++ child_tests c.args.number c.args.key.now 1 c.args.tables.now) c.new-tests.ensures in
    child_told c.args.tables.now rows others (seen g.S.Store.content c.args.calls.now) s c.args.number c.args.key.now c.items.result.now c.in_ok-first_held.field-0 (Some c.in_ok-child_refusal_at-in-Some.field-0) c.requires.sound c.requires.may are c.in_ok-first_held.ensures.answer
    (ap Some c.in_ok-child_refusal_at-in-Some.ensures ∙ ap (option_map (child_refusal_at c.args.number c.args.tables.now)) (sym c.in-Some.is))

pub returns-in-None-clause-passed : goal.returns-in-None-clause-passed
returns-in-None-clause-passed g c =
    let are : c.items.result.now ≡ child_tests c.args.number c.args.key.now 1 c.args.tables.now =
    c.items.ensures ∙ c.in_ok-ask_children.ensures ∙ ap (λ (ts : List Test). ts ++ child_tests c.args.number c.args.key.now 1 c.args.tables.now) c.new-tests.ensures in
    none_held (seen g.S.Store.content c.args.calls.now) c.items.result.now _ c.in_ok-first_held.field-0 are c.in-None.is c.in_ok-first_held.ensures.answer
