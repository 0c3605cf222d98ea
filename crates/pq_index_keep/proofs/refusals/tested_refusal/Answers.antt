use Rattle.std.proofs.Common.{◌≡◌, ◌++◌, List, length, sym, ap, subst, arith}
use Rattle.std.specs.Prelude.{IfOk, IfSome}
use Rattle.pq_store.specs.declared.store.Test.{Test}
use Rattle.pq_pending.specs.Calls.{seen}
use Rattle.pq_index_keep.specs.Asking.{IsOwn}
use Rattle.pq_index_keep.specs.Bounds.{row_behind}
use Rattle.pq_index_keep.specs.NewRows.{tests_of, refusal_behind, NoneHolds, IsRefusedAs}
use Rattle.pq_index_keep.specs.Refusals.{IsAskedRefusal}
use Rattle.pq_index_keep.proofs.Spending.{spends_within}
use Rattle.pq_index_keep.proofs.refusals.tested_refusal.Goals as goal

pub first_refusal-requires-clause-own : goal.first_refusal-requires-clause-own
first_refusal-requires-clause-own g c =
    let new = c.args.new.now in
    subst (λ (own : List Test). IsOwn new.number new.table.now new.row.now own) (sym c.new-own.ensures) tt

pub first_refusal-requires-clause-share : goal.first_refusal-requires-clause-share
first_refusal-requires-clause-share g c =
    let none : length c.new-own.result ≡ 0 = ap length c.new-own.ensures in
    record { removers = c.requires.share.removers; left = record { ops_left = omega (arith, none, c.requires.share.left.ops_left); entries_left = omega (arith, none, c.requires.share.left.entries_left) } }

pub returns-clause-spends : goal.returns-clause-spends
returns-clause-spends g c =
    let new = c.args.new.now in
    let none : length c.new-own.result ≡ 0 = ap length c.new-own.ensures in
    spends_within g.S.Store c.args.calls.now c.first_refusal.new.calls _ (row_behind c.args.calls.now.pending.now.removers new.scope.now new.table.now) _ c.first_refusal.ensures.spends (omega (arith, none)) (omega (arith, none))

pub returns-clause-can : goal.returns-clause-can
returns-clause-can g c =
    subst (λ (own : List Test). IfOk c.first_refusal.result (λ refusal. IfSome refusal (IsAskedRefusal own c.args.new.now.table.now))) c.new-own.ensures c.first_refusal.ensures.can

pub returns-clause-answer : goal.returns-clause-answer
returns-clause-answer g c =
    let new = c.args.new.now in
    subst (λ (own : List Test). IfOk c.first_refusal.result (IsRefusedAs (seen g.S.Store.content c.args.calls.now) new.number new.table.now new.row.now (refusal_behind own new))) c.new-own.ensures c.first_refusal.ensures.answer

pub returns-clause-passed : goal.returns-clause-passed
returns-clause-passed g c =
    subst (λ (own : List Test). IfOk c.first_refusal.result (NoneHolds (seen g.S.Store.content c.args.calls.now) (own ++ tests_of c.args.new.now))) c.new-own.ensures c.first_refusal.ensures.passed
