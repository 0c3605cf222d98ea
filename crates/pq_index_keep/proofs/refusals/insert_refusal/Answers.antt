use Rattle.std.proofs.Common.{◌≡◌, ◌∙◌, ◌++◌, ℕ, List, [], ◌∷◌, None, length, refl, sym, ap, subst, arith}
use Rattle.std.specs.Prelude.{IfOk, IfSome}
use Rattle.std.proofs.lemmas.Result.{IfOk-weaker}
use Rattle.pq_store.specs.declared.store.Test.{Test}
use Rattle.pq_store.specs.declared.store.Test.TheVariants.{Has}
use Rattle.pq_pending.specs.Calls.{seen}
use Rattle.pq_index_keep.specs.Bounds.{tested_behind}
use Rattle.pq_index_keep.specs.NewRows.{NoneHolds}
use Rattle.pq_index_keep.proofs.Spending.{spends_within}
use Rattle.pq_index_keep.specs.Asking.{IsOwn, row_tests}
use Rattle.pq_index_keep.specs.Refusals.{IsAskedRefusal}
use Rattle.pq_index_keep.specs.declared.write.Scope.TheVariants.{All}
use Rattle.pq_index_keep.proofs.Asked.{inserted}
use Rattle.pq_index_keep.proofs.refusals.insert_refusal.Goals as goal

pub first_refusal-requires-clause-own : goal.first_refusal-requires-clause-own
first_refusal-requires-clause-own g c = subst (λ (own : List Test). IsOwn c.args.number c.args.table.now c.args.row.now own) (sym c.in_ok-own.ensures) (ap Has c.requires.at, refl)

pub first_refusal-requires-clause-share : goal.first_refusal-requires-clause-share
first_refusal-requires-clause-share g c =
    let one : length c.in_ok-own.own ≡ 1 = ap length c.in_ok-own.ensures in
    record { removers = c.requires.share.removers; left = record { ops_left = omega (arith, one, c.requires.share.left.ops_left); entries_left = omega (arith, one, c.requires.share.left.entries_left) } }

pub returns-clause-spends : goal.returns-clause-spends
returns-clause-spends g c =
    let one : length c.in_ok-own.own ≡ 1 = ap length c.in_ok-own.ensures in
    spends_within g.S.Store c.args.calls.now c.first_refusal.new.calls _ (tested_behind c.args.calls.now.pending.now.removers All c.args.table.now) _ c.first_refusal.ensures.spends (omega (arith, one)) (omega (arith, one))

pub returns-clause-can : goal.returns-clause-can
returns-clause-can g c =
    subst (λ (own : List Test). IfOk c.first_refusal.result (λ refusal. IfSome refusal (IsAskedRefusal own c.args.table.now))) c.in_ok-own.ensures c.first_refusal.ensures.can

pub returns-clause-answer : goal.returns-clause-answer
returns-clause-answer g c =
    IfOk-weaker c.first_refusal.result _ _ (λ refusal answer tables rows others s is tested.
    inserted tables rows c.args.number c.args.row.now c.args.table.now c.in_ok-own.own c.args.at.now refusal c.in_ok-own.ensures is (answer tables rows others s is tested)) c.first_refusal.ensures.answer

pub returns-clause-passed : goal.returns-clause-passed
returns-clause-passed g c =
    subst (λ (own : List Test). IfOk c.first_refusal.result (NoneHolds (seen g.S.Store.content c.args.calls.now) (own ++ row_tests All None c.args.number c.args.table.now c.args.row.now)))
    (c.in_ok-own.ensures ∙ ap (λ (at : List ℕ). Has at ∷ []) c.requires.at) c.first_refusal.ensures.passed
