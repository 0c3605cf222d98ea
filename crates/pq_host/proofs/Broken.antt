-- Over a link that is broken a round asks nothing.
use Rattle.std.proofs.Common.{◌≡◌, ◌+◌, ℕ, Bool, true, false, List, [], ◌++◌, length, sum_by, Option, Result, Ok, Err, None, refl, ap, ◌∙◌, arith}
use Rattle.std.specs.Result.{IsOk, IsErr}
use Rattle.std.proofs.lemmas.List.{length-append}
use Rattle.std.proofs.lemmas.List.Sums.{sum_by-append}
use Rattle.pq_store.specs.Rounds.{one_if_some}
use Rattle.pq_store.specs.declared.store.Ends.{Ends}
use Rattle.pq_store.specs.declared.store.Pair.{Pair}
use Rattle.pq_store.specs.declared.store.Test.{Test}
use Rattle.pq_host.specs.Ends.{LinkEnds, HasAsked, HasAskedAll, HasAskedValues, HasAskedParts, HasAskedTests, HasAskedUnheld, HasExchanged, HasFailed}
use Rattle.pq_host.specs.Ends.HasAsked.{Unasked, Asked}
use Rattle.pq_host.specs.Ends.HasAskedAll.{Begun, Then}
use Rattle.pq_host.specs.Ends.HasFailed.{Unsent, ToldFailed, Lost}

pub not_ok : {A E : Type 0} (result : Result A E) → IsErr result → ¬ IsOk result
not_ok (Ok x) fails holds = absurd cc
not_ok (Err e) fails holds = absurd cc

not_broken : (unanswered : Bool) → unanswered ≡ false → unanswered ≡ true → ⊥
not_broken true whole broken = absurd cc
not_broken false whole broken = absurd cc

pub unexchanged : (before now : LinkEnds) (request answer : List ℕ) → HasExchanged before now request answer → before.unanswered ≡ true → ⊥
unexchanged before now request answer h broken = not_broken before.unanswered h.whole broken

-- what fails leaves the link as it was
pub fails_still : (before now : LinkEnds) (request : List ℕ) → HasFailed before now request → before.unanswered ≡ true → now ≡ before
fails_still before now request (Unsent same) broken = same
fails_still before now request (ToldFailed h) broken = absurd (not_broken before.unanswered h.whole broken)
fails_still before now request (Lost whole lost) broken = absurd (not_broken before.unanswered whole broken)

asked_none : (before now : LinkEnds) (asked : ℕ) (request answer : List ℕ) → HasAsked before now asked request answer → before.unanswered ≡ true → (now ≡ before) × (asked ≡ 0)
asked_none before now asked request answer (Unasked none same) broken = (same, none)
asked_none before now asked request answer (Asked some h) broken = absurd (not_broken before.unanswered h.whole broken)

module _ {A B : Type 0} (most : ℕ) (Part : LinkEnds → LinkEnds → List A → List B → Type 0) (size : List A → ℕ) (empty : size [] ≡ 0) (both : (xs ys : List A) → size (xs ++ ys) ≡ size xs + size ys)
    (still : (mid now : LinkEnds) (part : List A) (more : List B) → Part mid now part more → mid.unanswered ≡ true → (now ≡ mid) × (size part ≡ 0)) where
  all_still : (before now : LinkEnds) (asked : List A) (found : List B) → HasAskedAll most Part before now asked found → before.unanswered ≡ true → (now ≡ before) × (size asked ≡ 0)
  all_still before _ _ _ Begun broken = (refl, empty)
  all_still before _ _ _ (Then mid now front part found more done few one) broken =
      let first = all_still before mid front found done broken in
      let then = still mid now part more one (ap (λ l. l.unanswered) first.0 ∙ broken) in
      let sum = both front part in
      (then.0 ∙ first.0, omega (arith, first.1, then.1, sum))

pub values_still : (most node : ℕ) (before now : LinkEnds) (keys found : List (Option (List ℕ))) → HasAskedAll most (HasAskedValues node) before now keys found → before.unanswered ≡ true → (now ≡ before) × (sum_by one_if_some keys ≡ 0)
values_still most node before now keys found h broken =
    all_still most (HasAskedValues node) (sum_by one_if_some) refl (sum_by-append one_if_some) (λ mid now part more one. asked_none mid now _ _ _ one) before now keys found h broken

pub parts_still : (most node limit : ℕ) (before now : LinkEnds) (asks : List (Option Ends)) (found : List (List Pair)) → HasAskedAll most (HasAskedParts node limit) before now asks found → before.unanswered ≡ true → (now ≡ before) × (sum_by one_if_some asks ≡ 0)
parts_still most node limit before now asks found h broken =
    all_still most (HasAskedParts node limit) (sum_by one_if_some) refl (sum_by-append one_if_some) (λ mid now part more one. asked_none mid now _ _ _ one) before now asks found h broken

tested : (node : ℕ) (mid now : LinkEnds) (part : List Test) (at : Option ℕ) → HasAskedTests node mid now part at → mid.unanswered ≡ true → (now ≡ mid) × (length part ≡ 0)
tested node mid now part at one broken = absurd (unexchanged mid now _ _ one.3 broken)

-- and there are no tests
pub tests_still : (most node : ℕ) (before now : LinkEnds) (tests : List Test) → HasAskedAll most (HasAskedUnheld node) before now tests [] → before.unanswered ≡ true → (now ≡ before) × (length tests ≡ 0)
tests_still most node before now tests h broken =
    all_still most (HasAskedUnheld node) length refl length-append (λ mid now part more one. tested node mid now part None one) before now tests [] h broken
