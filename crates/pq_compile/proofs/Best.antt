-- The least candidate.
use Rattle.std.proofs.Common.{◌≡◌, ℕ, suc, ◌+◌, ◌-◌, ◌<◌, Bool, true, false, cond, not, ◌&&◌, inl, inr, List, [], ◌∷◌, ◌++◌, length, map, fold, find, is_some, Option, Some, None, option_map, refl, sym, ap, ◌∙◌, subst, arith}
use Rattle.std.specs.List.{list_all, range_with_len}
use Rattle.pq_base.specs.declared.number.Choice.TheVariants.{Whole}
use Rattle.pq_schema.specs.declared.table.Table.{Table}
use Rattle.pq_schema.specs.declared.query.Query.{Query}
use Rattle.pq_schema.specs.Costs.{is_less}
use Rattle.pq_schema.specs.Candidates.{Candidate, lesser, least, candidates, whole_candidates, bound_at, reached_after, are_bounded}
use Rattle.pq_base.specs.Members.{In}
use Rattle.pq_plan.specs.Plans.{HasChoice}
use Rattle.pq_base.proofs.Members.{map_in, member_at}
use Rattle.pq_plan.proofs.Choices.{Has, cost_of, candidate_has}
use Rattle.pq_stop_push.specs.Pushes.{PlannedPush, planned_push, planned_candidates}
use Rattle.pq_compile.specs.Lowered.{lesser_planned, least_planned}
use Rattle.pq_schema.specs.Wanted.{first_unbounded}
use Rattle.pq_compile.specs.Chosen.{IsBest}

pub find_after : (p : ℕ → Bool) (a b : ℕ) → a < b → find p (range_with_len a (b - a)) ≡ cond (p a) (Some a) (find p (range_with_len (a + 1) (b - (a + 1))))
find_after p a b lt = let e : b - a ≡ suc (b - (a + 1)) = omega arith in rw e

-- where no number is found, the others all pass
found_none : (p : ℕ → Bool) (xs : List ℕ) → find (λ x. not (p x)) xs ≡ None → list_all p xs ≡ true
found_none p [] h = refl
found_none p (x ∷ xs) h =
    elim (p x) as (λ b. cond (not b) (Some x) (find (λ x. not (p x)) xs) ≡ None → (b && list_all p xs) ≡ true) [
      | true ↦ λ e. found_none p xs e
      | false ↦ λ e. let no_such : Some x ≡ None = e in cc
    ] h

no_first : {X : Type 0} (x : X) (xs ys : List X) → xs ++ ys ≡ [] → xs ≡ x ∷ [] → ⊥
no_first x xs ys e is = let one : x ∷ ys ≡ [] = sym (ap (λ l. l ++ ys) is) ∙ e in cc

module _ (tables : List Table) (query : Query) where
  -- a query without candidates has a relation without a data bound
  pub unbounded : candidates tables query ≡ [] → first_unbounded tables query ≡ None → ⊥
  unbounded none h =
      let m = length query.relations in
      let all : are_bounded tables query m ≡ true = found_none (λ rel. is_some (bound_at tables query rel)) (range_with_len 1 m) h in
      let one : Candidate = record { choice = Whole; bound = (reached_after tables query m).cost } in
      no_first one (whole_candidates tables query) _ none (ap (λ b. cond b (one ∷ []) []) all)

  fold_planned : (c : Candidate) (cs : List Candidate) → fold lesser_planned (planned_push tables query c) (map (planned_push tables query) cs) ≡ planned_push tables query (fold lesser c cs)
  fold_planned c [] = refl
  fold_planned c (x ∷ cs) = ap (λ b. fold lesser_planned b (map (planned_push tables query) cs)) (one (is_less x.bound c.bound)) ∙ fold_planned (lesser c x) cs
    where
      one : (b : Bool) → cond b (planned_push tables query x) (planned_push tables query c) ≡ planned_push tables query (cond b x c)
      one true = refl
      one false = refl

  -- the least with its tree is the least, with its tree
  pub least_map : (cs : List Candidate) → least_planned (map (planned_push tables query) cs) ≡ option_map (planned_push tables query) (least cs)
  least_map [] = refl
  least_map (c ∷ cs) = ap (λ (p : PlannedPush). Some p) (fold_planned c cs)

  in_fold : (c : Candidate) (cs : List Candidate) → In (fold lesser c cs) (c ∷ cs)
  in_fold c [] = inl refl
  in_fold c (x ∷ cs) = elim (is_less x.bound c.bound) as (λ b. In (fold lesser (cond b x c) cs) (c ∷ x ∷ cs)) [
    | true ↦ inr (in_fold x cs)
    | false ↦ elim (in_fold c cs) [ inl e ↦ inl e | inr i ↦ inr (inr i) ]
  ]

  in_least : (cs : List Candidate) (best : Candidate) → least cs ≡ Some best → In best cs
  in_least [] best h = let no_such : None ≡ Some best = h in cc
  in_least (c ∷ cs) best h = let same : fold lesser c cs ≡ best = cc in subst (λ (b : Candidate). In b (c ∷ cs)) same (in_fold c cs)

  -- the least has the conditions and the cost of its choice
  pub best_has : (best : Candidate) → least (candidates tables query) ≡ Some best → Has tables query best.choice × (best.bound ≡ cost_of tables query best.choice)
  best_has best h = candidate_has tables query best (in_least (candidates tables query) best h)

  pub best_choice : (best : Candidate) → least (candidates tables query) ≡ Some best → HasChoice tables query best.choice
  best_choice best h = member_at best.choice (map (λ (c : Candidate). c.choice) (candidates tables query)) best.choice (map_in (λ (c : Candidate). c.choice) best (candidates tables query) (in_least (candidates tables query) best h))

  least_none : (cs : List Candidate) → least cs ≡ None → cs ≡ []
  least_none [] h = refl
  least_none (c ∷ cs) h = let no_such : Some (fold lesser c cs) ≡ None = h in cc

  mapped_none : (o : Option Candidate) → option_map (planned_push tables query) o ≡ None → o ≡ None
  mapped_none None h = refl
  mapped_none (Some c) h = let no_such : Some (planned_push tables query c) ≡ None = h in cc

  -- where there is no least, there is no candidate
  pub none_there : (hs : List PlannedPush) → hs ≡ planned_candidates tables query → None ≡ least_planned hs → candidates tables query ≡ []
  none_there hs e n = least_none (candidates tables query) (mapped_none (least (candidates tables query)) (sym (least_map (candidates tables query)) ∙ ap least_planned (sym e) ∙ sym n))

  -- the least of them is the best
  pub best_there : (hs : List PlannedPush) (h : PlannedPush) → hs ≡ planned_candidates tables query → Some h ≡ least_planned hs → IsBest tables query h
  best_there hs h e s =
      elim (least (candidates tables query)) as (λ o. least (candidates tables query) ≡ o → option_map (planned_push tables query) o ≡ Some h → IsBest tables query h) [
        | None ↦ λ _ n. let no_such : None ≡ Some h = n in cc
        | Some best ↦ λ is n. let same : h ≡ planned_push tables query best = cc in record { best = best; least = is; is = same }
      ] refl (sym (least_map (candidates tables query)) ∙ ap least_planned (sym e) ∙ sym s)
