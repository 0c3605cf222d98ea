-- The plan of the least candidate.
use Rattle.std.proofs.Common.{◌≡◌, true, false, cond, List, length, Option, Ok, Err, sym, ap, ◌∙◌, subst}
use Rattle.pq_base.specs.declared.refusal.Refusal.{Refusal}
use Rattle.pq_base.specs.declared.refusal.Refusal.TheVariants as refusal
use Rattle.pq_schema.specs.declared.table.Table.{Table}
use Rattle.pq_schema.specs.declared.table.NewIndex.{NewIndex}
use Rattle.pq_schema.specs.declared.query.Query.{Query}
use Rattle.pq_schema.specs.Sound.{IsQuery}
use Rattle.pq_schema.specs.Costs.{ReachedCost}
use Rattle.pq_plan.specs.declared.physical.Physical.{Physical}
use Rattle.pq_plan.specs.Cost.{cost, IsPlanTree}
use Rattle.pq_plan.specs.Nodes.{nodes, plan_nodes, run_of}
use Rattle.pq_plan.specs.Plans.{HasChoice, IsPlanFor}
use Rattle.pq_plan.specs.Running.{PlanMeansAnswer}
use Rattle.pq_plan.proofs.Choices.{Has, cost_of}
use Rattle.pq_plan.proofs.PlanRows.{reach_nodes}
use Rattle.pq_plan.proofs.PlanCost.{plan_cost}
use Rattle.pq_plan.proofs.PlanTree.{plan_tree}
use Rattle.pq_plan.proofs.Means.{plan_means}
use Rattle.pq_stop_push.specs.Pushes.{IsOver, PlannedPush, candidate_tree}
use Rattle.pq_compile.specs.Lowered.{lowered_nodes}
use Rattle.pq_schema.specs.Wanted.{is_large, index_of, with_index, chosen_of, chosen_candidate}
use Rattle.pq_compile.specs.Chosen.{IsBest}
use Rattle.pq_compile.proofs.Best.{best_has, best_choice}
use Rattle.pq_compile.proofs.CandidateNodes.{over_candidate, lowered_candidate}

module _ (tables : List Table) (query : Query) (sound : IsQuery tables query) (h : PlannedPush) (b : IsBest tables query h) where
  pub same_choice : h.choice ≡ b.best.choice
  same_choice = ap (λ (p : PlannedPush). p.choice) b.is

  same_bound : h.bound ≡ b.best.bound
  same_bound = ap (λ (p : PlannedPush). p.bound) b.is

  same_tree : h.tree ≡ candidate_tree tables query h.choice
  same_tree = ap (λ (p : PlannedPush). p.tree) b.is ∙ ap (candidate_tree tables query) (sym same_choice)

  pub has : Has tables query h.choice
  has = subst (Has tables query) (sym same_choice) (best_has tables query b.best b.least).0

  pub has_choice : HasChoice tables query h.choice
  has_choice = subst (HasChoice tables query) (sym same_choice) (best_choice tables query b.best b.least)

  pub over : IsOver (length query.relations) h.tree
  over = subst (IsOver (length query.relations)) (sym same_tree) (over_candidate tables query h.choice)

  module _ (t : Physical) (is : nodes t ≡ lowered_nodes tables query h.tree) where
    nodes_are : nodes t ≡ plan_nodes tables query h.choice
    nodes_are = is ∙ ap (lowered_nodes tables query) same_tree ∙ lowered_candidate tables query h.choice has

    pub plan_is : IsPlanTree t
    plan_is = plan_tree tables query sound h.choice has t nodes_are

    pub plan_for : IsPlanFor tables query h.choice t
    plan_for = record { candidate = has_choice; built = nodes_are }

    pub numbers : cost t ≡ b.best.bound
    numbers =
        ap (λ (r : ReachedCost). r.cost) (reach_nodes t ∙ ap run_of nodes_are)
        ∙ plan_cost tables query sound h.choice has
        ∙ ap (cost_of tables query) same_choice
        ∙ sym (best_has tables query b.best b.least).1

    pub meaning : PlanMeansAnswer tables query t
    meaning = plan_means tables query h.choice t sound plan_for

  -- ---- what is chosen
  chosen_is : chosen_candidate tables query ≡ cond (is_large h.bound) (Err (refusal.BoundLarge h.bound.ops h.bound.entries)) (with_index b.best (index_of tables query h.choice))
  chosen_is = ap (chosen_of tables query) b.least ∙ (λ i. cond (is_large (sym same_bound i)) (Err (refusal.BoundLarge (sym same_bound i).ops (sym same_bound i).entries)) (with_index b.best (index_of tables query (sym same_choice i))))

  pub chosen_large : is_large h.bound ≡ true → chosen_candidate tables query ≡ Err (refusal.BoundLarge h.bound.ops h.bound.entries)
  chosen_large e = chosen_is ∙ ap (λ b'. cond b' (Err (refusal.BoundLarge h.bound.ops h.bound.entries)) (with_index b.best (index_of tables query h.choice))) e

  chosen_small : is_large h.bound ≡ false → chosen_candidate tables query ≡ with_index b.best (index_of tables query h.choice)
  chosen_small e = chosen_is ∙ ap (λ b'. cond b' (Err (refusal.BoundLarge h.bound.ops h.bound.entries)) (with_index b.best (index_of tables query h.choice))) e

  pub chosen_made : (wanted : Option NewIndex) → is_large h.bound ≡ false → index_of tables query h.choice ≡ Ok wanted → chosen_candidate tables query ≡ Ok (record { best = b.best; wanted = wanted })
  chosen_made wanted e is = chosen_small e ∙ ap (with_index b.best) is

  pub chosen_refused : (why : Refusal) → is_large h.bound ≡ false → index_of tables query h.choice ≡ Err why → chosen_candidate tables query ≡ Err why
  chosen_refused why e is = chosen_small e ∙ ap (with_index b.best) is
