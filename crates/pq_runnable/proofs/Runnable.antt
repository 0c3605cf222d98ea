-- A plan that compile made can be run, node by node.
use Rattle.std.proofs.Common.{◌≡◌, List, [], ◌∷◌, ◌++◌, length, None, sym, ap, subst}
use Rattle.std.specs.List.{AllByRecursion}
use Rattle.pq_base.specs.declared.number.Bound.{Bound}
use Rattle.pq_schema.specs.declared.query.Query.{Query}
use Rattle.pq_schema.specs.declared.table.Table.{Table}
use Rattle.pq_schema.specs.Costs.{ReachedCost, plus}
use Rattle.pq_schema.specs.Sound.{IsQuery}
use Rattle.pq_plan.specs.Cost.{cost}
use Rattle.pq_plan.specs.Nodes.{Node, nodes, run_of}
use Rattle.pq_plan.proofs.Choices.{choice_has}
use Rattle.pq_plan.proofs.PlanRows.{reach_nodes}
use Rattle.pq_compile.specs.declared.compiler.Compiled.{Compiled}
use Rattle.pq_compile.specs.Chosen.{IsCompiled}
use Rattle.pq_nodes.specs.Inverse.{IsNodeOf, HasIndex}
use Rattle.pq_nodes.specs.Ordered.{StandInOrder}
use Rattle.pq_nodes.specs.Paid.{node_cost, IsAtMost}
use Rattle.pq_runnable.specs.Runnable.{AreWhole, IsRunnable, IsRunnableNode, IsRunnablePlan}
use Rattle.pq_runnable.proofs.Compiled.{compiled_indexed, compiled_small, few_bits}
use Rattle.pq_runnable.proofs.Whole.{front_whole, whole_behind, plan_whole}
use Rattle.pq_nodes.proofs.InOrder.{front_stands, stands_behind, plan_runs}
use Rattle.pq_nodes.proofs.Inverse.{plan_is}
use Rattle.pq_nodes.proofs.Paying.{at_most_itself, at_most_then, front_costs, node_affords}

each_split : {X : Type 0} (P : X → Type 0) (xs : List X) (x : X) → AllByRecursion P (xs ++ x ∷ []) → AllByRecursion P xs × P x
each_split P [] x all = (tt, all.0)
each_split P (y ∷ ys) x all = let rest = each_split P ys x all.1 in ((all.0, rest.0), rest.1)

-- the nodes before the last can be run, and then the last
pub runnable_split : (tables : List Table) (query : Query) (granted : Bound) (front : List Node) (node : Node) → IsRunnable tables query granted (front ++ node ∷ []) → IsRunnable tables query granted front × IsRunnableNode tables query granted front node
runnable_split tables query granted front node all =
    let each = each_split (IsNodeOf tables query) front node all.each in
    let indexed = each_split (HasIndex tables query) front node all.indexed in
    let first : IsRunnable tables query granted front = record {
      each = each.0;
      indexed = indexed.0;
      order = front_stands 0 front (node ∷ []) all.order;
      whole = front_whole (length query.relations) 0 front (node ∷ []) all.whole;
      paid = at_most_then (run_of front).cost (run_of (front ++ node ∷ [])).cost granted (front_costs front (node ∷ [])) all.paid;
    } in
    let last : IsRunnableNode tables query granted front node = record {
      is = each.1;
      indexed = indexed.1;
      stands = stands_behind 0 front node [] all.order;
      whole = whole_behind (length query.relations) 0 front node [] all.whole;
      affords = λ inputs spent few paid. at_most_then (plus spent (node_cost inputs node)) (run_of (front ++ node ∷ [])).cost granted (node_affords front node [] inputs spent few paid) all.paid;
    } in
    (first, last)

-- a compiled plan that wants no index can be run within its own cost
pub compiled_runnable : (tables : List Table) (query : Query) (made : Compiled) → IsQuery tables query → IsCompiled tables query made → made.wanted ≡ None → IsRunnable tables query (cost made.plan) (nodes made.plan)
compiled_runnable tables query made sound is none =
    let has = choice_has tables query made.choice is.plan.candidate in
    record {
      each = subst (AllByRecursion (IsNodeOf tables query)) (sym is.plan.built) (plan_is tables query sound made.choice has);
      indexed = compiled_indexed tables query sound made is none;
      order = subst (StandInOrder 0) (sym is.plan.built) (plan_runs tables query sound made.choice has).0;
      whole = subst (AreWhole (length query.relations) 0) (sym is.plan.built) (plan_whole tables query sound made.choice has);
      paid = subst (λ (b : Bound). IsAtMost b (cost made.plan)) (ap (λ (r : ReachedCost). r.cost) (reach_nodes made.plan)) (at_most_itself (cost made.plan));
    }

-- and its numbers can be granted
pub compiled_plan : (tables : List Table) (query : Query) (made : Compiled) → IsQuery tables query → IsCompiled tables query made → made.wanted ≡ None → IsRunnablePlan tables query made.plan
compiled_plan tables query made sound is none =
    let small = compiled_small tables query made is in
    record {
      plan = (made.choice, is.plan);
      runnable = compiled_runnable tables query made sound is none;
      narrow_ops = few_bits _ small.0;
      narrow_entries = few_bits _ small.1;
    }
