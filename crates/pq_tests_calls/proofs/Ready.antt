-- Nodes of a compiled plan can be run.
use Rattle.std.proofs.Common.{◌≡◌, ℕ, ◌<◌, ◌+◌, List, [], ◌∷◌, ◌++◌, length, length-append, Some, None, subst, arith}
use Rattle.std.specs.List.{AllByRecursion}
use Rattle.std.proofs.lemmas.Option.{none-some, same_Some}
use Rattle.pq_schema.specs.declared.query.Query.{Query}
use Rattle.pq_schema.specs.declared.table.Table.{Table}
use Rattle.pq_schema.specs.Sound.{IsQuery}
use Rattle.pq_plan.specs.declared.physical.Physical.{Physical}
use Rattle.pq_plan.specs.declared.physical.Physical.TheVariants as tree
use Rattle.pq_plan.specs.Nodes.{Node, lookup, limit_range, stop_scan, keep, sort, cut, project, nodes}
use Rattle.pq_compile.specs.declared.compiler.Compiled.{Compiled}
use Rattle.pq_compile.specs.Chosen.{IsCompiled}
use Rattle.pq_nodes.specs.Inverse.{IsNodeOf, HasIndex}
use Rattle.pq_nodes.specs.Operators.{IsReadyNode}
use Rattle.pq_runnable.proofs.Runnable.{compiled_runnable}
use Rattle.pq_tests_calls.specs.Reads.{input_of}

both : (tables : List Table) (query : Query) (list : List Node) → AllByRecursion (IsNodeOf tables query) list → AllByRecursion (HasIndex tables query) list → AllByRecursion (IsReadyNode tables query) list
both tables query [] is indexed = tt
both tables query (node ∷ list) is indexed = (record { is = is.0; indexed = indexed.0 }, both tables query list is.1 indexed.1)

-- each node of a plan that wants no index
pub nodes_ready : (tables : List Table) (query : Query) (made : Compiled) → IsQuery tables query → IsCompiled tables query made → made.wanted ≡ None → AllByRecursion (IsReadyNode tables query) (nodes made.plan)
nodes_ready tables query made sound is none =
    let runnable = compiled_runnable tables query made sound is none in
    both tables query (nodes made.plan) runnable.each runnable.indexed

pub each_split : {X : Type 0} (P : X → Type 0) (xs : List X) (x : X) → AllByRecursion P (xs ++ x ∷ []) → AllByRecursion P xs × P x
each_split P [] x all = (tt, all.0)
each_split P (y ∷ ys) x all = let rest = each_split P ys x all.1 in ((all.0, rest.0), rest.1)

abbrev IsUnder : (Node → Type 0) → List Node → Physical → Type 0
IsUnder P list input = (length (nodes input) < length list) × AllByRecursion P (nodes input)

part : (P : Node → Type 0) (below input : Physical) (node : Node) → Some below ≡ Some input → AllByRecursion P (nodes below ++ node ∷ []) → IsUnder P (nodes below ++ node ∷ []) input
part P below input node same all =
    let long = length-append (nodes below) (node ∷ []) in
    subst (IsUnder P (nodes below ++ node ∷ [])) (same_Some below input same) (omega (arith, long), (each_split P (nodes below) node all).0)

-- the tree under a node has fewer nodes, and of each of them holds what does of all
pub under : (P : Node → Type 0) (tree input : Physical) → input_of tree ≡ Some input → AllByRecursion P (nodes tree) → IsUnder P (nodes tree) input
under P tree.Unit input is all = absurd (none-some input is)
under P (tree.Lookup' p below rel) input is all = part P below input (lookup rel) is all
under P (tree.LimitRange' p below rel limit n access) input is all = part P below input (limit_range rel limit n access) is all
under P (tree.StopScan' p below rel k access) input is all = part P below input (stop_scan rel k access) is all
under P (tree.Filter' p below rel) input is all = part P below input (keep rel) is all
under P (tree.Sort' p below) input is all = part P below input sort is all
under P (tree.Cut' p below k) input is all = part P below input (cut k) is all
under P (tree.Project' p below) input is all = part P below input project is all

-- ---- the node that reads a relation is the last one

pub last_ready : (tables : List Table) (query : Query) (front : List Node) (make : ℕ → Node) (at rel : ℕ) → at ≡ rel → AllByRecursion (IsReadyNode tables query) (front ++ make at ∷ []) → IsReadyNode tables query (make rel)
last_ready tables query front make at rel same all = subst (λ (n : ℕ). IsReadyNode tables query (make n)) same (each_split (IsReadyNode tables query) front (make at) all).1
