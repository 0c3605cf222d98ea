-- Plans of known queries, and their costs, by computation.
use Rattle.std.proofs.Common.{◌≡◌, [], ◌∷◌, refl, ap}
use Rattle.std.proofs.lemmas.List.Sums.{fold_push}
use lib.Count.{ones}
use Rattle.pq_base.specs.declared.number.Choice.TheVariants.{Whole, Stop}
use Rattle.pq_schema.specs.declared.table.Access.TheVariants.{Primary, Secondary}
use Rattle.pq_schema.specs.declared.query.Stop.TheVariants as stop
use Rattle.pq_schema.specs.Costs.{start, bound}
use Rattle.pq_schema.proofs.Rows.{tables, home, friends, m, pages, g, chain}
use Rattle.pq_plan.specs.declared.physical.Physical.{Physical}
use Rattle.pq_plan.specs.declared.physical.Physical.TheVariants as tree
use Rattle.pq_plan.specs.Cost.{reach}
use Rattle.pq_plan.specs.Nodes.{lookup, limit_range, stop_scan, keep, sort, cut, project, nodes, node_step, run_of, plan_nodes}

home_plan : plan_nodes tables home (Stop 2) ≡ limit_range 1 1 100 Primary ∷ keep 1 ∷ stop_scan 2 10 (Secondary 1) ∷ sort ∷ cut 10 ∷ project ∷ []
unfolding ones
home_plan = refl

home_cost : (run_of (plan_nodes tables home (Stop 2))).cost ≡ bound 111 1110
unfolding ones
home_cost = refl

friends_whole : plan_nodes tables (friends []) Whole ≡ limit_range 1 1 100 Primary ∷ keep 1 ∷ lookup 2 ∷ keep 2 ∷ sort ∷ cut 10 ∷ project ∷ []
unfolding ones
friends_whole = refl

friends_cost : (run_of (plan_nodes tables (friends []) (Stop 1))).cost ≡ bound 11 20
unfolding ones
friends_cost = refl

pages_cost : (run_of (plan_nodes (m ∷ []) (pages (stop.Paginate 2)) (Stop 1))).cost ≡ bound 3 4
unfolding ones
pages_cost = refl

chain_cost : (run_of (plan_nodes (g 100 ∷ []) (chain (1 ∷ 1 ∷ 1 ∷ [])) Whole)).cost ≡ bound 10101 1010100
unfolding ones
chain_cost = refl

-- the cost of a tree is that of its nodes
pub reach_nodes : (t : Physical) → reach t ≡ run_of (nodes t)
reach_nodes tree.Unit = refl
reach_nodes (tree.Lookup' p input rel) = rw (fold_push node_step start (nodes input) (lookup rel)) (ap (λ r. node_step r (lookup rel)) (reach_nodes input))
reach_nodes (tree.LimitRange' p input rel limit n access) = rw (fold_push node_step start (nodes input) (limit_range rel limit n access)) (ap (λ r. node_step r (limit_range rel limit n access)) (reach_nodes input))
reach_nodes (tree.StopScan' p input rel k access) = rw (fold_push node_step start (nodes input) (stop_scan rel k access)) (ap (λ r. node_step r (stop_scan rel k access)) (reach_nodes input))
reach_nodes (tree.Filter' p input rel) = rw (fold_push node_step start (nodes input) (keep rel)) (reach_nodes input)
reach_nodes (tree.Sort' p input) = rw (fold_push node_step start (nodes input) sort) (reach_nodes input)
reach_nodes (tree.Cut' p input k) = rw (fold_push node_step start (nodes input) (cut k)) (reach_nodes input)
reach_nodes (tree.Project' p input) = rw (fold_push node_step start (nodes input) project) (reach_nodes input)
