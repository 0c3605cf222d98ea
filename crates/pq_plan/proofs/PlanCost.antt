-- The nodes of a plan cost what its candidate does.
use Rattle.std.proofs.Common.{◌≡◌, Option, Some, None, ℕ, zero, suc, ◌+◌, ◌-◌, ◌*◌, ◌<◌, ◌≤◌, true, false, cond, List, [], ◌∷◌, ◌++◌, length, get_or, fold, is_some, option_map, position, IsSome, refl, sym, ap, ◌∙◌, subst, arith}
use Rattle.std.specs.Prelude.{unwrap_or}
use Rattle.std.specs.Option.{option_map_or}
use Rattle.std.specs.List.{AllByRecursion, range_with_len}
use Rattle.std.proofs.lemmas.Bool.{and_parts, false≢true}
use Rattle.std.proofs.lemmas.List.Sums.{fold-append}
use Rattle.pq_base.specs.Columns.{set_of}
use Rattle.pq_base.specs.declared.number.Choice.{Choice}
use Rattle.pq_base.specs.declared.number.Choice.TheVariants.{Whole, Stop}
use Rattle.pq_schema.specs.declared.table.Table.{Table}
use Rattle.pq_schema.specs.declared.table.Limit.{Limit}
use Rattle.pq_schema.specs.declared.table.Index.{Index}
use Rattle.pq_schema.specs.declared.table.Access.TheVariants.{Primary, Secondary}
use Rattle.pq_schema.specs.declared.query.Query.{Query}
use Rattle.pq_schema.specs.Sound.{IsQuery}
use Rattle.pq_schema.specs.Costs.{ReachedCost, start, bound, plus, limit_cost, read_each, read_stop}
use Rattle.pq_schema.specs.Sequences.{primary_sequence, index_sequence, begins_with, group_access, secondary, serves}
use Rattle.pq_schema.specs.Tables.{table_at, is_lookup, limit_place, least_limit}
use Rattle.pq_schema.specs.Tables as tables_of
use Rattle.pq_schema.specs.Relations.{table_of, relation_at, tied_set, order_rest, is_total}
use Rattle.pq_schema.specs.Candidates.{no_limit, bound_at, read_next, reached_after, are_bounded, is_served, stop_cost, stop_size}
use Rattle.pq_schema.specs.Rows.{IsWithinLimit, KeepsSchema}
use Rattle.pq_plan.specs.Cost.{is_primary_access}
use Rattle.pq_plan.specs.Nodes.{Node, lookup, limit_range, stop_scan, keep, sort, cut, project, node_step, run_of, read_nodes, range_nodes, stop_access, choice_nodes, plan_nodes}
use Rattle.pq_base.proofs.Members.{all_at, all_member, at_in, range_in}
use Rattle.pq_plan.proofs.Limits.{limit_taken}
use Rattle.pq_plan.proofs.Choices.{CanStop, Has, cost_of}
use Rattle.pq_plan.proofs.Bounds.{number_at, linked}
use Rattle.pq_plan.proofs.Totals.{total}
use Rattle.pq_plan.proofs.PlanMeaning.{range_push, range_more}

-- no rows keep every schema
none_within : (t : ℕ) (limits : List Limit) → AllByRecursion (IsWithinLimit t []) limits
none_within t [] = tt
none_within t (limit ∷ limits) = ((λ values plain. omega arith), none_within t limits)

pub no_rows_keep : (tables : List Table) → KeepsSchema tables []
no_rows_keep tables = record { known = tt; fit = tt; apart = tt; limits = λ t number. none_within t (table_at tables t).limits; foreign = tt }

-- where some sequence begins with the columns of a limit, its access is primary exactly where the primary does
access_primary : (table : Table) (set : ℕ) → IsSome (group_access table set) → is_primary_access (unwrap_or (group_access table set) Primary) ≡ begins_with (primary_sequence table) set
access_primary table set h =
    let others = position (λ (index : Index). begins_with (index_sequence table index) set) table.indexes in
    elim (begins_with (primary_sequence table) set) as (λ b. IsSome (cond b (Some Primary) (option_map secondary others)) → is_primary_access (unwrap_or (cond b (Some Primary) (option_map secondary others)) Primary) ≡ b) [
      | true ↦ λ _. refl
      | false ↦ elim others as (λ o. IsSome (option_map secondary o) → is_primary_access (unwrap_or (option_map secondary o) Primary) ≡ false) [
        | None ↦ λ none. absurd (false≢true none)
        | Some k ↦ λ _. refl
      ]
    ] h

-- the access of a stop is primary exactly where the primary sequence serves
served_access : (tables : List Table) (query : Query) (p : ℕ) → is_primary_access (stop_access tables query p) ≡ is_served tables query p
served_access tables query p =
    let table = table_of tables query p in
    let set = tied_set query p in
    let order = order_rest query p in
    let others = position (λ (index : Index). serves table set order (index_sequence table index)) table.indexes in
    elim (is_served tables query p) as (λ b. is_primary_access (unwrap_or (cond b (Some Primary) (option_map secondary others)) (Secondary (length table.indexes + 1))) ≡ b) [
      | true ↦ refl
      | false ↦ elim others as (λ o. is_primary_access (unwrap_or (option_map secondary o) (Secondary (length table.indexes + 1))) ≡ false) [ None ↦ refl | Some k ↦ refl ]
    ]

module _ (tables : List Table) (query : Query) (sound : IsQuery tables query) where
  -- the nodes of a bounded relation cost what reading it does
  read_step : (i : ℕ) → 1 ≤ i → i ≤ length query.relations → is_some (bound_at tables query i) ≡ true → (before : ReachedCost) → fold node_step before (read_nodes tables query i) ≡ read_next tables query before i
  read_step i low high bounded before =
      let table = table_of tables query i in
      let set = tied_set query i in
      let limit_at = λ (place : ℕ). get_or table.limits place no_limit in
      let of_limit = λ (place : ℕ). limit_range i (place + 1) (limit_at place).n (unwrap_or (group_access table (set_of (limit_at place).cols)) Primary) ∷ keep i ∷ [] in
      let cost_at = λ (place : ℕ). limit_cost (tables_of.is_primary table (limit_at place)) (limit_at place).n in
      elim (is_lookup table set) as (λ b. is_lookup table set ≡ b → fold node_step before (cond b (lookup i ∷ keep i ∷ []) (option_map_or of_limit (limit_place table set) [])) ≡ read_each (unwrap_or (cond b (Some 1) (least_limit table set)) 0) (cond b (bound 1 1) (option_map_or cost_at (limit_place table set) (bound 0 0))) before) [
        | true ↦ λ is. refl
        | false ↦ λ is.
            let t = limit_taken table set is bounded in
            let limit = limit_at t.0 in
            let size : least_limit table set ≡ Some limit.n = sym (ap (λ b. cond b (Some 1) (least_limit table set)) is) ∙ t.1.size in
            let number = number_at tables query [] [] sound (no_rows_keep tables) i low high in
            let grouped : IsSome (group_access table (set_of limit.cols)) = all_member (λ (l : Limit). IsSome (group_access table (set_of l.cols))) table.limits (linked tables query [] [] sound (no_rows_keep tables) (relation_at query i).table number).limit_groups limit (at_in table.limits t.0 no_limit t.1.within) in
            ap (λ (o : Option ℕ). fold node_step before (option_map_or of_limit o [])) t.1.taken
            ∙ ap (λ b. read_each limit.n (limit_cost b limit.n) before) (access_primary table (set_of limit.cols) grouped)
            ∙ sym (ap (λ (o : Option ℕ). read_each (unwrap_or (least_limit table set) 0) (option_map_or cost_at o (bound 0 0)) before) t.1.taken ∙ ap (λ (o : Option ℕ). read_each (unwrap_or o 0) (cost_at t.0) before) size)
      ] refl

  each_bounded : (count : ℕ) → are_bounded tables query count ≡ true → (j : ℕ) → 1 ≤ j → j ≤ count → is_some (bound_at tables query j) ≡ true
  each_bounded count h j low high = all_at (λ rel. is_some (bound_at tables query rel)) (range_with_len 1 count) h j (range_in j 1 count low (omega arith))

  reads_cost : (i : ℕ) → i ≤ length query.relations → ((j : ℕ) → 1 ≤ j → j ≤ i → is_some (bound_at tables query j) ≡ true) → fold node_step start (range_nodes tables query 1 i) ≡ reached_after tables query i
  reads_cost zero inside bounded = refl
  reads_cost (suc i) inside bounded =
      let next : 1 + i ≡ suc i = omega arith in
      ap (fold node_step start) (range_more tables query 1 i)
      ∙ fold-append node_step start (range_nodes tables query 1 i) (read_nodes tables query (1 + i))
      ∙ ap (λ r. fold node_step r (read_nodes tables query (1 + i))) (reads_cost i (omega arith) (λ j low high. bounded j low (omega arith)))
      ∙ read_step (1 + i) (omega arith) (omega arith) (subst (λ (n : ℕ). is_some (bound_at tables query n) ≡ true) (sym next) (bounded (suc i) (omega arith) (omega arith))) (reached_after tables query i)
      ∙ sym (ap (fold (read_next tables query) start) (range_push 1 i) ∙ fold-append (read_next tables query) start (range_with_len 1 i) ((1 + i) ∷ []))

  -- the nodes above cost nothing
  top_cost : (nodes : List Node) → run_of (nodes ++ sort ∷ [] ++ option_map_or (λ k. cut k ∷ []) (stop_size query.stop) [] ++ project ∷ []) ≡ run_of nodes
  top_cost nodes =
      fold-append node_step start ((nodes ++ sort ∷ []) ++ option_map_or (λ k. cut k ∷ []) (stop_size query.stop) []) (project ∷ [])
      ∙ fold-append node_step start (nodes ++ sort ∷ []) (option_map_or (λ k. cut k ∷ []) (stop_size query.stop) [])
      ∙ ap (λ r. fold node_step r (option_map_or (λ k. cut k ∷ []) (stop_size query.stop) [])) (fold-append node_step start nodes (sort ∷ []))
      ∙ elim (stop_size query.stop) as (λ o. fold node_step (run_of nodes) (option_map_or (λ k. cut k ∷ []) o []) ≡ run_of nodes) [ None ↦ refl | Some k ↦ refl ]

  module _ (p : ℕ) (can : CanStop tables query p) where
    -- each relation after the stop is a lookup
    looked_up : (i : ℕ) → p < i → i ≤ length query.relations → is_lookup (table_of tables query i) (tied_set query i) ≡ true
    looked_up i above inside =
        (total tables query [] [] sound (no_rows_keep tables) i inside (all_at (is_total tables query) (range_with_len (p + 1) (length query.relations - p)) (and_parts _ _ can.can).1 i (range_in i (p + 1) (length query.relations - p) (omega arith) (omega arith)))).lookup

    -- so many lookups for each of so many inputs
    abbrev more : ReachedCost → ℕ → ReachedCost
    more r n = record { inputs = r.inputs; cost = plus r.cost (bound (r.inputs * n) (r.inputs * n)) }

    none_more : (r : ReachedCost) → r ≡ more r 0
    none_more r =
        let ops : r.cost.ops ≡ r.cost.ops + r.inputs * 0 = omega arith in
        let entries : r.cost.entries ≡ r.cost.entries + r.inputs * 0 = omega arith in
        λ i. record { inputs = r.inputs; cost = record { ops = ops i; entries = entries i } }

    one_more : (r : ReachedCost) (n : ℕ) → read_each 1 (bound 1 1) (more r n) ≡ more r (suc n)
    one_more r n =
        let inputs : r.inputs * 1 ≡ r.inputs = omega arith in
        let again : r.inputs * suc n ≡ r.inputs * n + r.inputs = grind arith in
        let ops : r.cost.ops + r.inputs * n + r.inputs * 1 ≡ r.cost.ops + r.inputs * suc n = omega (arith, again) in
        let entries : r.cost.entries + r.inputs * n + r.inputs * 1 ≡ r.cost.entries + r.inputs * suc n = omega (arith, again) in
        λ i. record { inputs = inputs i; cost = record { ops = ops i; entries = entries i } }

    lookups_cost : (r : ReachedCost) (n : ℕ) → p + n ≤ length query.relations → fold node_step r (range_nodes tables query (p + 1) n) ≡ more r n
    lookups_cost r zero h = none_more r
    lookups_cost r (suc n) h =
        let i = p + 1 + n in
        let limited = option_map_or (λ place. let limit = get_or (table_of tables query i).limits place no_limit in limit_range i (place + 1) limit.n (unwrap_or (group_access (table_of tables query i) (set_of limit.cols)) Primary) ∷ keep i ∷ []) (limit_place (table_of tables query i) (tied_set query i)) [] in
        ap (fold node_step r) (range_more tables query (p + 1) n)
        ∙ fold-append node_step r (range_nodes tables query (p + 1) n) (read_nodes tables query i)
        ∙ ap (λ s. fold node_step s (read_nodes tables query i)) (lookups_cost r n (omega arith))
        ∙ ap (λ b. fold node_step (more r n) (cond b (lookup i ∷ keep i ∷ []) limited)) (looked_up i (omega arith) (omega arith))
        ∙ one_more r n

    stop_plan : (run_of (plan_nodes tables query (Stop p))).cost ≡ stop_cost tables query can.size p
    stop_plan =
        let m = length query.relations in
        let low = can.from_one in
        let high = can.within in
        let front = (and_parts _ _ (and_parts _ _ (and_parts _ _ (and_parts _ _ can.can).0).0).0).0 in
        let scan = stop_scan p (unwrap_or (stop_size query.stop) 0) (stop_access tables query p) in
        let k : unwrap_or (stop_size query.stop) 0 ≡ can.size = ap (λ (o : Option ℕ). unwrap_or o 0) can.stop in
        let before = reached_after tables query (p - 1) in
        let scanned : fold node_step start (range_nodes tables query 1 (p - 1) ++ scan ∷ []) ≡ read_stop can.size (is_served tables query p) before =
        fold-append node_step start (range_nodes tables query 1 (p - 1)) (scan ∷ [])
        ∙ ap (λ r. read_stop (unwrap_or (stop_size query.stop) 0) (is_primary_access (stop_access tables query p)) r) (reads_cost (p - 1) (omega arith) (each_bounded (p - 1) front))
        ∙ (λ j. read_stop (k j) (served_access tables query p j) before) in
        ap (λ (r : ReachedCost). r.cost)
        (top_cost (choice_nodes tables query (Stop p))
        ∙ fold-append node_step start (range_nodes tables query 1 (p - 1) ++ scan ∷ []) (range_nodes tables query (p + 1) (m - p))
        ∙ ap (λ r. fold node_step r (range_nodes tables query (p + 1) (m - p))) scanned
        ∙ lookups_cost (read_stop can.size (is_served tables query p) before) (m - p) (omega arith))

  whole_plan : are_bounded tables query (length query.relations) ≡ true → (run_of (plan_nodes tables query Whole)).cost ≡ (reached_after tables query (length query.relations)).cost
  whole_plan bounded =
      let m = length query.relations in
      ap (λ (r : ReachedCost). r.cost) (top_cost (range_nodes tables query 1 m) ∙ reads_cost m (omega arith) (each_bounded m bounded))

  -- the nodes of a plan cost what its candidate does
  pub plan_cost : (choice : Choice) → Has tables query choice → (run_of (plan_nodes tables query choice)).cost ≡ cost_of tables query choice
  plan_cost Whole h = whole_plan h
  plan_cost (Stop p) h = stop_plan p h ∙ sym (ap (λ (o : Option ℕ). stop_cost tables query (option_map_or (λ k. k) o 0) p) h.stop)
