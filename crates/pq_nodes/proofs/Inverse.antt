-- What a node of a plan says of the query, and that its sequence is of its table.
use Rattle.std.proofs.Common.{◌≡◌, Option, Some, None, ℕ, zero, suc, ◌+◌, ◌-◌, ◌<◌, ◌≤◌, true, false, cond, List, [], ◌∷◌, ◌++◌, length, get_or, is_some, option_map, refl, sym, ap, ◌∙◌, subst, arith}
use Rattle.std.specs.Prelude.{IfSome, unwrap_or}
use Rattle.std.specs.Option.{option_map_or}
use Rattle.std.specs.List.{AllByRecursion, range_with_len}
use Rattle.std.proofs.lemmas.Bool.{and_parts, false≢true}
use Rattle.pq_base.specs.Columns.{is_column_within, set_of}
use Rattle.pq_base.specs.Members.{In}
use Rattle.pq_base.specs.declared.number.Choice.{Choice}
use Rattle.pq_base.specs.declared.number.Choice.TheVariants.{Whole, Stop}
use Rattle.pq_schema.specs.declared.table.Access.{Access}
use Rattle.pq_schema.specs.declared.table.Access.TheVariants.{Primary}
use Rattle.pq_schema.specs.declared.table.Limit.{Limit}
use Rattle.pq_schema.specs.declared.table.Table.{Table}
use Rattle.pq_schema.specs.declared.query.Query.{Query}
use Rattle.pq_schema.specs.Candidates.{no_limit, bound_at, are_bounded, stop_size}
use Rattle.pq_schema.specs.Relations.{relation_at, table_of, tied_set, is_total}
use Rattle.pq_schema.specs.Sequences.{group_access}
use Rattle.pq_schema.specs.Sound.{IsTable, IsQuery}
use Rattle.pq_schema.specs.Tables.{is_lookup, least_limit, limit_place, data_bound, no_table}
use Rattle.pq_plan.specs.Nodes.{Node, lookup, limit_range, stop_scan, keep, sort, cut, project, read_nodes, range_nodes, stop_access, choice_nodes, plan_nodes}
use Rattle.pq_plan.specs.Plans.{IsPlanNode}
use Rattle.pq_plan.proofs.Bounds.{number_at, linked}
use Rattle.pq_plan.proofs.Choices.{CanStop, Has, choice_has}
use Rattle.pq_plan.proofs.Limits.{limit_taken}
use Rattle.pq_base.proofs.Members.{all_at, all_member, at_in, range_in, each_append, each_in, in_from_contains}
use Rattle.pq_plan.proofs.PlanCost.{no_rows_keep}
use Rattle.pq_plan.proofs.PlanMeaning.{range_more}
use Rattle.pq_plan.proofs.Totals.{total}
use Rattle.pq_nodes.specs.Inverse.{IsRelationOf, IsLimited, IsStopped, IsNodeOf}

pub some_unwrapped : {A : Type 0} (o : Option A) (d : A) → is_some o ≡ true → o ≡ Some (unwrap_or o d)
some_unwrapped None d h = absurd (false≢true h)
some_unwrapped (Some a) d h = refl

module _ (tables : List Table) (query : Query) (sound : IsQuery tables query) where
  abbrev m : ℕ
  m = length query.relations

  abbrev pub Bounded : ℕ → Type 0
  Bounded i = is_some (bound_at tables query i) ≡ true

  table_is : (i : ℕ) → 1 ≤ i → i ≤ m → IsTable (table_of tables query i)
  table_is i low high =
      let number = number_at tables query [] [] sound (no_rows_keep tables) i low high in
      let one = number.0 in
      let there = number.1 in
      all_member IsTable tables sound.each (table_of tables query i) (at_in tables ((relation_at query i).table - 1) no_table (omega arith))

  relation_is : (i : ℕ) → 1 ≤ i → i ≤ m → IsRelationOf query i
  relation_is i low high = record { from_one = low; there = high }

  -- ---- which relations have a data bound

  pub front_bounded : (count : ℕ) → are_bounded tables query count ≡ true → (j : ℕ) → 1 ≤ j → j ≤ count → Bounded j
  front_bounded count h j low high = all_at (λ rel. is_some (bound_at tables query rel)) (range_with_len 1 count) h j (range_in j 1 count low (omega arith))

  pub later_looked_up : (p : ℕ) → CanStop tables query p → (i : ℕ) → p < i → i ≤ m → is_lookup (table_of tables query i) (tied_set query i) ≡ true
  later_looked_up p can i above inside =
      (total tables query [] [] sound (no_rows_keep tables) i inside (all_at (is_total tables query) (range_with_len (p + 1) (m - p)) (and_parts _ _ can.can).1 i (range_in i (p + 1) (m - p) (omega arith) (omega arith)))).lookup

  pub later_bounded : (p : ℕ) → CanStop tables query p → (i : ℕ) → p < i → i ≤ m → Bounded i
  later_bounded p can i above inside = ap (λ b. is_some (cond b (Some 1) (least_limit (table_of tables query i) (tied_set query i)))) (later_looked_up p can i above inside)

  pub before_bounded : (p : ℕ) → CanStop tables query p → (j : ℕ) → 1 ≤ j → j ≤ p - 1 → Bounded j
  before_bounded p can = front_bounded (p - 1) (and_parts _ _ (and_parts _ _ (and_parts _ _ (and_parts _ _ can.can).0).0).0).0

  -- ---- the nodes of one relation

  abbrev of_limit : ℕ → ℕ → List Node
  of_limit i place =
      let table = table_of tables query i in
      let limit = get_or table.limits place no_limit in
      limit_range i (place + 1) limit.n (unwrap_or (group_access table (set_of limit.cols)) Primary) ∷ keep i ∷ []

  limited_is : (i place : ℕ) → 1 ≤ i → i ≤ m → is_lookup (table_of tables query i) (tied_set query i) ≡ false → limit_place (table_of tables query i) (tied_set query i) ≡ Some place → place < length (table_of tables query i).limits → is_column_within (set_of (get_or (table_of tables query i).limits place no_limit).cols) (tied_set query i) ≡ true → data_bound (table_of tables query i) (tied_set query i) ≡ Some (get_or (table_of tables query i).limits place no_limit).n → IsLimited tables query i (place + 1) (get_or (table_of tables query i).limits place no_limit).n (unwrap_or (group_access (table_of tables query i) (set_of (get_or (table_of tables query i).limits place no_limit).cols)) Primary)
  limited_is i place low high no_lookup taken within applied size =
      let table = table_of tables query i in
      let limit = get_or table.limits place no_limit in
      let number = number_at tables query [] [] sound (no_rows_keep tables) i low high in
      let groups = (linked tables query [] [] sound (no_rows_keep tables) (relation_at query i).table number).limit_groups in
      let here : In limit table.limits = at_in table.limits place no_limit within in
      let same : get_or table.limits (place + 1 - 1) no_limit ≡ limit = (let back : place + 1 - 1 ≡ place = omega arith in ap (λ n. get_or table.limits n no_limit) back) in
      record {
        relation = relation_is i low high;
        no_lookup = no_lookup;
        taken = ap (option_map (λ place. place + 1)) taken;
        from_one = omega arith;
        there = omega arith;
        size = ap (λ (l : Limit). l.n) (sym same);
        most = all_member (λ (l : Limit). l.n ≤ 10000) table.limits (table_is i low high).sizes limit here;
        bound = size;
        tied = ap (λ (l : Limit). is_column_within (set_of l.cols) (tied_set query i)) same ∙ applied;
        group =
            ap (λ (l : Limit). group_access table (set_of l.cols)) same
            ∙ some_unwrapped (group_access table (set_of limit.cols)) Primary (all_member (λ (l : Limit). is_some (group_access table (set_of l.cols)) ≡ true) table.limits groups limit here);
      }

  -- what holds of the nodes of a lookup and of a range holds of those of a bounded relation
  pub read_cases : (P : List Node → Type 0) (i : ℕ) → 1 ≤ i → i ≤ m → Bounded i → (is_lookup (table_of tables query i) (tied_set query i) ≡ true → P (lookup i ∷ keep i ∷ [])) → ((limit n : ℕ) (access : Access) → IsLimited tables query i limit n access → P (limit_range i limit n access ∷ keep i ∷ [])) → P (read_nodes tables query i)
  read_cases P i low high bounded by_lookup by_range =
      let table = table_of tables query i in
      let set = tied_set query i in
      elim (is_lookup table set) as (λ b. is_lookup table set ≡ b → P (cond b (lookup i ∷ keep i ∷ []) (option_map_or (of_limit i) (limit_place table set) []))) [
        | true ↦ λ is. by_lookup is
        | false ↦ λ is.
            let t = limit_taken table set is bounded in
            let limit = get_or table.limits t.0 no_limit in
            subst (λ (o : Option ℕ). P (option_map_or (of_limit i) o [])) (sym t.1.taken)
            (by_range (t.0 + 1) limit.n (unwrap_or (group_access table (set_of limit.cols)) Primary) (limited_is i t.0 low high is t.1.taken t.1.within t.1.applied t.1.size))
      ] refl

  -- ---- all nodes of a plan

  module _ (P : Node → Type 0) (each_read : (i : ℕ) → 1 ≤ i → i ≤ m → Bounded i → AllByRecursion P (read_nodes tables query i)) where
    range_all : (a n : ℕ) → 1 ≤ a → a + n ≤ suc m → ((j : ℕ) → a ≤ j → j < a + n → Bounded j) → AllByRecursion P (range_nodes tables query a n)
    range_all a zero low high bounded = tt
    range_all a (suc n) low high bounded =
        subst (AllByRecursion P) (sym (range_more tables query a n))
        (each_append P (range_nodes tables query a n) (read_nodes tables query (a + n))
        (range_all a n low (omega arith) (λ j from below. bounded j from (omega arith)))
        (each_read (a + n) (omega arith) (omega arith) (bounded (a + n) (omega arith) (omega arith))))

    top_all : P sort → ((k : ℕ) → stop_size query.stop ≡ Some k → P (cut k)) → P project → (list : List Node) → AllByRecursion P list → AllByRecursion P (list ++ sort ∷ [] ++ option_map_or (λ k. cut k ∷ []) (stop_size query.stop) [] ++ project ∷ [])
    top_all of_sort of_cut of_project list all =
        each_append P (list ++ sort ∷ [] ++ option_map_or (λ k. cut k ∷ []) (stop_size query.stop) []) (project ∷ [])
        (each_append P (list ++ sort ∷ []) (option_map_or (λ k. cut k ∷ []) (stop_size query.stop) [])
        (each_append P list (sort ∷ []) all (of_sort, tt))
        (elim (stop_size query.stop) as (λ o. stop_size query.stop ≡ o → AllByRecursion P (option_map_or (λ k. cut k ∷ []) o [])) [ None ↦ λ _. tt | Some k ↦ λ is. (of_cut k is, tt) ] refl))
        (of_project, tt)

    choice_all : (choice : Choice) → Has tables query choice → ((p : ℕ) → choice ≡ Stop p → CanStop tables query p → P (stop_scan p (unwrap_or (stop_size query.stop) 0) (stop_access tables query p))) → AllByRecursion P (choice_nodes tables query choice)
    choice_all Whole h of_scan = range_all 1 m (omega arith) (omega arith) (λ j low high. front_bounded m h j low (omega arith))
    choice_all (Stop p) h of_scan =
        let low = h.from_one in
        let high = h.within in
        let scan = stop_scan p (unwrap_or (stop_size query.stop) 0) (stop_access tables query p) in
        each_append P (range_nodes tables query 1 (p - 1) ++ scan ∷ []) (range_nodes tables query (p + 1) (m - p))
        (each_append P (range_nodes tables query 1 (p - 1)) (scan ∷ []) (range_all 1 (p - 1) (omega arith) (omega arith) (λ j from below. before_bounded p h j from (omega arith))) (of_scan p refl h, tt))
        (range_all (p + 1) (m - p) (omega arith) (omega arith) (λ j from below. later_bounded p h j (omega arith) (omega arith)))

    pub plan_all : (choice : Choice) → Has tables query choice → ((p : ℕ) → choice ≡ Stop p → CanStop tables query p → P (stop_scan p (unwrap_or (stop_size query.stop) 0) (stop_access tables query p))) → P sort → ((k : ℕ) → stop_size query.stop ≡ Some k → P (cut k)) → P project → AllByRecursion P (plan_nodes tables query choice)
    plan_all choice h of_scan of_sort of_cut of_project = top_all of_sort of_cut of_project (choice_nodes tables query choice) (choice_all choice h of_scan)

  -- ---- what they are

  size_is : (k : ℕ) → stop_size query.stop ≡ Some k → (1 ≤ k) × (k ≤ 1000)
  size_is k h = subst (λ (o : Option ℕ). IfSome o (λ k. (1 ≤ k) × (k ≤ 1000))) h sound.stop

  read_is : (i : ℕ) → 1 ≤ i → i ≤ m → Bounded i → AllByRecursion (IsNodeOf tables query) (read_nodes tables query i)
  read_is i low high bounded =
      read_cases (AllByRecursion (IsNodeOf tables query)) i low high bounded
      (λ is. (record { relation = relation_is i low high; tied = is }, (relation_is i low high, tt)))
      (λ limit n access is. (is, (relation_is i low high, tt)))

  scan_is : (p : ℕ) → CanStop tables query p → IsStopped tables query p (unwrap_or (stop_size query.stop) 0) (stop_access tables query p)
  scan_is p can =
      let same : unwrap_or (stop_size query.stop) 0 ≡ can.size = ap (λ (o : Option ℕ). unwrap_or o 0) can.stop in
      let sizes = size_is can.size can.stop in
      let low = sizes.0 in
      let high = sizes.1 in
      record {
        relation = relation_is p can.from_one can.within;
        size = can.stop ∙ ap (λ (k : ℕ). Some k) (sym same);
        from_one = omega arith;
        most = omega arith;
        can = can.can;
        sequence = refl;
      }

  pub plan_is : (choice : Choice) → Has tables query choice → AllByRecursion (IsNodeOf tables query) (plan_nodes tables query choice)
  plan_is choice h = plan_all (IsNodeOf tables query) read_is choice h (λ p _ can. scan_is p can) tt (λ k is. record { size = is; from_one = (size_is k is).0; most = (size_is k is).1 }) tt

  pub node_is : (node : Node) → IsPlanNode tables query node → IsNodeOf tables query node
  node_is node is =
      each_in (IsNodeOf tables query) (plan_nodes tables query is.choice) (plan_is is.choice (choice_has tables query is.choice is.candidate)) node
      (in_from_contains (plan_nodes tables query is.choice) node is.there)
