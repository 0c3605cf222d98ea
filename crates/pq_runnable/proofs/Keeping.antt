-- The plan of a query runs over its tables and the index that it wants, and goes on to run over tables that have grown.
use Rattle.std.proofs.Common.{◌≡◌, ℕ, ◌+◌, ◌-◌, ◌≤◌, true, false, cond, List, [], ◌∷◌, ◌++◌, length, map, flat_map, get_or, Option, Some, None, Ok, refl, sym, ap, ◌∙◌, subst, arith}
use Rattle.std.specs.Prelude.{unwrap_or, Contains}
use Rattle.std.specs.Option.{option_map_or}
use Rattle.std.specs.List.{AllByRecursion, range_with_len}
use Rattle.pq_base.specs.Columns.{is_column_within, set_of}
use Rattle.pq_base.specs.declared.number.Bound.{Bound}
use Rattle.pq_base.specs.declared.number.Choice.{Choice}
use Rattle.pq_base.specs.declared.number.Choice.TheVariants.{Whole, Stop}
use Rattle.pq_base.proofs.Members.{each_weaker, each_both}
use Rattle.pq_base.specs.declared.value.Value.{Value}
use Rattle.pq_schema.specs.declared.query.Query.{Query}
use Rattle.pq_schema.specs.declared.table.Access.{Access}
use Rattle.pq_schema.specs.declared.table.Access.TheVariants.{Primary, Secondary}
use Rattle.pq_schema.specs.declared.table.Column.{Column}
use Rattle.pq_schema.specs.declared.table.Index.{Index}
use Rattle.pq_schema.specs.declared.table.KeyPart.{KeyPart}
use Rattle.pq_schema.specs.declared.table.Table.{Table}
use Rattle.pq_schema.specs.Candidates.{Candidate, no_limit, stop_size}
use Rattle.pq_schema.specs.Costs.{ReachedCost}
use Rattle.pq_schema.specs.Relations.{table_of, tied_set, order_rest}
use Rattle.pq_schema.specs.Resolved.{IsResolved}
use Rattle.pq_schema.specs.Schema.{Schema, with_wanted, with_query}
use Rattle.pq_schema.specs.Sequences.{IsAccess, begins_with, serving_access, group_access}
use Rattle.pq_schema.specs.Sound.{IsQuery, AreMade}
use Rattle.pq_schema.specs.Tables.{is_lookup, data_bound, limit_place, limit_of}
use Rattle.pq_schema.specs.Valid.{IsValid, IsDefined}
use Rattle.pq_schema.specs.Valid.IsValid.{then_query}
use Rattle.pq_schema.specs.Wanted.{index_of, IsWanted}
use Rattle.pq_schema.proofs.Soundness.{valid_query}
use Rattle.pq_schema.proofs.Valid.{valid_made}
use Rattle.pq_plan.specs.Cost.{cost}
use Rattle.pq_plan.specs.declared.physical.Physical.{Physical}
use Rattle.pq_plan.specs.Nodes.{Node, lookup, limit_range, stop_scan, keep, sort, cut, project, nodes, read_nodes, range_nodes, stop_access, choice_nodes, plan_nodes}
use Rattle.pq_plan.specs.Plans.{HasChoice}
use Rattle.pq_plan.proofs.Choices.{Has, choice_has}
use Rattle.pq_plan.proofs.PlanRows.{reach_nodes}
use Rattle.pq_compile.specs.declared.compiler.Compiled.{Compiled}
use Rattle.pq_compile.specs.Chosen.{IsCompiled}
use Rattle.pq_nodes.specs.Inverse.{node_limit_at, IsNodeOf, HasIndex, IsLimited, IsStopped}
use Rattle.pq_nodes.specs.Ordered.{StandInOrder}
use Rattle.pq_nodes.specs.Paid.{IsAtMost}
use Rattle.pq_nodes.proofs.InOrder.{plan_runs}
use Rattle.pq_nodes.proofs.Inverse.{plan_is}
use Rattle.pq_nodes.proofs.Paying.{at_most_itself}
use Rattle.pq_runnable.specs.Grown.{with_more, HasGrown, HaveGrown}
use Rattle.pq_runnable.specs.Runnable.{AreWhole, IsRunnablePlan}
use Rattle.pq_runnable.proofs.Again.{range_over, read_over, plan_stays}
use Rattle.pq_runnable.proofs.Compiled.{served_choice, compiled_small, few_bits}
use Rattle.pq_runnable.proofs.Growing.{relation_grown, tables_themselves}
use Rattle.pq_runnable.proofs.Indexed.{plan_indexed}
use Rattle.pq_runnable.proofs.Indexes.{access_stays, group_found, serving_found, serving_stays}
use Rattle.pq_runnable.proofs.Same.{same_candidates, same_can_stop}
use Rattle.pq_runnable.proofs.Staying.{chosen_parts, with_it, resolved_with, index_stays}
use Rattle.pq_runnable.proofs.Whole.{plan_whole}

-- ---- lists

each_parts : {X : Type 0} (P : X → Type 0) (xs ys : List X) → AllByRecursion P (xs ++ ys) → AllByRecursion P xs × AllByRecursion P ys
each_parts P [] ys all = (tt, all)
each_parts P (x ∷ xs) ys all = let rest = each_parts P xs ys all.1 in ((all.0, rest.0), rest.1)

flat_map_alike : {X Y : Type 0} (P : Y → Type 0) (f g : X → List Y) → ((x : X) → AllByRecursion P (f x) → g x ≡ f x) → (xs : List X) → AllByRecursion P (flat_map f xs) → flat_map g xs ≡ flat_map f xs
flat_map_alike P f g same [] all = refl
flat_map_alike P f g same (x ∷ xs) all =
    let parts = each_parts P (f x) (flat_map f xs) all in
    let first = same x parts.0 in
    let rest = flat_map_alike P f g same xs parts.1 in
    λ i. first i ++ rest i

-- ---- one table

-- a stop's sequence that is of the table serves
stop_found : (table : Table) (set : ℕ) (order : List KeyPart) → IsAccess table (unwrap_or (serving_access table set order) (Secondary (length table.indexes + 1))) → serving_access table set order ≡ Some (unwrap_or (serving_access table set order) (Secondary (length table.indexes + 1)))
stop_found table set order is = by_found (serving_access table set order) is
  where
    by_found : (o : Option Access) → IsAccess table (unwrap_or o (Secondary (length table.indexes + 1))) → o ≡ Some (unwrap_or o (Secondary (length table.indexes + 1)))
    by_found None is = let high = is.1 in absurd (omega (arith, high))
    by_found (Some access) is = refl

-- the sequence of a limit is found where the table has more
group_stays : (table : Table) (columns : List Column) (fillers : List (Option Value)) (more : List Index) (set : ℕ) (access : Access) → group_access table set ≡ Some access → group_access (with_more table columns fillers more) set ≡ Some access
group_stays table columns fillers more set access is = access_stays table columns fillers more (λ sequence. begins_with sequence set) access is

-- ---- over tables that have grown

-- what a node has that is run
abbrev IsRun : List Table → Query → Node → Type 0
IsRun tables query node = IsNodeOf tables query node × HasIndex tables query node

module _ (before now : List Table) (query : Query) (grown : HaveGrown before now) (resolved : IsResolved before query) where
  abbrev old : ℕ → Table
  old rel = table_of before query rel

  abbrev grows : (rel : ℕ) → HasGrown (table_of before query rel) (table_of now query rel)
  grows rel = relation_grown before now query grown resolved rel

  -- ---- the nodes of a plan

  by_place : (rel : ℕ) (columns : List Column) (fillers : List (Option Value)) (more : List Index) (o : Option ℕ) → AllByRecursion (IsRun before query) (option_map_or (range_over rel (old rel)) o []) → option_map_or (range_over rel (with_more (old rel) columns fillers more)) o [] ≡ option_map_or (range_over rel (old rel)) o []
  by_place rel columns fillers more None all = refl
  by_place rel columns fillers more (Some place) all =
      let table = old rel in
      let limit = get_or table.limits place no_limit in
      let access = unwrap_or (group_access table (set_of limit.cols)) Primary in
      let at : place + 1 - 1 ≡ place = omega arith in
      let found : group_access table (set_of limit.cols) ≡ Some access =
      subst (λ n. group_access table (set_of (get_or table.limits n no_limit).cols) ≡ Some access) at all.0.0.group in
      ap (λ (o : Option Access). limit_range rel (place + 1) limit.n (unwrap_or o Primary) ∷ keep rel ∷ []) (group_stays table columns fillers more (set_of limit.cols) access found ∙ sym found)

  read_more : (rel : ℕ) (columns : List Column) (fillers : List (Option Value)) (more : List Index) → AllByRecursion (IsRun before query) (read_over query rel (old rel)) → read_over query rel (with_more (old rel) columns fillers more) ≡ read_over query rel (old rel)
  read_more rel columns fillers more all =
      let table = old rel in
      let set = tied_set query rel in
      elim (is_lookup table set) as (λ b. AllByRecursion (IsRun before query) (cond b (lookup rel ∷ keep rel ∷ []) (option_map_or (range_over rel table) (limit_place table set) [])) → cond b (lookup rel ∷ keep rel ∷ []) (option_map_or (range_over rel (with_more table columns fillers more)) (limit_place table set) []) ≡ cond b (lookup rel ∷ keep rel ∷ []) (option_map_or (range_over rel table) (limit_place table set) [])) [
        | true ↦ λ _. refl
        | false ↦ λ all. by_place rel columns fillers more (limit_place table set) all
      ] all

  read_stays : (rel : ℕ) → AllByRecursion (IsRun before query) (read_nodes before query rel) → read_nodes now query rel ≡ read_nodes before query rel
  read_stays rel all = ap (read_over query rel) (grows rel).is ∙ read_more rel (grows rel).columns (grows rel).fillers (grows rel).indexes all

  range_stays : (from count : ℕ) → AllByRecursion (IsRun before query) (range_nodes before query from count) → range_nodes now query from count ≡ range_nodes before query from count
  range_stays from count all = flat_map_alike (IsRun before query) (read_nodes before query) (read_nodes now query) read_stays (range_with_len from count) all

  still_serves : (p : ℕ) → IsAccess (old p) (stop_access before query p) → serving_access (table_of now query p) (tied_set query p) (order_rest query p) ≡ Some (stop_access before query p)
  still_serves p is =
      ap (λ (t : Table). serving_access t (tied_set query p) (order_rest query p)) (grows p).is
      ∙ serving_stays (old p) (grows p).columns (grows p).fillers (grows p).indexes (tied_set query p) (order_rest query p) (stop_access before query p) (stop_found (old p) (tied_set query p) (order_rest query p) is)

  stop_stays : (p : ℕ) → IsAccess (old p) (stop_access before query p) → stop_access now query p ≡ stop_access before query p
  stop_stays p is = ap (λ (o : Option Access). unwrap_or o (Secondary (length (table_of now query p).indexes + 1))) (still_serves p is)

  choice_stays : (choice : Choice) → AllByRecursion (IsRun before query) (choice_nodes before query choice) → choice_nodes now query choice ≡ choice_nodes before query choice
  choice_stays Whole all = range_stays 1 (length query.relations) all
  choice_stays (Stop p) all =
      let scan = stop_scan p (unwrap_or (stop_size query.stop) 0) (stop_access before query p) in
      let parts = each_parts (IsRun before query) (range_nodes before query 1 (p - 1) ++ scan ∷ []) (range_nodes before query (p + 1) (length query.relations - p)) all in
      let first = each_parts (IsRun before query) (range_nodes before query 1 (p - 1)) (scan ∷ []) parts.0 in
      let front = range_stays 1 (p - 1) first.0 in
      let same = stop_stays p first.1.0.1.0 in
      let back = range_stays (p + 1) (length query.relations - p) parts.1 in
      λ i. (front i ++ stop_scan p (unwrap_or (stop_size query.stop) 0) (same i) ∷ []) ++ back i

  nodes_stay : (choice : Choice) → AllByRecursion (IsRun before query) (plan_nodes before query choice) → plan_nodes now query choice ≡ plan_nodes before query choice
  nodes_stay choice all =
      let cuts = option_map_or (λ k. cut k ∷ []) (stop_size query.stop) [] in
      let reads = choice_nodes before query choice in
      let given = each_parts (IsRun before query) (reads ++ sort ∷ [] ++ cuts) (project ∷ []) all in
      let few = each_parts (IsRun before query) (reads ++ sort ∷ []) cuts given.0 in
      let first = each_parts (IsRun before query) reads (sort ∷ []) few.0 in
      ap (λ (list : List Node). list ++ sort ∷ [] ++ cuts ++ project ∷ []) (choice_stays choice first.0)

  -- ---- what each of them has

  still_found : (rel limit : ℕ) (access : Access) → group_access (old rel) (set_of (node_limit_at (old rel) limit).cols) ≡ Some access → group_access (table_of now query rel) (set_of (node_limit_at (table_of now query rel) limit).cols) ≡ Some access
  still_found rel limit access is =
      ap (λ (t : Table). group_access t (set_of (node_limit_at t limit).cols)) (grows rel).is
      ∙ group_stays (old rel) (grows rel).columns (grows rel).fillers (grows rel).indexes (set_of (node_limit_at (old rel) limit).cols) access is

  limited_stays : (rel limit n : ℕ) (access : Access) → IsLimited before query rel limit n access → IsLimited now query rel limit n access
  limited_stays rel limit n access is =
      let same = (grows rel).is in
      let set = tied_set query rel in
      record {
        relation = is.relation;
        no_lookup = ap (λ (t : Table). is_lookup t set) same ∙ is.no_lookup;
        taken = ap (λ (t : Table). limit_of t set) same ∙ is.taken;
        from_one = is.from_one;
        there = subst (λ m. limit ≤ m) (sym (ap (λ (t : Table). length t.limits) same)) is.there;
        size = is.size ∙ sym (ap (λ (t : Table). (node_limit_at t limit).n) same);
        most = is.most;
        bound = ap (λ (t : Table). data_bound t set) same ∙ is.bound;
        tied = ap (λ (t : Table). is_column_within (set_of (node_limit_at t limit).cols) set) same ∙ is.tied;
        group = still_found rel limit access is.group;
      }

  stopped_stays : (rel k : ℕ) (access : Access) → IsStopped before query rel k access → IsAccess (old rel) access → IsStopped now query rel k access × (serving_access (table_of now query rel) (tied_set query rel) (order_rest query rel) ≡ Some access)
  stopped_stays rel k access is own =
      let there : IsAccess (old rel) (stop_access before query rel) = subst (IsAccess (old rel)) is.sequence own in (
        record {
          relation = is.relation;
          size = is.size;
          from_one = is.from_one;
          most = is.most;
          can = same_can_stop before now query grown resolved rel ∙ is.can;
          sequence = is.sequence ∙ sym (stop_stays rel there);
        },
        still_serves rel there ∙ ap (λ (a : Access). Some a) (sym is.sequence),
      )

  run_stays : (node : Node) → IsRun before query node → IsRun now query node
  run_stays (lookup rel) is = (record { relation = is.0.relation; tied = ap (λ (t : Table). is_lookup t (tied_set query rel)) (grows rel).is ∙ is.0.tied }, tt)
  run_stays (limit_range rel limit n access) is =
      (limited_stays rel limit n access is.0, group_found (table_of now query rel) (set_of (node_limit_at (table_of now query rel) limit).cols) access (still_found rel limit access is.0.group))
  run_stays (stop_scan rel k access) is =
      let stays = stopped_stays rel k access is.0 is.1.0 in
      (stays.0, serving_found (table_of now query rel) (tied_set query rel) (order_rest query rel) access stays.1)
  run_stays (keep rel) is = is
  run_stays sort is = is
  run_stays (cut k) is = is
  run_stays project is = is

-- a plan that can be run goes on to be one
pub plan_grown : (before now : List Table) (query : Query) (plan : Physical) → HaveGrown before now → IsResolved before query → IsRunnablePlan before query plan → IsRunnablePlan now query plan
plan_grown before now query plan grown resolved is =
    let choice = is.plan.0 in
    let built = is.plan.1.built in
    let all : AllByRecursion (IsRun before query) (nodes plan) =
    each_both (IsNodeOf before query) (HasIndex before query) (IsRun before query) (λ node of_query indexed. (of_query, indexed)) (nodes plan) is.runnable.each is.runnable.indexed in
    let still : AllByRecursion (IsRun now query) (nodes plan) =
    each_weaker (IsRun before query) (IsRun now query) (run_stays before now query grown resolved) (nodes plan) all in
    let candidate : HasChoice now query choice =
    subst (λ (list : List Candidate). Contains (map (λ (c : Candidate). c.choice) list) choice) (sym (same_candidates before now query grown resolved)) is.plan.1.candidate in
    let same = nodes_stay before now query grown resolved choice (subst (AllByRecursion (IsRun before query)) built all) in
    record {
      plan = (choice, record { candidate = candidate; built = built ∙ sym same });
      runnable = record {
        each = each_weaker (IsRun now query) (IsNodeOf now query) (λ node is. is.0) (nodes plan) still;
        indexed = each_weaker (IsRun now query) (HasIndex now query) (λ node is. is.1) (nodes plan) still;
        order = is.runnable.order;
        whole = is.runnable.whole;
        paid = is.runnable.paid;
      };
      narrow_ops = is.narrow_ops;
      narrow_entries = is.narrow_entries;
    }

-- ---- at its definition

-- the plan of a query that is defined can be run over the tables with the index that it wants
pub plan_defined : (s : Schema) (query : Query) (made : Compiled) → IsValid s → IsDefined s query made.wanted → IsCompiled s.tables query made → IsRunnablePlan (with_wanted s.tables made.wanted) query made.plan
plan_defined s query made valid defined is =
    let now = with_wanted s.tables made.wanted in
    let there : IsWanted s.tables query made.wanted = record { best = is.best; chosen = is.least } in
    let resolved = defined.resolved in
    let made_before : AreMade s.tables = valid_made valid in
    let stands = tables_themselves now (valid_made (then_query s query made.wanted valid defined)) in
    let parts = chosen_parts s.tables query is.best made.wanted is.least in
    let sound : IsQuery now query =
    valid_query (with_query s query made.wanted) query (then_query s query made.wanted valid defined) (resolved_with s.tables query made.wanted made_before resolved there now stands) in
    let candidate : HasChoice now query made.choice =
    subst (λ (list : List Candidate). Contains (map (λ (c : Candidate). c.choice) list) made.choice)
    (sym (same_candidates s.tables now query (with_it s.tables query made.wanted made_before resolved there now stands) resolved)) is.plan.candidate in
    let same : plan_nodes now query is.best.choice ≡ plan_nodes s.tables query is.best.choice =
    plan_stays s.tables query made.wanted made_before resolved there now stands (valid_query s query valid resolved) in
    let built : nodes made.plan ≡ plan_nodes now query made.choice =
    is.plan.built ∙ subst (λ (c : Choice). plan_nodes s.tables query c ≡ plan_nodes now query c) (sym is.choice) (sym same) in
    let has : Has now query made.choice = choice_has now query made.choice candidate in
    let index : index_of now query made.choice ≡ Ok None =
    ap (index_of now query) is.choice ∙ index_stays s.tables query made.wanted made_before resolved there now stands is.best.choice parts.index in
    let small = compiled_small s.tables query made is in
    record {
      plan = (made.choice, record { candidate = candidate; built = built });
      runnable = record {
        each = subst (AllByRecursion (IsNodeOf now query)) (sym built) (plan_is now query sound made.choice has);
        indexed = subst (AllByRecursion (HasIndex now query)) (sym built) (plan_indexed now query sound made.choice has (served_choice now query made.choice index));
        order = subst (StandInOrder 0) (sym built) (plan_runs now query sound made.choice has).0;
        whole = subst (AreWhole (length query.relations) 0) (sym built) (plan_whole now query sound made.choice has);
        paid = subst (λ (b : Bound). IsAtMost b (cost made.plan)) (ap (λ (r : ReachedCost). r.cost) (reach_nodes made.plan)) (at_most_itself (cost made.plan));
      };
      narrow_ops = few_bits _ small.0;
      narrow_entries = few_bits _ small.1;
    }
