-- The nodes of a plan read the relations one after the other.
use Rattle.std.proofs.Common.{◌≡◌, Some, None, ℕ, zero, suc, ◌+◌, ◌-◌, ◌<◌, ◌≤◌, List, [], ◌∷◌, ◌++◌, length, refl, sym, ap, ◌∙◌, subst, arith}
use Rattle.std.specs.Prelude.{unwrap_or}
use Rattle.std.specs.Option.{option_map_or}
use Rattle.std.specs.List.{range_with_len}
use Rattle.std.proofs.lemmas.List.Sums.{fold-append}
use Rattle.pq_base.specs.declared.number.Choice.{Choice}
use Rattle.pq_base.specs.declared.number.Choice.TheVariants.{Whole, Stop}
use Rattle.pq_schema.specs.declared.table.Table.{Table}
use Rattle.pq_schema.specs.declared.query.Query.{Query}
use Rattle.pq_schema.specs.Candidates.{stop_size}
use Rattle.pq_schema.specs.Sound.{IsQuery}
use Rattle.pq_plan.specs.Nodes.{Node, lookup, limit_range, stop_scan, keep, sort, cut, project, read_nodes, range_nodes, stop_access, choice_nodes, plan_nodes}
use Rattle.pq_plan.proofs.Choices.{Has}
use Rattle.pq_plan.proofs.PlanMeaning.{range_more}
use Rattle.pq_nodes.specs.Ordered.{relation_read, node_relations, after_node, after_nodes, StandsAt, StandInOrder}
use Rattle.pq_nodes.proofs.Inverse.{Bounded, read_cases, front_bounded, later_bounded, before_bounded}

pub stand_both : (count : ℕ) (xs ys : List Node) → StandInOrder count xs → StandInOrder (after_nodes count xs) ys → StandInOrder count (xs ++ ys)
stand_both count [] ys first second = second
stand_both count (x ∷ xs) ys first second = (first.0, stand_both (after_node count x) xs ys first.1 second)

-- what stands behind some nodes stands after their relations
pub stands_behind : (count : ℕ) (front : List Node) (node : Node) (back : List Node) → StandInOrder count (front ++ node ∷ back) → StandsAt (after_nodes count front) node
stands_behind count [] node back all = all.0
stands_behind count (x ∷ front) node back all = stands_behind (after_node count x) front node back all.1

pub front_stands : (count : ℕ) (front back : List Node) → StandInOrder count (front ++ back) → StandInOrder count front
front_stands count [] back all = tt
front_stands count (x ∷ front) back all = (all.0, front_stands (after_node count x) front back all.1)

-- they read just these
pub record ReadsRelations (count : ℕ) (list : List Node) : Type 0 where
  pub more : ℕ
  pub relations : node_relations list ≡ range_with_len (count + 1) more
  pub after : after_nodes count list ≡ count + more

first_read : (count rel : ℕ) (list : List Node) → rel ≡ suc count → (rest : ReadsRelations (suc count) list) → rel ∷ node_relations list ≡ range_with_len (count + 1) (suc rest.more)
first_read count rel list is rest =
    let first : rel ≡ count + 1 = omega (arith, is) in
    let next : suc count + 1 ≡ count + 1 + 1 = omega arith in
    let others : node_relations list ≡ range_with_len (count + 1 + 1) rest.more = rest.relations ∙ ap (λ a. range_with_len a rest.more) next in
    λ i. first i ∷ others i

one_after : (count : ℕ) (list : List Node) (rest : ReadsRelations (suc count) list) → after_nodes (suc count) list ≡ count + suc rest.more
one_after count list rest = let last : suc count + rest.more ≡ count + suc rest.more = omega arith in rest.after ∙ last

pub reads_in_order : (count : ℕ) (list : List Node) → StandInOrder count list → ReadsRelations count list
reads_in_order count [] all = record { more = 0; relations = refl; after = omega arith }
reads_in_order count (lookup rel ∷ list) all = let rest = reads_in_order (suc count) list all.1 in record { more = suc rest.more; relations = first_read count rel list all.0 rest; after = one_after count list rest }
reads_in_order count (limit_range rel limit n access ∷ list) all = let rest = reads_in_order (suc count) list all.1 in record { more = suc rest.more; relations = first_read count rel list all.0 rest; after = one_after count list rest }
reads_in_order count (stop_scan rel k access ∷ list) all = let rest = reads_in_order (suc count) list all.1 in record { more = suc rest.more; relations = first_read count rel list all.0 rest; after = one_after count list rest }
reads_in_order count (keep rel ∷ list) all = let rest = reads_in_order count list all.1 in record { more = rest.more; relations = rest.relations; after = rest.after }
reads_in_order count (sort ∷ list) all = let rest = reads_in_order count list all.1 in record { more = rest.more; relations = rest.relations; after = rest.after }
reads_in_order count (cut k ∷ list) all = let rest = reads_in_order count list all.1 in record { more = rest.more; relations = rest.relations; after = rest.after }
reads_in_order count (project ∷ list) all = let rest = reads_in_order count list all.1 in record { more = rest.more; relations = rest.relations; after = rest.after }

module _ (tables : List Table) (query : Query) (sound : IsQuery tables query) where
  abbrev m : ℕ
  m = length query.relations

  -- nodes that stand in order behind so many relations, and read up to another
  abbrev pub Runs : ℕ → ℕ → List Node → Type 0
  Runs from upto list = StandInOrder from list × (after_nodes from list ≡ upto)

  runs_both : (a b c : ℕ) (xs ys : List Node) → Runs a b xs → Runs b c ys → Runs a c (xs ++ ys)
  runs_both a b c xs ys first second = (
    stand_both a xs ys first.0 (subst (λ n. StandInOrder n ys) (sym first.1) second.0),
    fold-append after_node a xs ys ∙ ap (λ n. after_nodes n ys) first.1 ∙ second.1,
  )

  read_runs : (i : ℕ) → suc i ≤ m → Bounded tables query sound (suc i) → Runs i (suc i) (read_nodes tables query (suc i))
  read_runs i inside bounded =
      read_cases tables query sound (Runs i (suc i)) (suc i) (omega arith) inside bounded
      (λ _. ((refl, (refl, tt)), refl))
      (λ limit n access _. ((refl, (refl, tt)), refl))

  range_runs : (a n : ℕ) → a + n ≤ m → ((j : ℕ) → a < j → j ≤ a + n → Bounded tables query sound j) → Runs a (a + n) (range_nodes tables query (a + 1) n)
  range_runs a zero inside bounded = (tt, omega arith)
  range_runs a (suc n) inside bounded =
      let next : suc (a + n) ≡ a + 1 + n = omega arith in
      let last : suc (a + n) ≡ a + suc n = omega arith in
      let rest = range_runs a n (omega arith) (λ j from upto. bounded j from (omega arith)) in
      let here = read_runs (a + n) (omega arith) (bounded (suc (a + n)) (omega arith) (omega arith)) in
      subst (Runs a (a + suc n)) (sym (range_more tables query (a + 1) n))
      (runs_both a (a + n) (a + suc n) (range_nodes tables query (a + 1) n) (read_nodes tables query (a + 1 + n)) rest
      (subst (λ k. Runs (a + n) k (read_nodes tables query (a + 1 + n))) last (subst (λ k. Runs (a + n) (suc (a + n)) (read_nodes tables query k)) next here)))

  first_runs : (n : ℕ) → n ≤ m → ((j : ℕ) → 1 ≤ j → j ≤ n → Bounded tables query sound j) → Runs 0 n (range_nodes tables query 1 n)
  first_runs n inside bounded =
      let all : 0 + n ≡ n = omega arith in
      subst (λ k. Runs 0 k (range_nodes tables query 1 n)) all (range_runs 0 n (omega arith) (λ j from upto. bounded j (omega arith) (omega arith)))

  choice_runs : (choice : Choice) → Has tables query choice → Runs 0 m (choice_nodes tables query choice)
  choice_runs Whole h = first_runs m (omega arith) (λ j low upto. front_bounded tables query sound m h j low upto)
  choice_runs (Stop p) h =
      let low = h.from_one in
      let high = h.within in
      let scan = stop_scan p (unwrap_or (stop_size query.stop) 0) (stop_access tables query p) in
      let here : p ≡ suc (p - 1) = omega arith in
      let end : p + (m - p) ≡ m = omega arith in
      runs_both 0 p m (range_nodes tables query 1 (p - 1) ++ scan ∷ []) (range_nodes tables query (p + 1) (m - p))
      (runs_both 0 (p - 1) p (range_nodes tables query 1 (p - 1)) (scan ∷ [])
      (first_runs (p - 1) (omega arith) (λ j low upto. before_bounded tables query sound p h j low upto))
      ((here, tt), sym here))
      (subst (λ k. Runs p k (range_nodes tables query (p + 1) (m - p))) end (range_runs p (m - p) (omega arith) (λ j from upto. later_bounded tables query sound p h j from (omega arith))))

  pub plan_runs : (choice : Choice) → Has tables query choice → StandInOrder 0 (plan_nodes tables query choice) × (after_nodes 0 (plan_nodes tables query choice) ≡ m)
  plan_runs choice h =
      let list = choice_nodes tables query choice in
      let top = option_map_or (λ k. cut k ∷ []) (stop_size query.stop) [] in
      runs_both 0 m m (list ++ sort ∷ [] ++ top) (project ∷ [])
      (runs_both 0 m m (list ++ sort ∷ []) top
      (runs_both 0 m m list (sort ∷ []) (choice_runs choice h) ((tt, tt), refl))
      (elim (stop_size query.stop) as (λ o. Runs m m (option_map_or (λ k. cut k ∷ []) o [])) [ None ↦ (tt, refl) | Some k ↦ ((tt, tt), refl) ]))
      ((tt, tt), refl)

  -- the nodes before one that reads a relation read those before it, in their order
  pub before_read : (choice : Choice) → Has tables query choice → (front : List Node) (node : Node) (back : List Node) (rel : ℕ) → plan_nodes tables query choice ≡ front ++ node ∷ back → relation_read node ≡ rel ∷ [] → (node_relations front ≡ range_with_len 1 (rel - 1)) × (after_nodes 0 front ≡ rel - 1) × StandInOrder 0 front
  before_read choice h front node back rel is reads =
      let all : StandInOrder 0 (front ++ node ∷ back) = subst (StandInOrder 0) is (plan_runs choice h).0 in
      let stands = front_stands 0 front (node ∷ back) all in
      let read = reads_in_order 0 front stands in
      let here : rel ≡ suc (after_nodes 0 front) = next_read (after_nodes 0 front) node rel (stands_behind 0 front node back all) reads in
      let after = read.after in
      let count : read.more ≡ rel - 1 = omega (arith, here, after) in
      (read.relations ∙ ap (range_with_len 1) count, omega (arith, here), stands)
    where
      next_read : (count : ℕ) (node : Node) (rel : ℕ) → StandsAt count node → relation_read node ≡ rel ∷ [] → rel ≡ suc count
      next_read count (lookup r) rel at e = let same : r ≡ rel = cc in sym same ∙ at
      next_read count (limit_range r limit n access) rel at e = let same : r ≡ rel = cc in sym same ∙ at
      next_read count (stop_scan r k access) rel at e = let same : r ≡ rel = cc in sym same ∙ at
      next_read count (keep r) rel at e = cc
      next_read count sort rel at e = cc
      next_read count (cut k) rel at e = cc
      next_read count project rel at e = cc
