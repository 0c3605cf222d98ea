-- A candidate's tree is run by the nodes of its plan.
use Rattle.std.proofs.Common.{◌≡◌, ℕ, zero, suc, ◌+◌, ◌-◌, ◌<◌, ◌≤◌, true, false, cond, ◌==◌, List, [], ◌∷◌, ◌++◌, length, Option, Some, None, refl, sym, ap, ◌∙◌, subst, arith, append_assoc}
use Rattle.std.specs.Prelude.{unwrap_or}
use Rattle.std.specs.Option.{option_map_or}
use Rattle.std.proofs.lemmas.Bool.{eq-eqb, ne_eqb}
use Rattle.pq_base.specs.declared.number.Choice.{Choice}
use Rattle.pq_base.specs.declared.number.Choice.TheVariants.{Whole, Stop}
use Rattle.pq_schema.specs.declared.table.Table.{Table}
use Rattle.pq_schema.specs.declared.query.Query.{Query}
use Rattle.pq_schema.specs.Candidates.{bound_at, stop_size}
use Rattle.pq_plan.specs.Meaning.{Tree, Unit, Read, DataStop, StopRead, Order, Cut, Project}
use Rattle.pq_plan.specs.Rewrites.{reads_tree, top_of, with_stop, placed_stops, pushed_tree}
use Rattle.pq_plan.specs.Nodes.{Node, stop_scan, sort, cut, project, read_nodes, range_nodes, stop_access, choice_nodes, plan_nodes}
use Rattle.pq_plan.proofs.Choices.{Has}
use Rattle.pq_plan.proofs.PlanMeaning.{range_more}
use Rattle.pq_stop_push.specs.Pushes.{IsOver, built_tree, placed_tree, candidate_tree}
use Rattle.pq_stop_push.proofs.Trees.{over_built}
use Rattle.pq_compile.specs.Lowered.{lowered_nodes}

-- ---- the relations that the trees read
over_with : (m : ℕ) (n : Option ℕ) (t : Tree) (i : ℕ) → IsOver m t → IsOver m (with_stop n t i)
over_with m None t i h = h
over_with m (Some n) t i h = h

over_placed : (m : ℕ) (d : ℕ → Option ℕ) (t : Tree) → IsOver m t → IsOver m (placed_stops d t)
over_placed m d Unit h = tt
over_placed m d (Read t i) h = over_with m (d i) (Read (placed_stops d t) i) i (h.0, over_placed m d t h.1)
over_placed m d (DataStop t i n) h = over_placed m d t h
over_placed m d (StopRead t i k) h = (h.0, over_placed m d t h.1)
over_placed m d (Order t) h = over_placed m d t h
over_placed m d (Cut t k) h = over_placed m d t h
over_placed m d (Project t) h = over_placed m d t h

over_pushed : (m p k : ℕ) (t : Tree) → IsOver m t → IsOver m (pushed_tree p k t)
over_pushed m p k Unit h = tt
over_pushed m p k (Read t i) h = elim (i == p) as (λ b. IsOver m (cond b (StopRead t i k) (Read (pushed_tree p k t) i))) [ true ↦ h | false ↦ (h.0, over_pushed m p k t h.1) ]
over_pushed m p k (DataStop t i n) h = elim (i == p) as (λ b. IsOver m (cond b (pushed_tree p k t) (DataStop (pushed_tree p k t) i n))) [ true ↦ over_pushed m p k t h | false ↦ over_pushed m p k t h ]
over_pushed m p k (StopRead t i j) h = (h.0, over_pushed m p k t h.1)
over_pushed m p k (Order t) h = over_pushed m p k t h
over_pushed m p k (Cut t j) h = over_pushed m p k t h
over_pushed m p k (Project t) h = over_pushed m p k t h

pub over_candidate : (tables : List Table) (query : Query) (choice : Choice) → IsOver (length query.relations) (candidate_tree tables query choice)
over_candidate tables query Whole = over_placed (length query.relations) (bound_at tables query) (built_tree query) (over_built query)
over_candidate tables query (Stop p) = over_pushed (length query.relations) p (unwrap_or (stop_size query.stop) 0) (placed_tree tables query) (over_placed (length query.relations) (bound_at tables query) (built_tree query) (over_built query))

-- ---- the nodes that run them
module _ (tables : List Table) (query : Query) where
  abbrev d : ℕ → Option ℕ
  d = bound_at tables query

  end_nil : (xs : List Node) → xs ++ [] ≡ xs
  end_nil [] = refl
  end_nil (x ∷ xs) = ap (λ l. x ∷ l) (end_nil xs)

  no_node : (n : Option ℕ) (t : Tree) (i : ℕ) → lowered_nodes tables query (with_stop n t i) ≡ lowered_nodes tables query t
  no_node None t i = refl
  no_node (Some n) t i = refl

  reads : (i : ℕ) → lowered_nodes tables query (placed_stops d (reads_tree i)) ≡ range_nodes tables query 1 i
  reads zero = refl
  reads (suc i) =
      let next : suc i ≡ 1 + i = omega arith in
      no_node (d (suc i)) (Read (placed_stops d (reads_tree i)) (suc i)) (suc i)
      ∙ (λ j. reads i j ++ read_nodes tables query (next j))
      ∙ sym (range_more tables query 1 i)

  module _ (p k : ℕ) where
    abbrev push : Tree → Tree
    push = pushed_tree p k

    -- a data stop is passed over wherever it stands
    stop_over : (n : Option ℕ) (t : Tree) (i : ℕ) → lowered_nodes tables query (push (with_stop n t i)) ≡ lowered_nodes tables query (push t)
    stop_over None t i = refl
    stop_over (Some n) t i = elim (i == p) as (λ b. lowered_nodes tables query (cond b (push t) (DataStop (push t) i n)) ≡ lowered_nodes tables query (push t)) [ true ↦ refl | false ↦ refl ]

    read_other : (t : Tree) (i : ℕ) → (i == p) ≡ false → lowered_nodes tables query (push (Read t i)) ≡ lowered_nodes tables query (push t) ++ read_nodes tables query i
    read_other t i h = ap (λ b. lowered_nodes tables query (cond b (StopRead t i k) (Read (push t) i))) h

    read_here : (t : Tree) (i : ℕ) → (i == p) ≡ true → lowered_nodes tables query (push (Read t i)) ≡ lowered_nodes tables query t ++ stop_scan i k (stop_access tables query i) ∷ []
    read_here t i h = ap (λ b. lowered_nodes tables query (cond b (StopRead t i k) (Read (push t) i))) h

    below : (i : ℕ) → i < p → lowered_nodes tables query (push (placed_stops d (reads_tree i))) ≡ range_nodes tables query 1 i
    below zero h = refl
    below (suc i) h =
        let next : suc i ≡ 1 + i = omega arith in
        stop_over (d (suc i)) (Read (placed_stops d (reads_tree i)) (suc i)) (suc i)
        ∙ read_other (placed_stops d (reads_tree i)) (suc i) (ne_eqb (suc i) p (λ e. absurd (omega arith)))
        ∙ (λ j. below i (omega arith) j ++ read_nodes tables query (next j))
        ∙ sym (range_more tables query 1 i)

    abbrev scan : Node
    scan = stop_scan p k (stop_access tables query p)

    above : (n : ℕ) → 1 ≤ p → lowered_nodes tables query (push (placed_stops d (reads_tree (p + n)))) ≡ range_nodes tables query 1 (p - 1) ++ scan ∷ [] ++ range_nodes tables query (p + 1) n
    above zero low =
        let one : p + 0 ≡ suc (p - 1) = omega arith in
        let same : suc (p - 1) ≡ p = omega arith in
        let T = placed_stops d (reads_tree (p - 1)) in
        ap (λ (i : ℕ). lowered_nodes tables query (push (placed_stops d (reads_tree i)))) one
        ∙ stop_over (d (suc (p - 1))) (Read T (suc (p - 1))) (suc (p - 1))
        ∙ read_here T (suc (p - 1)) (eq-eqb (suc (p - 1)) p same)
        ∙ (λ j. reads (p - 1) j ++ stop_scan (same j) k (stop_access tables query (same j)) ∷ [])
        ∙ sym (end_nil (range_nodes tables query 1 (p - 1) ++ scan ∷ []))
    above (suc n) low =
        let one : p + suc n ≡ suc (p + n) = omega arith in
        let same : suc (p + n) ≡ p + 1 + n = omega arith in
        let T = placed_stops d (reads_tree (p + n)) in
        ap (λ (i : ℕ). lowered_nodes tables query (push (placed_stops d (reads_tree i)))) one
        ∙ stop_over (d (suc (p + n))) (Read T (suc (p + n))) (suc (p + n))
        ∙ read_other T (suc (p + n)) (ne_eqb (suc (p + n)) p (λ e. absurd (omega arith)))
        ∙ (λ j. above n low j ++ read_nodes tables query (same j))
        ∙ append_assoc (range_nodes tables query 1 (p - 1) ++ scan ∷ []) (range_nodes tables query (p + 1) n) (read_nodes tables query (p + 1 + n))
        ∙ ap (λ l. range_nodes tables query 1 (p - 1) ++ scan ∷ [] ++ l) (sym (range_more tables query (p + 1) n))

  -- ---- the top
  placed_top : (T : Tree) (list : List Node) → lowered_nodes tables query (placed_stops d T) ≡ list → lowered_nodes tables query (placed_stops d (Project (top_of (stop_size query.stop) T))) ≡ list ++ sort ∷ [] ++ option_map_or (λ k. cut k ∷ []) (stop_size query.stop) [] ++ project ∷ []
  placed_top T list e = elim (stop_size query.stop) as (λ o. lowered_nodes tables query (placed_stops d (Project (top_of o T))) ≡ list ++ sort ∷ [] ++ option_map_or (λ k. cut k ∷ []) o [] ++ project ∷ []) [
    | None ↦ ap (λ l. l ++ sort ∷ [] ++ project ∷ []) e ∙ ap (λ l. l ++ project ∷ []) (sym (end_nil (list ++ sort ∷ [])))
    | Some k ↦ ap (λ l. l ++ sort ∷ [] ++ cut k ∷ [] ++ project ∷ []) e
  ]

  pushed_top : (p k : ℕ) (T : Tree) (list : List Node) → lowered_nodes tables query (pushed_tree p k (placed_stops d T)) ≡ list → lowered_nodes tables query (pushed_tree p k (placed_stops d (Project (top_of (stop_size query.stop) T)))) ≡ list ++ sort ∷ [] ++ option_map_or (λ k. cut k ∷ []) (stop_size query.stop) [] ++ project ∷ []
  pushed_top p k T list e = elim (stop_size query.stop) as (λ o. lowered_nodes tables query (pushed_tree p k (placed_stops d (Project (top_of o T)))) ≡ list ++ sort ∷ [] ++ option_map_or (λ k. cut k ∷ []) o [] ++ project ∷ []) [
    | None ↦ ap (λ l. l ++ sort ∷ [] ++ project ∷ []) e ∙ ap (λ l. l ++ project ∷ []) (sym (end_nil (list ++ sort ∷ [])))
    | Some j ↦ ap (λ l. l ++ sort ∷ [] ++ cut j ∷ [] ++ project ∷ []) e
  ]

  -- the nodes that run a candidate's tree are those of its plan
  pub lowered_candidate : (choice : Choice) → Has tables query choice → lowered_nodes tables query (candidate_tree tables query choice) ≡ plan_nodes tables query choice
  lowered_candidate Whole h = placed_top (reads_tree (length query.relations)) (range_nodes tables query 1 (length query.relations)) (reads (length query.relations))
  lowered_candidate (Stop p) h =
      let m = length query.relations in
      let k = unwrap_or (stop_size query.stop) 0 in
      let high = h.within in
      let e : p + (m - p) ≡ m = omega arith in
      pushed_top p k (reads_tree m) (choice_nodes tables query (Stop p)) (subst (λ (i : ℕ). lowered_nodes tables query (pushed_tree p k (placed_stops d (reads_tree i))) ≡ choice_nodes tables query (Stop p)) e (above p k (m - p) h.from_one))
