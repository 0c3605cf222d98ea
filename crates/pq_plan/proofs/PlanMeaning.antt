-- Over tables that keep the schema, the nodes of a plan mean the query's answer.
use Rattle.std.proofs.Common.{◌≡◌, Option, Some, None, ℕ, zero, suc, ◌+◌, ◌-◌, ◌<◌, ◌≤◌, true, false, cond, List, [], ◌∷◌, ◌++◌, length, get_or, filter, flat_map, fold, is_some, refl, sym, ap, ◌∙◌, subst, arith}
use Rattle.std.specs.Prelude.{unwrap_or}
use Rattle.std.specs.Option.{option_map_or}
use Rattle.std.specs.List.{AllByRecursion, range_with_len}
use Rattle.std.proofs.lemmas.List.Sums.{fold-append}
use Rattle.std.proofs.lemmas.List.Concat.{flat_map-append}
use Rattle.pq_base.specs.Columns.{is_column_within, set_of}
use Rattle.pq_base.specs.declared.value.Value.{Value}
use Rattle.pq_base.specs.declared.number.Choice.{Choice}
use Rattle.pq_base.specs.declared.number.Choice.TheVariants.{Whole, Stop}
use Rattle.pq_schema.specs.declared.table.Table.{Table}
use Rattle.pq_schema.specs.declared.table.Access.TheVariants.{Primary}
use Rattle.pq_schema.specs.declared.query.Query.{Query}
use Rattle.pq_schema.specs.Sound.{IsQuery}
use Rattle.pq_schema.specs.Sequences.{group_access}
use Rattle.pq_schema.specs.Tables.{is_lookup, least_limit, limit_place}
use Rattle.pq_schema.specs.Relations.{table_of, tied_set}
use Rattle.pq_schema.specs.Candidates.{no_limit, bound_at, are_bounded, stop_size}
use Rattle.pq_base.specs.Members.{In}
use Rattle.pq_plan.specs.Answer.{Question, in_order, first_past, stopped, whole, answered}
use Rattle.pq_plan.specs.Kept.{KeepsSchema}
use Rattle.pq_plan.specs.Meaning.{keeps, read}
use Rattle.pq_plan.specs.Nodes.{Node, lookup, limit_range, stop_scan, keep, sort, cut, project, read_nodes, range_nodes, stop_access, choice_nodes, plan_nodes}
use Rattle.pq_plan.specs.Plans.{HasChoice}
use Rattle.pq_plan.specs.Running.{ranged, apply, run}
use Rattle.pq_base.proofs.Members.{each_by_in, all_at, range_in}
use Rattle.pq_base.proofs.Sets.{within_members}
use Rattle.pq_plan.proofs.Limits.{limit_taken}
use Rattle.std.proofs.lemmas.Bool.{and_parts}
use Rattle.pq_plan.proofs.Laws.{Pushable}
use Rattle.pq_plan.proofs.Choices.{CanStop, Has, choice_has}
use Rattle.pq_plan.proofs.Combos.{reads, long, combos_are}
use Rattle.pq_plan.proofs.Matching.{range_filtered, lookup_filtered}
use Rattle.pq_plan.proofs.Bounds.{asked, named, keys, fixed_columns, keeps_over}
use Rattle.pq_plan.proofs.Pushing.{stopped_at, in_stopped, carried, again}
use Rattle.pq_plan.proofs.Totals.{pushable}

pub range_push : (a n : ℕ) → range_with_len a (suc n) ≡ range_with_len a n ++ (a + n) ∷ []
range_push a zero = let e : a ≡ a + 0 = omega arith in ap (λ m. m ∷ []) e
range_push a (suc n) = let e : a + 1 + n ≡ a + suc n = omega arith in ap (λ xs. a ∷ xs) (range_push (a + 1) n ∙ ap (λ m. range_with_len (a + 1) n ++ m ∷ []) e)

end_nil : {X : Type 0} (xs : List X) → xs ++ [] ≡ xs
end_nil [] = refl
end_nil (x ∷ xs) = ap (λ l. x ∷ l) (end_nil xs)

-- the nodes of one relation more
pub range_more : (tables : List Table) (query : Query) (a n : ℕ) → range_nodes tables query a (suc n) ≡ range_nodes tables query a n ++ read_nodes tables query (a + n)
range_more tables query a n =
    let f = read_nodes tables query in
    ap (flat_map f) (range_push a n) ∙ flat_map-append f (range_with_len a n) ((a + n) ∷ []) ∙ ap (λ l. range_nodes tables query a n ++ l) (end_nil (f (a + n)))

module _ (tables : List Table) (query : Query) (rows : List (ℕ × List Value)) (params : List Value) (sound : IsQuery tables query) (kept : KeepsSchema tables rows) (after : Option (List Value)) where
  abbrev q : Question
  q = asked tables query rows params sound kept

  abbrev Combinations : Type 0
  Combinations = List (List (List Value))

  abbrev step : Combinations → Node → Combinations
  step = apply q after

  abbrev tied : (i : ℕ) (cols : List ℕ) → is_column_within (set_of cols) (tied_set query i) ≡ true → (k : ℕ) → In k cols → In k (fixed_columns tables query rows params sound kept i)
  tied i cols h = within_members cols (fixed_columns tables query rows params sound kept i) h

  -- the nodes of a bounded relation read it
  read_step : (i : ℕ) → is_some (bound_at tables query i) ≡ true → (inputs : Combinations) → AllByRecursion (λ c. suc (length c) ≡ i) inputs → fold step inputs (read_nodes tables query i) ≡ read q i inputs
  read_step i bounded inputs l =
      let table = table_of tables query i in
      let set = tied_set query i in
      let of_limit = λ (place : ℕ). limit_range i (place + 1) (get_or table.limits place no_limit).n (unwrap_or (group_access table (set_of (get_or table.limits place no_limit).cols)) Primary) ∷ keep i ∷ [] in
      elim (is_lookup table set) as (λ b. is_lookup table set ≡ b → fold step inputs (cond b (lookup i ∷ keep i ∷ []) (option_map_or of_limit (limit_place table set) [])) ≡ read q i inputs) [
        | true ↦ λ is. lookup_filtered q (named tables query rows params sound kept) i (keys tables query rows params sound kept i) (tied i table.key is) inputs l
        | false ↦ λ is.
            let t = limit_taken table set is bounded in
            let same : t.0 + 1 - 1 ≡ t.0 = omega arith in
            ap (λ (o : Option ℕ). fold step inputs (option_map_or of_limit o [])) t.1.taken
            ∙ ap (λ (place : ℕ). filter (keeps q i) (ranged q i (get_or table.limits place no_limit).cols inputs)) same
            ∙ range_filtered q (named tables query rows params sound kept) i (get_or table.limits t.0 no_limit).cols (tied i (get_or table.limits t.0 no_limit).cols t.1.applied) inputs l
      ] refl

  -- the nodes of the first relations read their combinations
  reads_run : (i : ℕ) → ((j : ℕ) → 1 ≤ j → j ≤ i → is_some (bound_at tables query j) ≡ true) → fold step ([] ∷ []) (range_nodes tables query 1 i) ≡ reads q i
  reads_run zero bounded = refl
  reads_run (suc i) bounded =
      ap (fold step ([] ∷ [])) (range_more tables query 1 i)
      ∙ fold-append step ([] ∷ []) (range_nodes tables query 1 i) (read_nodes tables query (1 + i))
      ∙ ap (λ cs. fold step cs (read_nodes tables query (1 + i))) (reads_run i (λ j low high. bounded j low (omega arith)))
      ∙ ap (λ (n : ℕ). fold step (reads q i) (read_nodes tables query n)) next
      ∙ read_step (suc i) (bounded (suc i) (omega arith) (omega arith)) (reads q i) (each_by_in _ (reads q i) (λ c here. ap suc (long q i c here)))
    where
      next : 1 + i ≡ suc i
      next = omega arith

  each_bounded : (count : ℕ) → are_bounded tables query count ≡ true → (j : ℕ) → 1 ≤ j → j ≤ count → is_some (bound_at tables query j) ≡ true
  each_bounded count h j low high = all_at (λ rel. is_some (bound_at tables query rel)) (range_with_len 1 count) h j (range_in j 1 count low (omega arith))

  -- ---- the nodes above
  top_nodes : (nodes : List Node) (cs : Combinations) → fold step ([] ∷ []) nodes ≡ cs → run q after (nodes ++ sort ∷ [] ++ option_map_or (λ k. cut k ∷ []) (stop_size query.stop) [] ++ project ∷ []) ≡ stopped q (stop_size query.stop) after (in_order q cs)
  top_nodes nodes cs e =
      fold-append step ([] ∷ []) ((nodes ++ sort ∷ []) ++ option_map_or (λ k. cut k ∷ []) (stop_size query.stop) []) (project ∷ [])
      ∙ fold-append step ([] ∷ []) (nodes ++ sort ∷ []) (option_map_or (λ k. cut k ∷ []) (stop_size query.stop) [])
      ∙ ap (λ (l : Combinations). fold step l (option_map_or (λ k. cut k ∷ []) (stop_size query.stop) [])) (fold-append step ([] ∷ []) nodes (sort ∷ []) ∙ ap (in_order q) e)
      ∙ elim (stop_size query.stop) as (λ o. fold step (in_order q cs) (option_map_or (λ k. cut k ∷ []) o []) ≡ stopped q o after (in_order q cs)) [ None ↦ refl | Some k ↦ refl ]

  whole_plan : are_bounded tables query (length query.relations) ≡ true → run q after (plan_nodes tables query Whole) ≡ answered q after
  whole_plan bounded =
      let m = length query.relations in
      top_nodes (range_nodes tables query 1 m) (reads q m) (reads_run m (each_bounded m bounded))
      ∙ ap (λ cs. stopped q (stop_size query.stop) after (in_order q cs)) (sym (combos_are q (keeps_over tables query rows params sound kept).predicates))

  module _ (p : ℕ) (can : CanStop tables query p) where
    abbrev push : Pushable q p
    push = pushable tables query rows params sound kept p can.from_one can.within can.can

    abbrev at : ℕ → Combinations
    at i = stopped_at q (bound_at tables query) (keeps_over tables query rows params sound kept) p can.size push after i

    front : are_bounded tables query (p - 1) ≡ true
    front = (and_parts _ _ (and_parts _ _ (and_parts _ _ (and_parts _ _ can.can).0).0).0).0

    -- each relation after the stop is a lookup
    later_bounded : (i : ℕ) → p < i → i ≤ length query.relations → is_some (bound_at tables query i) ≡ true
    later_bounded i above inside = ap (λ b. is_some (cond b (Some 1) (least_limit (table_of tables query i) (tied_set query i)))) (push.totals i above inside).lookup

    after_stop : (n : ℕ) → p + n ≤ length query.relations → fold step (at p) (range_nodes tables query (p + 1) n) ≡ at (p + n)
    after_stop zero h = let e : p ≡ p + 0 = omega arith in ap at e
    after_stop (suc n) h =
        let low = can.from_one in
        let next : p + 1 + n ≡ suc (p + n) = omega arith in
        let same : suc (p + n) ≡ p + suc n = omega arith in
        ap (fold step (at p)) (range_more tables query (p + 1) n)
        ∙ fold-append step (at p) (range_nodes tables query (p + 1) n) (read_nodes tables query (p + 1 + n))
        ∙ ap (λ cs. fold step cs (read_nodes tables query (p + 1 + n))) (after_stop n (omega arith))
        ∙ ap (λ (i : ℕ). fold step (at (p + n)) (read_nodes tables query i)) next
        ∙ read_step (suc (p + n)) (later_bounded (suc (p + n)) (omega arith) (omega arith)) (at (p + n)) (each_by_in _ (at (p + n)) (λ c here. ap suc (long q (p + n) c (in_stopped q (bound_at tables query) (keeps_over tables query rows params sound kept) p can.size push after (p + n) c here))))
        ∙ carried q (bound_at tables query) (keeps_over tables query rows params sound kept) p can.size push after (p + n) (omega arith) (omega arith)
        ∙ ap at same

    below_run : fold step ([] ∷ []) (range_nodes tables query 1 (p - 1)) ≡ reads q (p - 1)
    below_run = reads_run (p - 1) (each_bounded (p - 1) front)

    scanned : first_past q after can.size (in_order q (read q p (reads q (p - 1)))) ≡ at p
    scanned =
        let low = can.from_one in
        let e : suc (p - 1) ≡ p = omega arith in
        subst (λ (i : ℕ). first_past q after can.size (in_order q (read q i (reads q (p - 1)))) ≡ at i) e refl

    choice_run : fold step ([] ∷ []) (choice_nodes tables query (Stop p)) ≡ at (length query.relations)
    choice_run =
        let m = length query.relations in
        let low = can.from_one in
        let high = can.within in
        let e : p + (m - p) ≡ m = omega arith in
        let scan = stop_scan p (unwrap_or (stop_size query.stop) 0) (stop_access tables query p) in
        let k : unwrap_or (stop_size query.stop) 0 ≡ can.size = ap (λ (o : Option ℕ). unwrap_or o 0) can.stop in
        fold-append step ([] ∷ []) (range_nodes tables query 1 (p - 1) ++ scan ∷ []) (range_nodes tables query (p + 1) (m - p))
        ∙ ap (λ (l : Combinations). fold step l (range_nodes tables query (p + 1) (m - p)))
        (fold-append step ([] ∷ []) (range_nodes tables query 1 (p - 1)) (scan ∷ [])
        ∙ ap (λ (l : Combinations). first_past q after (unwrap_or (stop_size query.stop) 0) (in_order q (read q p l))) below_run
        ∙ ap (λ (n : ℕ). first_past q after n (in_order q (read q p (reads q (p - 1))))) k
        ∙ scanned)
        ∙ after_stop (m - p) (omega arith)
        ∙ ap at e

    stop_plan : run q after (plan_nodes tables query (Stop p)) ≡ answered q after
    stop_plan =
        let m = length query.relations in
        top_nodes (choice_nodes tables query (Stop p)) (at m) choice_run
        ∙ ap (λ (o : Option ℕ). stopped q o after (in_order q (at m))) can.stop
        ∙ again q (bound_at tables query) (keeps_over tables query rows params sound kept) p can.size push after (reads q m)
        ∙ ap (λ cs. first_past q after can.size (in_order q cs)) (sym (combos_are q (keeps_over tables query rows params sound kept).predicates))
        ∙ sym (ap (λ (o : Option ℕ). stopped q o after (whole q)) can.stop)

  -- the nodes of a plan mean the answer
  pub plan_answers : (choice : Choice) → HasChoice tables query choice → run q after (plan_nodes tables query choice) ≡ answered q after
  plan_answers choice h = elim choice as (λ c. Has tables query c → run q after (plan_nodes tables query c) ≡ answered q after) [
    | Whole ↦ whole_plan
    | Stop p ↦ stop_plan p
  ] (choice_has tables query choice h)
