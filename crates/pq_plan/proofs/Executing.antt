-- Whatever order the ranges give, running a plan gives the answer.
use Rattle.std.proofs.Common.{◌≡◌, Option, Some, None, ℕ, zero, suc, ◌+◌, ◌-◌, ◌≤◌, Bool, true, false, cond, List, [], ◌∷◌, ◌++◌, length, get_or, map, filter, is_some, IsPermutation, refl, sym, ap, ◌∙◌, subst, arith}
use Rattle.std.specs.Prelude.{unwrap_or}
use Rattle.std.specs.Option.{option_map_or}
use Rattle.std.specs.Ordering.{eq_by_cmp}
use Rattle.std.specs.List.{AllByRecursion, range_with_len}
use Rattle.std.proofs.lemmas.Bool.{and_parts}
use Rattle.std.proofs.lemmas.List.{same_from_push}
use Rattle.std.proofs.lemmas.List.Sorted.{IsPermutation-sym}
use Rattle.pq_base.specs.Columns.{is_column_within, set_of}
use Rattle.pq_base.specs.declared.value.Value.{Value}
use Rattle.pq_base.specs.declared.number.Choice.{Choice}
use Rattle.pq_base.specs.declared.number.Choice.TheVariants.{Whole, Stop}
use Rattle.pq_schema.specs.declared.table.Table.{Table}
use Rattle.pq_schema.specs.declared.table.Access.TheVariants.{Primary}
use Rattle.pq_schema.specs.declared.query.Query.{Query}
use Rattle.pq_schema.specs.Sound.{IsQuery}
use Rattle.pq_schema.specs.Sequences.{group_access}
use Rattle.pq_schema.specs.Tables.{is_lookup, limit_place}
use Rattle.pq_schema.specs.Relations.{table_of, tied_set}
use Rattle.pq_schema.specs.Candidates.{no_limit, bound_at, are_bounded, stop_size}
use Rattle.pq_base.specs.Members.{In, Apart}
use Rattle.pq_plan.specs.Answer.{Question, rows_at, in_order, first_past, stopped, whole, answered}
use Rattle.pq_plan.specs.Kept.{row_cmp, cells, KeepsSchema}
use Rattle.pq_plan.specs.Meaning.{keeps, key_of, read, combo_cmp}
use Rattle.pq_plan.specs.Nodes.{Node, lookup, limit_range, stop_scan, keep, sort, cut, project, read_nodes, range_nodes, stop_access, choice_nodes, plan_nodes}
use Rattle.pq_plan.specs.Plans.{HasChoice}
use Rattle.pq_plan.specs.Running.{matching, is_match, ranged}
use Rattle.pq_plan.specs.Executing.{Gives}
use Rattle.pq_base.proofs.Members.{each_in, each_by_in, in_filter, filter_in, in_map, in_flat_map, all_at, range_in}
use Rattle.pq_base.proofs.Sets.{within_members}
use Rattle.pq_plan.proofs.ValueOrder.{row_total, combo_total, combo_only}
use Rattle.pq_plan.proofs.Apart.{apart_both, apart_filter, differs, differing}
use Rattle.pq_plan.proofs.Orders.{apart_permuted, in_permuted}
use Rattle.pq_plan.proofs.Laws.{Keeps, Pushable}
use Rattle.pq_plan.proofs.Combos.{reads, long, combos_are}
use Rattle.pq_plan.proofs.Stops.{Distinct}
use Rattle.pq_plan.proofs.Limits.{limit_taken}
use Rattle.pq_plan.proofs.Choices.{CanStop, Has, choice_has}
use Rattle.pq_plan.proofs.Matching.{range_filtered, lookup_filtered}
use Rattle.pq_plan.proofs.Bounds.{asked, named, keys, fixed_columns, keeps_over}
use Rattle.pq_plan.proofs.Pushing.{stopped_at, in_stopped, carried, again}
use Rattle.pq_plan.proofs.Unique.{Same, same_read, one_sorted}
use Rattle.pq_plan.proofs.Totals.{pushable}
use Rattle.pq_plan.proofs.PlanMeaning.{range_more}

-- what several nodes give goes through what the first of them give
gives_split : (q : Question) (after : Option (List Value)) (xs ys : List Node) (inputs found : List (List (List Value))) → Gives q after inputs (xs ++ ys) found → (made : List (List (List Value))) × Gives q after inputs xs made × Gives q after made ys found
gives_split q after [] ys inputs found h = (inputs, refl, h)
gives_split q after (x ∷ xs) ys inputs found h = let rest = gives_split q after xs ys h.0 found h.2 in (rest.0, (h.0, h.1, rest.1), rest.2)

module _ (tables : List Table) (query : Query) (rows : List (ℕ × List Value)) (params : List Value) (sound : IsQuery tables query) (kept : KeepsSchema tables rows) (after : Option (List Value)) where
  abbrev q : Question
  q = asked tables query rows params sound kept

  abbrev Combinations : Type 0
  Combinations = List (List (List Value))

  abbrev d : ℕ → Option ℕ
  d = bound_at tables query

  abbrev premises : Keeps q d
  premises = keeps_over tables query rows params sound kept

  abbrev SameAs : ℕ → Combinations → Type 0
  SameAs = Same q d premises

  -- what a range gives is distinct
  distinct_ranged : (i : ℕ) (columns : List ℕ) (inputs : Combinations) → Distinct q inputs → Distinct q (ranged q i columns inputs)
  distinct_ranged i columns [] h = tt
  distinct_ranged i columns (c ∷ inputs) h =
      let M = matching q i columns in
      apart_both combo_cmp (λ c. c) (map (λ r. c ++ r ∷ []) (M c)) (ranged q i columns inputs)
      (each (M c) (apart_filter row_cmp (cells (key_of q i)) (is_match q i columns c) (rows_at q i) (keys tables query rows params sound kept i)))
      (distinct_ranged i columns inputs h.1)
      (each_by_in _ (map (λ r. c ++ r ∷ []) (M c)) (λ x here. each_by_in _ (ranged q i columns inputs) (λ y there.
      let a = in_map (λ (r : List Value). c ++ r ∷ []) x (M c) here in
      let b = in_flat_map (λ c. map (λ r. c ++ r ∷ []) (M c)) y inputs there in
      let e = in_map (λ (r : List Value). b.0 ++ r ∷ []) y (M b.0) b.2 in
      differing combo_cmp combo_total combo_only x y (λ same.
      differs combo_cmp combo_total c b.0 (each_in (λ z. eq_by_cmp combo_cmp c z ≡ false) inputs h.0 b.0 b.1) (same_from_push c b.0 a.0 e.0 (a.2 ∙ same ∙ sym e.2)).0))))
    where
      one : (r : List Value) (rs : List (List Value)) → AllByRecursion (λ s. eq_by_cmp row_cmp (cells (key_of q i) r) (cells (key_of q i) s) ≡ false) rs → AllByRecursion (λ x. eq_by_cmp combo_cmp (c ++ r ∷ []) x ≡ false) (map (λ s. c ++ s ∷ []) rs)
      one r [] h = tt
      one r (s ∷ rs) h = (differing combo_cmp combo_total combo_only (c ++ r ∷ []) (c ++ s ∷ []) (λ e. differs row_cmp row_total (cells (key_of q i) r) (cells (key_of q i) s) h.0 (ap (cells (key_of q i)) (same_from_push c c r s e).1)), one r rs h.1)

      each : (rs : List (List Value)) → Apart row_cmp (cells (key_of q i)) rs → Distinct q (map (λ s. c ++ s ∷ []) rs)
      each [] h = tt
      each (r ∷ rs) h = (one r rs h.0, each rs h.1)

  abbrev tied : (i : ℕ) (cols : List ℕ) → is_column_within (set_of cols) (tied_set query i) ≡ true → (k : ℕ) → In k cols → In k (fixed_columns tables query rows params sound kept i)
  tied i cols h = within_members cols (fixed_columns tables query rows params sound kept i) h

  abbrev of_limit : ℕ → ℕ → List Node
  of_limit i place =
      let table = table_of tables query i in
      let limit = get_or table.limits place no_limit in
      limit_range i (place + 1) limit.n (unwrap_or (group_access table (set_of limit.cols)) Primary) ∷ keep i ∷ []

  lengths : (i : ℕ) (inputs : Combinations) → SameAs i inputs → AllByRecursion (λ c. suc (length c) ≡ suc i) inputs
  lengths i inputs same = each_by_in _ inputs (λ c h. ap suc (long q i c (same.sound c h)))

  -- a filtered range in any order has what the read has
  range_same : (i : ℕ) (columns : List ℕ) (inputs made : Combinations) → SameAs i inputs → filter (keeps q (suc i)) (ranged q (suc i) columns inputs) ≡ read q (suc i) inputs → IsPermutation (ranged q (suc i) columns inputs) made → SameAs (suc i) (filter (keeps q (suc i)) made)
  range_same i columns inputs made same e p =
      let R = ranged q (suc i) columns inputs in
      let full = same_read q d premises i inputs same in
      record {
        distinct = apart_filter combo_cmp (λ c. c) (keeps q (suc i)) made (apart_permuted combo_cmp (λ c. c) combo_total combo_only R made p (distinct_ranged (suc i) columns inputs same.distinct));
        sound = λ c h. let f = in_filter (keeps q (suc i)) c made h in full.sound c (subst (In c) e (filter_in (keeps q (suc i)) c R (in_permuted combo_cmp (λ c. c) c made R (IsPermutation-sym R made p) f.0) f.1));
        all = λ c h. let f = in_filter (keeps q (suc i)) c R (subst (In c) (sym e) (full.all c h)) in filter_in (keeps q (suc i)) c made (in_permuted combo_cmp (λ c. c) c R made p f.0) f.1;
      }

  -- the nodes of one relation more
  run_read : (i : ℕ) → is_some (bound_at tables query (suc i)) ≡ true → (inputs found : Combinations) → SameAs i inputs → Gives q after inputs (read_nodes tables query (suc i)) found → SameAs (suc i) found
  run_read i bounded inputs found same run =
      let table = table_of tables query (suc i) in
      let set = tied_set query (suc i) in
      let l = lengths i inputs same in
      elim (is_lookup table set) as (λ b. is_lookup table set ≡ b → Gives q after inputs (cond b (lookup (suc i) ∷ keep (suc i) ∷ []) (option_map_or (of_limit (suc i)) (limit_place table set) [])) found → SameAs (suc i) found) [
        | true ↦ λ is run.
            let e : found ≡ read q (suc i) inputs = run.2.2 ∙ run.2.1 ∙ ap (filter (keeps q (suc i))) run.1 ∙ lookup_filtered q (named tables query rows params sound kept) (suc i) (keys tables query rows params sound kept (suc i)) (tied (suc i) table.key is) inputs l in
            subst (SameAs (suc i)) (sym e) (same_read q d premises i inputs same)
        | false ↦ λ is run.
            let t = limit_taken table set is bounded in
            let limit = get_or table.limits t.0 no_limit in
            let place : t.0 + 1 - 1 ≡ t.0 = omega arith in
            let run' : Gives q after inputs (of_limit (suc i) t.0) found = subst (λ (o : Option ℕ). Gives q after inputs (option_map_or (of_limit (suc i)) o []) found) t.1.taken run in
            let p : IsPermutation (ranged q (suc i) limit.cols inputs) run'.0 = subst (λ (n : ℕ). IsPermutation (ranged q (suc i) (get_or table.limits n no_limit).cols inputs) run'.0) place run'.1 in
            let e = range_filtered q (named tables query rows params sound kept) (suc i) limit.cols (tied (suc i) limit.cols t.1.applied) inputs l in
            subst (SameAs (suc i)) (sym (run'.2.2 ∙ run'.2.1)) (range_same i limit.cols inputs run'.0 same e p)
      ] refl run

  start : (found : Combinations) → found ≡ [] ∷ [] → SameAs zero found
  start found e = subst (SameAs zero) (sym e) (record { distinct = (tt, tt); sound = λ c h. h; all = λ c h. h })

  -- the nodes of the first relations give their combinations, in some order
  run_reads : (i : ℕ) → ((j : ℕ) → 1 ≤ j → j ≤ i → is_some (bound_at tables query j) ≡ true) → (found : Combinations) → Gives q after ([] ∷ []) (range_nodes tables query 1 i) found → SameAs i found
  run_reads zero bounded found run = start found run
  run_reads (suc i) bounded found run =
      let next : 1 + i ≡ suc i = omega arith in
      let s = gives_split q after (range_nodes tables query 1 i) (read_nodes tables query (1 + i)) ([] ∷ []) found (subst (λ list. Gives q after ([] ∷ []) list found) (range_more tables query 1 i) run) in
      run_read i (bounded (suc i) (omega arith) (omega arith)) s.0 found (run_reads i (λ j low high. bounded j low (omega arith)) s.0 s.1) (subst (λ (n : ℕ). Gives q after s.0 (read_nodes tables query n) found) next s.2)

  each_bounded : (count : ℕ) → are_bounded tables query count ≡ true → (j : ℕ) → 1 ≤ j → j ≤ count → is_some (bound_at tables query j) ≡ true
  each_bounded count h j low high = all_at (λ rel. is_some (bound_at tables query rel)) (range_with_len 1 count) h j (range_in j 1 count low (omega arith))

  -- the nodes above
  run_top : (list : List Node) (found : Combinations) → Gives q after ([] ∷ []) (list ++ sort ∷ [] ++ option_map_or (λ k. cut k ∷ []) (stop_size query.stop) [] ++ project ∷ []) found → (made : Combinations) × Gives q after ([] ∷ []) list made × (found ≡ stopped q (stop_size query.stop) after (in_order q made))
  run_top list found run =
      let top = option_map_or (λ k. cut k ∷ []) (stop_size query.stop) [] in
      let a = gives_split q after (list ++ sort ∷ [] ++ top) (project ∷ []) ([] ∷ []) found run in
      let b = gives_split q after (list ++ sort ∷ []) top ([] ∷ []) a.0 a.1 in
      let c = gives_split q after list (sort ∷ []) ([] ∷ []) b.0 b.1 in
      let sorted : b.0 ≡ in_order q c.0 = c.2.2 ∙ c.2.1 in
      let cut_is : a.0 ≡ stopped q (stop_size query.stop) after b.0 = elim (stop_size query.stop) as (λ o. Gives q after b.0 (option_map_or (λ k. cut k ∷ []) o []) a.0 → a.0 ≡ stopped q o after b.0) [ None ↦ λ e. e | Some k ↦ λ e. e.2 ∙ e.1 ] b.2 in
      (c.0, c.1, a.2.2 ∙ a.2.1 ∙ cut_is ∙ ap (stopped q (stop_size query.stop) after) sorted)

  whole_run : are_bounded tables query (length query.relations) ≡ true → (found : Combinations) → Gives q after ([] ∷ []) (plan_nodes tables query Whole) found → found ≡ answered q after
  whole_run bounded found run =
      let m = length query.relations in
      let t = run_top (range_nodes tables query 1 m) found run in
      t.2
      ∙ ap (stopped q (stop_size query.stop) after) (one_sorted q d premises m (omega arith) t.0 (run_reads m (each_bounded m bounded) t.0 t.1) ∙ ap (in_order q) (sym (combos_are q premises.predicates)))

  module _ (p : ℕ) (can : CanStop tables query p) where
    abbrev push : Pushable q p
    push = pushable tables query rows params sound kept p can.from_one can.within can.can

    abbrev at : ℕ → Combinations
    at i = stopped_at q d premises p can.size push after i

    front : are_bounded tables query (p - 1) ≡ true
    front = (and_parts _ _ (and_parts _ _ (and_parts _ _ (and_parts _ _ can.can).0).0).0).0

    -- a lookup of what was stopped is what is stopped after it
    run_lookup : (i : ℕ) → p ≤ i → suc i ≤ length query.relations → (found : Combinations) → Gives q after (at i) (read_nodes tables query (suc i)) found → found ≡ at (suc i)
    run_lookup i a b found run =
        let is = (push.totals (suc i) (omega arith) b).lookup in
        let table = table_of tables query (suc i) in
        let run' : Gives q after (at i) (lookup (suc i) ∷ keep (suc i) ∷ []) found = subst (λ (b : Bool). Gives q after (at i) (cond b (lookup (suc i) ∷ keep (suc i) ∷ []) (option_map_or (of_limit (suc i)) (limit_place table (tied_set query (suc i))) [])) found) is run in
        let l = each_by_in _ (at i) (λ c h. ap suc (long q i c (in_stopped q d premises p can.size push after i c h))) in
        run'.2.2 ∙ run'.2.1 ∙ ap (filter (keeps q (suc i))) run'.1
        ∙ lookup_filtered q (named tables query rows params sound kept) (suc i) (keys tables query rows params sound kept (suc i)) (tied (suc i) table.key is) (at i) l
        ∙ carried q d premises p can.size push after i a b

    run_after : (n : ℕ) → p + n ≤ length query.relations → (found : Combinations) → Gives q after (at p) (range_nodes tables query (p + 1) n) found → found ≡ at (p + n)
    run_after zero h found run = let e : p ≡ p + 0 = omega arith in run ∙ ap at e
    run_after (suc n) h found run =
        let next : p + 1 + n ≡ suc (p + n) = omega arith in
        let same : suc (p + n) ≡ p + suc n = omega arith in
        let s = gives_split q after (range_nodes tables query (p + 1) n) (read_nodes tables query (p + 1 + n)) (at p) found (subst (λ list. Gives q after (at p) list found) (range_more tables query (p + 1) n) run) in
        let below = run_after n (omega arith) s.0 s.1 in
        let last : Gives q after (at (p + n)) (read_nodes tables query (suc (p + n))) found = subst (λ (cs : Combinations). Gives q after cs (read_nodes tables query (suc (p + n))) found) below (subst (λ (i : ℕ). Gives q after s.0 (read_nodes tables query i) found) next s.2) in
        run_lookup (p + n) (omega arith) (omega arith) found last ∙ ap at same

    stop_run : (found : Combinations) → Gives q after ([] ∷ []) (plan_nodes tables query (Stop p)) found → found ≡ answered q after
    stop_run found run =
        let m = length query.relations in
        let low = can.from_one in
        let high = can.within in
        let scan = stop_scan p (unwrap_or (stop_size query.stop) 0) (stop_access tables query p) in
        let k : unwrap_or (stop_size query.stop) 0 ≡ can.size = ap (λ (o : Option ℕ). unwrap_or o 0) can.stop in
        let one : suc (p - 1) ≡ p = omega arith in
        let end : p + (m - p) ≡ m = omega arith in
        let t = run_top (choice_nodes tables query (Stop p)) found run in
        let a = gives_split q after (range_nodes tables query 1 (p - 1) ++ scan ∷ []) (range_nodes tables query (p + 1) (m - p)) ([] ∷ []) t.0 t.1 in
        let b = gives_split q after (range_nodes tables query 1 (p - 1)) (scan ∷ []) ([] ∷ []) a.0 a.1 in
        let inputs = run_reads (p - 1) (each_bounded (p - 1) front) b.0 b.1 in
        let read_sorted : in_order q (read q (suc (p - 1)) b.0) ≡ in_order q (reads q (suc (p - 1))) = one_sorted q d premises (suc (p - 1)) (omega arith) (read q (suc (p - 1)) b.0) (same_read q d premises (p - 1) b.0 inputs) in
        let sorted : in_order q (read q p b.0) ≡ in_order q (reads q p) = subst (λ (i : ℕ). in_order q (read q i b.0) ≡ in_order q (reads q i)) one read_sorted in
        let scanned : a.0 ≡ at p = b.2.2 ∙ b.2.1 ∙ (λ j. first_past q after (k j) (sorted j)) in
        let all : t.0 ≡ at m = run_after (m - p) (omega arith) t.0 (subst (λ (cs : Combinations). Gives q after cs (range_nodes tables query (p + 1) (m - p)) t.0) scanned a.2) ∙ ap at end in
        t.2
        ∙ ap (λ cs. stopped q (stop_size query.stop) after (in_order q cs)) all
        ∙ ap (λ (o : Option ℕ). stopped q o after (in_order q (at m))) can.stop
        ∙ again q d premises p can.size push after (reads q m)
        ∙ ap (λ cs. first_past q after can.size (in_order q cs)) (sym (combos_are q premises.predicates))
        ∙ sym (ap (λ (o : Option ℕ). stopped q o after (whole q)) can.stop)

  -- running the nodes of a plan gives the answer
  pub run_answers : (choice : Choice) → HasChoice tables query choice → (found : Combinations) → Gives q after ([] ∷ []) (plan_nodes tables query choice) found → found ≡ answered q after
  run_answers choice h found run = elim choice as (λ c. Has tables query c → Gives q after ([] ∷ []) (plan_nodes tables query c) found → found ≡ answered q after) [
    | Whole ↦ λ has run. whole_run has found run
    | Stop p ↦ λ has run. stop_run p has found run
  ] (choice_has tables query choice h) run
