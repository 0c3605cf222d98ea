-- A tree with the nodes of a plan reads each relation once at most, and its numbers are small.
use Rattle.std.proofs.Common.{◌≡◌, ◌≢◌, Option, Some, None, ℕ, zero, suc, ◌+◌, ◌-◌, ◌≤◌, true, false, cond, List, [], ◌∷◌, ◌++◌, length, get_or, flat_map, reverse, All, IfSome, refl, sym, ap, ◌∙◌, subst, arith}
use Rattle.std.specs.Prelude.{unwrap_or}
use Rattle.std.specs.Option.{option_map_or}
use Rattle.std.specs.List.{AllByRecursion}
use Rattle.std.proofs.lemmas.List.{reverse-append}
use Rattle.std.proofs.lemmas.List.Elements.{All-cons, All-nil, All-head, All-tail, All-append}
use Rattle.std.proofs.lemmas.List.Concat.{flat_map-append}
use Rattle.pq_base.specs.Columns.{set_of}
use Rattle.pq_base.specs.declared.number.Choice.{Choice}
use Rattle.pq_base.specs.declared.number.Choice.TheVariants.{Whole, Stop}
use Rattle.pq_schema.specs.declared.table.Table.{Table}
use Rattle.pq_schema.specs.declared.table.Limit.{Limit}
use Rattle.pq_schema.specs.declared.table.Access.TheVariants.{Primary}
use Rattle.pq_schema.specs.declared.query.Query.{Query}
use Rattle.pq_schema.specs.Sound.{IsTable, IsQuery}
use Rattle.pq_schema.specs.Sequences.{group_access}
use Rattle.pq_schema.specs.Tables.{is_lookup, limit_place, no_table}
use Rattle.pq_schema.specs.Relations.{table_of, relation_at, tied_set}
use Rattle.pq_schema.specs.Candidates.{no_limit, stop_size}
use Rattle.pq_plan.specs.declared.physical.Physical.{Physical}
use Rattle.pq_plan.specs.declared.physical.Physical.TheVariants as node
use Rattle.pq_plan.specs.Cost.{relations_read, AreDistinct, IsInLimits, IsPlanTree}
use Rattle.pq_plan.specs.Nodes.{Node, lookup, limit_range, stop_scan, keep, sort, cut, project, nodes, read_nodes, range_nodes, stop_access, choice_nodes, plan_nodes}
use Rattle.pq_base.proofs.Members.{all_member, at_in}
use Rattle.pq_plan.proofs.Choices.{Has}
use Rattle.pq_plan.proofs.Bounds.{number_at}
use Rattle.pq_plan.proofs.PlanMeaning.{range_more}
use Rattle.pq_plan.proofs.PlanCost.{no_rows_keep}

-- ---- the relations of nodes
abbrev relation : Node → List ℕ
relation (lookup rel) = rel ∷ []
relation (limit_range rel limit n access) = rel ∷ []
relation (stop_scan rel k access) = rel ∷ []
relation (keep rel) = []
relation sort = []
relation (cut k) = []
relation project = []

abbrev relations : List Node → List ℕ
relations list = flat_map relation list

last_one : (list : List Node) (node : Node) → reverse (relations (list ++ node ∷ [])) ≡ reverse (relation node ++ []) ++ reverse (relations list)
last_one list node = ap reverse (flat_map-append relation list (node ∷ [])) ∙ reverse-append (relations list) (relation node ++ [])

relations_nodes : (t : Physical) → relations_read t ≡ reverse (relations (nodes t))
relations_nodes node.Unit = refl
relations_nodes (node.Lookup' p input rel) = ap (λ l. rel ∷ l) (relations_nodes input) ∙ sym (last_one (nodes input) (lookup rel))
relations_nodes (node.LimitRange' p input rel limit n access) = ap (λ l. rel ∷ l) (relations_nodes input) ∙ sym (last_one (nodes input) (limit_range rel limit n access))
relations_nodes (node.StopScan' p input rel k access) = ap (λ l. rel ∷ l) (relations_nodes input) ∙ sym (last_one (nodes input) (stop_scan rel k access))
relations_nodes (node.Filter' p input rel) = relations_nodes input ∙ sym (last_one (nodes input) (keep rel))
relations_nodes (node.Sort' p input) = relations_nodes input ∙ sym (last_one (nodes input) sort)
relations_nodes (node.Cut' p input k) = relations_nodes input ∙ sym (last_one (nodes input) (cut k))
relations_nodes (node.Project' p input) = relations_nodes input ∙ sym (last_one (nodes input) project)

-- ---- numbers that rise, from one on and below another
abbrev Rises : ℕ → List ℕ → ℕ → Type 0
Rises a [] b = a ≤ b
Rises a (x ∷ xs) b = (a ≤ x) × Rises (suc x) xs b

rises_more : (a b c : ℕ) (xs ys : List ℕ) → Rises a xs b → Rises b ys c → Rises a (xs ++ ys) c
rises_more a b c [] ys h g = lower a b ys h g
  where
    lower : (a b : ℕ) (ys : List ℕ) → a ≤ b → Rises b ys c → Rises a ys c
    lower a b [] le g = omega arith
    lower a b (y ∷ ys) le g = let first = g.0 in (omega arith, g.1)
rises_more a b c (x ∷ xs) ys h g = (h.0, rises_more (suc x) b c xs ys h.1 g)

rises_from : (a b : ℕ) (xs : List ℕ) → Rises a xs b → All (λ x. a ≤ x) xs
rises_from a b [] h = All-nil (λ x. a ≤ x)
rises_from a b (x ∷ xs) h = All-cons (λ y. a ≤ y) x xs h.0 (weaker xs (rises_from (suc x) b xs h.1))
  where
    weaker : (ys : List ℕ) → All (λ y. suc x ≤ y) ys → All (λ y. a ≤ y) ys
    weaker [] g = All-nil (λ y. a ≤ y)
    weaker (y ∷ ys) g = let first : suc x ≤ y = All-head (λ y. suc x ≤ y) y ys g in let low = h.0 in All-cons (λ y. a ≤ y) y ys (omega arith) (weaker ys (All-tail (λ y. suc x ≤ y) y ys g))

rises_below : (a b : ℕ) (xs : List ℕ) → Rises a xs b → All (λ x. suc x ≤ b) xs
rises_below a b [] h = All-nil (λ x. suc x ≤ b)
rises_below a b (x ∷ xs) h = All-cons (λ y. suc y ≤ b) x xs (upto (suc x) xs h.1) (rises_below (suc x) b xs h.1)
  where
    upto : (a : ℕ) (xs : List ℕ) → Rises a xs b → a ≤ b
    upto a [] h = h
    upto a (y ∷ ys) h = let rest = upto (suc y) ys h.1 in let low = h.0 in omega arith

apart_push : (xs : List ℕ) (x : ℕ) → AreDistinct xs → All (λ y. y ≢ x) xs → AreDistinct (xs ++ x ∷ [])
apart_push [] x h none = (All-nil (λ y. y ≢ x), tt)
apart_push (y ∷ ys) x h none =
    let first : y ≢ x = All-head (λ z. z ≢ x) y ys none in
    (All-append (λ z. z ≢ y) ys (x ∷ []) h.0 (All-cons (λ z. z ≢ y) x [] (λ e. first (sym e)) (All-nil (λ z. z ≢ y))), apart_push ys x h.1 (All-tail (λ z. z ≢ x) y ys none))

all_reverse : (P : ℕ → Type 0) (xs : List ℕ) → All P xs → All P (reverse xs)
all_reverse P [] h = h
all_reverse P (x ∷ xs) h = subst (All P) (sym (reverse-append (x ∷ []) xs)) (All-append P (reverse xs) (x ∷ []) (all_reverse P xs (All-tail P x xs h)) (All-cons P x [] (All-head P x xs h) (All-nil P)))

rises_apart : (a b : ℕ) (xs : List ℕ) → Rises a xs b → AreDistinct (reverse xs)
rises_apart a b [] h = tt
rises_apart a b (x ∷ xs) h =
    subst AreDistinct (sym (reverse-append (x ∷ []) xs))
    (apart_push (reverse xs) x (rises_apart (suc x) b xs h.1) (all_reverse (λ y. y ≢ x) xs (differ xs (rises_from (suc x) b xs h.1))))
  where
    differ : (ys : List ℕ) → All (λ y. suc x ≤ y) ys → All (λ y. y ≢ x) ys
    differ [] g = All-nil (λ y. y ≢ x)
    differ (y ∷ ys) g = let first : suc x ≤ y = All-head (λ y. suc x ≤ y) y ys g in All-cons (λ y. y ≢ x) y ys (λ e. absurd (omega arith)) (differ ys (All-tail (λ y. suc x ≤ y) y ys g))

-- ---- numbers that are small
abbrev SmallNode : Node → Type 0
SmallNode (lookup rel) = Unit {0}
SmallNode (limit_range rel limit n access) = n ≤ 10000
SmallNode (stop_scan rel k access) = k ≤ 1000
SmallNode (keep rel) = Unit {0}
SmallNode sort = Unit {0}
SmallNode (cut k) = k ≤ 1000
SmallNode project = Unit {0}

small_split : (list : List Node) (node : Node) → AllByRecursion SmallNode (list ++ node ∷ []) → AllByRecursion SmallNode list × SmallNode node
small_split [] node h = (tt, h.0)
small_split (x ∷ list) node h = let rest = small_split list node h.1 in ((h.0, rest.0), rest.1)

small_both : (xs ys : List Node) → AllByRecursion SmallNode xs → AllByRecursion SmallNode ys → AllByRecursion SmallNode (xs ++ ys)
small_both [] ys g h = h
small_both (x ∷ xs) ys g h = (g.0, small_both xs ys g.1 h)

small_nodes : (t : Physical) → AllByRecursion SmallNode (nodes t) → IsInLimits t
small_nodes node.Unit h = tt
small_nodes (node.Lookup' p input rel) h = small_nodes input (small_split (nodes input) (lookup rel) h).0
small_nodes (node.LimitRange' p input rel limit n access) h = let s = small_split (nodes input) (limit_range rel limit n access) h in (s.1, small_nodes input s.0)
small_nodes (node.StopScan' p input rel k access) h = let s = small_split (nodes input) (stop_scan rel k access) h in (s.1, small_nodes input s.0)
small_nodes (node.Filter' p input rel) h = small_nodes input (small_split (nodes input) (keep rel) h).0
small_nodes (node.Sort' p input) h = small_nodes input (small_split (nodes input) sort h).0
small_nodes (node.Cut' p input k) h = let s = small_split (nodes input) (cut k) h in (s.1, small_nodes input s.0)
small_nodes (node.Project' p input) h = small_nodes input (small_split (nodes input) project h).0

module _ (tables : List Table) (query : Query) (sound : IsQuery tables query) where
  sound_table : (i : ℕ) → 1 ≤ i → i ≤ length query.relations → IsTable (table_of tables query i)
  sound_table i low high =
      let number = number_at tables query [] [] sound (no_rows_keep tables) i low high in
      let one = number.0 in
      let there = number.1 in
      all_member IsTable tables sound.each (table_of tables query i) (at_in tables ((relation_at query i).table - 1) no_table (omega arith))

  -- what the nodes that read a relation are
  abbrev of_limit : ℕ → ℕ → List Node
  of_limit i place =
      let table = table_of tables query i in
      let limit = get_or table.limits place no_limit in
      limit_range i (place + 1) limit.n (unwrap_or (group_access table (set_of limit.cols)) Primary) ∷ keep i ∷ []

  small_limit : (limits : List Limit) → All (λ limit. limit.n ≤ 10000) limits → (k : ℕ) → (get_or limits k no_limit).n ≤ 10000
  small_limit [] h k = omega arith
  small_limit (l ∷ ls) h zero = All-head (λ (limit : Limit). limit.n ≤ 10000) l ls h
  small_limit (l ∷ ls) h (suc k) = small_limit ls (All-tail (λ (limit : Limit). limit.n ≤ 10000) l ls h) k

  read_small : (i : ℕ) → 1 ≤ i → i ≤ length query.relations → AllByRecursion SmallNode (read_nodes tables query i)
  read_small i low high =
      let table = table_of tables query i in
      elim (is_lookup table (tied_set query i)) as (λ b. AllByRecursion SmallNode (cond b (lookup i ∷ keep i ∷ []) (option_map_or (of_limit i) (limit_place table (tied_set query i)) []))) [
        | true ↦ (tt, (tt, tt))
        | false ↦ elim (limit_place table (tied_set query i)) as (λ o. AllByRecursion SmallNode (option_map_or (of_limit i) o [])) [
          | None ↦ tt
          | Some place ↦ (small_limit table.limits (sound_table i low high).sizes place, (tt, tt))
        ]
      ]

  read_rises : (i : ℕ) → Rises i (relations (read_nodes tables query i)) (suc i)
  read_rises i =
      let table = table_of tables query i in
      elim (is_lookup table (tied_set query i)) as (λ b. Rises i (relations (cond b (lookup i ∷ keep i ∷ []) (option_map_or (of_limit i) (limit_place table (tied_set query i)) []))) (suc i)) [
        | true ↦ (omega arith, omega arith)
        | false ↦ elim (limit_place table (tied_set query i)) as (λ o. Rises i (relations (option_map_or (of_limit i) o [])) (suc i)) [
          | None ↦ omega arith
          | Some place ↦ (omega arith, omega arith)
        ]
      ]

  range_small : (a n : ℕ) → 1 ≤ a → a + n ≤ suc (length query.relations) → AllByRecursion SmallNode (range_nodes tables query a n)
  range_small a zero low high = tt
  range_small a (suc n) low high = subst (AllByRecursion SmallNode) (sym (range_more tables query a n)) (small_both (range_nodes tables query a n) (read_nodes tables query (a + n)) (range_small a n low (omega arith)) (read_small (a + n) (omega arith) (omega arith)))

  range_rises : (a n : ℕ) → Rises a (relations (range_nodes tables query a n)) (a + n)
  range_rises a zero = omega arith
  range_rises a (suc n) =
      let next : suc (a + n) ≡ a + suc n = omega arith in
      subst (λ (xs : List ℕ). Rises a xs (a + suc n)) (sym (ap relations (range_more tables query a n) ∙ flat_map-append relation (range_nodes tables query a n) (read_nodes tables query (a + n))))
      (subst (Rises a (relations (range_nodes tables query a n) ++ relations (read_nodes tables query (a + n)))) next
      (rises_more a (a + n) (suc (a + n)) (relations (range_nodes tables query a n)) (relations (read_nodes tables query (a + n))) (range_rises a n) (read_rises (a + n))))

  -- ---- the nodes of a plan
  size_small : (k : ℕ) → stop_size query.stop ≡ Some k → k ≤ 1000
  size_small k h = (subst (λ (o : Option ℕ). IfSome o (λ k. (1 ≤ k) × (k ≤ 1000))) h sound.stop).1

  choice_small : (choice : Choice) → Has tables query choice → AllByRecursion SmallNode (choice_nodes tables query choice)
  choice_small Whole h = range_small 1 (length query.relations) (omega arith) (omega arith)
  choice_small (Stop p) h =
      let low = h.from_one in
      let high = h.within in
      small_both _ (range_nodes tables query (p + 1) (length query.relations - p))
      (small_both (range_nodes tables query 1 (p - 1)) _ (range_small 1 (p - 1) (omega arith) (omega arith)) (subst (λ (o : Option ℕ). unwrap_or o 0 ≤ 1000) (sym h.stop) (size_small h.size h.stop), tt))
      (range_small (p + 1) (length query.relations - p) (omega arith) (omega arith))

  choice_rises : (choice : Choice) → Has tables query choice → Rises 1 (relations (choice_nodes tables query choice)) (1 + length query.relations)
  choice_rises Whole h = range_rises 1 (length query.relations)
  choice_rises (Stop p) h =
      let low = h.from_one in
      let high = h.within in
      let m = length query.relations in
      let scan = stop_scan p (unwrap_or (stop_size query.stop) 0) (stop_access tables query p) in
      let front = range_nodes tables query 1 (p - 1) in
      let back = range_nodes tables query (p + 1) (m - p) in
      let at : 1 + (p - 1) ≡ p = omega arith in
      let end : p + 1 + (m - p) ≡ 1 + m = omega arith in
      subst (λ (xs : List ℕ). Rises 1 xs (1 + m)) (sym (flat_map-append relation (front ++ scan ∷ []) back ∙ ap (λ (xs : List ℕ). xs ++ relations back) (flat_map-append relation front (scan ∷ []))))
      (rises_more 1 (p + 1) (1 + m) (relations front ++ p ∷ []) (relations back)
      (rises_more 1 p (p + 1) (relations front) (p ∷ []) (subst (Rises 1 (relations front)) at (range_rises 1 (p - 1))) (omega arith, omega arith))
      (subst (Rises (p + 1) (relations back)) end (range_rises (p + 1) (m - p))))

  top_small : AllByRecursion SmallNode (option_map_or (λ k. cut k ∷ []) (stop_size query.stop) [])
  top_small = elim (stop_size query.stop) as (λ o. stop_size query.stop ≡ o → AllByRecursion SmallNode (option_map_or (λ k. cut k ∷ []) o [])) [ None ↦ λ _. tt | Some k ↦ λ is. (size_small k is, tt) ] refl

  plan_small : (choice : Choice) → Has tables query choice → AllByRecursion SmallNode (plan_nodes tables query choice)
  plan_small choice h = small_both _ (project ∷ []) (small_both _ (option_map_or (λ k. cut k ∷ []) (stop_size query.stop) []) (small_both (choice_nodes tables query choice) (sort ∷ []) (choice_small choice h) (tt, tt)) top_small) (tt, tt)

  -- the nodes above read no relation
  top_none : (o : Option ℕ) → relations (option_map_or (λ k. cut k ∷ []) o []) ≡ []
  top_none None = refl
  top_none (Some k) = refl

  end_nil : (xs : List ℕ) → xs ++ [] ≡ xs
  end_nil [] = refl
  end_nil (x ∷ xs) = ap (λ l. x ∷ l) (end_nil xs)

  plan_relations : (choice : Choice) → relations (plan_nodes tables query choice) ≡ relations (choice_nodes tables query choice)
  plan_relations choice =
      let a = choice_nodes tables query choice in
      let top = option_map_or (λ k. cut k ∷ []) (stop_size query.stop) [] in
      flat_map-append relation ((a ++ sort ∷ []) ++ top) (project ∷ []) ∙ end_nil _
      ∙ flat_map-append relation (a ++ sort ∷ []) top
      ∙ ap (λ (xs : List ℕ). relations (a ++ sort ∷ []) ++ xs) (top_none (stop_size query.stop)) ∙ end_nil _
      ∙ flat_map-append relation a (sort ∷ []) ∙ end_nil _

  -- a tree with the nodes of a plan has a cost in 128 bits
  pub plan_tree : (choice : Choice) → Has tables query choice → (t : Physical) → nodes t ≡ plan_nodes tables query choice → IsPlanTree t
  plan_tree choice h t is =
      let few = sound.few_relations in
      let rels : relations_read t ≡ reverse (relations (choice_nodes tables query choice)) = relations_nodes t ∙ ap (λ list. reverse (relations list)) is ∙ ap reverse (plan_relations choice) in
      let rises = choice_rises choice h in
      record {
        once = subst AreDistinct (sym rels) (rises_apart 1 (1 + length query.relations) (relations (choice_nodes tables query choice)) rises);
        six = subst (All (λ rel. rel ≤ 6)) (sym rels) (all_reverse (λ rel. rel ≤ 6) (relations (choice_nodes tables query choice)) (six_below (relations (choice_nodes tables query choice)) (rises_below 1 (1 + length query.relations) (relations (choice_nodes tables query choice)) rises)));
        small = small_nodes t (subst (AllByRecursion SmallNode) (sym is) (plan_small choice h));
      }
    where
      six_below : (xs : List ℕ) → All (λ x. suc x ≤ 1 + length query.relations) xs → All (λ x. x ≤ 6) xs
      six_below [] g = All-nil (λ x. x ≤ 6)
      six_below (x ∷ xs) g =
          let first : suc x ≤ 1 + length query.relations = All-head (λ x. suc x ≤ 1 + length query.relations) x xs g in
          let few = sound.few_relations in
          All-cons (λ x. x ≤ 6) x xs (omega arith) (six_below xs (All-tail (λ x. suc x ≤ 1 + length query.relations) x xs g))
