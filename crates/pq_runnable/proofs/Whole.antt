-- Where the nodes of a plan order, cut or give out combinations, all relations were read.
use Rattle.std.proofs.Common.{◌≡◌, ℕ, ◌+◌, ◌-◌, true, false, cond, List, [], ◌∷◌, ◌++◌, length, Option, None, Some, refl, sym, ap, ◌∙◌}
use Rattle.std.specs.Prelude.{unwrap_or, slice_index_or}
use Rattle.std.specs.Option.{option_map_or}
use Rattle.std.specs.List.{AllByRecursion, range_with_len}
use Rattle.std.proofs.lemmas.List.Sums.{fold-append}
use Rattle.pq_base.specs.declared.number.Choice.{Choice}
use Rattle.pq_base.specs.declared.number.Choice.TheVariants.{Whole, Stop}
use Rattle.pq_base.specs.Columns.{set_of}
use Rattle.pq_base.proofs.Members.{each_append, each_flat_map}
use Rattle.pq_schema.specs.declared.query.Query.{Query}
use Rattle.pq_schema.specs.declared.table.Access.TheVariants.{Primary}
use Rattle.pq_schema.specs.declared.table.Table.{Table}
use Rattle.pq_schema.specs.Candidates.{no_limit, stop_size}
use Rattle.pq_schema.specs.Relations.{table_of, tied_set}
use Rattle.pq_schema.specs.Sequences.{group_access}
use Rattle.pq_schema.specs.Sound.{IsQuery}
use Rattle.pq_schema.specs.Tables.{is_lookup, limit_place}
use Rattle.pq_plan.specs.Nodes.{Node, lookup, limit_range, stop_scan, keep, sort, cut, project, read_nodes, range_nodes, stop_access, choice_nodes, plan_nodes}
use Rattle.pq_plan.proofs.Choices.{Has}
use Rattle.pq_nodes.specs.Ordered.{after_node, after_nodes}
use Rattle.pq_nodes.proofs.InOrder.{plan_runs}
use Rattle.pq_runnable.specs.Runnable.{IsWholeAt, AreWhole}

-- ---- lists of nodes

pub whole_both : (all count : ℕ) (xs ys : List Node) → AreWhole all count xs → AreWhole all (after_nodes count xs) ys → AreWhole all count (xs ++ ys)
whole_both all count [] ys first second = second
whole_both all count (x ∷ xs) ys first second = (first.0, whole_both all (after_node count x) xs ys first.1 second)

pub front_whole : (all count : ℕ) (xs ys : List Node) → AreWhole all count (xs ++ ys) → AreWhole all count xs
front_whole all count [] ys h = tt
front_whole all count (x ∷ xs) ys h = (h.0, front_whole all (after_node count x) xs ys h.1)

pub whole_behind : (all count : ℕ) (xs : List Node) (node : Node) (ys : List Node) → AreWhole all count (xs ++ node ∷ ys) → IsWholeAt all (after_nodes count xs) node
whole_behind all count [] node ys h = h.0
whole_behind all count (x ∷ xs) node ys h = whole_behind all (after_node count x) xs node ys h.1

-- ---- nodes that read

-- it may stand anywhere
abbrev pub IsAnywhere : Node → Type 0
IsAnywhere node = (all count : ℕ) → IsWholeAt all count node

anywhere_whole : (all count : ℕ) (xs : List Node) → AllByRecursion IsAnywhere xs → AreWhole all count xs
anywhere_whole all count [] each = tt
anywhere_whole all count (x ∷ xs) each = (each.0 all count, anywhere_whole all (after_node count x) xs each.1)

module _ (tables : List Table) (query : Query) where
  abbrev ranged : ℕ → ℕ → List Node
  ranged rel place =
      let table = table_of tables query rel in
      let limit = slice_index_or table.limits place no_limit in
      limit_range rel (place + 1) limit.n (unwrap_or (group_access table (set_of limit.cols)) Primary) ∷ keep rel ∷ []

  read_anywhere : (rel : ℕ) → AllByRecursion IsAnywhere (read_nodes tables query rel)
  read_anywhere rel =
      let table = table_of tables query rel in
      let set = tied_set query rel in
      elim (is_lookup table set) as (λ b. AllByRecursion IsAnywhere (cond b (lookup rel ∷ keep rel ∷ []) (option_map_or (ranged rel) (limit_place table set) []))) [
        | true ↦ (λ all count. tt, (λ all count. tt, tt))
        | false ↦ elim (limit_place table set) as (λ o. AllByRecursion IsAnywhere (option_map_or (ranged rel) o [])) [
          | None ↦ tt
          | Some place ↦ (λ all count. tt, (λ all count. tt, tt))
        ]
      ]

  range_anywhere : (from count : ℕ) → AllByRecursion IsAnywhere (range_nodes tables query from count)
  range_anywhere from count = each_flat_map IsAnywhere (read_nodes tables query) (range_with_len from count) (λ rel here. read_anywhere rel)

  choice_anywhere : (choice : Choice) → AllByRecursion IsAnywhere (choice_nodes tables query choice)
  choice_anywhere Whole = range_anywhere 1 (length query.relations)
  choice_anywhere (Stop p) =
      let front = range_nodes tables query 1 (p - 1) in
      let scan = stop_scan p (unwrap_or (stop_size query.stop) 0) (stop_access tables query p) in
      each_append IsAnywhere (front ++ scan ∷ []) (range_nodes tables query (p + 1) (length query.relations - p))
      (each_append IsAnywhere front (scan ∷ []) (range_anywhere 1 (p - 1)) (λ all count. tt, tt))
      (range_anywhere (p + 1) (length query.relations - p))

-- ---- a plan

module _ (list : List Node) (size : Option ℕ) where
  abbrev top : List Node
  top = option_map_or (λ k. cut k ∷ []) size []

  -- what stands behind the reads reads nothing
  after_top : (count : ℕ) → after_nodes count top ≡ count
  after_top count = elim size as (λ o. after_nodes count (option_map_or (λ k. cut k ∷ []) o []) ≡ count) [ None ↦ refl | Some k ↦ refl ]

  after_sort : after_nodes 0 (list ++ sort ∷ []) ≡ after_nodes 0 list
  after_sort = fold-append after_node 0 list (sort ∷ [])

  after_cut : after_nodes 0 (list ++ sort ∷ [] ++ top) ≡ after_nodes 0 list
  after_cut = fold-append after_node 0 (list ++ sort ∷ []) top ∙ ap (λ n. after_nodes n top) after_sort ∙ after_top (after_nodes 0 list)

  pub after_all : after_nodes 0 (list ++ sort ∷ [] ++ top ++ project ∷ []) ≡ after_nodes 0 list
  after_all = fold-append after_node 0 (list ++ sort ∷ [] ++ top) (project ∷ []) ∙ after_cut

  top_whole : (all count : ℕ) → count ≡ all → AreWhole all count top
  top_whole all count is = elim size as (λ o. AreWhole all count (option_map_or (λ k. cut k ∷ []) o [])) [ None ↦ tt | Some k ↦ (is, tt) ]

  pub all_whole : (all : ℕ) → AllByRecursion IsAnywhere list → after_nodes 0 list ≡ all → AreWhole all 0 (list ++ sort ∷ [] ++ top ++ project ∷ [])
  all_whole all each is =
      whole_both all 0 (list ++ sort ∷ [] ++ top) (project ∷ [])
      (whole_both all 0 (list ++ sort ∷ []) top
      (whole_both all 0 list (sort ∷ []) (anywhere_whole all 0 list each) (is, tt))
      (top_whole all (after_nodes 0 (list ++ sort ∷ [])) (after_sort ∙ is)))
      (after_cut ∙ is, tt)

pub plan_whole : (tables : List Table) (query : Query) → IsQuery tables query → (choice : Choice) → Has tables query choice → AreWhole (length query.relations) 0 (plan_nodes tables query choice)
plan_whole tables query sound choice has =
    let list = choice_nodes tables query choice in
    all_whole list (stop_size query.stop) (length query.relations) (choice_anywhere tables query choice)
    (sym (after_all list (stop_size query.stop)) ∙ (plan_runs tables query sound choice has).1)
