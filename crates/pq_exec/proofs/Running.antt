-- A tree is run as its input and then its outermost node.
use Rattle.std.proofs.Common.{◌≡◌, ℕ, suc, ◌+◌, ◌<◌, ◌≤◌, List, [], ◌∷◌, ◌++◌, length, Option, None, Some, refl, sym, ap, ◌∙◌, subst, arith, length-append}
use Rattle.std.specs.Prelude.{Result, Ok, Err, IfOk, IfSome, sum_by}
use Rattle.std.specs.List.{AllByRecursion}
use Rattle.std.proofs.lemmas.List.Sums.{fold-append, sum_by_push}
use Rattle.pq_base.specs.declared.number.Bound.{Bound}
use Rattle.pq_base.specs.declared.value.Value.{Value}
use Rattle.pq_schema.specs.Costs.{ReachedCost, start, plus}
use Rattle.pq_schema.specs.declared.query.Query.{Query}
use Rattle.pq_schema.specs.declared.table.Table.{Table}
use Rattle.pq_store.specs.Content.{Content}
use Rattle.pq_store.specs.Counts.{AllowedCounts}
use Rattle.pq_store.specs.declared.damage.Broke.{Broke}
use Rattle.pq_content.specs.Pairs.{HoldsRows}
use Rattle.pq_plan.specs.Answer.{Question}
use Rattle.pq_plan.specs.Cost.{cost}
use Rattle.pq_plan.specs.Executing.{Makes, Gives}
use Rattle.pq_plan.specs.Nodes.{Node, lookup, limit_range, stop_scan, keep, sort, cut, project, nodes, node_step, run_of}
use Rattle.pq_plan.specs.declared.physical.Physical.{Physical}
use Rattle.pq_plan.proofs.PlanRows.{reach_nodes}
use Rattle.pq_calls.specs.World.{World, Affords, Reads}
use Rattle.pq_calls.proofs.Steps.{reads_then, reads_within, rest_left}
use Rattle.pq_nodes.specs.Combos.{FitsTables}
use Rattle.pq_nodes.specs.Operators.{IsReadyNode, AffordsNode, ReadsNode, AnswersNode}
use Rattle.pq_nodes.specs.Ordered.{after_node, after_nodes, StandsAt}
use Rattle.pq_nodes.specs.Paid.{node_cost, node_size, IsAtMost}
use Rattle.pq_nodes.specs.Rounds.{node_rounds, plan_rounds}
use Rattle.pq_nodes.proofs.Paying.{at_most_itself, step_size, step_more}
use Rattle.pq_runnable.specs.Runnable.{IsWholeAt, IsRunnable, IsRunnableNode}
use Rattle.pq_runnable.proofs.Runnable.{runnable_split}
use Rattle.pq_exec.specs.Execution.{top_node, rows_before, rows_behind, AreGiven, IsFoundIn, AreFoundIn, AreRun, RunAnswers}

-- ---- nodes

-- the inputs of a node have rows of the relations that were read
rows_at : (query : Query) (count : ℕ) (node : Node) → StandsAt count node → IsWholeAt (length query.relations) count node → rows_before query node ≡ count
rows_at query count (lookup rel) at whole = omega (arith, at)
rows_at query count (limit_range rel limit n access) at whole = omega (arith, at)
rows_at query count (stop_scan rel k access) at whole = omega (arith, at)
rows_at query count (keep rel) at whole = at
rows_at query count sort at whole = sym whole
rows_at query count (cut k) at whole = sym whole
rows_at query count project at whole = sym whole

rows_after : (query : Query) (count : ℕ) (node : Node) → StandsAt count node → IsWholeAt (length query.relations) count node → rows_behind query node ≡ after_node count node
rows_after query count (lookup rel) at whole = at
rows_after query count (limit_range rel limit n access) at whole = at
rows_after query count (stop_scan rel k access) at whole = at
rows_after query count (keep rel) at whole = at
rows_after query count sort at whole = sym whole
rows_after query count (cut k) at whole = sym whole
rows_after query count project at whole = sym whole

-- what is made of what the nodes before gave
gives_then : (q : Question) (cursor : Option (List Value)) (front : List Node) (node : Node) (inputs made found : List (List (List Value))) → Gives q cursor inputs front made → Makes q cursor made node found → Gives q cursor inputs (front ++ node ∷ []) found
gives_then q cursor [] node inputs made found given makes = (found, subst (λ i. Makes q cursor i node found) given makes, refl)
gives_then q cursor (x ∷ front) node inputs made found given makes = (given.0, given.1, gives_then q cursor front node given.0 made found given.2 makes)

found_then : (tables : List Table) (query : Query) (params : List Value) (cursor : Option (List Value)) (content : Content) (front : List Node) (node : Node) (inputs made found : List (List (List Value))) → AreFoundIn tables query params cursor inputs front made content → IsFoundIn tables query params cursor made node found content → AllByRecursion (FitsTables tables query (rows_behind query node)) found → AreFoundIn tables query params cursor inputs (front ++ node ∷ []) found content
found_then tables query params cursor content [] node inputs made found given is fit = (found, subst (λ i. IsFoundIn tables query params cursor i node found content) given is, fit, refl)
found_then tables query params cursor content (x ∷ front) node inputs made found given is fit = (given.0, given.1, given.2, found_then tables query params cursor content front node given.0 made found given.3 is fit)

-- nodes that read nothing are none
after_grows : (count : ℕ) (list : List Node) → count ≤ after_nodes count list
after_grows count [] = omega arith
after_grows count (lookup rel ∷ rest) = let more = after_grows (suc count) rest in omega arith
after_grows count (limit_range rel limit n access ∷ rest) = let more = after_grows (suc count) rest in omega arith
after_grows count (stop_scan rel k access ∷ rest) = let more = after_grows (suc count) rest in omega arith
after_grows count (keep rel ∷ rest) = after_grows count rest
after_grows count (sort ∷ rest) = after_grows count rest
after_grows count (cut k ∷ rest) = after_grows count rest
after_grows count (project ∷ rest) = after_grows count rest

-- ---- rounds

-- a tree makes the rounds of its input, and those of its outermost node
rounds_over : (tree input : Physical) → nodes tree ≡ nodes input ++ top_node tree ∷ [] → plan_rounds tree ≡ plan_rounds input + node_rounds (top_node tree)
rounds_over tree input over = ap (λ list. sum_by node_rounds list) over ∙ sum_by_push node_rounds (nodes input) (top_node tree)

no_more : (before own whole a b : ℕ) → whole ≡ before + own → b ≤ a + before → b ≤ a + whole
no_more before own whole a b sum first = omega (arith, sum, first)

one_more : (before own whole a b c : ℕ) → whole ≡ before + own → b ≤ a + before → c ≤ b + own → c ≤ a + whole
one_more before own whole a b c sum first then = omega (arith, sum, first, then)

pub input_rounds : (tree input : Physical) → nodes tree ≡ nodes input ++ top_node tree ∷ [] → (a b : ℕ) → b ≤ a + plan_rounds input → b ≤ a + plan_rounds tree
input_rounds tree input over a b first = no_more (plan_rounds input) (node_rounds (top_node tree)) (plan_rounds tree) a b (rounds_over tree input over) first

pub tree_rounds : (tree input : Physical) → nodes tree ≡ nodes input ++ top_node tree ∷ [] → (a b c : ℕ) → b ≤ a + plan_rounds input → c ≤ b + node_rounds (top_node tree) → c ≤ a + plan_rounds tree
tree_rounds tree input over a b c first then = one_more (plan_rounds input) (node_rounds (top_node tree)) (plan_rounds tree) a b c (rounds_over tree input over) first then

-- ---- a tree over its input

module _ (tables : List Table) (query : Query) (tree input : Physical) (over : nodes tree ≡ nodes input ++ top_node tree ∷ []) (runnable : IsRunnable tables query (cost tree) (nodes tree)) where
  abbrev node : Node
  node = top_node tree

  abbrev reached : ReachedCost
  reached = run_of (nodes input)

  parts : IsRunnable tables query (cost tree) (nodes input) × IsRunnableNode tables query (cost tree) (nodes input) node
  parts = runnable_split tables query (cost tree) (nodes input) node (subst (IsRunnable tables query (cost tree)) over runnable)

  input_cost : (run_of (nodes input)).cost ≡ cost input
  input_cost = ap (λ (r : ReachedCost). r.cost) (sym (reach_nodes input))

  pub input_smaller : length (nodes input) < length (nodes tree)
  input_smaller =
      let long = length-append (nodes input) (node ∷ []) in
      let same = ap length over in
      omega (arith, long, same)

  pub input_runnable : IsRunnable tables query (cost input) (nodes input)
  input_runnable =
      let first = parts.0 in
      record {
        each = first.each;
        indexed = first.indexed;
        order = first.order;
        whole = first.whole;
        paid = subst (IsAtMost (run_of (nodes input)).cost) input_cost (at_most_itself (run_of (nodes input)).cost);
      }

  input_paid : IsAtMost (cost input) (cost tree)
  input_paid = subst (λ (b : Bound). IsAtMost b (cost tree)) input_cost parts.0.paid

  pub input_share : (allowed : AllowedCounts) → Affords allowed (cost tree).ops (cost tree).entries → Affords allowed (cost input).ops (cost input).entries
  input_share allowed left =
      let paid = input_paid in
      let ops = paid.ops in
      let entries = paid.entries in
      let a = left.ops_left in
      let b = left.entries_left in
      record { ops_left = omega arith; entries_left = omega arith }

  pub node_ready : IsReadyNode tables query node
  node_ready = record { is = parts.1.is; indexed = parts.1.indexed }

  input_rows : rows_before query node ≡ after_nodes 0 (nodes input)
  input_rows = rows_at query (after_nodes 0 (nodes input)) node parts.1.stands parts.1.whole

  pub node_inputs : (inputs : List (List (List Value))) → AreRun tables query (nodes input) inputs → AllByRecursion (FitsTables tables query (rows_before query node)) inputs
  node_inputs inputs given = subst (λ n. AllByRecursion (FitsTables tables query n) inputs) (sym input_rows) given.fit

  -- the input's cost and the node's are within the tree's
  node_paid : (inputs : List (List (List Value))) → AreRun tables query (nodes input) inputs → IsAtMost (plus (cost input) (node_cost (length inputs) node)) (cost tree)
  node_paid inputs given = parts.1.affords (length inputs) (cost input) given.few (subst (λ (b : Bound). IsAtMost b (run_of (nodes input)).cost) input_cost (at_most_itself (run_of (nodes input)).cost))

  pub node_share : (inputs : List (List (List Value))) (a b : World) → AreRun tables query (nodes input) inputs → Affords a.allowed (cost tree).ops (cost tree).entries → Reads a b (cost input).ops (cost input).entries → AffordsNode b.allowed (length inputs) node
  node_share inputs a b given left reads =
      let paid = node_paid inputs given in
      rest_left a b (cost input).ops (cost input).entries (node_cost (length inputs) node).ops (node_cost (length inputs) node).entries (cost tree).ops (cost tree).entries reads left paid.ops paid.entries

  pub tree_reads : (inputs : List (List (List Value))) (a b c : World) → AreRun tables query (nodes input) inputs → Reads a b (cost input).ops (cost input).entries → ReadsNode b c (length inputs) node → Reads a c (cost tree).ops (cost tree).entries
  tree_reads inputs a b c given first second =
      let paid = node_paid inputs given in
      reads_then a b c (cost input).ops (cost input).entries (node_cost (length inputs) node).ops (node_cost (length inputs) node).entries (cost tree).ops (cost tree).entries first second paid.ops paid.entries

  -- the input alone
  pub input_reads : (a b : World) → Reads a b (cost input).ops (cost input).entries → Reads a b (cost tree).ops (cost tree).entries
  input_reads a b first = let paid = input_paid in reads_within a b (cost input).ops (cost input).entries (cost tree).ops (cost tree).entries first paid.ops paid.entries

  pub tree_given : (inputs found : List (List (List Value))) → AreRun tables query (nodes input) inputs → AreGiven tables query (length inputs) node found → AreRun tables query (nodes tree) found
  tree_given inputs found first given =
      let all = run_of (nodes input ++ node ∷ []) in
      let last : all ≡ node_step reached node = fold-append node_step start (nodes input) (node ∷ []) in
      let more = step_more (record { inputs = length inputs; cost = reached.cost }) reached node (record { inputs = first.few; cost = at_most_itself reached.cost }) in
      let size : (node_step (record { inputs = length inputs; cost = reached.cost }) node).inputs ≡ node_size (length inputs) node = step_size (record { inputs = length inputs; cost = reached.cost }) node in
      let within : node_size (length inputs) node ≤ (node_step reached node).inputs = subst (λ n. n ≤ (node_step reached node).inputs) size more.inputs in
      let few = given.few in
      let small : length found ≤ (node_step reached node).inputs = omega arith in
      let rows : rows_behind query node ≡ after_nodes 0 (nodes input ++ node ∷ []) = rows_after query (after_nodes 0 (nodes input)) node parts.1.stands parts.1.whole ∙ sym (fold-append after_node 0 (nodes input) (node ∷ [])) in
      subst (λ list. AreRun tables query list found) (sym over) (record {
        few = subst (λ (r : ReachedCost). length found ≤ r.inputs) (sym last) small;
        fit = subst (λ n. AllByRecursion (FitsTables tables query n) found) rows given.fit;
        unit = λ none. absurd (some_nodes none);
      })
    where
      some_nodes : nodes input ++ node ∷ [] ≡ [] → ⊥
      some_nodes none =
          let long = length-append (nodes input) (node ∷ []) in
          let same = ap length none in
          omega (arith, long, same)

  pub tree_answers : (params : List Value) (cursor : Option (List Value)) (a b : World) (o e : ℕ) (inputs found : List (List (List Value))) → Reads a b o e → RunAnswers a.told tables query params cursor (nodes input) inputs → AnswersNode b.told tables query params cursor inputs node found → RunAnswers a.told tables query params cursor (nodes tree) found
  tree_answers params cursor a b o e inputs found reads first answers rows others holds =
      let q : Question = record { tables = tables; query = query; rows = rows; params = params } in
      subst (λ list. Gives q cursor ([] ∷ []) list found) (sym over)
      (gives_then q cursor (nodes input) node ([] ∷ []) inputs found (first rows others holds)
      (answers rows others (subst (λ told. HoldsRows told tables rows others) (sym reads.same) holds)))

  pub tree_found : (params : List Value) (cursor : Option (List Value)) (told now : Option Content) (inputs : List (List (List Value))) (result : Result (List (List (List Value))) Broke) → now ≡ told → IfSome told (AreFoundIn tables query params cursor ([] ∷ []) (nodes input) inputs) → IfOk result (λ found. IfSome now (IsFoundIn tables query params cursor inputs node found)) → IfOk result (AreGiven tables query (length inputs) node)
      → IfOk result (λ found. IfSome told (AreFoundIn tables query params cursor ([] ∷ []) (nodes tree) found))
  tree_found params cursor told now inputs (Err why) same first is given = tt
  tree_found params cursor None now inputs (Ok found) same first is given = tt
  tree_found params cursor (Some content) now inputs (Ok found) same first is given =
      let own : IsFoundIn tables query params cursor inputs node found content = subst (λ (o : Option Content). IfSome o (IsFoundIn tables query params cursor inputs node found)) same is in
      subst (λ list. AreFoundIn tables query params cursor ([] ∷ []) list found content) (sym over)
      (found_then tables query params cursor content (nodes input) node ([] ∷ []) inputs found first own given.fit)
