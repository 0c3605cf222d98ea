-- The sequences that the nodes of a plan go over are of their tables.
use Rattle.std.proofs.Common.{◌≡◌, ℕ, ◌+◌, ◌≤◌, true, List, length, is_some, subst}
use Rattle.std.specs.Prelude.{unwrap_or}
use Rattle.std.specs.List.{AllByRecursion}
use Rattle.pq_base.specs.Columns.{set_of}
use Rattle.pq_base.specs.declared.number.Choice.{Choice}
use Rattle.pq_base.specs.declared.number.Choice.TheVariants.{Whole, Stop}
use Rattle.pq_schema.specs.declared.table.Access.TheVariants.{Secondary}
use Rattle.pq_schema.specs.declared.table.Table.{Table}
use Rattle.pq_schema.specs.declared.query.Query.{Query}
use Rattle.pq_schema.specs.Candidates.{stop_size}
use Rattle.pq_schema.specs.Relations.{table_of, tied_set, order_rest}
use Rattle.pq_schema.specs.Sequences.{serving_access}
use Rattle.pq_schema.specs.Sound.{IsQuery}
use Rattle.pq_plan.specs.Nodes.{stop_scan, read_nodes, stop_access, plan_nodes}
use Rattle.pq_plan.proofs.Choices.{Has}
use Rattle.pq_nodes.specs.Inverse.{node_limit_at, HasIndex}
use Rattle.pq_nodes.proofs.Inverse.{Bounded, some_unwrapped, read_cases, plan_all}
use Rattle.pq_runnable.proofs.Indexes.{group_found, serving_found}

module _ (tables : List Table) (query : Query) where
  -- a sequence serves the stop of the choice
  abbrev pub IsServed : Choice → Type 0
  IsServed Whole = Unit {0}
  IsServed (Stop p) = is_some (serving_access (table_of tables query p) (tied_set query p) (order_rest query p)) ≡ true

  scan_indexed : (p k : ℕ) → IsServed (Stop p) → HasIndex tables query (stop_scan p k (stop_access tables query p))
  scan_indexed p k served =
      let table = table_of tables query p in
      let found = serving_access table (tied_set query p) (order_rest query p) in
      serving_found table (tied_set query p) (order_rest query p) (stop_access tables query p)
      (some_unwrapped found (Secondary (length table.indexes + 1)) served)

module _ (tables : List Table) (query : Query) (sound : IsQuery tables query) where
  read_indexed : (i : ℕ) → 1 ≤ i → i ≤ length query.relations → Bounded tables query sound i → AllByRecursion (HasIndex tables query) (read_nodes tables query i)
  read_indexed i low high bounded =
      read_cases tables query sound (AllByRecursion (HasIndex tables query)) i low high bounded
      (λ _. (tt, (tt, tt)))
      (λ limit n access is. (group_found (table_of tables query i) (set_of (node_limit_at (table_of tables query i) limit).cols) access is.group, (tt, tt)))

  pub plan_indexed : (choice : Choice) → Has tables query choice → IsServed tables query choice → AllByRecursion (HasIndex tables query) (plan_nodes tables query choice)
  plan_indexed choice h served =
      plan_all tables query sound (HasIndex tables query) read_indexed choice h
      (λ p is _. scan_indexed tables query p (unwrap_or (stop_size query.stop) 0) (subst (IsServed tables query) is served))
      tt (λ k _. tt) tt
