-- What a node of a plan for a query says of the query.
use Rattle.std.specs.Prelude.{◌≡◌, ℕ, ◌-◌, ◌≤◌, true, false, List, length, slice_index_or, Some}
use Rattle.pq_base.specs.Columns.{is_column_within, set_of}
use Rattle.pq_schema.specs.declared.table.Access.{Access}
use Rattle.pq_schema.specs.declared.table.Limit.{Limit}
use Rattle.pq_schema.specs.declared.table.Table.{Table}
use Rattle.pq_schema.specs.declared.query.Query.{Query}
use Rattle.pq_schema.specs.Candidates.{no_limit, bound_at, can_stop_at, stop_size}
use Rattle.pq_schema.specs.Relations.{table_of, tied_set, order_rest}
use Rattle.pq_schema.specs.Sequences.{IsAccess, sequence_of, begins_with, serves, group_access}
use Rattle.pq_schema.specs.Tables.{is_lookup, limit_of}
use Rattle.pq_plan.specs.Nodes.{Node, lookup, limit_range, stop_scan, keep, sort, cut, project, stop_access}

-- a relation of the query, by its number
pub record IsRelationOf (query : Query) (rel : ℕ) : Type 0 where
  pub from_one : 1 ≤ rel
  pub there : rel ≤ length query.relations

-- the limit of this number, from 1
abbrev pub node_limit_at : Table → ℕ → Limit
node_limit_at table number = slice_index_or table.limits (number - 1) no_limit

-- equalities tie the key of the relation
pub record IsLookup (tables : List Table) (query : Query) (rel : ℕ) : Type 0 where
  pub relation : IsRelationOf query rel
  pub tied : is_lookup (table_of tables query rel) (tied_set query rel) ≡ true

-- the limit is the one taken, n is its number and the data bound, and the sequence begins with its columns,
-- which equalities tie
pub record IsLimited (tables : List Table) (query : Query) (rel limit n : ℕ) (access : Access) : Type 0 where
  pub relation : IsRelationOf query rel
  pub no_lookup : is_lookup (table_of tables query rel) (tied_set query rel) ≡ false
  pub taken : limit_of (table_of tables query rel) (tied_set query rel) ≡ Some limit
  pub from_one : 1 ≤ limit
  pub there : limit ≤ length (table_of tables query rel).limits
  pub size : n ≡ (node_limit_at (table_of tables query rel) limit).n
  pub most : n ≤ 10000
  pub bound : bound_at tables query rel ≡ Some n
  pub tied : is_column_within (set_of (node_limit_at (table_of tables query rel) limit).cols)
      (tied_set query rel) ≡ true
  pub group : group_access (table_of tables query rel)
      (set_of (node_limit_at (table_of tables query rel) limit).cols) ≡ Some access

-- the query has a stop candidate at the relation, and k is its stop
pub record IsStopped (tables : List Table) (query : Query) (rel k : ℕ) (access : Access) : Type 0 where
  pub relation : IsRelationOf query rel
  pub size : stop_size query.stop ≡ Some k
  pub from_one : 1 ≤ k
  pub most : k ≤ 1000
  pub can : can_stop_at tables query rel ≡ true
  pub sequence : access ≡ stop_access tables query rel

pub record IsCutNode (query : Query) (k : ℕ) : Type 0 where
  pub size : stop_size query.stop ≡ Some k
  pub from_one : 1 ≤ k
  pub most : k ≤ 1000

abbrev pub IsNodeOf : List Table → Query → Node → Type 0
IsNodeOf tables query (lookup rel) = IsLookup tables query rel
IsNodeOf tables query (limit_range rel limit n access) = IsLimited tables query rel limit n access
IsNodeOf tables query (stop_scan rel k access) = IsStopped tables query rel k access
IsNodeOf tables query (keep rel) = IsRelationOf query rel
IsNodeOf tables query sort = Unit {0}
IsNodeOf tables query (cut k) = IsCutNode query k
IsNodeOf tables query project = Unit {0}

-- the sequence that a node goes over is of its table, and is what the node needs
abbrev pub HasIndex : List Table → Query → Node → Type 0
HasIndex tables query (lookup rel) = Unit {0}
HasIndex tables query (limit_range rel limit n access) =
    IsAccess (table_of tables query rel) access
    × (begins_with (sequence_of (table_of tables query rel) access)
    (set_of (node_limit_at (table_of tables query rel) limit).cols) ≡ true)
HasIndex tables query (stop_scan rel k access) =
    IsAccess (table_of tables query rel) access
    × (serves (table_of tables query rel) (tied_set query rel) (order_rest query rel)
    (sequence_of (table_of tables query rel) access) ≡ true)
HasIndex tables query (keep rel) = Unit {0}
HasIndex tables query sort = Unit {0}
HasIndex tables query (cut k) = Unit {0}
HasIndex tables query project = Unit {0}
