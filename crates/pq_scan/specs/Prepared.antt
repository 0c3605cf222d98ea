-- What a prepared scan has.
use Rattle.std.specs.Prelude.{◌≡◌, ℕ, ◌<◌, true, List, [], map, take, count_ones}
use Rattle.std.specs.List.{AllByRecursion}
use Rattle.pq_base.specs.Members.{In}
use Rattle.pq_base.specs.declared.value.Dir.{Dir}
use Rattle.pq_base.specs.declared.value.Value.{Value}
use Rattle.pq_schema.specs.declared.query.OrderItem.{OrderItem}
use Rattle.pq_schema.specs.declared.query.Query.{Query}
use Rattle.pq_schema.specs.declared.table.Access.{Access}
use Rattle.pq_schema.specs.declared.table.Table.{Table}
use Rattle.pq_schema.specs.Keys.{dirs_of}
use Rattle.pq_schema.specs.Relations.{tied_set, position_columns, relation_at, table_of}
use Rattle.pq_schema.specs.Rows.{Rows}
use Rattle.pq_schema.specs.Sequences.{columns_of, sequence_of}
use Rattle.pq_schema.specs.Candidates.{can_stop_at}
use Rattle.pq_schema.specs.Tables.{types_at}
use Rattle.pq_plan.specs.Answer.{Question}
use Rattle.pq_nodes.specs.Inverse.{IsRelationOf}
use Rattle.pq_nodes.specs.Operators.{IsAsked}
use Rattle.pq_serving.specs.Laws.{Serves}
use Rattle.pq_scan.specs.declared.prepared.Scan.{Scan}

-- the directions of a position
abbrev pub item_directions : List OrderItem → List Dir
item_directions items = map (λ item. item.dir) items

-- what a scan is of
pub record Subject : Type 0 where
  pub tables : List Table
  pub query : Query
  pub params : List Value
  pub rel : ℕ
  pub access : Access

abbrev pub subject_of : Scan → Subject
subject_of scan =
    record {
      tables = scan.catalog.now.tables;
      query = scan.query.now;
      params = scan.params.now;
      rel = scan.rel;
      access = scan.access;
    }

-- the query and its parameters over rows
abbrev pub asked_over : Scan → Rows → Question
asked_over scan rows =
    record { tables = scan.catalog.now.tables; query = scan.query.now; rows = rows; params = scan.params.now }

-- the parts of a scan are what they are called
pub record IsPrepared (scan : Scan) : Type 0 where
  pub number_is : scan.number ≡ (relation_at scan.query.now scan.rel).table
  pub fixed_is : scan.fixed ≡ tied_set scan.query.now scan.rel
  pub sequence_is : scan.sequence ≡ sequence_of (table_of scan.catalog.now.tables scan.query.now scan.rel) scan.access
  pub front_is : scan.front ≡ take (count_ones (tied_set scan.query.now scan.rel)) (columns_of scan.sequence)
  pub types_is : scan.types ≡ types_at (table_of scan.catalog.now.tables scan.query.now scan.rel).columns (columns_of scan.sequence)
  pub dirs_is : scan.dirs ≡ dirs_of scan.sequence
  pub items_is : scan.items ≡ position_columns scan.catalog.now.tables scan.query.now
  pub position_dirs_is : scan.position_dirs ≡ item_directions scan.items
  pub columns : AllByRecursion (λ pred. pred.left.col < 32) scan.query.now.preds
  pub item_columns : (item : OrderItem) → In item scan.items → item.col.col < 32

-- a sound scan of an asked query, at a relation at which a stop can stand, by a sequence that serves it
pub record IsScannable (scan : Scan) : Type 0 where
  pub sound : IsPrepared scan
  pub asked : IsAsked scan.catalog.now.tables scan.query.now scan.params.now
  pub relation : IsRelationOf scan.query.now scan.rel
  pub can : can_stop_at scan.catalog.now.tables scan.query.now scan.rel ≡ true
  pub serves : Serves (asked_over scan []) scan.rel scan.access
