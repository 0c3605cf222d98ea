-- Tables that are made are sound, and queries over them are those that planning takes.
use Rattle.std.proofs.Common.{◌≡◌, ℕ, ◌+◌, ◌-◌, ◌<◌, ◌≤◌, List, length, get_or, sym, ◌∙◌, subst, arith}
use Rattle.std.specs.Prelude.{All}
use Rattle.std.proofs.lemmas.List.{length-map}
use Rattle.std.proofs.lemmas.List.Elements.{All-from_get_or, All-weaker}
use Rattle.pq_schema.specs.declared.query.ColRef.{ColRef}
use Rattle.pq_schema.specs.declared.query.Operand.{Operand}
use Rattle.pq_schema.specs.declared.query.Operand.TheVariants as operand
use Rattle.pq_schema.specs.declared.query.OrderItem.{OrderItem}
use Rattle.pq_schema.specs.declared.query.Pred.{Pred}
use Rattle.pq_schema.specs.declared.query.Query.{Query}
use Rattle.pq_schema.specs.declared.query.Relation.{Relation}
use Rattle.pq_schema.specs.declared.table.Foreign.{Foreign}
use Rattle.pq_schema.specs.declared.table.Index.{Index}
use Rattle.pq_schema.specs.declared.table.Limit.{Limit}
use Rattle.pq_schema.specs.declared.table.Table.{Table}
use Rattle.pq_schema.specs.Relations.{relation_at, no_relation}
use Rattle.pq_schema.specs.Resolved.{IsRelation, IsColumnOf, IsOperand, IsPredicate, IsResolved}
use Rattle.pq_schema.specs.Schema.{Schema}
use Rattle.pq_schema.specs.Sound.{IsTable, IsLinked, IsForeign, IsNamedSide, IsNamedPred, IsQuery, AreColumns, AreParts, IsMade, IsMadeLimit, IsMadeForeign, AreMade}
use Rattle.pq_schema.specs.Tables.{no_table, table_at, type_at, types_at}
use Rattle.pq_schema.specs.Valid.{IsValid}
use Rattle.pq_schema.proofs.TypeKinds.{same_length}
use Rattle.pq_schema.proofs.Valid.{valid_made}

-- columns below a width of at most 32
narrow : (width : ℕ) (cols : List ℕ) → width ≤ 32 → All (λ col. col < width) cols → AreColumns cols
narrow width cols few inside = All-weaker (λ col. col < width) (λ col. col < 32) (λ col lt. omega arith) cols inside

pub table_made : (tables : List Table) (number : ℕ) (table : Table) → IsMade tables number table → IsTable table
table_made tables number table made =
    let few = made.few_columns in
    let width = length table.columns in
    record {
      key = narrow width table.key few made.key.inside;
      short = made.key.few;
      limits = All-weaker (IsMadeLimit width) (λ (l : Limit). AreColumns l.cols) (λ l is. narrow width l.cols few is.cols.inside) table.limits made.limits;
      sizes = All-weaker (IsMadeLimit width) (λ (l : Limit). l.n ≤ 10000) (λ l is. is.most) table.limits made.limits;
      few = made.few_limits;
      indexes = All-weaker (λ (i : Index). All (λ part. part.col < width) i.cols) (λ (i : Index). AreParts i.cols) (λ i inside. All-weaker (λ part. part.col < width) (λ part. part.col < 32) (λ part lt. omega arith) i.cols inside) table.indexes made.indexes;
      few_indexes = made.few_indexes;
      few_columns = few;
    }

pub foreign_linked : (tables : List Table) (number : ℕ) (table : Table) (f : Foreign) → IsMadeForeign tables number table.columns f → IsForeign tables table f
foreign_linked tables number table f made =
    let parent = table_at tables f.table in
    record {
      long =
          sym (length-map f.cols (type_at table.columns))
          ∙ same_length (types_at table.columns f.cols) (types_at parent.columns parent.key) made.shape
          ∙ length-map parent.key (type_at parent.columns);
      inside = made.inside;
    }

pub table_linked : (tables : List Table) (number : ℕ) (table : Table) → IsMade tables number table → IsLinked tables table
table_linked tables number table made = record {
  key = made.key.inside;
  foreign = All-weaker (IsMadeForeign tables number table.columns) (IsForeign tables table) (foreign_linked tables number table) table.foreign made.foreign;
  limit_groups = made.limit_groups;
  foreign_groups = made.foreign_groups;
}

-- what holds of each made table holds of all
pub all_made : (P : Table → Type 0) (tables : List Table) → ((number : ℕ) (table : Table) → IsMade tables number table → P table) → AreMade tables → All P tables
all_made P tables each made = All-from_get_or P tables no_table (λ i there.
    let place : i + 1 - 1 ≡ i = omega arith in
    subst (λ n. P (get_or tables n no_table)) place (each (i + 1) (table_at tables (i + 1)) (made (i + 1) (omega arith) (omega arith))))

module _ (tables : List Table) (query : Query) (made : AreMade tables) (resolved : IsResolved tables query) where
  relation_is : (rel : ℕ) → 1 ≤ rel → rel ≤ length query.relations → IsRelation tables (relation_at query rel)
  relation_is rel one there = resolved.relations (rel - 1) no_relation (omega arith)

  column_small : (col : ColRef) → IsColumnOf tables query col → col.col < 32
  column_small col is =
      let relation = relation_is col.rel is.from_one is.there in
      let few = (made (relation_at query col.rel).table relation.from_one relation.there).few_columns in
      let lt = is.inside in
      omega (arith, few, lt)

  side_named : (pred : Pred) (side : Operand) → IsOperand tables query pred side → IsNamedSide (length query.relations) side
  side_named pred (operand.Const value) is = tt
  side_named pred (operand.Param number) is = tt
  side_named pred (operand.Col col) is = (is.column.from_one, is.column.there)

  pred_named : (pred : Pred) → IsPredicate tables query pred → IsNamedPred (length query.relations) pred
  pred_named pred is = ((is.left.from_one, is.left.there), side_named pred pred.right is.right)

  pub resolved_is_query : IsQuery tables query
  resolved_is_query = record {
    each = all_made IsTable tables (table_made tables) made;
    relations = All-weaker (IsRelation tables) (λ (r : Relation). (1 ≤ r.table) × (r.table ≤ length tables)) (λ r is. (is.from_one, is.there)) query.relations resolved.relations;
    few_relations = resolved.few_relations;
    refs = record {
      preds = All-weaker (IsPredicate tables query) (λ (p : Pred). p.left.col < 32) (λ p is. column_small p.left is.left) query.preds resolved.preds;
      order = All-weaker (λ (item : OrderItem). IsColumnOf tables query item.col) (λ (item : OrderItem). item.col.col < 32) (λ item is. column_small item.col is) query.order resolved.order;
      few = resolved.few_order;
    };
    linked = all_made (IsLinked tables) tables (table_linked tables) made;
    named = All-weaker (IsPredicate tables query) (IsNamedPred (length query.relations)) pred_named query.preds resolved.preds;
    stop = resolved.stop;
  }

pub valid_tables : (s : Schema) → IsValid s → All IsTable s.tables
valid_tables s v = all_made IsTable s.tables (table_made s.tables) (valid_made v)

pub valid_linked : (s : Schema) → IsValid s → All (IsLinked s.tables) s.tables
valid_linked s v = all_made (IsLinked s.tables) s.tables (table_linked s.tables) (valid_made v)

pub valid_query : (s : Schema) (query : Query) → IsValid s → IsResolved s.tables query → IsQuery s.tables query
valid_query s query v resolved = resolved_is_query s.tables query (valid_made v) resolved
