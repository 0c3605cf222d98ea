-- Tables that grow: definitions make them, and what reading gave over them stays.
use Rattle.std.proofs.Common.{◌≡◌, ℕ, ◌-◌, ◌<◌, ◌≤◌, inl, inr, List, [], ◌∷◌, ◌++◌, length, map, get_or, set, Option, Some, None, sym, ap, ◌∙◌, subst, arith, append_assoc, append-nil, length-append}
use Rattle.std.specs.Prelude.{All, IfSome}
use Rattle.std.proofs.Math.ListN.{get_or-append}
use Rattle.std.proofs.lemmas.Bool.{cases_eq, cases_lt}
use Rattle.std.proofs.lemmas.List.{length-map, length-set, map-append, get_or_append_left, get_or-set_same, get_or-set_other, get_or_past}
use Rattle.std.proofs.lemmas.List.Elements.{All-weaker}
use Rattle.pq_base.specs.declared.value.ColType.{ColType}
use Rattle.pq_base.specs.declared.value.ColType.TheVariants as type
use Rattle.pq_base.specs.Values.{same_kind}
use Rattle.pq_base.specs.declared.value.Value.{Value}
use Rattle.pq_schema.specs.declared.definition.AlterDef.{AlterDef}
use Rattle.pq_schema.specs.declared.query.ColRef.{ColRef}
use Rattle.pq_schema.specs.declared.query.Operand.{Operand}
use Rattle.pq_schema.specs.declared.query.Operand.TheVariants as operand
use Rattle.pq_schema.specs.declared.query.OrderItem.{OrderItem}
use Rattle.pq_schema.specs.declared.query.Pred.{Pred}
use Rattle.pq_schema.specs.declared.query.Query.{Query}
use Rattle.pq_schema.specs.declared.query.Relation.{Relation}
use Rattle.pq_schema.specs.declared.table.Column.{Column}
use Rattle.pq_schema.specs.declared.table.Foreign.{Foreign}
use Rattle.pq_schema.specs.declared.table.NewIndex.{NewIndex}
use Rattle.pq_schema.specs.declared.table.Table.{Table}
use Rattle.pq_schema.specs.Relations.{relation_at, no_relation, table_of}
use Rattle.pq_schema.specs.Resolved.{IsConstant, IsRelation, IsColumnOf, IsParam, IsOperand, IsPredicate, IsResolved, ref_type, param_type}
use Rattle.pq_schema.specs.Definitions.{column_of, column_refusal, altered_table, altered_schema}
use Rattle.pq_schema.specs.Schema.{Schema, with_wanted, with_added, with_new_index, with_new_column}
use Rattle.pq_schema.specs.Sound.{IsMade, IsMadeForeign, AreMade}
use Rattle.pq_schema.specs.Tables.{no_table, table_at, type_at}
use Rattle.pq_schema.specs.Valid.{IsValid}
use Rattle.pq_schema.proofs.Valid.{valid_made, column_takes}
use Rattle.pq_runnable.specs.Grown.{with_more, AreOwnForeign, HasGrown, HaveGrown}

-- ---- one table

pub table_itself : (table : Table) → AreOwnForeign table → HasGrown table table
table_itself table own = record {
  columns = [];
  fillers = [];
  indexes = [];
  is = sym (λ i. record table { columns = append-nil table.columns i; fillers = append-nil table.fillers i; indexes = append-nil table.indexes i });
  own = own;
}

pub table_then : (a b c : Table) → HasGrown a b → HasGrown b c → HasGrown a c
table_then a b c h k = record {
  columns = h.columns ++ k.columns;
  fillers = h.fillers ++ k.fillers;
  indexes = h.indexes ++ k.indexes;
  is =
      k.is
      ∙ ap (λ (t : Table). with_more t k.columns k.fillers k.indexes) h.is
      ∙ (λ i. record a { columns = append_assoc a.columns h.columns k.columns i; fillers = append_assoc a.fillers h.fillers k.fillers i; indexes = append_assoc a.indexes h.indexes k.indexes i });
  own = h.own;
}

as_before : (a b : Table) → AreOwnForeign a → b ≡ a → HasGrown a b
as_before a b own is = subst (HasGrown a) (sym is) (table_itself a own)

-- an index more
index_more : (table : Table) (new : NewIndex) → AreOwnForeign table → HasGrown table (with_new_index table new.index)
index_more table new own = record {
  columns = [];
  fillers = [];
  indexes = new.index ∷ [];
  is = sym (λ i. record table { columns = append-nil table.columns i; fillers = append-nil table.fillers i; indexes = table.indexes ++ new.index ∷ [] });
  own = own;
}

-- ---- a list of tables

-- a table that was made has the columns of its foreign keys
made_own : (tables : List Table) → AreMade tables → (number : ℕ) → 1 ≤ number → number ≤ length tables → AreOwnForeign (table_at tables number)
made_own tables made number one there =
    let table = table_at tables number in
    let is : IsMade tables number table = made number one there in
    All-weaker (IsMadeForeign tables number table.columns) (λ (f : Foreign). All (λ col. col < length table.columns) f.cols) (λ f own. own.inside) table.foreign is.foreign

pub tables_themselves : (tables : List Table) → AreMade tables → HaveGrown tables tables
tables_themselves tables made = record { long = omega arith; each = λ number one there. table_itself (table_at tables number) (made_own tables made number one there) }

pub tables_then : (a b c : List Table) → HaveGrown a b → HaveGrown b c → HaveGrown a c
tables_then a b c h k =
    let first = h.long in
    let second = k.long in
    record {
      long = omega arith;
      each = λ number one there. table_then (table_at a number) (table_at b number) (table_at c number) (h.each number one there) (k.each number one (omega arith));
    }

-- one more table
pub grown_table : (tables : List Table) (table : Table) → AreMade tables → HaveGrown tables (tables ++ table ∷ [])
grown_table tables table made =
    let long = length-append tables (table ∷ []) in
    record {
      long = omega arith;
      each = λ number one there. as_before (table_at tables number) (table_at (tables ++ table ∷ []) number) (made_own tables made number one there) (get_or-append tables (table ∷ []) no_table (number - 1) (omega arith));
    }

-- one table of them changed
changed_at : (tables : List Table) (place : ℕ) (changed : Table) → AreMade tables → 1 ≤ place → place ≤ length tables → HasGrown (table_at tables place) changed → HaveGrown tables (set tables (place - 1) changed)
changed_at tables place changed made from_one there grown =
    let long = length-set tables (place - 1) changed in
    record {
      long = omega arith;
      each = λ number one within. elim (cases_eq number place) [
        | inl same ↦
            let here : table_at (set tables (place - 1) changed) place ≡ changed = get_or-set_same tables (place - 1) changed no_table (omega arith) in
            subst (λ n. HasGrown (table_at tables n) (table_at (set tables (place - 1) changed) n)) (sym same)
            (subst (HasGrown (table_at tables place)) (sym here) grown)
        | inr other ↦
            as_before (table_at tables number) (table_at (set tables (place - 1) changed) number) (made_own tables made number one within)
            (get_or-set_other tables (place - 1) (number - 1) changed no_table (λ e. other (omega (arith, e, one, from_one))))
      ];
    }

-- one more index
pub grown_index : (tables : List Table) (new : NewIndex) → AreMade tables → 1 ≤ new.table → new.table ≤ length tables → HaveGrown tables (with_wanted tables (Some new))
grown_index tables new made from_one there =
    changed_at tables new.table (with_new_index (table_at tables new.table) new.index) made from_one there
    (index_more (table_at tables new.table) new (made_own tables made new.table from_one there))

pub grown_wanted : (tables : List Table) (wanted : Option NewIndex) → AreMade tables → IfSome wanted (λ new. (1 ≤ new.table) × (new.table ≤ length tables)) → HaveGrown tables (with_wanted tables wanted)
grown_wanted tables None made there = tables_themselves tables made
grown_wanted tables (Some new) made there = grown_index tables new made there.0 there.1

-- one more column
column_more : (table : Table) (column : Column) (filler : Value) → AreOwnForeign table → HasGrown table (with_new_column table column filler)
column_more table column filler own = record {
  columns = column ∷ [];
  fillers = Some filler ∷ [];
  indexes = [];
  is = λ i. record table { columns = table.columns ++ column ∷ []; fillers = table.fillers ++ Some filler ∷ []; indexes = sym (append-nil table.indexes) i };
  own = own;
}

pub grown_column : (tables : List Table) (number : ℕ) (column : Column) (filler : Value) → AreMade tables → 1 ≤ number → number ≤ length tables → HaveGrown tables (with_added tables number column filler)
grown_column tables number column filler made from_one there =
    changed_at tables number (with_new_column (table_at tables number) column filler) made from_one there
    (column_more (table_at tables number) column filler (made_own tables made number from_one there))

-- one that a definition adds
pub grown_altered : (s : Schema) (def : AlterDef) → IsValid s → column_refusal s def ≡ None → HaveGrown s.tables (altered_schema s def).tables
grown_altered s def valid none =
    let takes = column_takes s def none in
    grown_column s.tables (altered_table s def) (column_of def.column) def.filler (valid_made valid) takes.from_one takes.there

-- ---- columns behind others

-- a column keeps its type
pub type_before : (columns more : List Column) (col : ℕ) → col < length columns → type_at (columns ++ more) col ≡ type_at columns col
type_before columns more col inside =
    let long = length-map columns (λ (c : Column). c.ty) in
    ap (λ (types : List ColType). get_or types col type.Bool) (map-append (λ (c : Column). c.ty) columns more)
    ∙ get_or_append_left (map (λ (c : Column). c.ty) columns) (map (λ (c : Column). c.ty) more) type.Bool col (omega (arith, long, inside))

-- ---- a query that reading gave over them

module _ (before now : List Table) (query : Query) (grown : HaveGrown before now) (resolved : IsResolved before query) where
  first_table : 1 ≤ length before
  first_table =
      let relation = resolved.relations 0 no_relation (resolved.some_relations) in
      let low = relation.from_one in
      let high = relation.there in
      omega arith

  -- the table of every relation has grown, also of a number that no relation has
  pub relation_grown : (rel : ℕ) → HasGrown (table_of before query rel) (table_of now query rel)
  relation_grown rel = elim (cases_lt (rel - 1) (length query.relations)) [
    | inl there ↦ let relation = resolved.relations (rel - 1) no_relation there in grown.each (relation_at query rel).table relation.from_one relation.there
    | inr past ↦
        subst (λ (r : Relation). HasGrown (table_at before r.table) (table_at now r.table)) (sym (get_or_past query.relations (rel - 1) no_relation past))
        (grown.each 1 (omega arith) first_table)
  ]

  more_columns : (rel : ℕ) → (table_of now query rel).columns ≡ (table_of before query rel).columns ++ (relation_grown rel).columns
  more_columns rel = ap (λ (t : Table). t.columns) (relation_grown rel).is

  relation_stays : (relation : Relation) → IsRelation before relation → IsRelation now relation
  relation_stays relation is =
      let long = grown.long in
      let there = is.there in
      record { from_one = is.from_one; there = omega arith; alias = is.alias }

  column_stays : (col : ColRef) → IsColumnOf before query col → IsColumnOf now query col
  column_stays col is =
      let inside = is.inside in
      let long = ap length (more_columns col.rel) ∙ length-append (table_of before query col.rel).columns (relation_grown col.rel).columns in
      record { from_one = is.from_one; there = is.there; inside = omega (arith, long, inside) }

  same_type : (col : ColRef) → IsColumnOf before query col → ref_type before query col ≡ ref_type now query col
  same_type col is = sym (ap (λ (columns : List Column). type_at columns col.col) (more_columns col.rel) ∙ type_before (table_of before query col.rel).columns (relation_grown col.rel).columns col.col is.inside)

  operand_stays : (pred : Pred) (side : Operand) → IsColumnOf before query pred.left → IsOperand before query pred side → IsOperand now query pred side
  operand_stays pred (operand.Const value) left is = subst (λ (t : ColType). IsConstant pred.op (param_type t) value) (same_type pred.left left) is
  operand_stays pred (operand.Param number) left is = (is.0, subst (λ (t : ColType). IsParam query.params number (param_type t)) (same_type pred.left left) is.1)
  operand_stays pred (operand.Col col) left is = record {
    equal = is.equal;
    column = column_stays col is.column;
    earlier = is.earlier;
    kind = (λ i. same_kind (sym (same_type pred.left left) i) (sym (same_type col is.column) i)) ∙ is.kind;
  }

  pred_stays : (pred : Pred) → IsPredicate before query pred → IsPredicate now query pred
  pred_stays pred is = record { left = column_stays pred.left is.left; right = operand_stays pred pred.right is.left is.right }

  pub resolved_stays : IsResolved now query
  resolved_stays = record {
    some_relations = resolved.some_relations;
    few_relations = resolved.few_relations;
    relations = All-weaker (IsRelation before) (IsRelation now) relation_stays query.relations resolved.relations;
    aliases = resolved.aliases;
    some_selected = resolved.some_selected;
    few_selected = resolved.few_selected;
    select = All-weaker (IsColumnOf before query) (IsColumnOf now query) column_stays query.select resolved.select;
    few_preds = resolved.few_preds;
    preds = All-weaker (IsPredicate before query) (IsPredicate now query) pred_stays query.preds resolved.preds;
    few_order = resolved.few_order;
    order = All-weaker (λ (item : OrderItem). IsColumnOf before query item.col) (λ (item : OrderItem). IsColumnOf now query item.col) (λ item is. column_stays item.col is) query.order resolved.order;
    once = resolved.once;
    stop = resolved.stop;
    params = resolved.params;
  }
