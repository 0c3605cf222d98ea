-- The canonical text of a query stays the same while names do.
use Rattle.std.proofs.Common.{◌≡◌, ℕ, ◌+◌, ◌-◌, ◌≤◌, List, [], ◌∷◌, ◌++◌, length, get_or, Option, Some, None, refl, sym, ap, ◌∙◌, arith, inl, inr}
use Rattle.std.specs.Prelude.{codes, IfSome}
use Rattle.std.specs.List.{AllByRecursion}
use Rattle.std.specs.Option.{option_map}
use Rattle.std.proofs.Math.Seq.{get_or-append_seam}
use Rattle.std.proofs.lemmas.Bool.{cases_eq}
use Rattle.std.proofs.lemmas.List.{get_or-set_same, get_or-set_other}
use Rattle.pq_schema.specs.Relations.{no_relation, relation_at}
use Rattle.pq_schema.specs.Resolved.{IsRelation, IsColumnOf, IsOperand, IsPredicate, IsResolved}
use Rattle.pq_schema.specs.Schema.{Schema, no_definition, with_new_index, with_wanted, with_query, made_of}
use Rattle.pq_schema.specs.Tables.{no_table, table_at}
use Rattle.pq_schema.specs.declared.made.Definition.{Definition}
use Rattle.pq_schema.specs.declared.made.Definition.TheVariants.{OfQuery}
use Rattle.pq_schema.specs.declared.query.ColRef.{ColRef}
use Rattle.pq_schema.specs.declared.query.Operand.{Operand}
use Rattle.pq_schema.specs.declared.query.Operand.TheVariants as operand
use Rattle.pq_schema.specs.declared.query.OrderItem.{OrderItem}
use Rattle.pq_schema.specs.declared.query.Pred.{Pred}
use Rattle.pq_schema.specs.declared.query.Query.{Query}
use Rattle.pq_schema.specs.declared.query.Relation.{Relation}
use Rattle.pq_schema.specs.declared.table.NewIndex.{NewIndex}
use Rattle.pq_schema.specs.declared.table.Table.{Table}
use Rattle.pq_print.specs.Canonical.{column_name, ref_text, relation_text, op_text, operand_text, pred_text, order_text, select_text, query_text, text_of, definition_text}
use Rattle.pq_print.specs.Lists.{each_after, separate_texts, clause}
use Rattle.pq_print.specs.Report.{dir_text}
use Rattle.pq_reread.specs.ReadBack.{KeepNames}
use Rattle.pq_reread.proofs.Alls.{one_by_one}

-- ---- lists whose items have the same texts

each_same : {Y : Type 0} (between : List ℕ) (text other : Y → List ℕ) (ys : List Y) → AllByRecursion (λ y. text y ≡ other y) ys → each_after between text ys ≡ each_after between other ys
each_same between text other [] all = refl
each_same between text other (y ∷ ys) all =
    ap (λ (v : List ℕ). (between ++ v) ++ each_after between text ys) all.0 ∙ ap (λ (v : List ℕ). (between ++ other y) ++ v) (each_same between text other ys all.1)

separated_same : {Y : Type 0} (between : List ℕ) (text other : Y → List ℕ) (ys : List Y) → AllByRecursion (λ y. text y ≡ other y) ys → separate_texts between text ys ≡ separate_texts between other ys
separated_same between text other [] all = refl
separated_same between text other (y ∷ ys) all =
    ap (λ (v : List ℕ). v ++ each_after between text ys) all.0 ∙ ap (λ (v : List ℕ). other y ++ v) (each_same between text other ys all.1)

clause_same : {Y : Type 0} (keyword between : List ℕ) (text other : Y → List ℕ) (ys : List Y) → AllByRecursion (λ y. text y ≡ other y) ys → clause keyword between text ys ≡ clause keyword between other ys
clause_same keyword between text other [] all = refl
clause_same keyword between text other (y ∷ ys) all = ap (λ (v : List ℕ). keyword ++ v) (separated_same between text other (y ∷ ys) all)

-- ---- the parts of a query

module _ (tables later : List Table) (query : Query) (is : IsResolved tables query) (keep : KeepNames tables later) where
  ref_same : (ref : ColRef) → IsColumnOf tables query ref → ref_text later query ref ≡ ref_text tables query ref
  unfolding ref_text
  ref_same ref i =
      let relation = relation_at query ref.rel in
      let known = is.relations (ref.rel - 1) no_relation (let low = i.from_one in let high = i.there in omega (arith, low, high)) in
      ap (λ (v : List ℕ). (relation.alias ++ codes ".") ++ v) (keep.column relation.table ref.col known.from_one known.there i.inside)

  relation_same : (relation : Relation) → IsRelation tables relation → relation_text later relation ≡ relation_text tables relation
  unfolding relation_text
  relation_same relation known = ap (λ (v : List ℕ). (v ++ codes " AS ") ++ relation.alias) (keep.table relation.table known.from_one known.there)

  operand_same : (pred : Pred) (right : Operand) → IsOperand tables query pred right → operand_text later query right ≡ operand_text tables query right
  operand_same pred (operand.Const v) known = refl
  operand_same pred (operand.Param n) known = refl
  operand_same pred (operand.Col ref) joined = ref_same ref joined.column

  pred_same : (pred : Pred) → IsPredicate tables query pred → pred_text later query pred ≡ pred_text tables query pred
  unfolding pred_text
  pred_same pred known =
      ap (λ (v : List ℕ). (((v ++ codes " ") ++ op_text pred.op) ++ codes " ") ++ operand_text later query pred.right) (ref_same pred.left known.left)
      ∙ ap (λ (v : List ℕ). (((ref_text tables query pred.left ++ codes " ") ++ op_text pred.op) ++ codes " ") ++ v) (operand_same pred pred.right known.right)

  item_same : (item : OrderItem) → IsColumnOf tables query item.col → order_text later query item ≡ order_text tables query item
  item_same item known = ap (λ (v : List ℕ). v ++ dir_text item.dir) (ref_same item.col known)

  pub query_same : query_text later query ≡ query_text tables query
  unfolding query_text select_text
  query_same =
      let chosen = separated_same (codes ", ") (ref_text later query) (ref_text tables query) query.select (one_by_one _ query.select (λ k d lt. ref_same _ (is.select k d lt))) in
      let from = separated_same (codes ", ") (relation_text later) (relation_text tables) query.relations (one_by_one _ query.relations (λ k d lt. relation_same _ (is.relations k d lt))) in
      let tests = clause_same (codes " WHERE ") (codes " AND ") (pred_text later query) (pred_text tables query) query.preds (one_by_one _ query.preds (λ k d lt. pred_same _ (is.preds k d lt))) in
      let order = clause_same (codes " ORDER BY ") (codes ", ") (order_text later query) (order_text tables query) query.order (one_by_one _ query.order (λ k d lt. item_same _ (is.order k d lt))) in
      rw (chosen, from, tests, order) refl

-- ---- an index more

module _ (tables : List Table) (new : NewIndex) (one : 1 ≤ new.table) (there : new.table ≤ length tables) where
  abbrev after : List Table
  after = with_wanted tables (Some new)

  -- what an index leaves as it is
  same_at : {X : Type 0} (f : Table → X) → f (with_new_index (table_at tables new.table) new.index) ≡ f (table_at tables new.table) → (number : ℕ) → 1 ≤ number → f (table_at after number) ≡ f (table_at tables number)
  same_at f same number low =
      elim (cases_eq number new.table) [
        | inl here ↦
            ap (λ n. f (table_at after n)) here
            ∙ ap f (get_or-set_same tables (new.table - 1) (with_new_index (table_at tables new.table) new.index) no_table (omega arith))
            ∙ same ∙ ap (λ n. f (table_at tables n)) (sym here)
        | inr other ↦ ap f (get_or-set_other tables (new.table - 1) (number - 1) (with_new_index (table_at tables new.table) new.index) no_table (λ e. other (omega (arith, e, low))))
      ]

  new_keeps : KeepNames tables after
  new_keeps = record {
    table = λ number low high. same_at (λ t. t.name) refl number low;
    column = λ number col low high lt. ap (λ columns. column_name columns col) (same_at (λ t. t.columns) refl number low);
  }

wanted_keeps : (tables : List Table) (wanted : Option NewIndex) → IfSome wanted (λ new. (1 ≤ new.table) × (new.table ≤ length tables)) → KeepNames tables (with_wanted tables wanted)
wanted_keeps tables None there = record { table = λ number low high. refl; column = λ number col low high lt. refl }
wanted_keeps tables (Some new) there = new_keeps tables new there.0 there.1

-- the text of the definition that comes last
pub last_text : (schema : Schema) (query : Query) (wanted : Option NewIndex) → IsResolved schema.tables query → IfSome wanted (λ new. (1 ≤ new.table) × (new.table ≤ length schema.tables))
    → definition_text (with_query schema query wanted) (length schema.definitions + 1) ≡ query_text schema.tables query
unfolding definition_text
last_text schema query wanted is there =
    let place : length schema.definitions + 1 - 1 ≡ length schema.definitions = omega arith in
    let last : Definition = OfQuery query (option_map made_of wanted) in
    ap (λ n. text_of (with_wanted schema.tables wanted) (get_or (schema.definitions ++ last ∷ []) n no_definition)) place
    ∙ ap (text_of (with_wanted schema.tables wanted)) (get_or-append_seam schema.definitions last [] no_definition)
    ∙ query_same schema.tables (with_wanted schema.tables wanted) query is (wanted_keeps schema.tables wanted there)
