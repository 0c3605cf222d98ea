-- A query that is resolved over a valid schema is one that planning takes.
use Rattle.std.proofs.Common.{◌≡◌, ℕ, zero, suc, ◌+◌, ◌-◌, ◌*◌, ◌≤◌, false, List, [], length, map, flat_map, All, None, Result, Ok, refl, ap, ◌∙◌, subst, arith, zero-add}
use Rattle.std.specs.Prelude.{nat_lt, slice_index_or}
use Rattle.std.specs.List.{AllByRecursion, IsDistinct, range_with_len}
use Rattle.std.specs.Str.{bytes_eq}
use Rattle.std.proofs.lemmas.Bool.{or_parts, ltb-false}
use Rattle.std.proofs.lemmas.List.{length-map, length-append}
use Rattle.std.proofs.lemmas.List.Elements.{All-from_recursion}
use Rattle.std.proofs.lemmas.List.FromFn.{length-range_with_len}
use Rattle.pq_base.specs.declared.count_word.TheConstants as count_word
use Rattle.pq_base.specs.declared.refusal.Refusal.{Refusal}
use Rattle.pq_base.specs.declared.refusal.Refusal.TheVariants as refusal
use Rattle.pq_base.specs.Answers.{or_else}
use Rattle.pq_base.specs.declared.value.ColType.{ColType}
use Rattle.pq_schema.specs.Definitions.{is_outside, refused_if}
use Rattle.pq_schema.specs.Relations.{no_relation}
use Rattle.pq_schema.specs.Resolved.{IsRelation, IsColumnOf, IsOperand, IsPredicate, IsResolved, same_ref, param_type}
use Rattle.pq_schema.specs.Schema.{Schema}
use Rattle.pq_schema.specs.Valid.{IsValid}
use Rattle.pq_schema.specs.declared.query.ColRef.{ColRef}
use Rattle.pq_schema.specs.declared.query.Operand.{Operand}
use Rattle.pq_schema.specs.declared.query.Operand.TheVariants as operand
use Rattle.pq_schema.specs.declared.query.OrderItem.{OrderItem}
use Rattle.pq_schema.specs.declared.query.Pred.{Pred}
use Rattle.pq_schema.specs.declared.query.Query.{Query}
use Rattle.pq_schema.specs.declared.query.Relation.{Relation}
use Rattle.pq_schema.specs.declared.query.Stop.{Stop}
use Rattle.pq_schema.specs.declared.table.Table.{Table}
use Rattle.pq_schema.proofs.Accepted.{neither, not_refused}
use Rattle.pq_schema.proofs.Valid.{valid_made}
use Rattle.pq_base.specs.Members.{In}
use Rattle.pq_base.proofs.Members.{each_in, each_by_in, in_range, in_map, in_flat_map, at_in}
use Rattle.pq_query_read.specs.declared.select.SelectDef.{SelectDef}
use Rattle.pq_query_read.specs.declared.select.Selected.{Selected}
use Rattle.pq_query_read.specs.declared.select.Selected.TheVariants as selected
use Rattle.pq_query_read.specs.Columns.{columns_at, numbers, ref_of, type_of, all_of, selected_of, IsIn}
use Rattle.pq_query_read.specs.Parameters.{use_in, uses, params_of}
use Rattle.pq_query_read.specs.Resolving.{clause_counts_refusal, is_outside_selected, relation_of, pred_of, item_of, stop_of, resolved_select}
use Rattle.pq_query_read.proofs.Spelled.{IsSelectDef}
use Rattle.pq_query_read.specs.Trying.{◌>>=◌, passed_unless, each_after}
use Rattle.pq_query_read.proofs.Trying.{both, no_refusal, same_answer, each_long}
use Rattle.pq_query_read.proofs.Refs.{relations_made, refs_found}
use Rattle.pq_query_read.proofs.Compares.{IsSide, IsCompared, preds_compared, items_made, stop_sized}
use Rattle.pq_query_read.proofs.Parameters.{made_in, param_is, params_used}

-- ---- counts

inside : (count most : ℕ) → is_outside count most ≡ false → (1 ≤ count) × (count ≤ most)
inside count most is =
    let parts = or_parts (nat_lt count 1) (nat_lt most count) is in
    (ltb-false count 1 parts.0, ltb-false most count parts.1)

pub record AreFew (def : SelectDef) : Type 0 where
  pub relations : (1 ≤ length def.relations) × (length def.relations ≤ 6)
  pub preds : length def.preds ≤ 16
  pub order : length def.order ≤ 4
  pub selected : is_outside_selected def.selected ≡ false

few : (def : SelectDef) → clause_counts_refusal def ≡ None → AreFew def
few def none =
    let relations = refused_if (is_outside (length def.relations) 6) (refusal.Count count_word.RELATIONS) in
    let preds = refused_if (nat_lt 16 (length def.preds)) (refusal.Count count_word.PREDICATES) in
    let order = refused_if (nat_lt 4 (length def.order)) (refusal.Count count_word.ORDER) in
    let selected = refused_if (is_outside_selected def.selected) (refusal.Count count_word.SELECTED) in
    let first = neither relations (or_else preds (or_else order selected)) none in
    let second = neither preds (or_else order selected) first.1 in
    let third = neither order selected second.1 in
    record {
      relations = inside (length def.relations) 6 (not_refused (is_outside (length def.relations) 6) (refusal.Count count_word.RELATIONS) first.0);
      preds = ltb-false 16 (length def.preds) (not_refused (nat_lt 16 (length def.preds)) (refusal.Count count_word.PREDICATES) second.0);
      order = ltb-false 4 (length def.order) (not_refused (nat_lt 4 (length def.order)) (refusal.Count count_word.ORDER) third.0);
      selected = not_refused (is_outside_selected def.selected) (refusal.Count count_word.SELECTED) third.1;
    }

-- ---- SELECT

module _ (schema : Schema) (valid : IsValid schema) (relations : List Relation) (known : AllByRecursion (IsRelation schema.tables) relations) where
  -- the table of a relation has 1 to 32 columns
  columns_made : (rel : ℕ) → 1 ≤ rel → rel ≤ length relations → (1 ≤ length (columns_at schema.tables relations rel)) × (length (columns_at schema.tables relations rel) ≤ 32)
  columns_made rel low high =
      let relation = slice_index_or relations (rel - 1) no_relation in
      let at = each_in (IsRelation schema.tables) relations known relation (at_in relations (rel - 1) no_relation (omega (arith, low, high))) in
      let made = valid_made valid relation.table at.from_one at.there in
      (made.some_columns, made.few_columns)

  all_long : (a n : ℕ) → 1 ≤ a → a + n ≤ length relations + 1
      → (n ≤ length (flat_map (all_of schema.tables relations) (range_with_len a n))) × (length (flat_map (all_of schema.tables relations) (range_with_len a n)) ≤ 32 * n)
  all_long a zero low high = (omega arith, omega arith)
  all_long a (suc n) low high =
      let one = columns_made a low (omega (arith, high)) in
      let rest = all_long (a + 1) n (omega arith) (omega (arith, high)) in
      let first : length (all_of schema.tables relations a) ≡ length (columns_at schema.tables relations a) = length-map (range_with_len 0 (length (columns_at schema.tables relations a))) (λ col. record { rel = a; col = col }) ∙ length-range_with_len 0 (length (columns_at schema.tables relations a)) in
      let whole = length-append (all_of schema.tables relations a) (flat_map (all_of schema.tables relations) (range_with_len (a + 1) n)) in
      (omega (arith, whole, first, one.0, rest.0), omega (arith, whole, first, one.1, rest.1))

  all_inside : (ref : ColRef) → In ref (flat_map (all_of schema.tables relations) (numbers schema.tables relations)) → IsIn schema.tables relations ref
  all_inside ref i =
      let at = in_flat_map (all_of schema.tables relations) ref (numbers schema.tables relations) i in
      let range = in_range at.0 1 (length relations) at.1 in
      let made = in_map (λ col. record { rel = at.0; col = col }) ref (range_with_len 0 (length (columns_at schema.tables relations at.0))) at.2 in
      let place = in_range made.0 0 (length (columns_at schema.tables relations at.0)) made.1 in
      subst (IsIn schema.tables relations) made.2 (record { from_one = range.0; there = (let high = range.1 in omega (arith, high)); inside = (let high = place.1 in omega (arith, high)) })

  pub selected_made : (def : Selected) (refs : List ColRef) → is_outside_selected def ≡ false → 1 ≤ length relations → length relations ≤ 6 → selected_of schema.tables relations def ≡ Ok refs
      → (1 ≤ length refs) × (length refs ≤ 192) × AllByRecursion (IsIn schema.tables relations) refs
  selected_made selected.Star refs counted some six is =
      let same = same_answer (flat_map (all_of schema.tables relations) (numbers schema.tables relations)) refs is in
      let long = all_long 1 (length relations) (omega arith) (omega arith) in
      subst (λ refs. (1 ≤ length refs) × (length refs ≤ 192) × AllByRecursion (IsIn schema.tables relations) refs) same (
        (let low = long.0 in omega (arith, low, some)),
        (let high = long.1 in omega (arith, high, six)),
        each_by_in (IsIn schema.tables relations) (flat_map (all_of schema.tables relations) (numbers schema.tables relations)) all_inside,
      )
  selected_made (selected.Refs defs) refs counted some six is =
      let long = each_long (λ before def. ref_of schema.tables relations def) defs [] refs is in
      let few = inside (length defs) 192 counted in
      ((let low = few.0 in omega (arith, low, long)), (let high = few.1 in omega (arith, high, long)), refs_found schema.tables relations defs refs is)

-- ---- the parts of a query that is resolved

module _ (schema : Schema) (name : List ℕ) (def : SelectDef) where
  abbrev query_of : List Relation → List ColRef → List Pred → List OrderItem → Stop → List ColType → Query
  query_of relations select preds order stop params = record { name = name; relations = relations; select = select; preds = preds; order = order; stop = stop; params = params }

  abbrev from_stop : List Relation → List ColRef → List Pred → List OrderItem → Stop → Result Query Refusal
  from_stop relations select preds order stop = params_of (uses schema.tables relations preds) >>= λ params. Ok (query_of relations select preds order stop params)

  abbrev from_order : List Relation → List ColRef → List Pred → List OrderItem → Result Query Refusal
  from_order relations select preds order = stop_of def.stop >>= from_stop relations select preds order

  abbrev from_preds : List Relation → List ColRef → List Pred → Result Query Refusal
  from_preds relations select preds = each_after (item_of schema.tables relations) [] def.order >>= from_order relations select preds

  abbrev from_select : List Relation → List ColRef → Result Query Refusal
  from_select relations select = each_after (pred_of schema.tables relations) [] def.preds >>= from_preds relations select

  abbrev from_relations : List Relation → Result Query Refusal
  from_relations relations = selected_of schema.tables relations def.selected >>= from_select relations

  record Parts (query : Query) : Type 0 where
    few : clause_counts_refusal def ≡ None
    relations : List Relation
    relations_is : each_after (relation_of schema) [] def.relations ≡ Ok relations
    select : List ColRef
    select_is : selected_of schema.tables relations def.selected ≡ Ok select
    preds : List Pred
    preds_is : each_after (pred_of schema.tables relations) [] def.preds ≡ Ok preds
    order : List OrderItem
    order_is : each_after (item_of schema.tables relations) [] def.order ≡ Ok order
    stop : Stop
    stop_is : stop_of def.stop ≡ Ok stop
    params : List ColType
    params_is : params_of (uses schema.tables relations preds) ≡ Ok params
    is : query_of relations select preds order stop params ≡ query

  parts_of : (query : Query) → resolved_select schema name def ≡ Ok query → Parts query
  unfolding resolved_select
  parts_of query is =
      let counted = both (passed_unless (clause_counts_refusal def)) (λ counted. each_after (relation_of schema) [] def.relations >>= from_relations) query is in
      let relations = both (each_after (relation_of schema) [] def.relations) from_relations query counted.2 in
      let select = both (selected_of schema.tables relations.0 def.selected) (from_select relations.0) query relations.2 in
      let preds = both (each_after (pred_of schema.tables relations.0) [] def.preds) (from_preds relations.0 select.0) query select.2 in
      let order = both (each_after (item_of schema.tables relations.0) [] def.order) (from_order relations.0 select.0 preds.0) query preds.2 in
      let stopped = both (stop_of def.stop) (from_stop relations.0 select.0 preds.0 order.0) query order.2 in
      let params = both (params_of (uses schema.tables relations.0 preds.0)) (λ params. Ok (query_of relations.0 select.0 preds.0 order.0 stopped.0 params)) query stopped.2 in
      record {
        few = no_refusal (clause_counts_refusal def) counted.0 counted.1;
        relations = relations.0;
        relations_is = relations.1;
        select = select.0;
        select_is = select.1;
        preds = preds.0;
        preds_is = preds.1;
        order = order.0;
        order_is = order.1;
        stop = stopped.0;
        stop_is = stopped.1;
        params = params.0;
        params_is = params.1;
        is = same_answer (query_of relations.0 select.0 preds.0 order.0 stopped.0 params.0) query params.2;
      }

-- ---- the query

column_of : (tables : List Table) (query : Query) (ref : ColRef) → IsIn tables query.relations ref → IsColumnOf tables query ref
column_of tables query ref i = record { from_one = i.from_one; there = i.there; inside = i.inside }

-- the operand of a predicate of the query
side_of : (tables : List Table) (query : Query) (preds : List Pred) → params_of (uses tables query.relations preds) ≡ Ok query.params → (pred : Pred) → In pred preds → (right : Operand) → pred.right ≡ right → IsSide tables query.relations pred.op pred.left right → IsOperand tables query pred right
side_of tables query preds is pred i (operand.Const v) at fits = fits
side_of tables query preds is pred i (operand.Param number) at u = (
  u,
  param_is tables query.relations preds query.params is pred.left number
      (made_in (λ (p : Pred). use_in tables query.relations p.left p.right) pred (record { number = number; ty = param_type (type_of tables query.relations pred.left) }) preds i (ap (use_in tables query.relations pred.left) at)),
)
side_of tables query preds is pred i (operand.Col col) at join =
    record { equal = join.equal; column = column_of tables query col join.column; earlier = join.earlier; kind = join.kind }

predicate_of : (tables : List Table) (query : Query) → params_of (uses tables query.relations query.preds) ≡ Ok query.params → AllByRecursion (IsCompared tables query.relations) query.preds → (pred : Pred) → In pred query.preds → IsPredicate tables query pred
predicate_of tables query is all pred i =
    let compared = each_in (IsCompared tables query.relations) query.preds all pred i in
    record { left = column_of tables query pred.left compared.left; right = side_of tables query query.preds is pred i pred.right refl compared.right }

all_of_members : {X : Type 0} (P : X → Type 0) (xs : List X) → ((x : X) → In x xs → P x) → All P xs
all_of_members P xs each = All-from_recursion P xs (each_by_in P xs each)

pub resolved_query : (schema : Schema) (name : List ℕ) (def : SelectDef) (query : Query) → IsValid schema → IsSelectDef def → resolved_select schema name def ≡ Ok query → IsResolved schema.tables query × (query.name ≡ name)
resolved_query schema name def query valid spelled is =
    subst (λ q. IsResolved tables q × (q.name ≡ name)) parts.is (
      record {
        some_relations = let some = counts.relations.0 in omega (arith, some, long);
        few_relations = six;
        relations = All-from_recursion (IsRelation tables) parts.relations relations.0;
        aliases = relations.1;
        some_selected = select.0;
        few_selected = select.1;
        select = all_of_members (IsColumnOf tables made) parts.select (λ ref i. column_of tables made ref (each_in (IsIn tables parts.relations) parts.select select.2 ref i));
        few_preds = let most = counts.preds in omega (arith, most, preds_long);
        preds = all_of_members (IsPredicate tables made) parts.preds (predicate_of tables made parts.params_is (preds_compared tables parts.relations def.preds parts.preds spelled.preds parts.preds_is));
        few_order = let most = counts.order in omega (arith, most, order_long);
        order = all_of_members (λ item. IsColumnOf tables made item.col) parts.order (λ item i. column_of tables made item.col (each_in (λ (item : OrderItem). IsIn tables parts.relations item.col) parts.order items.0 item i));
        once = items.1;
        stop = stop_sized def.stop parts.stop parts.stop_is;
        params = params_used tables parts.relations parts.preds parts.params parts.params_is;
      },
      refl,
    )
  where
    tables : List Table
    tables = schema.tables

    parts : Parts schema name def query
    parts = parts_of schema name def query is

    made : Query
    made = query_of schema name def parts.relations parts.select parts.preds parts.order parts.stop parts.params

    counts : AreFew def
    counts = few def parts.few

    relations : AllByRecursion (IsRelation schema.tables) parts.relations × IsDistinct bytes_eq (map (λ relation. relation.alias) parts.relations)
    relations = relations_made schema def.relations parts.relations spelled.relations parts.relations_is

    long : length parts.relations ≡ length def.relations
    long = each_long (relation_of schema) def.relations [] parts.relations parts.relations_is ∙ zero-add (length def.relations)

    six : length parts.relations ≤ 6
    six = let most = counts.relations.1 in omega (arith, most, long)

    select : (1 ≤ length parts.select) × (length parts.select ≤ 192) × AllByRecursion (IsIn schema.tables parts.relations) parts.select
    select = selected_made schema valid parts.relations relations.0 def.selected parts.select counts.selected (let some = counts.relations.0 in omega (arith, some, long)) six parts.select_is

    preds_long : length parts.preds ≡ length def.preds
    preds_long = each_long (pred_of schema.tables parts.relations) def.preds [] parts.preds parts.preds_is ∙ zero-add (length def.preds)

    order_long : length parts.order ≡ length def.order
    order_long = each_long (item_of schema.tables parts.relations) def.order [] parts.order parts.order_is ∙ zero-add (length def.order)

    items : AllByRecursion (λ item. IsIn schema.tables parts.relations item.col) parts.order × IsDistinct same_ref (map (λ item. item.col) parts.order)
    items = items_made schema.tables parts.relations def.order parts.order parts.order_is
