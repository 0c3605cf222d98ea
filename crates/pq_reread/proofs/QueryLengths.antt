-- The canonical text of a query has at most a mebibyte.
use Rattle.std.proofs.Common.{ℕ, ℤ, pos, negsuc, suc, ◌+◌, ◌*◌, ◌^◌, ◌<◌, ◌≤◌, ◌≡◌, refl, sym, subst, Bool, true, false, cond, eqb, List, [], ◌∷◌, ◌++◌, length, flat_map, arith, length-append}
use Rattle.std.specs.Prelude.{codes, IfSome, slice_index_or, FitsSigned}
use Rattle.std.specs.Int.{w64}
use Rattle.std.specs.Fmt.{decimal, signed_decimal}
use Rattle.std.specs.List.{AllByRecursion}
use Rattle.std.proofs.lemmas.Fmt.{length-decimal-le}
use Rattle.pq_base.specs.Values.{FitsType, room_of, kind_of_type}
use Rattle.pq_base.proofs.TypeFits.{value_from_fit}
use Rattle.pq_base.specs.declared.value.DataKind.{DataKind}
use Rattle.pq_base.specs.declared.value.DataKind.TheVariants as kind
use Rattle.pq_base.specs.declared.value.ColType.{ColType}
use Rattle.pq_base.specs.declared.value.Dir.{Dir}
use Rattle.pq_base.specs.declared.value.Dir.TheVariants as dir
use Rattle.pq_base.specs.declared.value.Value.{Value}
use Rattle.pq_base.specs.declared.value.Value.TheVariants as value
use Rattle.pq_schema.specs.Candidates.{stop_size}
use Rattle.pq_schema.specs.Names.{IsName}
use Rattle.pq_base.specs.Comparing.{is_null_test}
use Rattle.pq_schema.specs.Relations.{relation_at, table_of}
use Rattle.pq_schema.specs.Resolved.{IsRelation, IsColumnOf, IsOperand, IsConstant, IsPredicate, IsResolved, ref_type, param_of, param_type}
use Rattle.pq_schema.specs.Tables.{table_at}
use Rattle.pq_schema.specs.declared.query.ColRef.{ColRef}
use Rattle.pq_base.specs.declared.op.Op.{Op}
use Rattle.pq_base.specs.declared.op.Op.TheVariants as op
use Rattle.pq_schema.specs.declared.query.Operand.{Operand}
use Rattle.pq_schema.specs.declared.query.Operand.TheVariants as operand
use Rattle.pq_schema.specs.declared.query.OrderItem.{OrderItem}
use Rattle.pq_schema.specs.declared.query.Pred.{Pred}
use Rattle.pq_schema.specs.declared.query.Query.{Query}
use Rattle.pq_schema.specs.declared.query.Relation.{Relation}
use Rattle.pq_schema.specs.declared.query.Stop.{Stop}
use Rattle.pq_schema.specs.declared.query.Stop.TheVariants as stop
use Rattle.pq_schema.specs.declared.table.Table.{Table}
use Rattle.pq_print.specs.Canonical.{column_name, ref_text, relation_text, op_text, operand_text, pred_text, order_text, stop_text, select_text, query_text}
use Rattle.pq_print.specs.Lists.{separate_texts, clause}
use Rattle.pq_print.specs.Report.{dir_text}
use Rattle.pq_print.specs.Values.{doubled_quotes, value_text}
use Rattle.pq_query_read.proofs.Names.{name_short}
use Rattle.pq_reread.specs.Orderly.{AreOrderly}
use Rattle.pq_reread.proofs.Alls.{one_by_one}
use Rattle.pq_reread.proofs.Lengths.{separated_short, number_short}
use Rattle.pq_schema.proofs.FewParams.{few_params}
use Rattle.pq_reread.proofs.SelectPrints.{relation_known, table_known, column_known}

-- ---- values

doubled_step : (b : ℕ) (t : List ℕ) (q : Bool) → length (flat_map doubled_quotes t) ≤ 2 * length t → length (cond q (39 ∷ 39 ∷ []) (b ∷ []) ++ flat_map doubled_quotes t) ≤ 2 * length (b ∷ t)
doubled_step b t true later = omega (arith, later)
doubled_step b t false later = omega (arith, later)

doubled_short : (t : List ℕ) → length (flat_map doubled_quotes t) ≤ 2 * length t
doubled_short [] = omega arith
doubled_short (b ∷ t) = doubled_step b t (eqb b 39) (doubled_short t)

signed_short : (z : ℤ) → FitsSigned w64 z → length (signed_decimal z) ≤ 21
signed_short (pos n) fits = let small : n < 2 ^ 63 = fits.sfits in omega (arith, number_short n small)
signed_short (negsuc n) fits =
    let small : n < 2 ^ 63 = fits.sfits in
    let digits : length (decimal (suc n)) ≤ 20 = length-decimal-le 20 (suc n) (omega arith) (omega arith) (omega arith) in
    omega (arith, digits)

text_short : (t : List ℕ) → length t ≤ 1000 → length (value_text (value.Text t)) ≤ 2002
text_short t short = omega (arith, short, doubled_short t, length-append (codes "'" ++ flat_map doubled_quotes t) (codes "'"))

param_room : (k : DataKind) → room_of (param_of k) ≤ 1000
param_room kind.Int = omega arith
param_room kind.Bool = omega arith
param_room kind.Text = omega arith

pub value_short : (t : ColType) (v : Value) → room_of t ≤ 1000 → FitsType t v → length (value_text v) ≤ 2002
value_short t value.Null most fits = omega arith
value_short t (value.Int z) most fits = omega (arith, signed_short z (value_from_fit t (value.Int z) fits))
value_short t (value.Bool true) most fits = omega arith
value_short t (value.Bool false) most fits = omega arith
value_short t (value.Text s) most fits = text_short s (let short = fits.1 in omega (arith, most, short))

constant_short : (o : Op) (t : ColType) (v : Value) → IsConstant o (param_type t) v → length (value_text v) ≤ 2002
constant_short o t v is = by (is_null_test o) refl
  where
    by : (b : Bool) → is_null_test o ≡ b → length (value_text v) ≤ 2002
    by true test = subst (λ (x : Value). length (value_text x) ≤ 2002) (sym (is.1 test)) (omega arith)
    by false test = value_short (param_type t) v (param_room (kind_of_type t)) (is.0 test)

-- ---- words

op_short : (o : Op) → length (op_text o) ≤ 2
op_short op.Eq = omega arith
op_short op.Ne = omega arith
op_short op.Lt = omega arith
op_short op.Le = omega arith
op_short op.Gt = omega arith
op_short op.Ge = omega arith
op_short op.IsNull = omega arith

dir_short : (d : Dir) → length (dir_text d) ≤ 5
dir_short dir.Asc = omega arith
dir_short dir.Desc = omega arith

stop_short : (s : Stop) → IfSome (stop_size s) (λ k. (1 ≤ k) × (k ≤ 1000)) → length (stop_text s) ≤ 30
stop_short stop.All fits = omega arith
stop_short (stop.Limit k) fits = let most = fits.1 in omega (arith, number_short k (omega (arith, most)))
stop_short (stop.Paginate k) fits = let most = fits.1 in omega (arith, number_short k (omega (arith, most)))

clause_short : {Y : Type 0} (keyword between : List ℕ) (text : Y → List ℕ) (m : ℕ) (ys : List Y) → AllByRecursion (λ y. length between + length (text y) ≤ m) ys → length (clause keyword between text ys) ≤ length keyword + length ys * m
clause_short keyword between text m [] all = omega arith
clause_short keyword between text m (y ∷ ys) all = omega (arith, length-append keyword (separate_texts between text (y ∷ ys)), separated_short between text m (y ∷ ys) all)

-- ---- the parts of a query

module _ (tables : List Table) (query : Query) (are : AreOrderly tables) (is : IsResolved tables query) where
  ref_short : (ref : ColRef) → IsColumnOf tables query ref → length (ref_text tables query ref) ≤ 65
  unfolding ref_text
  ref_short ref i =
      let alias : List ℕ = (relation_at query ref.rel).alias in
      let column : List ℕ = column_name (table_of tables query ref.rel).columns ref.col in
      omega (
        arith,
        length-append (alias ++ codes ".") column,
        length-append alias (codes "."),
        name_short alias (relation_known tables query are is ref.rel i.from_one i.there).alias,
        name_short column (column_known tables query are is ref i),
      )

  relation_short : (relation : Relation) → IsRelation tables relation → length (relation_text tables relation) ≤ 68
  unfolding relation_text
  relation_short relation known =
      let table : List ℕ = (table_at tables relation.table).name in
      omega (arith, length-append (table ++ codes " AS ") relation.alias, length-append table (codes " AS "), name_short relation.alias known.alias, name_short table (table_known tables query are is relation known).name)

  operand_short : (pred : Pred) (right : Operand) → IsOperand tables query pred right → length (operand_text tables query right) ≤ 2002
  operand_short pred (operand.Const v) fits = constant_short pred.op (ref_type tables query pred.left) v fits
  operand_short pred (operand.Param n) known =
      let high = known.1.there in
      let few = few_params tables query is in
      omega (arith, number_short n (omega (arith, high, few)), length-append (codes "[" ++ decimal n) (codes "]"))
  operand_short pred (operand.Col ref) joined = omega (arith, ref_short ref joined.column)

  pred_short : (pred : Pred) → IsPredicate tables query pred → length (pred_text tables query pred) ≤ 2071
  unfolding pred_text
  pred_short pred known =
      let ref : List ℕ = ref_text tables query pred.left in
      let o : List ℕ = op_text pred.op in
      let right : List ℕ = operand_text tables query pred.right in
      omega (
        arith,
        ref_short pred.left known.left,
        op_short pred.op,
        operand_short pred pred.right known.right,
        length-append (((ref ++ codes " ") ++ o) ++ codes " ") right,
        length-append ((ref ++ codes " ") ++ o) (codes " "),
        length-append (ref ++ codes " ") o,
        length-append ref (codes " "),
      )

  item_short : (item : OrderItem) → IsColumnOf tables query item.col → length (order_text tables query item) ≤ 70
  item_short item known = omega (arith, ref_short item.col known, dir_short item.dir, length-append (ref_text tables query item.col) (dir_text item.dir))

  chosen_short : length (separate_texts (codes ", ") (ref_text tables query) query.select) ≤ 12864
  chosen_short =
      let few = is.few_selected in
      let sum = separated_short (codes ", ") (ref_text tables query) 67 query.select (one_by_one _ query.select (λ k d lt. omega (arith, ref_short (slice_index_or query.select k d) (is.select k d lt)))) in
      omega (arith, few, sum)

  relations_short : length (separate_texts (codes ", ") (relation_text tables) query.relations) ≤ 420
  relations_short =
      let few = is.few_relations in
      let sum = separated_short (codes ", ") (relation_text tables) 70 query.relations (one_by_one _ query.relations (λ k d lt. omega (arith, relation_short (slice_index_or query.relations k d) (is.relations k d lt)))) in
      omega (arith, few, sum)

  tests_short : length (clause (codes " WHERE ") (codes " AND ") (pred_text tables query) query.preds) ≤ 33223
  tests_short =
      let few = is.few_preds in
      let sum = clause_short (codes " WHERE ") (codes " AND ") (pred_text tables query) 2076 query.preds (one_by_one _ query.preds (λ k d lt. omega (arith, pred_short (slice_index_or query.preds k d) (is.preds k d lt)))) in
      omega (arith, few, sum)

  order_short : length (clause (codes " ORDER BY ") (codes ", ") (order_text tables query) query.order) ≤ 298
  order_short =
      let few = is.few_order in
      let sum = clause_short (codes " ORDER BY ") (codes ", ") (order_text tables query) 72 query.order (one_by_one _ query.order (λ k d lt. omega (arith, item_short (slice_index_or query.order k d) (is.order k d lt)))) in
      omega (arith, few, sum)

  select_short : length (select_text tables query) ≤ 50000
  unfolding select_text
  select_short =
      let select = separate_texts (codes ", ") (ref_text tables query) query.select in
      let from = separate_texts (codes ", ") (relation_text tables) query.relations in
      let tests = clause (codes " WHERE ") (codes " AND ") (pred_text tables query) query.preds in
      let order = clause (codes " ORDER BY ") (codes ", ") (order_text tables query) query.order in
      omega (
        arith,
        chosen_short,
        relations_short,
        tests_short,
        order_short,
        stop_short query.stop is.stop,
        length-append (((((codes "SELECT " ++ select) ++ codes " FROM ") ++ from) ++ tests) ++ order) (stop_text query.stop),
        length-append ((((codes "SELECT " ++ select) ++ codes " FROM ") ++ from) ++ tests) order,
        length-append (((codes "SELECT " ++ select) ++ codes " FROM ") ++ from) tests,
        length-append ((codes "SELECT " ++ select) ++ codes " FROM ") from,
        length-append (codes "SELECT " ++ select) (codes " FROM "),
      )

  pub text_again : IsName query.name → length (query_text tables query) ≤ 1048576
  unfolding query_text
  text_again name =
      let select = select_text tables query in
      omega (
        arith,
        select_short,
        name_short query.name name,
        length-append (((codes "PREPARE " ++ query.name) ++ codes " AS ") ++ select) (codes ";"),
        length-append ((codes "PREPARE " ++ query.name) ++ codes " AS ") select,
        length-append (codes "PREPARE " ++ query.name) (codes " AS "),
      )
