-- What a resolved query says, read over its tables, is the query again.
use Rattle.std.proofs.Common.{◌≡◌, ℕ, pos, zero, suc, ◌+◌, ◌-◌, ◌<◌, ◌≤◌, Bool, true, false, not, eqb, ◌||◌, List, [], ◌∷◌, ◌++◌, length, map, Option, Some, None, Result, Ok, refl, sym, ap, subst, ◌∙◌, arith, append_assoc, append-nil}
use Rattle.std.specs.Prelude.{nat_lt, nat_le, IfSome, option_map, position, slice_index_or}
use Rattle.std.specs.List.{AllByRecursion, IsDistinct, list_any, position_or_len}
use Rattle.std.specs.Str.{bytes_eq}
use Rattle.std.proofs.lemmas.Bool.Decides.{nat_tests}
use Rattle.std.proofs.lemmas.List.{length-map}
use Rattle.std.proofs.lemmas.Slice.Eq.{bytes_eq-Decides}
use Rattle.pq_base.specs.Values.{fits_type}
use Rattle.pq_base.proofs.TypeFits.{fits_again}
use Rattle.pq_base.specs.declared.value.ColType.{ColType}
use Rattle.pq_base.specs.declared.refusal.Refusal.{Refusal}
use Rattle.pq_base.specs.declared.refusal.Refusal.TheVariants as refusal
use Rattle.pq_base.specs.declared.value.Dir.{Dir}
use Rattle.pq_base.specs.declared.value.Value.{Value}
use Rattle.pq_schema.specs.Candidates.{stop_size}
use Rattle.pq_schema.specs.ColumnNames.{repeated_name}
use Rattle.pq_schema.specs.Definitions.{is_outside, refused_if}
use Rattle.pq_schema.specs.ColumnNames.{no_column as unknown}
use Rattle.pq_base.specs.declared.op.Op.{Op}
use Rattle.pq_base.specs.Comparing.{is_null_test}
use Rattle.pq_schema.specs.Relations.{no_relation, table_of}
use Rattle.pq_schema.specs.Relations.{relation_at as relation_of_query}
use Rattle.pq_schema.specs.Resolved.{IsRelation, IsColumnOf, IsOperand, IsConstant, IsPredicate, IsResolved, same_ref, ref_type, param_type}
use Rattle.pq_schema.specs.Schema.{Schema, find_table, find_column, number_of}
use Rattle.pq_schema.specs.Tables.{no_table, table_at}
use Rattle.pq_schema.specs.declared.query.ColRef.{ColRef}
use Rattle.pq_schema.specs.declared.query.Operand.{Operand}
use Rattle.pq_schema.specs.declared.query.Operand.TheVariants as operand
use Rattle.pq_schema.specs.declared.query.OrderItem.{OrderItem}
use Rattle.pq_schema.specs.declared.query.Pred.{Pred}
use Rattle.pq_schema.specs.declared.query.Query.{Query}
use Rattle.pq_schema.specs.declared.query.Relation.{Relation}
use Rattle.pq_schema.specs.declared.query.Stop.{Stop}
use Rattle.pq_schema.specs.declared.query.Stop.TheVariants as stop
use Rattle.pq_print.specs.Canonical.{absent_column, column_name}
use Rattle.pq_query_read.specs.Columns.{has_alias, named_in, ref_of, refs_of}
use Rattle.pq_query_read.specs.Parameters.{param_number}
use Rattle.pq_query_read.specs.Resolving.{clause_counts_refusal, relation_of, relations_of, operand_of, is_comparable, pred_with, pred_between, pred_of, preds_of, has_ref, ref_name, item_of, items_of, stop_of, resolved_select}
use Rattle.pq_query_read.specs.Resolving.{limit_size as size_of}
use Rattle.pq_query_read.specs.Trying.{◌>>=◌, or_refused, passed_unless, each_after}
use Rattle.pq_reread.specs.Orderly.{AreOrderly}
use Rattle.pq_reread.proofs.SaidQuery.{said_relation, said_stop, said_ref, said_operand, said_pred, said_item, said_query}
use Rattle.pq_reread.proofs.Alls.{one_by_one}
use Rattle.pq_reread.proofs.Orders.{found_at, column_found, table_found}
use Rattle.pq_schema.proofs.FewParams.{few_params}
use Rattle.pq_reread.proofs.Parameters.{params_again}
use Rattle.pq_reread.proofs.SelectPrints.{table_of_known}

-- ---- one after the other

-- each is read as the one that says it
module _ {A B : Type 0} (f : List B → A → Result B Refusal) (g : B → A) (all : List B) (step : (before : List B) (y : B) (ys : List B) → before ++ y ∷ ys ≡ all → f before (g y) ≡ Ok y) where
  each_again : (before ys : List B) → before ++ ys ≡ all → each_after f before (map g ys) ≡ Ok all
  each_again before [] is = ap (λ (xs : List B). Ok xs) (sym (append-nil before) ∙ is)
  each_again before (y ∷ ys) is =
      ap (λ (r : Result B Refusal). r >>= λ z. each_after f (before ++ z ∷ []) (map g ys)) (step before y ys is)
      ∙ each_again (before ++ y ∷ []) ys (append_assoc before (y ∷ []) ys ∙ is)

at_split : {X : Type 0} (P : X → Type 0) (before : List X) (y : X) (ys : List X) → AllByRecursion P (before ++ y ∷ ys) → P y
at_split P [] y ys all = all.0
at_split P (x ∷ before) y ys all = at_split P before y ys all.1

later_apart : {X K : Type 0} (P : K → Type 0) (g : X → K) (before : List X) (y : X) (ys : List X) → AllByRecursion P (map g (before ++ y ∷ ys)) → P (g y)
later_apart P g [] y ys all = all.0
later_apart P g (x ∷ before) y ys all = later_apart P g before y ys all.1

-- none before it has its key
new_key : {X K : Type 0} (e : K → K → Bool) (g : X → K) (before : List X) (y : X) (ys : List X) → IsDistinct e (map g (before ++ y ∷ ys)) → list_any (λ x. e (g x) (g y)) before ≡ false
unfolding IsDistinct
new_key e g [] y ys apart = refl
new_key e g (x ∷ before) y ys apart =
    ap (λ (b : Bool). b || list_any (λ z. e (g z) (g y)) before) (later_apart (λ k. e (g x) k ≡ false) g before y ys apart.0) ∙ new_key e g before y ys apart.1

at_key : {X K : Type 0} (P : K → Type 0) (g : X → K) (xs : List X) (i : ℕ) (d : X) → i < length xs → AllByRecursion P (map g xs) → P (g (slice_index_or xs i d))
at_key P g [] i d lt all = absurd (omega arith)
at_key P g (x ∷ xs) zero d lt all = all.0
at_key P g (x ∷ xs) (suc i) d lt all = at_key P g xs i d (omega arith) all.1

-- the first that has the name of an element is this element
named_apart : {X : Type 0} (name : X → List ℕ) (xs : List X) (i : ℕ) (d : X) → i < length xs → IsDistinct bytes_eq (map name xs) → position_or_len (λ x. bytes_eq (name x) (name (slice_index_or xs i d))) xs ≡ i
unfolding IsDistinct
named_apart name [] i d lt apart = absurd (omega arith)
named_apart name (x ∷ xs) zero d lt apart =
    let same : bytes_eq (name x) (name x) ≡ true = (bytes_eq-Decides (name x) (name x)).1 refl in
    rw same refl
named_apart name (x ∷ xs) (suc i) d lt apart =
    let other : bytes_eq (name x) (name (slice_index_or xs i d)) ≡ false = at_key (λ n. bytes_eq (name x) n ≡ false) name xs i d (omega arith) apart.0 in
    rw other (omega (arith, named_apart name xs i d (omega arith) apart.1))

abbrev at_column : ℕ → ℕ → ColRef
at_column rel col = record { rel = rel; col = col }

abbrev with_dir : ColRef → Dir → OrderItem
with_dir ref dir = record { col = ref; dir = dir }

-- ---- counts

outside_not : (n most : ℕ) → 1 ≤ n → n ≤ most → is_outside n most ≡ false
outside_not n most some few = grind (arith, nat_tests)

not_more : (n most : ℕ) → n ≤ most → nat_lt most n ≡ false
not_more n most few = grind (arith, nat_tests)

-- ---- the stop

size_again : (k : ℕ) → 1 ≤ k → k ≤ 1000 → size_of (pos k) ≡ Some k
size_again k some few =
    let low : nat_le 1 k ≡ true = grind (arith, nat_tests) in
    let high : nat_le k 1000 ≡ true = grind (arith, nat_tests) in
    rw (low, high) refl

stop_again : (s : Stop) → IfSome (stop_size s) (λ k. (1 ≤ k) × (k ≤ 1000)) → stop_of (said_stop s) ≡ Ok s
stop_again stop.All fits = refl
stop_again (stop.Limit k) fits = rw (size_again k fits.0 fits.1) refl
stop_again (stop.Paginate k) fits = rw (size_again k fits.0 fits.1) refl

-- ---- values

constant_again : (o : Op) (t : ColType) (v : Value) → IsConstant o t v → (is_null_test o || fits_type t v) ≡ true
constant_again o t v is = by (is_null_test o) refl
  where
    by : (b : Bool) → is_null_test o ≡ b → (is_null_test o || fits_type t v) ≡ true
    by true test = ap (λ b. b || fits_type t v) test
    by false test = ap (λ b. b || fits_type t v) test ∙ fits_again t v (is.0 test)

number_again : (n : ℕ) → n ≤ 16 → param_number (pos n) ≡ n
number_again n few =
    let low : nat_le n 16 ≡ true = grind (arith, nat_tests) in
    rw low refl

-- ---- the query

module _ (schema : Schema) (query : Query) (are : AreOrderly schema.tables) (is : IsResolved schema.tables query) where
  ref_again : (ref : ColRef) → IsColumnOf schema.tables query ref → ref_of schema.tables query.relations (said_ref schema.tables query ref) ≡ Ok ref
  ref_again ref i =
      let place : ℕ = ref.rel - 1 in
      let relation : Relation = relation_of_query query ref.rel in
      let inside : place < length query.relations = (let low = i.from_one in let high = i.there in omega (arith, low, high)) in
      let found : position (has_alias relation.alias) query.relations ≡ Some place =
      found_at (has_alias relation.alias) query.relations place (named_apart (λ (r : Relation). r.alias) query.relations place no_relation inside is.aliases) inside in
      let number : place + 1 ≡ ref.rel = (let low = i.from_one in omega (arith, low)) in
      let columns = (table_of schema.tables query ref.rel).columns in
      let name : List ℕ = column_name columns ref.col in
      let column : find_column columns name ≡ Some ref.col = column_found (table_of schema.tables query ref.rel) ref.col absent_column (table_of_known schema.tables query are is ref i) i.inside in
      ap (λ (o : Option ℕ). or_refused (refusal.Alias relation.alias) o >>= λ p. or_refused (unknown name) (named_in schema.tables query.relations name (p + 1))) found
      ∙ ap (λ (n : ℕ). or_refused (unknown name) (named_in schema.tables query.relations name n)) number
      ∙ ap (λ (o : Option ℕ). or_refused (unknown name) (option_map (at_column ref.rel) o)) column

  refs_again : refs_of schema.tables query.relations (map (said_ref schema.tables query) query.select) ≡ Ok query.select
  refs_again =
      each_again (λ before def. ref_of schema.tables query.relations def) (said_ref schema.tables query) query.select
      (λ before y ys all. ref_again y (at_split (IsColumnOf schema.tables query) before y ys (subst (AllByRecursion (IsColumnOf schema.tables query)) (sym all) (one_by_one (IsColumnOf schema.tables query) query.select is.select))))
      [] query.select refl

  -- FROM
  relation_again : (before : List Relation) (y : Relation) (ys : List Relation) → before ++ y ∷ ys ≡ query.relations → relation_of schema before (said_relation schema.tables y) ≡ Ok y
  relation_again before y ys all =
      let known = at_split (IsRelation schema.tables) before y ys (subst (AllByRecursion (IsRelation schema.tables)) (sym all) (one_by_one (IsRelation schema.tables) query.relations is.relations)) in
      let place : ℕ = y.table - 1 in
      let inside : place < length schema.tables = (let low = known.from_one in let high = known.there in omega (arith, low, high)) in
      let number : place + 1 ≡ y.table = (let low = known.from_one in omega (arith, low)) in
      let name : List ℕ = (table_at schema.tables y.table).name in
      let found : find_table schema name ≡ Some y.table = ap (option_map number_of) (table_found schema.tables place no_table are inside) ∙ ap (λ (n : ℕ). Some n) number in
      let new : list_any (has_alias y.alias) before ≡ false = new_key bytes_eq (λ (r : Relation). r.alias) before y ys (subst (λ rs. IsDistinct bytes_eq (map (λ (r : Relation). r.alias) rs)) (sym all) is.aliases) in
      rw (found, new) refl

  relations_again : relations_of schema (map (said_relation schema.tables) query.relations) ≡ Ok query.relations
  relations_again = each_again (relation_of schema) (said_relation schema.tables) query.relations relation_again [] query.relations refl

  -- WHERE
  operand_again : (pred : Pred) (right : Operand) → IsOperand schema.tables query pred right → operand_of schema.tables query.relations (said_operand schema.tables query right) ≡ Ok right
  operand_again pred (operand.Const v) known = refl
  operand_again pred (operand.Param n) known = ap (λ (m : ℕ). Ok (operand.Param m)) (number_again n (let high = known.1.there in let few = few_params schema.tables query is in omega (arith, high, few)))
  operand_again pred (operand.Col ref) joined = ap (λ (r : Result ColRef Refusal). r >>= λ c. Ok (operand.Col c)) (ref_again ref joined.column)

  -- the sides may be compared, and the later relation stands left
  comparable : (pred : Pred) (right : Operand) → IsOperand schema.tables query pred right → is_comparable schema.tables query.relations pred.op pred.left right ≡ true
  comparable pred (operand.Const v) fits = constant_again pred.op (param_type (ref_type schema.tables query pred.left)) v fits
  comparable pred (operand.Param n) known = refl
  comparable pred (operand.Col ref) joined =
      let other : eqb ref.rel pred.left.rel ≡ false = (let lt = joined.earlier in grind arith) in
      rw (other, joined.kind) refl

  sides : (pred : Pred) (right : Operand) → IsOperand schema.tables query pred right → pred_with pred.left pred.op right ≡ record pred { right = right }
  sides pred (operand.Const v) fits = refl
  sides pred (operand.Param n) known = refl
  sides pred (operand.Col ref) joined =
      let later : nat_lt pred.left.rel ref.rel ≡ false = (let lt = joined.earlier in grind (arith, nat_tests)) in
      rw later refl

  pred_again : (before : List Pred) (y : Pred) (ys : List Pred) → before ++ y ∷ ys ≡ query.preds → pred_of schema.tables query.relations before (said_pred schema.tables query y) ≡ Ok y
  pred_again before y ys all =
      let known = at_split (IsPredicate schema.tables query) before y ys (subst (AllByRecursion (IsPredicate schema.tables query)) (sym all) (one_by_one (IsPredicate schema.tables query) query.preds is.preds)) in
      ap (λ (r : Result ColRef Refusal). r >>= λ left. operand_of schema.tables query.relations (said_operand schema.tables query y.right) >>= λ right. pred_between schema.tables query.relations (length before + 1) left y.op right) (ref_again y.left known.left)
      ∙ ap (λ (r : Result Operand Refusal). r >>= λ right. pred_between schema.tables query.relations (length before + 1) y.left y.op right) (operand_again y y.right known.right)
      ∙ ap (λ (b : Bool). passed_unless (refused_if (not b) (refusal.OperandKind (length before + 1))) >>= λ u. Ok (pred_with y.left y.op y.right)) (comparable y y.right known.right)
      ∙ ap (λ (p : Pred). Ok p) (sides y y.right known.right)

  preds_again : preds_of schema.tables query.relations (map (said_pred schema.tables query) query.preds) ≡ Ok query.preds
  preds_again = each_again (pred_of schema.tables query.relations) (said_pred schema.tables query) query.preds pred_again [] query.preds refl

  -- ORDER BY
  item_again : (before : List OrderItem) (y : OrderItem) (ys : List OrderItem) → before ++ y ∷ ys ≡ query.order → item_of schema.tables query.relations before (said_item schema.tables query y) ≡ Ok y
  item_again before y ys all =
      let known = at_split (λ (item : OrderItem). IsColumnOf schema.tables query item.col) before y ys (subst (AllByRecursion (λ (item : OrderItem). IsColumnOf schema.tables query item.col)) (sym all) (one_by_one (λ (item : OrderItem). IsColumnOf schema.tables query item.col) query.order is.order)) in
      let new : list_any (has_ref y.col) before ≡ false = new_key same_ref (λ (item : OrderItem). item.col) before y ys (subst (λ items. IsDistinct same_ref (map (λ (item : OrderItem). item.col) items)) (sym all) is.once) in
      let name : List ℕ = ref_name (said_ref schema.tables query y.col).first (said_ref schema.tables query y.col).second in
      ap (λ (r : Result ColRef Refusal). r >>= λ ref. passed_unless (refused_if (list_any (has_ref ref) before) (repeated_name name)) >>= λ u. Ok (with_dir ref y.dir)) (ref_again y.col known)
      ∙ ap (λ (b : Bool). passed_unless (refused_if b (repeated_name name)) >>= λ u. Ok y) new

  items_again : items_of schema.tables query.relations (map (said_item schema.tables query) query.order) ≡ Ok query.order
  items_again = each_again (item_of schema.tables query.relations) (said_item schema.tables query) query.order item_again [] query.order refl

  -- nothing is refused for its number
  counts_pass : clause_counts_refusal (said_query schema.tables query) ≡ None
  counts_pass =
      let relations : is_outside (length (map (said_relation schema.tables) query.relations)) 6 ≡ false =
      (let long = length-map query.relations (said_relation schema.tables) in let some = is.some_relations in let few = is.few_relations in outside_not (length (map (said_relation schema.tables) query.relations)) 6 (omega (arith, long, some)) (omega (arith, long, few))) in
      let preds : nat_lt 16 (length (map (said_pred schema.tables query) query.preds)) ≡ false =
      (let long = length-map query.preds (said_pred schema.tables query) in let few = is.few_preds in not_more (length (map (said_pred schema.tables query) query.preds)) 16 (omega (arith, long, few))) in
      let order : nat_lt 4 (length (map (said_item schema.tables query) query.order)) ≡ false =
      (let long = length-map query.order (said_item schema.tables query) in let few = is.few_order in not_more (length (map (said_item schema.tables query) query.order)) 4 (omega (arith, long, few))) in
      let selected : is_outside (length (map (said_ref schema.tables query) query.select)) 192 ≡ false =
      (let long = length-map query.select (said_ref schema.tables query) in let some = is.some_selected in let few = is.few_selected in outside_not (length (map (said_ref schema.tables query) query.select)) 192 (omega (arith, long, some)) (omega (arith, long, few))) in
      rw (relations, preds, order, selected) refl

  pub query_again : resolved_select schema query.name (said_query schema.tables query) ≡ Ok query
  unfolding resolved_select
  query_again = rw (counts_pass, relations_again, refs_again, preds_again, items_again, stop_again query.stop is.stop, params_again schema.tables query is) refl
