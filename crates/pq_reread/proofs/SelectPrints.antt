-- The canonical text of a query is cut into what spells the definition that the query says.
use Rattle.std.proofs.Common.{◌≡◌, ℕ, pos, ◌-◌, ◌^◌, ◌<◌, ◌≤◌, Bool, true, false, ◌||◌, List, [], ◌∷◌, ◌++◌, length, map, None, refl, sym, subst, arith, append_assoc, append-nil, inl, inr, ◌⊎◌}
use Rattle.std.specs.Prelude.{T, codes, IfSome}
use Rattle.std.specs.Fmt.{decimal}
use Rattle.std.proofs.lemmas.Bool.{or_parts}
use Rattle.std.specs.Char.{is_ascii_digit}
use Rattle.pq_base.specs.Values.{IsValue, FitsType, is_null, is_nullable, kind_of_type}
use Rattle.pq_base.specs.declared.value.ColType.{ColType}
use Rattle.pq_base.specs.declared.value.DataKind.{DataKind}
use Rattle.pq_base.specs.declared.value.DataKind.TheVariants as kind
use Rattle.pq_base.specs.declared.value.Dir.{Dir}
use Rattle.pq_base.specs.declared.value.Dir.TheVariants as dir
use Rattle.pq_base.specs.declared.value.Value.{Value}
use Rattle.pq_base.specs.declared.value.Value.TheVariants as value
use Rattle.pq_base.proofs.TypeFits.{value_from_fit}
use Rattle.pq_schema.specs.Candidates.{stop_size}
use Rattle.pq_schema.specs.Names.{IsName}
use Rattle.pq_base.specs.Comparing.{is_null_test}
use Rattle.pq_schema.specs.Relations.{no_relation, relation_at, table_of}
use Rattle.pq_schema.specs.Resolved.{IsRelation, IsColumnOf, IsOperand, IsPredicate, IsResolved, ref_type, param_of, param_type}
use Rattle.pq_schema.specs.Tables.{no_table, table_at}
use Rattle.pq_schema.specs.declared.query.ColRef.{ColRef}
use Rattle.pq_base.specs.declared.op.Op.{Op}
use Rattle.pq_base.specs.declared.op.Op.TheVariants as op
use Rattle.pq_schema.specs.declared.query.Operand.{Operand}
use Rattle.pq_schema.specs.declared.query.Operand.TheVariants as operand
use Rattle.pq_schema.specs.declared.query.OrderItem.{OrderItem}
use Rattle.pq_schema.specs.declared.query.Pred.{Pred}
use Rattle.pq_schema.specs.declared.query.Query.{Query}
use Rattle.pq_schema.specs.declared.query.Relation.{Relation}
use Rattle.pq_schema.specs.declared.query.Stop.{Stop}
use Rattle.pq_schema.specs.declared.query.Stop.TheVariants as stop
use Rattle.pq_schema.specs.declared.table.Column.{Column}
use Rattle.pq_schema.specs.declared.table.Table.{Table}
use Rattle.pq_grammar.specs.Language.{◌⋅◌, nothing, separated_by}
use Rattle.pq_grammar.proofs.Lists.{regroup}
use Rattle.pq_text.specs.Bytes.{is_letter, is_word_byte, is_double_mark}
use Rattle.pq_shape.specs.Parts.{word, mark, comma, name as a_name, number, a_constant}
use Rattle.pq_shape.specs.declared.keyword.TheConstants.{AND, AS, BY, DESC, FROM, LIMIT, ORDER, PAGINATE, PREPARE, SELECT, WHERE}
use Rattle.pq_shape.specs.Shape.{Shape}
use Rattle.pq_print.specs.Canonical.{absent_column, column_name, ref_text, relation_text, op_text, operand_text, pred_text, order_text, stop_text, select_text, query_text}
use Rattle.pq_print.specs.Lists.{separate_texts as separated_texts, clause}
use Rattle.pq_print.specs.Report.{dir_text}
use Rattle.pq_print.specs.Values.{value_text}
use Rattle.pq_shape.specs.Operators.{operator}
use Rattle.pq_query_read.specs.Grammar.{ref as a_ref, relation as a_relation, comma_or_join, param, comparison, pred as a_pred, direction, item as an_item, stop_tokens, conditions, order_tokens, SpellsSelect}
use Rattle.pq_query_read.specs.declared.select.OperandDef.TheVariants as operand_def
use Rattle.pq_reread.specs.Orderly.{IsOrderly, AreOrderly}
use Rattle.pq_reread.specs.Printed.{joins_none, is_quote}
use Rattle.pq_reread.specs.Said.{Pairwise}
use Rattle.pq_reread.proofs.SaidQuery.{said_relation, said_stop, said_ref, said_operand, said_pred, said_item, said_query}
use Rattle.pq_reread.proofs.Alls.{each_place, one_by_one}
use Rattle.pq_reread.proofs.Keywords.{false_prints, is_prints, keyword_prints, null_prints, true_prints}
use Rattle.pq_reread.proofs.Pairs.{pairs_of}
use Rattle.pq_schema.proofs.FewParams.{few_params}
use Rattle.pq_reread.proofs.Prints.{Prints, join, respelled, nothing_prints, space, spaced, looser, mark_prints, two_marks_print, number_prints, signed_prints, text_prints, separated_prints}
use Rattle.pq_reread.proofs.Tables.{name_prints, comma_prints}

-- the bytes that would join a word, a number or a text
abbrev pub joins_value : ℕ → Bool
joins_value b = is_word_byte b || is_quote b

pub word_end : {S : List Shape → Type 0} {t : ℕ → Bool} {a : List ℕ} → Prints S t a is_word_byte → Prints S t a joins_value
word_end p = looser joins_value (λ b e. (or_parts (is_word_byte b) (is_quote b) e).0) p

number_end : {S : List Shape → Type 0} {t : ℕ → Bool} {a : List ℕ} → Prints S t a is_ascii_digit → Prints S t a joins_value
number_end p = looser joins_value (λ b e. (or_parts (is_letter b) (is_ascii_digit b) (or_parts (is_word_byte b) (is_quote b) e).0).1) p

text_end : {S : List Shape → Type 0} {t : ℕ → Bool} {a : List ℕ} → Prints S t a is_quote → Prints S t a joins_value
text_end p = looser joins_value (λ b e. (or_parts (is_word_byte b) (is_quote b) e).1) p

-- ---- values

pub value_prints : (v : Value) → IsValue v → is_null v ≡ false → Prints (a_constant v) joins_none (value_text v) joins_value
value_prints value.Null is plain = absurd cc
value_prints (value.Int z) is plain = number_end (signed_prints z is)
value_prints (value.Bool true) is plain = word_end (true_prints)
value_prints (value.Bool false) is plain = word_end (false_prints)
value_prints (value.Text t) is plain = text_end (text_prints t is)

param_prints : (n : ℕ) → n < 2 ^ 63 → Prints (param (pos n)) joins_none (codes "[" ++ decimal n ++ codes "]") joins_value
param_prints n small =
    let alone : Prints (number (pos n) ⋅ nothing) joins_none (decimal n) is_ascii_digit =
    respelled (λ w h. record { front = w; back = []; fits_front = h; fits_back = refl; parts = sym (append-nil w) }) (number_prints n small) in
    respelled (λ w h. (None, h)) (join (mark_prints 91 joins_none refl refl) (join alone (looser joins_value (λ b may. refl) (mark_prints 93 is_ascii_digit refl refl))))

-- an operator, a space and an operand
op_then : (o : Op) → is_null_test o ≡ false → {S : List Shape → Type 0} {a : List ℕ} → Prints S joins_none a joins_value → Prints (mark (operator o) ⋅ S) joins_none (op_text o ++ (32 ∷ a)) joins_value
op_then op.Eq test p = join (mark_prints 61 joins_none refl refl) (space joins_none refl p)
op_then op.Ne test p = join (two_marks_print 60 62 joins_none refl refl refl) (space joins_none refl p)
op_then op.Lt test p = join (mark_prints 60 joins_none refl refl) (space (is_double_mark 60) refl p)
op_then op.Le test p = join (two_marks_print 60 61 joins_none refl refl refl) (space joins_none refl p)
op_then op.Gt test p = join (mark_prints 62 joins_none refl refl) (space (is_double_mark 62) refl p)
op_then op.Ge test p = join (two_marks_print 62 61 joins_none refl refl refl) (space joins_none refl p)
op_then op.IsNull test p = absurd cc

null_op : (o : Op) → is_null_test o ≡ true → o ≡ op.IsNull
null_op op.Eq h = absurd cc
null_op op.Ne h = absurd cc
null_op op.Lt h = absurd cc
null_op op.Le h = absurd cc
null_op op.Gt h = absurd cc
null_op op.Ge h = absurd cc
null_op op.IsNull h = refl

never_nullable : (k : DataKind) → is_nullable (param_of k) ≡ false
never_nullable kind.Int = refl
never_nullable kind.Bool = refl
never_nullable kind.Text = refl

-- what fits a parameter's type isn't NULL
param_plain : (t : ColType) (v : Value) → FitsType (param_type t) v → is_null v ≡ false
param_plain t value.Null fits = absurd (subst T (never_nullable (kind_of_type t)) fits.1)
param_plain t (value.Int n) fits = refl
param_plain t (value.Bool b) fits = refl
param_plain t (value.Text s) fits = refl

-- ---- clauses

clause_prints : {X Y : Type 0} (K B : List Shape → Type 0) (keyword between : List ℕ) (S : X → List Shape → Type 0) (text : Y → List ℕ) (f : Y → X) (t : ℕ → Bool) → Prints K t keyword joins_none → Prints B t between joins_none
    → (ys : List Y) → Pairwise (λ x y. Prints (S x) joins_none (text y) t) (map f ys) ys → Prints (λ w. ((map f ys ≡ []) × nothing w) ⊎ (K ⋅ separated_by B S (map f ys)) w) t (clause keyword between text ys) t
clause_prints K B keyword between S text f t k b [] pairs = respelled (λ w h. inl (refl, h)) (nothing_prints t)
clause_prints K B keyword between S text f t k b (y ∷ ys) pairs = respelled (λ w h. inr h) (join k (separated_prints B between S text t b (map f (y ∷ ys)) (y ∷ ys) (omega arith) pairs))

where_prints : Prints (word WHERE) joins_value (codes " WHERE ") joins_none
where_prints = spaced refl (space joins_value refl (keyword_prints WHERE refl))

and_prints : Prints (word AND) joins_value (codes " AND ") joins_none
and_prints = spaced refl (space joins_value refl (keyword_prints AND refl))

order_by_prints : Prints (word ORDER ⋅ word BY) joins_value (codes " ORDER BY ") joins_none
order_by_prints = spaced refl (space joins_value refl (join (keyword_prints ORDER refl) (space is_word_byte refl (keyword_prints BY refl))))

then_prints : Prints comma joins_value (codes ", ") joins_none
then_prints = spaced refl (mark_prints 44 joins_value refl refl)

dir_prints : (d : Dir) → Prints (direction d) is_word_byte (dir_text d) is_word_byte
dir_prints dir.Asc = respelled (λ w h. inr h) (nothing_prints is_word_byte)
dir_prints dir.Desc = space is_word_byte refl (keyword_prints DESC refl)

stop_prints : (s : Stop) → IfSome (stop_size s) (λ k. (1 ≤ k) × (k ≤ 1000)) → Prints (stop_tokens (said_stop s)) joins_value (stop_text s) joins_value
stop_prints stop.All fits = nothing_prints joins_value
stop_prints (stop.Limit k) fits = space joins_value refl (join (keyword_prints LIMIT refl) (space is_word_byte refl (number_end (number_prints k (let most = fits.1 in omega (arith, most))))))
stop_prints (stop.Paginate k) fits = space joins_value refl (join (keyword_prints PAGINATE refl) (space is_word_byte refl (number_end (number_prints k (let most = fits.1 in omega (arith, most))))))

-- ---- texts in one row

pred_row : (ref o right : List ℕ) → (((ref ++ codes " ") ++ o) ++ codes " ") ++ right ≡ ref ++ (32 ∷ (o ++ (32 ∷ right)))
pred_row ref o right = simp append_assoc

select_row : (select from tests order size : List ℕ)
    → ((((((codes "SELECT " ++ select) ++ codes " FROM ") ++ from) ++ tests) ++ order) ++ size) ++ codes ";" ≡ codes "SELECT " ++ (select ++ (codes " FROM " ++ (from ++ (tests ++ (order ++ (size ++ codes ";"))))))
select_row select from tests order size = simp append_assoc

pub query_row : (name select : List ℕ) → (((codes "PREPARE " ++ name) ++ codes " AS ") ++ select) ++ codes ";" ≡ codes "PREPARE " ++ (name ++ (codes " AS " ++ (select ++ codes ";")))
query_row name select = simp append_assoc

-- ---- the parts of a query

module _ (tables : List Table) (query : Query) (are : AreOrderly tables) (is : IsResolved tables query) where
  pub relation_known : (rel : ℕ) → 1 ≤ rel → rel ≤ length query.relations → IsRelation tables (relation_at query rel)
  relation_known rel low high = is.relations (rel - 1) no_relation (omega (arith, low, high))

  pub table_known : (relation : Relation) → IsRelation tables relation → IsOrderly (table_at tables relation.table)
  table_known relation known = are.each (relation.table - 1) no_table (let low = known.from_one in let high = known.there in omega (arith, low, high))

  pub table_of_known : (ref : ColRef) → IsColumnOf tables query ref → IsOrderly (table_of tables query ref.rel)
  table_of_known ref i = table_known (relation_at query ref.rel) (relation_known ref.rel i.from_one i.there)

  pub column_known : (ref : ColRef) → IsColumnOf tables query ref → IsName (column_name (table_of tables query ref.rel).columns ref.col)
  column_known ref i = each_place (λ (column : Column). IsName column.name) (table_of tables query ref.rel).columns (table_of_known ref i).columns ref.col absent_column i.inside

  ref_prints : (ref : ColRef) → IsColumnOf tables query ref → Prints (a_ref (said_ref tables query ref)) joins_none (ref_text tables query ref) is_word_byte
  unfolding ref_text
  ref_prints ref i =
      let alias : List ℕ = (relation_at query ref.rel).alias in
      let column : List ℕ = column_name (table_of tables query ref.rel).columns ref.col in
      subst (λ (v : List ℕ). Prints (a_ref (said_ref tables query ref)) joins_none v is_word_byte) (sym (append_assoc alias (codes ".") column))
      (join (name_prints alias (relation_known ref.rel i.from_one i.there).alias) (join (mark_prints 46 is_word_byte refl refl) (name_prints column (column_known ref i))))

  relation_prints : (relation : Relation) → IsRelation tables relation → Prints (a_relation (said_relation tables relation)) joins_none (relation_text tables relation) is_word_byte
  unfolding relation_text
  relation_prints relation known =
      let table : List ℕ = (table_at tables relation.table).name in
      subst (λ (v : List ℕ). Prints (a_relation (said_relation tables relation)) joins_none v is_word_byte) (sym (append_assoc table (codes " AS ") relation.alias))
      (join (name_prints table (table_known relation known).name)
      (respelled (λ w h. inl h) (space is_word_byte refl (join (keyword_prints AS refl) (space is_word_byte refl (name_prints relation.alias known.alias))))))

  compare_prints : (pred : Pred) (right : Operand) → IsOperand tables query pred right → Prints (comparison (pred.op, said_operand tables query right)) joins_none (op_text pred.op ++ (32 ∷ operand_text tables query right)) joins_value
  compare_prints pred (operand.Const v) fits = by (is_null_test pred.op) refl
    where
      by : (b : Bool) → is_null_test pred.op ≡ b → Prints (comparison (pred.op, operand_def.Const v)) joins_none (op_text pred.op ++ (32 ∷ value_text v)) joins_value
      by true test =
          subst (λ (o : Op). Prints (comparison (o, operand_def.Const v)) joins_none (op_text o ++ (32 ∷ value_text v)) joins_value) (sym (null_op pred.op test))
          (subst (λ (x : Value). Prints (comparison (op.IsNull, operand_def.Const x)) joins_none (codes "IS" ++ (32 ∷ value_text x)) joins_value) (sym (fits.1 test))
          (respelled (λ w h. inr (tt, refl, h)) (word_end (join is_prints (space is_word_byte refl null_prints)))))
      by false test =
          let ty : ColType = param_type (ref_type tables query pred.left) in
          respelled (λ w h. inl (test, h)) (op_then pred.op test (value_prints v (value_from_fit ty v (fits.0 test)) (param_plain (ref_type tables query pred.left) v (fits.0 test))))
  compare_prints pred (operand.Param number) known =
      respelled (λ w h. inl (known.0, h)) (op_then pred.op known.0 (param_prints number (let high = known.1.there in let few = few_params tables query is in omega (arith, high, few))))
  compare_prints pred (operand.Col ref) joined =
      subst (λ (o : Op). Prints (comparison (o, operand_def.Ref (said_ref tables query ref))) joins_none (op_text o ++ (32 ∷ ref_text tables query ref)) joins_value) (sym joined.equal)
      (respelled (λ w h. inl (refl, h)) (op_then op.Eq refl (word_end (ref_prints ref joined.column))))

  pred_prints : (pred : Pred) → IsPredicate tables query pred → Prints (a_pred (said_pred tables query pred)) joins_none (pred_text tables query pred) joins_value
  unfolding pred_text
  pred_prints pred known =
      subst (λ (v : List ℕ). Prints (a_pred (said_pred tables query pred)) joins_none v joins_value) (sym (pred_row (ref_text tables query pred.left) (op_text pred.op) (operand_text tables query pred.right)))
      (join (ref_prints pred.left known.left) (space is_word_byte refl (compare_prints pred pred.right known.right)))

  item_prints : (item : OrderItem) → IsColumnOf tables query item.col → Prints (an_item (said_item tables query item)) joins_none (order_text tables query item) joins_value
  item_prints item known = word_end (join (ref_prints item.col known) (dir_prints item.dir))

  chosen_print : Prints (separated_by comma a_ref (map (said_ref tables query) query.select)) joins_none (separated_texts (codes ", ") (ref_text tables query) query.select) is_word_byte
  chosen_print =
      separated_prints comma (codes ", ") a_ref (ref_text tables query) is_word_byte comma_prints (map (said_ref tables query) query.select) query.select (let some = is.some_selected in omega (arith, some, mapped))
      (pairs_of (said_ref tables query) (λ r ref. Prints (a_ref r) joins_none (ref_text tables query ref) is_word_byte) (IsColumnOf tables query) ref_prints query.select (one_by_one (IsColumnOf tables query) query.select is.select))
    where
      mapped : length (map (said_ref tables query) query.select) ≡ length query.select
      mapped = Rattle.std.proofs.lemmas.List.length-map query.select (said_ref tables query)

  relations_print : Prints (separated_by comma_or_join a_relation (map (said_relation tables) query.relations)) joins_none (separated_texts (codes ", ") (relation_text tables) query.relations) is_word_byte
  relations_print =
      separated_prints comma_or_join (codes ", ") a_relation (relation_text tables) is_word_byte (respelled (λ w h. inl h) comma_prints) (map (said_relation tables) query.relations) query.relations (let some = is.some_relations in omega (arith, some, mapped))
      (pairs_of (said_relation tables) (λ r relation. Prints (a_relation r) joins_none (relation_text tables relation) is_word_byte) (IsRelation tables) relation_prints query.relations (one_by_one (IsRelation tables) query.relations is.relations))
    where
      mapped : length (map (said_relation tables) query.relations) ≡ length query.relations
      mapped = Rattle.std.proofs.lemmas.List.length-map query.relations (said_relation tables)

  conditions_print : Prints (conditions (map (said_pred tables query) query.preds)) joins_value (clause (codes " WHERE ") (codes " AND ") (pred_text tables query) query.preds) joins_value
  conditions_print =
      clause_prints (word WHERE) (word AND) (codes " WHERE ") (codes " AND ") a_pred (pred_text tables query) (said_pred tables query) joins_value where_prints and_prints query.preds
      (pairs_of (said_pred tables query) (λ p pred. Prints (a_pred p) joins_none (pred_text tables query pred) joins_value) (IsPredicate tables query) pred_prints query.preds (one_by_one (IsPredicate tables query) query.preds is.preds))

  ordered_prints : Prints (order_tokens (map (said_item tables query) query.order)) joins_value (clause (codes " ORDER BY ") (codes ", ") (order_text tables query) query.order) joins_value
  ordered_prints =
      respelled (λ w h. elim h [ inl none ↦ inl none | inr some ↦ inr (regroup (word ORDER) (word BY) (separated_by comma an_item (map (said_item tables query) query.order)) w some) ])
      (clause_prints (word ORDER ⋅ word BY) comma (codes " ORDER BY ") (codes ", ") an_item (order_text tables query) (said_item tables query) joins_value order_by_prints then_prints query.order
      (pairs_of (said_item tables query) (λ i item. Prints (an_item i) joins_none (order_text tables query item) joins_value) (λ item. IsColumnOf tables query item.col) item_prints query.order (one_by_one (λ item. IsColumnOf tables query item.col) query.order is.order)))

  pub select_prints : Prints (SpellsSelect (said_query tables query)) joins_none (select_text tables query ++ codes ";") joins_none
  unfolding select_text
  select_prints =
      let select : List ℕ = separated_texts (codes ", ") (ref_text tables query) query.select in
      let from : List ℕ = separated_texts (codes ", ") (relation_text tables) query.relations in
      let tests : List ℕ = clause (codes " WHERE ") (codes " AND ") (pred_text tables query) query.preds in
      let order : List ℕ = clause (codes " ORDER BY ") (codes ", ") (order_text tables query) query.order in
      subst (λ (v : List ℕ). Prints (SpellsSelect (said_query tables query)) joins_none v joins_none) (sym (select_row select from tests order (stop_text query.stop)))
      (join (keyword_prints SELECT refl)
      (space is_word_byte refl (join chosen_print
      (space is_word_byte refl (join (keyword_prints FROM refl)
      (space is_word_byte refl (join (word_end relations_print)
      (join conditions_print
      (join ordered_prints
      (join (stop_prints query.stop is.stop)
      (mark_prints 59 joins_value refl refl)))))))))))

  -- the head, and then the query
  pub query_prints : IsName query.name → Prints (word PREPARE ⋅ a_name query.name ⋅ word AS ⋅ SpellsSelect (said_query tables query)) joins_none (query_text tables query) joins_none
  unfolding query_text
  query_prints name =
      subst (λ (v : List ℕ). Prints (word PREPARE ⋅ a_name query.name ⋅ word AS ⋅ SpellsSelect (said_query tables query)) joins_none v joins_none) (sym (query_row query.name (select_text tables query)))
      (join (keyword_prints PREPARE refl)
      (space is_word_byte refl (join (name_prints query.name name)
      (space is_word_byte refl (join (keyword_prints AS refl)
      (space is_word_byte refl select_prints))))))
