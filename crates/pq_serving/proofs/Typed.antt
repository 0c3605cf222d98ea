-- The values of an input's bounds are of the kinds of the sequence's columns.
use Rattle.std.proofs.Common.{◌≡◌, ℕ, zero, suc, ◌-◌, ◌<◌, ◌≤◌, Bool, true, false, cond, ◌⊎◌, ◌&&◌, ◌==◌, inl, inr, List, [], ◌∷◌, ◌++◌, length, get_or, map, filter, count_ones, Option, Some, None, slice_get, unwrap_or, option_and_then, refl, sym, ap, ◌∙◌, subst, arith, take-append-drop}
use Rattle.std.specs.declared.cmp.Ordering.TheVariants.{Less, Equal, Greater}
use Rattle.std.specs.List.{find}
use Rattle.std.proofs.lemmas.Bool.{and_parts, and_from, eqb-true, eq-eqb, false≢true}
use Rattle.std.proofs.lemmas.Option.{none-some, same_Some}
use Rattle.std.proofs.lemmas.List.{length-map, drop-map}
use Rattle.pq_base.specs.declared.value.Dir.{Dir}
use Rattle.pq_base.specs.declared.value.Dir.TheVariants.{Asc, Desc}
use Rattle.pq_base.specs.declared.value.Value.{Value}
use Rattle.pq_base.specs.declared.value.Value.TheVariants as value
use Rattle.pq_base.specs.declared.value.ColType.{ColType}
use Rattle.pq_base.specs.declared.value.ColType.TheVariants as type
use Rattle.pq_base.specs.Order.{value_cmp, directed_order}
use Rattle.pq_base.specs.Values.{FitsType, AllFit}
use Rattle.pq_base.specs.Members.{In}
use Rattle.pq_schema.specs.declared.table.KeyPart.{KeyPart}
use Rattle.pq_schema.specs.declared.table.Table.{Table}
use Rattle.pq_base.specs.declared.op.Op.{Op}
use Rattle.pq_base.specs.declared.op.Op.TheVariants as op
use Rattle.pq_schema.specs.declared.query.Operand.{Operand}
use Rattle.pq_schema.specs.declared.query.Operand.TheVariants as operand
use Rattle.pq_schema.specs.declared.query.Pred.{Pred}
use Rattle.pq_schema.specs.declared.query.OrderItem.{OrderItem}
use Rattle.pq_schema.specs.Resolved.{IsOperand, IsJoined, IsParam, IsPredicate, IsResolved, ref_type, param_type}
use Rattle.pq_schema.specs.Sequences.{columns_of}
use Rattle.pq_base.specs.Comparing.{is_null_test}
use Rattle.pq_schema.specs.Relations.{table_of, belongs_to, ties, tied_set, is_rest, part_of, position_columns}
use Rattle.pq_content.specs.Tables.{types_of, type_at, types_at, IsOfKind}
use Rattle.pq_base.specs.Comparing.{compares}
use Rattle.pq_plan.specs.Answer.{Question, row_of, side, no_value}
use Rattle.pq_plan.specs.Running.{tied_value}
use Rattle.pq_base.proofs.Members.{all_at, found}
use Rattle.pq_base.proofs.Members.{all_member, each_by_in, in_map, map_in, in_filter, filter_in, in_flat_map, in_either}
use Rattle.pq_base.proofs.Sets.{members_set}
use Rattle.pq_schema.proofs.TypeKinds.{kind_as, kind_from_fit, kind_from_param}
use Rattle.pq_plan.proofs.Fixed.{ties_belong}
use Rattle.pq_serving.specs.Starts.{Bound, by_case, start_of, under, lower, upper, at_value, past_value}
use Rattle.pq_serving.specs.Scanning.{first_direction, constant_value, constants, position_directions, own_preds, is_operand, is_tied, passes_one, passes, bounds_with, lowers, uppers, starts, front, rest, ties as tie_values, lows, highs}
use Rattle.pq_serving.proofs.Keys.{Fits, AreFit}
use Rattle.pq_serving.proofs.Columns.{map-append}
use Rattle.pq_serving.proofs.Places.{own_is, own}
use Rattle.pq_serving.proofs.Served.{IsServed, front_tied}
use Rattle.pq_serving.proofs.Stored.{IsTyped}

-- ---- values that fit
pub fit_get : (ts : List ColType) (xs : List Value) (k : ℕ) (v : Value) → AllFit ts xs → slice_get xs k ≡ Some v → FitsType (get_or ts k type.Bool) v
fit_get [] [] k v h e = absurd (none-some v e)
fit_get [] (x ∷ xs) k v h e = absurd h
fit_get (t ∷ ts) [] k v h e = absurd h
fit_get (t ∷ ts) (x ∷ xs) zero v h e = subst (FitsType t) (same_Some x v e) h.0
fit_get (t ∷ ts) (x ∷ xs) (suc k) v h e = fit_get ts xs k v h.1 e

-- ---- lists that fit
fits_none : (ts : List ColType) → Fits ts []
fits_none [] = tt
fits_none (t ∷ ts) = tt

fits_more : (ts us : List ColType) (xs : List Value) → Fits ts xs → Fits (ts ++ us) xs
fits_more [] us [] h = fits_none us
fits_more [] us (x ∷ xs) h = absurd h
fits_more (t ∷ ts) us [] h = tt
fits_more (t ∷ ts) us (x ∷ xs) h = (h.0, fits_more ts us xs h.1)

fits_append : (ts us : List ColType) (xs ys : List Value) → length ts ≡ length xs → Fits ts xs → Fits us ys → Fits (ts ++ us) (xs ++ ys)
fits_append [] us [] ys l g h = h
fits_append [] us (x ∷ xs) ys l g h = absurd g
fits_append (t ∷ ts) us [] ys l g h = absurd (omega arith)
fits_append (t ∷ ts) us (x ∷ xs) ys l g h = (g.0, fits_append ts us xs ys (omega arith) g.1 h)

fits_map : (table : Table) (value_at : ℕ → Value) (cols : List ℕ) → ((k : ℕ) → In k cols → IsOfKind (type_at table.columns k) (value_at k)) → Fits (types_at table.columns cols) (map value_at cols)
fits_map table value_at [] h = tt
fits_map table value_at (col ∷ cols) h = (h col (inl refl), fits_map table value_at cols (λ k here. h k (inr here)))

fits_all : (ts : List ColType) (xs : List Value) → AllFit ts xs → Fits ts xs
fits_all [] [] h = tt
fits_all [] (x ∷ xs) h = absurd h
fits_all (t ∷ ts) [] h = absurd h
fits_all (t ∷ ts) (x ∷ xs) h = (kind_from_fit t x h.0, fits_all ts xs h.1)

fits_start : (ts : List ColType) (ds : List Dir) (gs : List (Option Value)) (at : List Value) → Fits ts at → Fits (own ts gs) (start_of ds gs at).values
fits_start ts [] gs at f = fits_none (own ts gs)
fits_start ts (d ∷ ds) [] at f = fits_none (own ts [])
fits_start ts (d ∷ ds) (Some v ∷ gs) [] f = fits_none (own ts (Some v ∷ gs))
fits_start ts (d ∷ ds) (None ∷ gs) [] f = fits_none (own ts (None ∷ gs))
fits_start [] (d ∷ ds) (Some v ∷ gs) (a ∷ at) f = absurd f
fits_start [] (d ∷ ds) (None ∷ gs) (a ∷ at) f = absurd f
fits_start (t ∷ ts) (d ∷ ds) (Some v ∷ gs) (a ∷ at) f = elim (directed_order d (value_cmp a v)) as (λ r. Fits (own ts gs) (by_case r (record { past = false; values = [] }) (start_of ds gs at) (record { past = true; values = [] })).values) [
  | Less ↦ fits_none (own ts gs)
  | Equal ↦ fits_start ts ds gs at f.1
  | Greater ↦ fits_none (own ts gs)
]
fits_start (t ∷ ts) (d ∷ ds) (None ∷ gs) (a ∷ at) f = (f.0, fits_start ts ds gs at f.1)

-- ---- bounds of one operand have it alone, or NULL
one_of : (x b : Bound) (w : Value) → x.values ≡ w ∷ [] → In b (x ∷ []) → b.values ≡ w ∷ []
one_of x b w h (inl e) = ap (λ (c : Bound). c.values) (sym e) ∙ h
one_of x b w h (inr i) = absurd i

abbrev IsAlone : Value → Bound → Type 0
IsAlone w b = (b.values ≡ w ∷ []) ⊎ (b.values ≡ value.Null ∷ [])

lower_values : (d : Dir) (o : Op) (w : Value) (b : Bound) → In b (lower d o w) → IsAlone w b
lower_values Asc op.Eq w b i = absurd i
lower_values Asc op.Ne w b i = absurd i
lower_values Asc op.Lt w b i = inr (one_of (past_value value.Null) b value.Null refl i)
lower_values Asc op.Le w b i = inr (one_of (past_value value.Null) b value.Null refl i)
lower_values Asc op.Gt w b i = inl (one_of (past_value w) b w refl i)
lower_values Asc op.Ge w b i = inl (one_of (at_value w) b w refl i)
lower_values Asc op.IsNull w b i = absurd i
lower_values Desc op.Eq w b i = absurd i
lower_values Desc op.Ne w b i = absurd i
lower_values Desc op.Lt w b i = inl (one_of (past_value w) b w refl i)
lower_values Desc op.Le w b i = inl (one_of (at_value w) b w refl i)
lower_values Desc op.Gt w b i = absurd i
lower_values Desc op.Ge w b i = absurd i
lower_values Desc op.IsNull w b i = absurd i

upper_values : (d : Dir) (o : Op) (w : Value) (b : Bound) → In b (upper d o w) → IsAlone w b
upper_values Asc op.Eq w b i = absurd i
upper_values Asc op.Ne w b i = absurd i
upper_values Asc op.Lt w b i = inl (one_of (at_value w) b w refl i)
upper_values Asc op.Le w b i = inl (one_of (past_value w) b w refl i)
upper_values Asc op.Gt w b i = absurd i
upper_values Asc op.Ge w b i = absurd i
upper_values Asc op.IsNull w b i = absurd i
upper_values Desc op.Eq w b i = absurd i
upper_values Desc op.Ne w b i = absurd i
upper_values Desc op.Lt w b i = inr (one_of (at_value value.Null) b value.Null refl i)
upper_values Desc op.Le w b i = inr (one_of (at_value value.Null) b value.Null refl i)
upper_values Desc op.Gt w b i = inl (one_of (at_value w) b w refl i)
upper_values Desc op.Ge w b i = inl (one_of (past_value w) b w refl i)
upper_values Desc op.IsNull w b i = absurd i

-- both sides of a comparison that holds are there
right_there : (o : Op) (a b : Option Value) → compares o a b ≡ true → (y : Value) × (b ≡ Some y)
right_there o None b h = absurd (false≢true h)
right_there o (Some x) None h = absurd (false≢true h)
right_there o (Some x) (Some y) h = (y, refl)

module _ (q : Question) (p : ℕ) (sequence : List KeyPart) (s : IsServed q p sequence) (resolved : IsResolved q.tables q.query)
    (fits : AllFit q.query.params q.params)
    (c : List (List Value)) (rows_fit : (j : ℕ) → 1 ≤ j → j < p → AllFit (types_of (table_of q.tables q.query j)) (row_of j c)) (pass : passes q p c ≡ true) where
  abbrev table : Table
  table = table_of q.tables q.query p

  -- an operand is of its column's kind
  side_kind : (pred : Pred) → In pred (own_preds q p) → (v : Value) → side q.params c pred.right ≡ Some v → IsOfKind (type_at table.columns pred.left.col) v
  side_kind pred here v is =
      let f = in_filter (λ pred. belongs_to pred == p) pred q.query.preds here in
      let left = (s.own pred f.0 (eqb-true _ _ f.1)).left in
      subst (λ (n : ℕ). IsOfKind (type_at (table_of q.tables q.query n).columns pred.left.col) v) left
      (of left pred.right (all_member (IsPredicate q.tables q.query) q.query.preds resolved.preds pred f.0).right is)
    where
      of : pred.left.rel ≡ p → (o : Operand) → IsOperand q.tables q.query pred o → side q.params c o ≡ Some v → IsOfKind (ref_type q.tables q.query pred.left) v
      of left (operand.Const w) h e = subst (IsOfKind (ref_type q.tables q.query pred.left)) (same_Some w v e) (constant (is_null_test pred.op) refl)
        where
          constant : (b : Bool) → is_null_test pred.op ≡ b → IsOfKind (ref_type q.tables q.query pred.left) w
          constant true test = subst (IsOfKind (ref_type q.tables q.query pred.left)) (sym (h.1 test)) tt
          constant false test = kind_from_param (ref_type q.tables q.query pred.left) w (h.0 test)
      of left (operand.Param n) h e =
          let param : IsParam q.query.params n (param_type (ref_type q.tables q.query pred.left)) = h.1 in
          kind_from_param (ref_type q.tables q.query pred.left) v (subst (λ (t : ColType). FitsType t v) param.is_type (fit_get q.query.params q.params (n - 1) v fits e))
      of left (operand.Col col) h e =
          let joined : IsJoined q.tables q.query pred col = h in
          let low = joined.column.from_one in
          let lt = joined.earlier in
          let high = s.within in
          let row = rows_fit col.rel low (omega arith) in
          kind_as (ref_type q.tables q.query pred.left) (ref_type q.tables q.query col) v joined.kind (kind_from_fit (ref_type q.tables q.query col) v (fit_get (types_of (table_of q.tables q.query col.rel)) (row_of col.rel c) col.col v row e))

  passes_tied : (pred : Pred) → is_tied q p pred ≡ true → passes_one q p c pred ≡ true → compares pred.op (tied_value q p c pred.left.col) (side q.params c pred.right) ≡ true
  passes_tied pred tied passed = sym (ap (λ b. cond b (compares pred.op (tied_value q p c pred.left.col) (side q.params c pred.right)) (is_operand (side q.params c pred.right))) tied) ∙ passed

  -- a tied value is of its column's kind
  tie_kind : (k : ℕ) → In k (front q p sequence) → IsOfKind (type_at table.columns k) (unwrap_or (tied_value q p c k) no_value)
  tie_kind k here =
      let m = in_map (λ (pred : Pred). pred.left.col) k (filter (ties p) q.query.preds) (front_tied q p sequence s k here) in
      let at = in_filter (ties p) m.0 q.query.preds m.1 in
      let f = found (λ pred. ties p pred && (pred.left.col == k)) q.query.preds m.0 at.0 (and_from _ _ at.1 (eq-eqb _ _ m.2)) in
      of_first k f.0 f.1 f.2 f.3
    where
      -- of the equality that ties the column
      of_first : (k : ℕ) (pred : Pred) → find (λ pred. ties p pred && (pred.left.col == k)) q.query.preds ≡ Some pred → In pred q.query.preds → (ties p pred && (pred.left.col == k)) ≡ true → IsOfKind (type_at table.columns k) (unwrap_or (tied_value q p c k) no_value)
      of_first k pred is there h =
          let both = and_parts (ties p pred) (pred.left.col == k) h in
          let own_pred : In pred (own_preds q p) = filter_in (λ pred. belongs_to pred == p) pred q.query.preds there (eq-eqb _ _ (ties_belong p pred both.0)) in
          let tied : is_tied q p pred ≡ true = members_set (map (λ (pred : Pred). pred.left.col) (filter (ties p) q.query.preds)) pred.left.col (map_in (λ (pred : Pred). pred.left.col) pred (filter (ties p) q.query.preds) (filter_in (ties p) pred q.query.preds there both.0)) in
          let passed = all_at (passes_one q p c) (own_preds q p) pass pred own_pred in
          let w = right_there pred.op (tied_value q p c pred.left.col) (side q.params c pred.right) (passes_tied pred tied passed) in
          let value : unwrap_or (tied_value q p c k) no_value ≡ w.0 = ap (λ (o : Option Pred). unwrap_or (option_and_then (λ (pred : Pred). side q.params c pred.right) o) no_value) is ∙ ap (λ (o : Option Value). unwrap_or o no_value) w.1 in
          subst (λ (v : Value). IsOfKind (type_at table.columns k) v) (sym value) (subst (λ (n : ℕ). IsOfKind (type_at table.columns n) w.0) (eqb-true pred.left.col k both.1) (side_kind pred own_pred w.0 w.1))

  abbrev front_types : List ColType
  front_types = types_at table.columns (front q p sequence)

  abbrev rest_types : List ColType
  rest_types = types_at table.columns (columns_of (rest q p sequence))

  types_are : types_at table.columns (columns_of sequence) ≡ front_types ++ rest_types
  types_are =
      let many = count_ones (tied_set q.query p) in
      ap (types_at table.columns) (sym (take-append-drop many (columns_of sequence)) ∙ ap (λ (l : List ℕ). front q p sequence ++ l) (drop-map (λ (part : KeyPart). part.col) many sequence))
      ∙ map-append (type_at table.columns) (front q p sequence) (columns_of (rest q p sequence))

  ties_fit : Fits front_types (tie_values q p sequence c)
  ties_fit = fits_map table (λ col. unwrap_or (tied_value q p c col) no_value) (front q p sequence) tie_kind

  under_fit : (bs : List Bound) → ((b : Bound) → In b bs → Fits rest_types b.values) → AreFit (types_at table.columns (columns_of sequence)) (map (under (tie_values q p sequence c)) bs)
  under_fit bs h = each_by_in _ (map (under (tie_values q p sequence c)) bs) (λ b here.
      let m = in_map (under (tie_values q p sequence c)) b bs here in
      subst (λ (b : Bound). Fits (types_at table.columns (columns_of sequence)) b.values) m.2
      (subst (λ (ts : List ColType). Fits ts (tie_values q p sequence c ++ m.0.values)) (sym types_are)
      (fits_append front_types rest_types (tie_values q p sequence c) m.0.values
      (length-map (front q p sequence) (type_at table.columns) ∙ sym (length-map (front q p sequence) (λ col. unwrap_or (tied_value q p c col) no_value)))
      ties_fit (h m.0 m.1))))

  -- a bound that a predicate makes
  operand_fits : (pred : Pred) → In pred (own_preds q p) → is_tied q p pred ≡ false → (w : Value) → side q.params c pred.right ≡ Some w → (b : Bound) → IsAlone w b → Fits rest_types b.values
  operand_fits pred here untied w is b alone =
      let f = in_filter (λ pred. belongs_to pred == p) pred q.query.preds here in
      let r = s.ranges pred f.0 (eqb-true _ _ f.1) untied in
      let kind : IsOfKind (type_at table.columns r.part.col) w = subst (λ (n : ℕ). IsOfKind (type_at table.columns n) w) (sym r.column) (side_kind pred here w is) in
      let by : (v : Value) → IsOfKind (type_at table.columns r.part.col) v → b.values ≡ v ∷ [] → Fits rest_types b.values =
      λ v kind one.
      subst (λ (vs : List Value). Fits rest_types vs) (sym one)
      (subst (λ (parts : List KeyPart). Fits (types_at table.columns (columns_of parts)) (v ∷ [])) (sym r.first) (kind, fits_none (types_at table.columns (columns_of r.parts)))) in
      elim alone [ inl one ↦ by w kind one | inr null ↦ by value.Null tt null ]

  from_pred : (make : Op → Value → List Bound) → ((o : Op) (w : Value) (b : Bound) → In b (make o w) → IsAlone w b) → (pred : Pred) → In pred (own_preds q p) → (b : Bound) → In b (cond (is_tied q p pred) [] (bounds_with q p (make pred.op) (side q.params c pred.right))) → Fits rest_types b.values
  from_pred make alone pred here b there =
      elim (is_tied q p pred) as (λ t. is_tied q p pred ≡ t → In b (cond t [] (bounds_with q p (make pred.op) (side q.params c pred.right))) → Fits rest_types b.values) [
        | true ↦ λ _ i. absurd i
        | false ↦ λ untied i. elim (side q.params c pred.right) as (λ o. side q.params c pred.right ≡ o → In b (bounds_with q p (make pred.op) o) → Fits rest_types b.values) [
          | None ↦ λ _ i. absurd i
          | Some w ↦ λ is i. operand_fits pred here untied w is b (alone pred.op w b i)
        ] refl i
      ] refl there

  -- the start that the cursor makes
  module _ (after : Option (List Value)) (cursor : (at : List Value) → after ≡ Some at → AllFit (map (λ (item : OrderItem). ref_type q.tables q.query item.col) (position_columns q.tables q.query)) at) where
    own_types : own (map (λ (item : OrderItem). ref_type q.tables q.query item.col) (position_columns q.tables q.query)) (constants q p c) ≡ rest_types
    own_types =
        own_is (is_rest p (tied_set q.query p)) (constant_value q p c) (constant_value q p c) (constant_value q p c) (λ (item : OrderItem). ref_type q.tables q.query item.col) (position_columns q.tables q.query)
        ∙ sym (of_relation (filter (is_rest p (tied_set q.query p)) (position_columns q.tables q.query)) (λ item here. eqb-true _ _ (and_parts _ _ (in_filter (is_rest p (tied_set q.query p)) item (position_columns q.tables q.query) here).1).0))
        ∙ ap (λ (parts : List KeyPart). types_at table.columns (columns_of parts)) s.rest_is
      where
        of_relation : (items : List OrderItem) → ((item : OrderItem) → In item items → item.col.rel ≡ p) → types_at table.columns (columns_of (map part_of items)) ≡ map (λ (item : OrderItem). ref_type q.tables q.query item.col) items
        of_relation [] h = refl
        of_relation (item ∷ items) h = λ i. type_at (table_of q.tables q.query (sym (h item (inl refl)) i)).columns item.col.col ∷ of_relation items (λ x here. h x (inr here)) i

    start_fits : (o : Option (List Value)) → after ≡ o → (b : Bound) → In b (starts q p c o) → Fits rest_types b.values
    start_fits None is b i = absurd i
    start_fits (Some at) is b (inr i) = absurd i
    start_fits (Some at) is b (inl e) =
        subst (λ (b : Bound). Fits rest_types b.values) e
        (subst (λ (ts : List ColType). Fits ts (start_of (position_directions q p) (constants q p c) at).values) own_types
        (fits_start _ (position_directions q p) (constants q p c) at (fits_all _ at (cursor at is))))

    -- the bounds of an input that passes are typed
    pub typed : IsTyped q p sequence c after (types_at table.columns (columns_of sequence))
    typed = record {
      tied = subst (λ (ts : List ColType). Fits ts (tie_values q p sequence c)) (sym types_are) (fits_more front_types rest_types (tie_values q p sequence c) ties_fit);
      above = under_fit (lows q p sequence c after) (λ b here. elim (in_either b (starts q p c after) _ here) [
        | inl a ↦ start_fits after refl b a
        | inr l ↦ let f = in_flat_map (lowers q p (first_direction (rest q p sequence)) c) b (own_preds q p) l in from_pred (lower (first_direction (rest q p sequence))) (lower_values (first_direction (rest q p sequence))) f.0 f.1 b f.2
      ]);
      below = under_fit (highs q p sequence c) (λ b here. let f = in_flat_map (uppers q p (first_direction (rest q p sequence)) c) b (own_preds q p) here in from_pred (upper (first_direction (rest q p sequence))) (upper_values (first_direction (rest q p sequence))) f.0 f.1 b f.2);
    }
