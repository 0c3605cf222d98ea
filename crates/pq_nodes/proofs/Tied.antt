-- Fixed columns have tied values, of the columns' kinds, and a range has just the rows with these.
use Rattle.std.proofs.Common.{◌≡◌, Option, Some, None, ℕ, ◌-◌, ◌<◌, Bool, true, false, not, cond, ◌&&◌, ◌||◌, ◌==◌, inl, inr, List, [], ◌∷◌, length, get_or, map, filter, take, slice_get, option_and_then, option_to_list, refl, sym, ap, ◌∙◌, subst, arith}
use Rattle.std.specs.Prelude.{unwrap_or}
use Rattle.std.proofs.lemmas.Bool.{and_parts, and_from, eqb-true, eq-eqb, ltb-true}
use Rattle.std.proofs.lemmas.List.{length-map}
use Rattle.pq_base.specs.Columns.{is_column_within, set_of}
use Rattle.pq_base.specs.Members.{In}
use Rattle.pq_base.specs.Values.{FitsType, AllFit, is_null, has_null}
use Rattle.pq_base.specs.declared.value.Value.TheVariants as value
use Rattle.pq_base.specs.declared.value.ColType.{ColType}
use Rattle.pq_base.specs.declared.value.ColType.TheVariants as type
use Rattle.pq_base.specs.declared.value.Value.{Value}
use Rattle.pq_base.specs.declared.op.Op.TheVariants as op
use Rattle.pq_schema.specs.declared.query.Operand.{Operand}
use Rattle.pq_schema.specs.declared.query.Operand.TheVariants as operand
use Rattle.pq_schema.specs.declared.query.Pred.{Pred}
use Rattle.pq_schema.specs.declared.query.Query.{Query}
use Rattle.pq_schema.specs.declared.table.Table.{Table}
use Rattle.pq_base.specs.Comparing.{is_null_test}
use Rattle.pq_schema.specs.Relations.{relation_at, table_of, is_equality, is_before, ties, tied_set}
use Rattle.pq_schema.specs.Resolved.{IsOperand, IsPredicate, IsResolved, ref_type, param_type}
use Rattle.pq_schema.specs.Rows.{Rows, rows_of, no_value, value_of, types_of, same_value, agrees, row_at, KeepsSchema}
use Rattle.pq_schema.specs.Tables.{type_at}
use Rattle.pq_schema.proofs.TypeKinds.{kind_as, kind_from_fit, kind_from_param}
use Rattle.pq_base.specs.Comparing.{compares}
use Rattle.pq_plan.specs.Answer.{Question, row_of, side}
use Rattle.pq_plan.specs.Meaning.{key_of}
use Rattle.pq_plan.specs.Running.{tied_value, is_match, matching}
use Rattle.pq_plan.proofs.Kept.{row_fits}
use Rattle.pq_plan.proofs.Fixed.{equality}
use Rattle.pq_base.proofs.Members.{in_map, in_filter, found, all_member, get_at, filter_same, each_by_in}
use Rattle.pq_base.proofs.Sets.{within_members}
use Rattle.pq_base.proofs.TypeFits.{length_from_fits}
use Rattle.pq_content.specs.Tables.{IsOfKind, AllOfKinds, types_at}
use Rattle.pq_content.proofs.Keeping.{rows_with_key}
use Rattle.pq_nodes.specs.Combos.{FitsTables}
use Rattle.pq_nodes.specs.Tied.{tied_cells, tied_group}
use Rattle.pq_nodes.proofs.Fitting.{fits_at}

-- ---- one column

-- the columns that equalities tie
abbrev pub tied_columns : Query → ℕ → List ℕ
tied_columns query rel = map (λ (p : Pred). p.left.col) (filter (ties rel) query.preds)

module _ (tables : List Table) (query : Query) (resolved : IsResolved tables query) (rel : ℕ) where
  predicate_is : (p : Pred) → In p query.preds → IsPredicate tables query p
  predicate_is p here = all_member (IsPredicate tables query) query.preds resolved.preds p here

  own_relation : (p : Pred) → ties rel p ≡ true → (p.left.rel ≡ rel) × (is_before rel p.right ≡ true) × (is_null_test p.op ≡ false)
  own_relation p h =
      let outer = and_parts (is_equality p.op && (p.left.rel == rel)) (is_before rel p.right) h in
      let inner = and_parts (is_equality p.op) (p.left.rel == rel) outer.0 in
      (eqb-true p.left.rel rel inner.1, outer.1, ap is_null_test (equality p.op inner.0))

  -- a tied column is one of the relation's table
  pub tied_there : (col : ℕ) → In col (tied_columns query rel) → col < length (table_of tables query rel).columns
  tied_there col here =
      let m = in_map (λ (p : Pred). p.left.col) col (filter (ties rel) query.preds) here in
      let at = in_filter (ties rel) m.0 query.preds m.1 in
      let own = (own_relation m.0 at.1).0 in
      subst (λ c. c < length (table_of tables query rel).columns) m.2
      (subst (λ r. m.0.left.col < length (table_of tables query r).columns) own (predicate_is m.0 at.0).left.inside)

-- an equality holds of equal values that are not NULL
equal_is : (x y : Value) → compares op.Eq (Some x) (Some y) ≡ (not (is_null y) && same_value x y)
equal_is value.Null value.Null = refl
equal_is value.Null (value.Int b) = refl
equal_is value.Null (value.Bool b) = refl
equal_is value.Null (value.Text b) = refl
equal_is (value.Int a) value.Null = refl
equal_is (value.Bool a) value.Null = refl
equal_is (value.Text a) value.Null = refl
equal_is (value.Int a) (value.Int b) = refl
equal_is (value.Int a) (value.Bool b) = refl
equal_is (value.Int a) (value.Text b) = refl
equal_is (value.Bool a) (value.Int b) = refl
equal_is (value.Bool a) (value.Bool b) = refl
equal_is (value.Bool a) (value.Text b) = refl
equal_is (value.Text a) (value.Int b) = refl
equal_is (value.Text a) (value.Bool b) = refl
equal_is (value.Text a) (value.Text b) = refl

regrouped : (a s b r : Bool) → ((not a && s) && (not b && r)) ≡ (not (a || b) && (s && r))
regrouped true s b r = refl
regrouped false true true r = refl
regrouped false false true r = refl
regrouped false true false r = refl
regrouped false false false r = refl

none_at : {X : Type 0} (p : X → Bool) (xs : List X) → filter (λ x. false && p x) xs ≡ []
none_at p [] = refl
none_at p (x ∷ xs) = none_at p xs

-- a test in front of a filter that doesn't look at the items
tested_first : {X : Type 0} (b : Bool) (p : X → Bool) (xs : List X) → filter (λ x. not b && p x) xs ≡ cond b [] (filter p xs)
tested_first true p xs = none_at p xs
tested_first false p xs = refl

module _ (tables : List Table) (query : Query) (rows : Rows) (params : List Value) (resolved : IsResolved tables query) (given : AllFit query.params params) (rel : ℕ) (combo : List (List Value)) (fits : FitsTables tables query (rel - 1) combo) where
  abbrev q : Question
  q = record { tables = tables; query = query; rows = rows; params = params }

  -- what an equality compares with is there, and of the column's kind
  side_is : (p : Pred) (o : Operand) → is_before rel o ≡ true → is_null_test p.op ≡ false → IsOperand tables query p o → (v : Value) × (side params combo o ≡ Some v) × IsOfKind (ref_type tables query p.left) v
  side_is p (operand.Const v) before compares is = (v, refl, kind_from_param (ref_type tables query p.left) v (is.0 compares))
  side_is p (operand.Param n) before compares both =
      let is = both.1 in
      let low = is.from_one in
      let there = is.there in
      let long = length_from_fits query.params params given in
      let v = get_or params (n - 1) no_value in
      let fit : FitsType (param_type (ref_type tables query p.left)) v = subst (λ (t : ColType). FitsType t v) is.is_type (fits_at query.params params (n - 1) type.Bool no_value given (omega arith)) in
      (v, get_at params (n - 1) no_value (omega (arith, long)), kind_from_param (ref_type tables query p.left) v fit)
  side_is p (operand.Col c) before compares is =
      let earlier : c.rel < rel = ltb-true c.rel rel before in
      let table = table_of tables query c.rel in
      let row = row_of c.rel combo in
      let fit = fits.rows c.rel is.column.from_one (omega (arith, earlier)) in
      let width = length-map table.columns (λ column. column.ty) in
      let long = length_from_fits (types_of table) row fit in
      let inside = is.column.inside in
      let v = get_or row c.col no_value in
      let one : FitsType (ref_type tables query c) v = fits_at (types_of table) row c.col type.Bool no_value fit (omega (arith, width, inside)) in
      (v, get_at row c.col no_value (omega (arith, width, long, inside)), kind_as (ref_type tables query p.left) (ref_type tables query c) v is.kind (kind_from_fit (ref_type tables query c) v one))

  -- a tied column has a value, of its kind
  pub tied_kind : (col : ℕ) → In col (tied_columns query rel) → (v : Value) × (tied_value q rel combo col ≡ Some v) × IsOfKind (type_at (table_of tables query rel).columns col) v
  tied_kind col here =
      let m = in_map (λ (p : Pred). p.left.col) col (filter (ties rel) query.preds) here in
      let at = in_filter (ties rel) m.0 query.preds m.1 in
      let f = found (λ p. ties rel p && (p.left.col == col)) query.preds m.0 at.0 (and_from _ _ at.1 (eq-eqb _ _ m.2)) in
      let p = f.0 in
      let both = and_parts (ties rel p) (p.left.col == col) f.3 in
      let column : p.left.col ≡ col = eqb-true p.left.col col both.1 in
      let own = own_relation tables query resolved rel p both.0 in
      let is = predicate_is tables query resolved rel p f.2 in
      let s = side_is p p.right own.1 own.2 is.right in (
        s.0,
        ap (option_and_then (λ (p : Pred). side params combo p.right)) f.1 ∙ s.1,
        subst (λ (t : ColType). IsOfKind t s.0) (λ i. type_at (table_of tables query (own.0 i)).columns (column i)) s.2,
      )

  -- ---- some columns

  pub tied_kinds : (cols : List ℕ) → ((col : ℕ) → In col cols → In col (tied_columns query rel)) → AllOfKinds (types_at (table_of tables query rel).columns cols) (tied_cells q rel cols combo)
  tied_kinds [] tied = tt
  tied_kinds (col ∷ cols) tied =
      let one = tied_kind col (tied col (inl refl)) in
      let table = table_of tables query rel in
      (subst (λ (o : Option Value). IsOfKind (type_at table.columns col) (unwrap_or o no_value)) (sym one.1) one.2, tied_kinds cols (λ c here. tied c (inr here)))

  -- a row of the table matches where it has the tied values, and none is NULL
  match_agrees : (cols : List ℕ) → ((col : ℕ) → In col cols → In col (tied_columns query rel)) → (row : List Value) → AllFit (types_of (table_of tables query rel)) row → is_match q rel cols combo row ≡ (not (has_null (tied_cells q rel cols combo)) && agrees cols (tied_cells q rel cols combo) row)
  match_agrees [] tied row fit = refl
  match_agrees (col ∷ cols) tied row fit =
      let table = table_of tables query rel in
      let one = tied_kind col (tied col (inl refl)) in
      let inside = tied_there tables query resolved rel col (tied col (inl refl)) in
      let width = length-map table.columns (λ column. column.ty) in
      let long = length_from_fits (types_of table) row fit in
      let there : slice_get row col ≡ Some (value_of row col) = get_at row col no_value (omega (arith, width, long, inside)) in
      let rest = match_agrees cols (λ c here. tied c (inr here)) row fit in
      let others = tied_cells q rel cols combo in
      (λ i. compares op.Eq (there i) (one.1 i) && rest i)
      ∙ ap (λ b. b && (not (has_null others) && agrees cols others row)) (equal_is (value_of row col) one.0)
      ∙ regrouped (is_null one.0) (same_value (value_of row col) one.0) (has_null others) (agrees cols others row)
      ∙ sym (λ i. not (is_null (unwrap_or (one.1 i) no_value) || has_null others) && (same_value (value_of row col) (unwrap_or (one.1 i) no_value) && agrees cols others row))

  module _ (kept : KeepsSchema tables rows) where
    -- what a range gives are the rows of a group, and none where a tied value is NULL
    pub matching_group : (cols : List ℕ) → ((col : ℕ) → In col cols → In col (tied_columns query rel)) → matching q rel cols combo ≡ tied_group (relation_at query rel).table cols (tied_cells q rel cols combo) rows
    matching_group cols tied =
        let t = (relation_at query rel).table in
        filter_same (is_match q rel cols combo) (λ row. not (has_null (tied_cells q rel cols combo)) && agrees cols (tied_cells q rel cols combo) row) (rows_of t rows)
        (each_by_in _ (rows_of t rows) (λ row here. match_agrees cols tied row (row_fits tables rows kept t row here)))
        ∙ tested_first (has_null (tied_cells q rel cols combo)) (agrees cols (tied_cells q rel cols combo)) (rows_of t rows)

    one_taken : {X : Type 0} (o : Option X) → take 1 (option_to_list o) ≡ option_to_list o
    one_taken None = refl
    one_taken (Some x) = refl

    taken : {X : Type 0} (b : Bool) (o : Option X) → take 1 (cond b [] (option_to_list o)) ≡ cond b [] (option_to_list o)
    taken true o = refl
    taken false o = one_taken o

    -- and what a lookup gives is the row with the tied key
    pub matching_row : ((col : ℕ) → In col (key_of q rel) → In col (tied_columns query rel)) → take 1 (matching q rel (key_of q rel) combo) ≡ cond (has_null (tied_cells q rel (key_of q rel) combo)) [] (option_to_list (row_at tables rows (relation_at query rel).table (tied_cells q rel (key_of q rel) combo)))
    matching_row tied =
        let key = tied_cells q rel (key_of q rel) combo in
        let t = (relation_at query rel).table in
        ap (take 1) (matching_group (key_of q rel) tied ∙ ap (cond (has_null key) []) (rows_with_key tables rows t key kept.apart))
        ∙ taken (has_null key) (row_at tables rows t key)

-- columns whose set lies in the fixed ones are tied
pub within_tied : (query : Query) (rel : ℕ) (cols : List ℕ) → is_column_within (set_of cols) (tied_set query rel) ≡ true → (col : ℕ) → In col cols → In col (tied_columns query rel)
within_tied query rel cols h = within_members cols (tied_columns query rel) h
