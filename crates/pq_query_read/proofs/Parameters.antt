-- The parameters of a query that is resolved: their numbers and their types.
use Rattle.std.proofs.Common.{◌≡◌, ℕ, zero, suc, ◌+◌, ◌-◌, ◌<◌, ◌≤◌, max, true, not, ◌&&◌, ◌⊎◌, inl, inr, List, [], ◌∷◌, length, map, fold, filter_map, option_map, Option, Some, None, Ok, refl, sym, ap, ◌∙◌, subst, arith}
use Rattle.std.specs.Prelude.{nat_lt, ◌==◌, unwrap_or}
use Rattle.std.specs.List.{list_any, list_all, range_with_len, cons_option}
use Rattle.std.proofs.lemmas.Bool.{and_parts, or_cases, not-true, not-false, ltb-true, eqb-true, eq-eqb}
use Rattle.std.proofs.lemmas.List.FromFn.{length-map-range_with_len, get_or-map-range_with_len}
use Rattle.std.proofs.lemmas.Option.{none-some}
use Rattle.pq_base.specs.declared.refusal.Refusal.TheVariants as refusal
use Rattle.pq_base.specs.declared.value.ColType.{ColType}
use Rattle.pq_base.specs.declared.value.ColType.TheVariants as type
use Rattle.pq_schema.proofs.TypeKinds.{params_alike}
use Rattle.pq_schema.specs.Definitions.{refused_if}
use Rattle.pq_schema.specs.Resolved.{IsParam, param_type, is_param, is_used}
use Rattle.pq_base.specs.Values.{same_kind}
use Rattle.pq_schema.specs.declared.query.ColRef.{ColRef}
use Rattle.pq_schema.specs.declared.query.Operand.{Operand}
use Rattle.pq_schema.specs.declared.query.Operand.TheVariants as operand
use Rattle.pq_schema.specs.declared.query.Pred.{Pred}
use Rattle.pq_schema.specs.declared.query.Relation.{Relation}
use Rattle.pq_schema.specs.declared.table.Table.{Table}
use Rattle.pq_base.specs.Members.{In}
use Rattle.pq_base.proofs.Members.{all_at, any_at, any_from, found, in_map, map_in}
use Rattle.pq_query_read.specs.Columns.{type_of}
use Rattle.pq_query_read.specs.Parameters.{use_in, uses, has_number, has_param_number, same_use, are_params, param_count, param_type_of, params_of}
use Rattle.pq_query_read.specs.declared.params.ParamUse.{ParamUse}
use Rattle.pq_query_read.specs.Trying.{passed_unless}
use Rattle.pq_query_read.proofs.Trying.{both, not_so, same_answer}

-- ---- lists

pub in_found : {X Y : Type 0} (h : X → Option Y) (y : Y) (xs : List X) → In y (filter_map h xs) → (x : X) × In x xs × (h x ≡ Some y)
in_found h y [] i = absurd i
in_found {X} {Y} h y (x ∷ xs) i = by (h x) refl i (in_found h y xs)
  where
    by : (o : Option Y) → h x ≡ o → In y (cons_option o (filter_map h xs)) → (In y (filter_map h xs) → (z : X) × In z xs × (h z ≡ Some y)) → (z : X) × In z (x ∷ xs) × (h z ≡ Some y)
    by None at i rest = let r = rest i in (r.0, inr r.1, r.2)
    by (Some z) at (inl e) rest = (x, inl refl, at ∙ ap Some e)
    by (Some z) at (inr i) rest = let r = rest i in (r.0, inr r.1, r.2)

pub made_in : {X Y : Type 0} (h : X → Option Y) (x : X) (y : Y) (xs : List X) → In x xs → h x ≡ Some y → In y (filter_map h xs)
made_in h x y [] i is = absurd i
made_in h x y (z ∷ zs) (inl e) is = subst (λ o. In y (cons_option o (filter_map h zs))) (sym (ap h e ∙ is)) (inl refl)
made_in {X} {Y} h x y (z ∷ zs) (inr i) is = by (h z) (made_in h x y zs i is)
  where
    by : (o : Option Y) → In y (filter_map h zs) → In y (cons_option o (filter_map h zs))
    by None i = i
    by (Some w) i = inr i

most_from : (a : ℕ) (ns : List ℕ) → a ≤ fold max a ns
most_from a [] = omega arith
most_from a (n ∷ ns) = let h = most_from (max a n) ns in omega (arith, h)

most_of : (a n : ℕ) (ns : List ℕ) → In n ns → n ≤ fold max a ns
most_of a n [] i = absurd i
most_of a n (m ∷ ns) (inl e) = let h = most_from (max a m) ns in omega (arith, e, h)
most_of a n (m ∷ ns) (inr i) = most_of (max a m) n ns i

most_is : (a : ℕ) (ns : List ℕ) → (fold max a ns ≡ a) ⊎ In (fold max a ns) ns
most_is a [] = inl refl
most_is a (n ∷ ns) = elim (most_is (max a n) ns) [ inl e ↦ greater (Rattle.std.proofs.lemmas.Bool.cases_lt a n) e | inr i ↦ inr (inr i) ]
  where
    greater : (a < n) ⊎ (n ≤ a) → fold max (max a n) ns ≡ max a n → (fold max (max a n) ns ≡ a) ⊎ ((n ≡ fold max (max a n) ns) ⊎ In (fold max (max a n) ns) ns)
    greater (inl less) e = inr (inl (omega (arith, less, e)))
    greater (inr more) e = inl (omega (arith, more, e))

-- ---- types

pub IsParamType : ColType → Type 0
IsParamType t = (c : ColType) × (t ≡ param_type c)

param_types : (a b : ColType) → same_kind (param_type a) (param_type b) ≡ true → param_type a ≡ param_type b
param_types = params_alike

-- ---- the uses of parameters

module _ (used : List (ParamUse)) (fit : are_params used ≡ true) where
  numbered : (u : ParamUse) → In u used → has_param_number used u ≡ true
  numbered u i = all_at (has_param_number used) used (and_parts (list_all (has_param_number used) used) (list_all (λ param. list_all (same_use param) used) used) fit).0 u i

  agreed : (u v : ParamUse) → In u used → In v used → same_use u v ≡ true
  agreed u v i j = all_at (same_use u) used (all_at (λ param. list_all (same_use param) used) used (and_parts (list_all (has_param_number used) used) (list_all (λ param. list_all (same_use param) used) used) fit).1 u i) v j

  pub from_one : (u : ParamUse) → In u used → 1 ≤ u.number
  from_one u i = elim (or_cases (u.number == 1) (nat_lt 1 u.number && list_any (has_number (u.number - 1)) used) (numbered u i)) [
    | inl e ↦ let is = eqb-true u.number 1 e in omega (arith, is)
    | inr r ↦ let less = ltb-true 1 u.number (and_parts (nat_lt 1 u.number) (list_any (has_number (u.number - 1)) used) r).0 in omega (arith, less)
  ]

  pub within : (u : ParamUse) → In u used → u.number ≤ param_count used
  within u i = most_of 0 u.number (map (λ param. param.number) used) (map_in (λ param. param.number) u used i)

  -- the greatest number is used, and below each but 1 the next lower one
  greatest : 1 ≤ param_count used → list_any (has_number (param_count used)) used ≡ true
  greatest some = elim (most_is 0 (map (λ param. param.number) used)) [
    | inl none ↦ absurd (omega (arith, none, some))
    | inr i ↦ let at = in_map (λ param. param.number) (param_count used) used i in any_from (has_number (param_count used)) used at.0 at.1 (eq-eqb at.0.number (param_count used) at.2)
  ]

  lower : (number : ℕ) → 1 ≤ number → list_any (has_number (number + 1)) used ≡ true → list_any (has_number number) used ≡ true
  lower number some is =
      let at = any_at (has_number (number + 1)) used is in
      let above : at.0.number ≡ number + 1 = eqb-true at.0.number (number + 1) at.2 in
      elim (or_cases (at.0.number == 1) (nat_lt 1 at.0.number && list_any (has_number (at.0.number - 1)) used) (numbered at.0 at.1)) [
        | inl e ↦ let one = eqb-true at.0.number 1 e in absurd (omega (arith, one, above, some))
        | inr r ↦ subst (λ n. list_any (has_number n) used ≡ true) (let down : at.0.number - 1 ≡ number = omega (arith, above) in down) (and_parts (nat_lt 1 at.0.number) (list_any (has_number (at.0.number - 1)) used) r).1
      ]

  pub all_used : (further number : ℕ) → number + further ≡ param_count used → 1 ≤ number → list_any (has_number number) used ≡ true
  all_used zero number is some =
      let same : param_count used ≡ number = omega (arith, is) in
      subst (λ n. list_any (has_number n) used ≡ true) same (greatest (omega (arith, is, some)))
  all_used (suc further) number is some = lower number some (all_used further (number + 1) (omega (arith, is)) (omega (arith, some)))

  -- the type of a number is that of each of its uses
  pub typed : (u : ParamUse) → ((v : ParamUse) → In v used → IsParamType v.ty) → In u used → param_type_of used u.number ≡ u.ty
  unfolding IsParamType
  typed u types i =
      let at = found (has_number u.number) used u i (eq-eqb u.number u.number refl) in
      let same_number : at.0.number ≡ u.number = eqb-true at.0.number u.number at.3 in
      let first : param_type_of used u.number ≡ at.0.ty = ap (λ o. unwrap_or (option_map (λ (param : ParamUse). param.ty) o) type.Bool) at.1 in
      first ∙ elim (or_cases (not (u.number == at.0.number)) (same_kind u.ty at.0.ty) (agreed u at.0 i at.2)) [
        | inl other ↦ absurd (Rattle.std.proofs.lemmas.Bool.both_ways (u.number == at.0.number) (not-true (u.number == at.0.number) other) (eq-eqb u.number at.0.number (sym same_number)))
        | inr kind ↦
            let t = types u i in
            let s = types at.0 at.2 in
            let both_kinds : same_kind (param_type t.0) (param_type s.0) ≡ true = subst (λ k. same_kind (param_type t.0) k ≡ true) s.1 (subst (λ k. same_kind k at.0.ty ≡ true) t.1 kind) in
            s.1 ∙ sym (param_types t.0 s.0 both_kinds) ∙ sym t.1
      ]

-- ---- the predicates that use them

module _ (tables : List Table) (relations : List Relation) where
  pub use_typed : (preds : List Pred) (u : ParamUse) → In u (uses tables relations preds) → IsParamType u.ty
  unfolding IsParamType
  use_typed preds u i =
      let at = in_found (λ pred. use_in tables relations pred.left pred.right) u preds i in
      by at.0.left at.0.right at.2
    where
      by : (left : ColRef) (right : Operand) → use_in tables relations left right ≡ Some u → (c : ColType) × (u.ty ≡ param_type c)
      by left (operand.Const v) is = absurd (none-some u is)
      by left (operand.Param n) is = (type_of tables relations left, ap (λ (o : Option ParamUse). (unwrap_or o u).ty) (sym is))
      by left (operand.Col c) is = absurd (none-some u is)

  -- a number that is used is the number of a predicate's parameter
  pub pred_uses : (preds : List Pred) (number : ℕ) → list_any (has_number number) (uses tables relations preds) ≡ true → is_used preds number ≡ true
  pred_uses preds number is =
      let u = any_at (has_number number) (uses tables relations preds) is in
      let at = in_found (λ pred. use_in tables relations pred.left pred.right) u.0 preds u.1 in
      any_from (λ (pred : Pred). is_param number pred.right) preds at.0 at.1 (by u.0 at.0.left at.0.right at.2 u.2)
    where
      by : (u : ParamUse) (left : ColRef) (right : Operand) → use_in tables relations left right ≡ Some u → has_number number u ≡ true → is_param number right ≡ true
      by u left (operand.Const v) is h = absurd (none-some u is)
      by u left (operand.Param n) is h = let same : n ≡ u.number = ap (λ (o : Option ParamUse). (unwrap_or o u).number) is in subst (λ m. (m == number) ≡ true) (sym same) h
      by u left (operand.Col c) is h = absurd (none-some u is)

  pub params_made : (preds : List Pred) (params : List ColType) → params_of (uses tables relations preds) ≡ Ok params
      → (are_params (uses tables relations preds) ≡ true) × (map (param_type_of (uses tables relations preds)) (range_with_len 1 (param_count (uses tables relations preds))) ≡ params)
  params_made preds params is =
      let used = uses tables relations preds in
      let parts = both (passed_unless (refused_if (not (are_params used)) refusal.Params)) (λ numbered. Ok (map (param_type_of used) (range_with_len 1 (param_count used)))) params is in
      (not-false (are_params used) (not_so (not (are_params used)) refusal.Params parts.0 parts.1), same_answer (map (param_type_of used) (range_with_len 1 (param_count used))) params parts.2)

  -- a predicate's parameter has its column's type
  pub param_is : (preds : List Pred) (params : List ColType) → params_of (uses tables relations preds) ≡ Ok params → (left : ColRef) (number : ℕ) → In (record { number = number; ty = param_type (type_of tables relations left) }) (uses tables relations preds)
      → IsParam params number (param_type (type_of tables relations left))
  param_is preds params is left number i =
      subst (λ ps. IsParam ps number (param_type (type_of tables relations left))) made.1 (record {
        from_one = low;
        there = let high = within used made.0 (record { number = number; ty = param_type (type_of tables relations left) }) i in omega (arith, high, long);
        is_type = get_or-map-range_with_len (param_type_of used) 1 (param_count used) (number - 1) number type.Bool (let high = within used made.0 (record { number = number; ty = param_type (type_of tables relations left) }) i in omega (arith, high, low)) (omega (arith, low))
            ∙ typed used made.0 (record { number = number; ty = param_type (type_of tables relations left) }) (use_typed preds) i;
      })
    where
      used : List (ParamUse)
      used = uses tables relations preds

      made : (are_params (uses tables relations preds) ≡ true) × (map (param_type_of (uses tables relations preds)) (range_with_len 1 (param_count (uses tables relations preds))) ≡ params)
      made = params_made preds params is

      low : 1 ≤ number
      low = from_one (uses tables relations preds) made.0 (record { number = number; ty = param_type (type_of tables relations left) }) i

      long : length (map (param_type_of (uses tables relations preds)) (range_with_len 1 (param_count (uses tables relations preds)))) ≡ param_count (uses tables relations preds)
      long = length-map-range_with_len (param_type_of (uses tables relations preds)) 1 (param_count (uses tables relations preds))

  pub params_used : (preds : List Pred) (params : List ColType) → params_of (uses tables relations preds) ≡ Ok params → (number : ℕ) → 1 ≤ number → number ≤ length params → is_used preds number ≡ true
  params_used preds params is number low high =
      let used = uses tables relations preds in
      let made = params_made preds params is in
      let long : length params ≡ param_count used = sym (ap length made.1) ∙ length-map-range_with_len (param_type_of used) 1 (param_count used) in
      pred_uses preds number (all_used used made.0 (param_count used - number) number (omega (arith, high, long)) low)
