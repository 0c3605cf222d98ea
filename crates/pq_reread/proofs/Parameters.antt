-- Reading a query again gives the types of its parameters.
use Rattle.std.proofs.Common.{◌≡◌, ℕ, ◌+◌, ◌-◌, ◌≤◌, ◌<◌, Bool, true, false, not, eqb, ◌||◌, ◌&&◌, List, length, get_or, Some, Ok, refl, sym, ap, subst, ◌∙◌, arith, inl, inr, eq-eqb}
use Rattle.std.specs.Prelude.{nat_lt}
use Rattle.std.specs.List.{list_any, list_all}
use Rattle.std.proofs.lemmas.Bool.{eqb-true, and_from, cases_eq, cases_lt}
use Rattle.std.proofs.lemmas.Bool.Decides.{nat_tests}
use Rattle.std.proofs.lemmas.List.{ext_get_or}
use Rattle.std.proofs.lemmas.List.FromFn.{length-map-range_with_len, get_or-map-range_with_len}
use Rattle.std.proofs.lemmas.Option.{none-some, same_Some}
use Rattle.pq_base.specs.Members.{In}
use Rattle.pq_base.proofs.Members.{all_from, all_member, any_at, any_from}
use Rattle.pq_base.specs.Values.{same_kind}
use Rattle.pq_base.specs.declared.refusal.Refusal.TheVariants as refusal
use Rattle.pq_base.specs.declared.value.ColType.{ColType}
use Rattle.pq_base.specs.declared.value.ColType.TheVariants as type
use Rattle.pq_schema.proofs.TypeKinds.{same_kind_itself}
use Rattle.pq_schema.specs.Definitions.{refused_if}
use Rattle.pq_schema.specs.Resolved.{IsParam, IsOperand, IsPredicate, IsResolved, is_param, param_type}
use Rattle.pq_schema.specs.declared.query.Operand.{Operand}
use Rattle.pq_schema.specs.declared.query.Operand.TheVariants as operand
use Rattle.pq_schema.specs.declared.query.Pred.{Pred}
use Rattle.pq_schema.specs.declared.query.Query.{Query}
use Rattle.pq_schema.specs.declared.table.Table.{Table}
use Rattle.pq_query_read.specs.Columns.{type_of}
use Rattle.pq_query_read.specs.Parameters.{use_in, uses, has_number, has_param_number, same_use, agrees_with_all, are_params, param_count, param_type_of, param_types, params_of}
use Rattle.pq_query_read.specs.Trying.{◌>>=◌, passed_unless}
use Rattle.pq_query_read.specs.declared.params.ParamUse.{ParamUse}
use Rattle.pq_query_read.proofs.Parameters.{in_found, made_in, within, all_used, typed, use_typed}

same_kind_self : (t : ColType) → same_kind t t ≡ true
same_kind_self = same_kind_itself

module _ (tables : List Table) (query : Query) (is : IsResolved tables query) where
  abbrev used : List ParamUse
  used = uses tables query.relations query.preds

  -- each use is of a parameter of the query
  use_known : (u : ParamUse) → In u used → IsParam query.params u.number u.ty
  use_known u i =
      let at = in_found (λ (pred : Pred). use_in tables query.relations pred.left pred.right) u query.preds i in
      by at.0 at.0.right (all_member (IsPredicate tables query) query.preds is.preds at.0 at.1).right at.2
    where
      by : (pred : Pred) (right : Operand) → IsOperand tables query pred right → use_in tables query.relations pred.left right ≡ Some u → IsParam query.params u.number u.ty
      by pred (operand.Const v) known e = absurd (none-some u e)
      by pred (operand.Param n) known e = subst (λ (v : ParamUse). IsParam query.params v.number v.ty) (same_Some (record { number = n; ty = param_type (type_of tables query.relations pred.left) }) u e) known.1
      by pred (operand.Col ref) known e = absurd (none-some u e)

  -- each of its numbers is used
  number_there : (number : ℕ) → 1 ≤ number → number ≤ length query.params → list_any (has_number number) used ≡ true
  number_there number low high =
      let at = any_at (λ (pred : Pred). is_param number pred.right) query.preds (is.params number low high) in
      by at.0 at.0.right refl at.1 at.2
    where
      by : (pred : Pred) (right : Operand) → pred.right ≡ right → In pred query.preds → is_param number right ≡ true → list_any (has_number number) used ≡ true
      by pred (operand.Const v) same i e = absurd cc
      by pred (operand.Param n) same i e =
          any_from (has_number number) used (record { number = n; ty = param_type (type_of tables query.relations pred.left) })
          (made_in (λ (p : Pred). use_in tables query.relations p.left p.right) pred (record { number = n; ty = param_type (type_of tables query.relations pred.left) }) query.preds i (ap (use_in tables query.relations pred.left) same)) e
      by pred (operand.Col ref) same i e = absurd cc

  numbered : (u : ParamUse) → In u used → has_param_number used u ≡ true
  numbered u i =
      let known = use_known u i in
      let low = known.from_one in
      let high = known.there in
      elim (cases_eq u.number 1) [
        | inl one ↦ ap (λ (b : Bool). b || (nat_lt 1 u.number && list_any (has_number (u.number - 1)) used)) (eq-eqb u.number 1 one)
        | inr more ↦
            let other : eqb u.number 1 ≡ false = grind arith in
            let above : nat_lt 1 u.number ≡ true = grind (arith, nat_tests) in
            let below : list_any (has_number (u.number - 1)) used ≡ true = number_there (u.number - 1) (omega (arith, low, more)) (omega (arith, low, high)) in
            rw (other, above, below) refl
      ]

  agreed : (u v : ParamUse) → In u used → In v used → same_use u v ≡ true
  agreed u v i j =
      elim (cases_eq u.number v.number) [
        | inl same ↦
            let one = (use_known u i).is_type in
            let two = (use_known v j).is_type in
            let types : u.ty ≡ v.ty = sym one ∙ ap (λ (n : ℕ). get_or query.params (n - 1) type.Bool) same ∙ two in
            let kinds : same_kind u.ty v.ty ≡ true = ap (λ (t : ColType). same_kind u.ty t) (sym types) ∙ same_kind_self u.ty in
            ap (λ (b : Bool). not (eqb u.number v.number) || b) kinds ∙ or_true (not (eqb u.number v.number))
        | inr other ↦ let apart : eqb u.number v.number ≡ false = grind arith in ap (λ (b : Bool). not b || same_kind u.ty v.ty) apart
      ]
    where
      or_true : (b : Bool) → (b || true) ≡ true
      or_true true = refl
      or_true false = refl

  are_again : are_params used ≡ true
  are_again =
      and_from (list_all (has_param_number used) used) (list_all (agrees_with_all used) used) (all_from (has_param_number used) used numbered)
      (all_from (agrees_with_all used) used (λ u i. all_from (same_use u) used (λ v j. agreed u v i j)))

  count_again : param_count used ≡ length query.params
  count_again = elim (cases_lt (param_count used) (length query.params)) [
    | inl less ↦
        let at = any_at (has_number (length query.params)) used (number_there (length query.params) (omega (arith, less)) (omega arith)) in
        let high = within used are_again at.0 at.1 in
        let same = eqb-true at.0.number (length query.params) at.2 in
        absurd (omega (arith, less, high, same))
    | inr more ↦ elim (cases_eq (param_count used) 0) [
      | inl none ↦ omega (arith, more, none)
      | inr some ↦
          let at = any_at (has_number (param_count used)) used (all_used used are_again 0 (param_count used) (omega arith) (omega (arith, some))) in
          let known = use_known at.0 at.1 in
          let high = known.there in
          let same = eqb-true at.0.number (param_count used) at.2 in
          omega (arith, more, high, same)
    ]
  ]

  type_again : (i : ℕ) → i < param_count used → get_or (param_types used) i type.Bool ≡ get_or query.params i type.Bool
  type_again i lt =
      let at = any_at (has_number (1 + i)) used (number_there (1 + i) (omega arith) (omega (arith, lt, count_again))) in
      let same : at.0.number ≡ 1 + i = eqb-true at.0.number (1 + i) at.2 in
      let place : at.0.number - 1 ≡ i = omega (arith, same) in
      get_or-map-range_with_len (param_type_of used) 1 (param_count used) i (1 + i) type.Bool lt refl
      ∙ ap (param_type_of used) (sym same)
      ∙ typed used are_again at.0 (use_typed tables query.relations query.preds) at.1
      ∙ sym (use_known at.0 at.1).is_type
      ∙ ap (λ (n : ℕ). get_or query.params n type.Bool) place

  types_again : param_types used ≡ query.params
  types_again =
      let long : length (param_types used) ≡ param_count used = length-map-range_with_len (param_type_of used) 1 (param_count used) in
      ext_get_or type.Bool (param_types used) query.params (long ∙ count_again) (λ i lt. type_again i (omega (arith, lt, long)))

  pub params_again : params_of (uses tables query.relations query.preds) ≡ Ok query.params
  params_again =
      ap (λ (b : Bool). passed_unless (refused_if (not b) refusal.Params) >>= λ u. Ok (param_types used)) are_again ∙ ap (λ (ts : List ColType). Ok ts) types_again
