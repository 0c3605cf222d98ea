-- The predicates, the order and the stop of a query that is resolved.
use Rattle.std.proofs.Common.{◌≡◌, ℕ, ℤ, pos, negsuc, ◌+◌, ◌<◌, ◌≤◌, Bool, true, false, not, ◌&&◌, ◌||◌, inl, inr, List, [], ◌∷◌, ◌++◌, length, map, Some, None, Result, Ok, refl, ◌∙◌, sym, subst, arith}
use Rattle.std.specs.Prelude.{nat_le, nat_lt, ◌==◌, if◌then◌else◌, IfSome}
use Rattle.std.specs.List.{AllByRecursion, IsDistinct, list_any}
use Rattle.std.proofs.lemmas.Bool.{and_parts, not-false, not-true, ltb-true, ltb-false, leb-true, eqb-false, cases_eq, false≢true}
use Rattle.std.proofs.lemmas.Option.{none-some, same_Some}
use Rattle.pq_base.specs.Values.{fits_type}
use Rattle.pq_base.specs.Comparing.{is_null_test}
use Rattle.pq_base.specs.declared.count_word.TheConstants as count_word
use Rattle.pq_base.specs.declared.refusal.Refusal.{Refusal}
use Rattle.pq_base.specs.declared.refusal.Refusal.TheVariants as refusal
use Rattle.pq_schema.specs.Candidates.{stop_size as size_of}
use Rattle.pq_schema.specs.ColumnNames.{repeated_name}
use Rattle.pq_schema.specs.Definitions.{refused_if}
use Rattle.pq_schema.specs.Resolved.{same_ref, param_type, IsConstant}
use Rattle.pq_base.specs.Values.{same_kind}
use Rattle.pq_base.proofs.TypeFits.{fits_exact}
use Rattle.pq_schema.proofs.TypeKinds.{kind_flip}
use Rattle.pq_schema.specs.declared.query.ColRef.{ColRef}
use Rattle.pq_base.specs.declared.op.Op.{Op}
use Rattle.pq_base.specs.declared.op.Op.TheVariants as op
use Rattle.pq_schema.specs.declared.query.Operand.{Operand}
use Rattle.pq_schema.specs.declared.query.Operand.TheVariants as operand
use Rattle.pq_schema.specs.declared.query.OrderItem.{OrderItem}
use Rattle.pq_schema.specs.declared.query.Pred.{Pred}
use Rattle.pq_schema.specs.declared.query.Relation.{Relation}
use Rattle.pq_schema.specs.declared.query.Stop.{Stop}
use Rattle.pq_schema.specs.declared.query.Stop.TheVariants as stop
use Rattle.pq_schema.specs.declared.table.Table.{Table}
use Rattle.pq_query_read.specs.declared.select.ItemDef.{ItemDef}
use Rattle.pq_query_read.specs.declared.select.OperandDef.{OperandDef}
use Rattle.pq_query_read.specs.declared.select.OperandDef.TheVariants as operand_def
use Rattle.pq_query_read.specs.declared.select.PredDef.{PredDef}
use Rattle.pq_query_read.specs.declared.select.StopDef.{StopDef}
use Rattle.pq_query_read.specs.declared.select.StopDef.TheVariants as stop_def
use Rattle.pq_query_read.proofs.Spelled.{IsOperandDef, IsPredDef}
use Rattle.pq_query_read.specs.Trying.{◌>>=◌, or_refused, passed_unless, each_after}
use Rattle.pq_query_read.proofs.Trying.{SameOk, both, there, not_so, same_answer, each_keeps}
use Rattle.pq_query_read.specs.Columns.{IsIn, ref_of, type_of}
use Rattle.pq_query_read.specs.Resolving.{operand_of, is_comparable, pred_with, pred_of, has_ref, ref_name, item_of, limit_size, stop_of}
use Rattle.pq_query_read.specs.Parameters.{param_number}
use Rattle.pq_query_read.proofs.Refs.{push_each, distinct_push, nothing_distinct, ref_found}

other_holds : (a b : Bool) → a ≡ false → (a || b) ≡ true → b ≡ true
other_holds true b is h = absurd (false≢true (sym is))
other_holds false b is h = h

module _ (tables : List Table) (relations : List Relation) where
  -- ---- WHERE

  pub record IsJoin (o : Op) (left right : ColRef) : Type 0 where
    pub equal : o ≡ op.Eq
    pub column : IsIn tables relations right
    pub earlier : right.rel < left.rel
    pub kind : same_kind (type_of tables relations left) (type_of tables relations right) ≡ true

  abbrev pub IsSide : Op → ColRef → Operand → Type 0
  IsSide o left (operand.Const v) = IsConstant o (param_type (type_of tables relations left)) v
  IsSide o left (operand.Param number) = is_null_test o ≡ false
  IsSide o left (operand.Col right) = IsJoin o left right

  pub record IsCompared (pred : Pred) : Type 0 where
    pub left : IsIn tables relations pred.left
    pub right : IsSide pred.op pred.left pred.right

  joined : (left right : ColRef) (o : Op) → o ≡ op.Eq → IsIn tables relations left → IsIn tables relations right → (not (right.rel == left.rel) && same_kind (type_of tables relations left) (type_of tables relations right)) ≡ true → IsCompared (pred_with left o (operand.Col right))
  joined left right o equal left_in right_in is =
      elim (nat_lt left.rel right.rel) as (λ b. nat_lt left.rel right.rel ≡ b → IsCompared (if b then record { left = right; op = o; right = operand.Col left } else record { left = left; op = o; right = operand.Col right })) [
        | true ↦ λ less. record {
          left = right_in;
          right = record { equal = equal; column = left_in; earlier = ltb-true left.rel right.rel less; kind = kind_flip (type_of tables relations right) (type_of tables relations left) ∙ parts.1 };
        }
        | false ↦ λ not_less. record {
          left = left_in;
          right = record { equal = equal; column = right_in; earlier = below (ltb-false left.rel right.rel not_less); kind = parts.1 };
        }
      ] refl
    where
      parts : (not (right.rel == left.rel) ≡ true) × (same_kind (type_of tables relations left) (type_of tables relations right) ≡ true)
      parts = and_parts (not (right.rel == left.rel)) (same_kind (type_of tables relations left) (type_of tables relations right)) is

      below : right.rel ≤ left.rel → right.rel < left.rel
      below le = let other = eqb-false right.rel left.rel (not-true (right.rel == left.rel) parts.0) in elim (cases_eq right.rel left.rel) [ inl same ↦ absurd (other same) | inr apart ↦ omega (arith, le, apart) ]

  compared : (left : ColRef) (o : Op) (def : OperandDef) (right : Operand) → IsIn tables relations left → IsOperandDef o def → operand_of tables relations def ≡ Ok right → is_comparable tables relations o left right ≡ true → IsCompared (pred_with left o right)
  compared left o (operand_def.Const v) right at known is fits =
      let same = same_answer (operand.Const v) right is in
      subst (λ r. IsCompared (pred_with left o r)) same (record {
        left = at;
        right = (λ test. fits_exact (param_type (type_of tables relations left)) v known.0 (other_holds (is_null_test o) (fits_type (param_type (type_of tables relations left)) v) test (subst (λ r. is_comparable tables relations o left r ≡ true) (sym same) fits)), known.1);
      })
  compared left o (operand_def.Param number) right at known is fits =
      subst (λ r. IsCompared (pred_with left o r)) (same_answer (operand.Param (param_number number)) right is) (record { left = at; right = known })
  compared left o (operand_def.Ref def) right at equal is fits =
      let parts = both (ref_of tables relations def) (λ ref. Ok (operand.Col ref)) right is in
      let same = same_answer (operand.Col parts.0) right parts.2 in
      subst (λ r. IsCompared (pred_with left o r)) same (joined left parts.0 o equal at (ref_found tables relations def parts.0 parts.1) (subst (λ r. is_comparable tables relations o left r ≡ true) (sym same) fits))

  pred_kept : (before : List Pred) (def : PredDef) (pred : Pred) → IsPredDef def → AllByRecursion IsCompared before → pred_of tables relations before def ≡ Ok pred → AllByRecursion IsCompared (before ++ pred ∷ [])
  pred_kept before def pred known all is =
      push_each IsCompared before pred all (subst IsCompared (same_answer (pred_with first.0 def.op second.0) pred third.2)
      (compared first.0 def.op def.right second.0 (ref_found tables relations def.left first.0 first.1) known second.1 (not-false (is_comparable tables relations def.op first.0 second.0) (not_so (not (is_comparable tables relations def.op first.0 second.0)) (refusal.OperandKind (length before + 1)) third.0 third.1))))
    where
      tested : ColRef → Operand → Result Pred Refusal
      tested left right = passed_unless (refused_if (not (is_comparable tables relations def.op left right)) (refusal.OperandKind (length before + 1))) >>= λ comparable. Ok (pred_with left def.op right)

      first : (left : ColRef) × (ref_of tables relations def.left ≡ Ok left) × ((operand_of tables relations def.right >>= tested left) ≡ Ok pred)
      first = both (ref_of tables relations def.left) (λ left. operand_of tables relations def.right >>= tested left) pred is

      second : (right : Operand) × (operand_of tables relations def.right ≡ Ok right) × (tested first.0 right ≡ Ok pred)
      second = both (operand_of tables relations def.right) (tested first.0) pred first.2

      third : (u : Unit {0}) × (passed_unless (refused_if (not (is_comparable tables relations def.op first.0 second.0)) (refusal.OperandKind (length before + 1))) ≡ Ok u) × SameOk (pred_with first.0 def.op second.0) pred
      third = both (passed_unless (refused_if (not (is_comparable tables relations def.op first.0 second.0)) (refusal.OperandKind (length before + 1)))) (λ comparable. Ok (pred_with first.0 def.op second.0)) pred second.2

  pub preds_compared : (defs : List PredDef) (preds : List Pred) → AllByRecursion IsPredDef defs → each_after (pred_of tables relations) [] defs ≡ Ok preds → AllByRecursion IsCompared preds
  preds_compared defs preds known is = each_keeps (pred_of tables relations) IsPredDef (AllByRecursion IsCompared) pred_kept defs [] preds known tt is

  -- ---- ORDER BY

  record AreItems (items : List OrderItem) : Type 0 where
    all : AllByRecursion (λ item. IsIn tables relations item.col) items
    apart : IsDistinct same_ref (map (λ item. item.col) items)

  item_kept : (before : List OrderItem) (def : ItemDef) (item : OrderItem) → Unit {0} → AreItems before → item_of tables relations before def ≡ Ok item → AreItems (before ++ item ∷ [])
  item_kept before def item u known is =
      subst (λ i. AreItems (before ++ i ∷ [])) (same_answer made item second.2) (record {
        all = push_each (λ item. IsIn tables relations item.col) before made known.all (ref_found tables relations def.col first.0 first.1);
        apart = distinct_push same_ref (λ item. item.col) before made (not_so (list_any (has_ref first.0) before) again second.0 second.1) known.apart;
      })
    where
      again : Refusal
      again = repeated_name (ref_name def.col.first def.col.second)

      first : (ref : ColRef) × (ref_of tables relations def.col ≡ Ok ref) × ((passed_unless (refused_if (list_any (has_ref ref) before) again) >>= λ new. Ok (record { col = ref; dir = def.dir })) ≡ Ok item)
      first = both (ref_of tables relations def.col) (λ ref. passed_unless (refused_if (list_any (has_ref ref) before) again) >>= λ new. Ok (record { col = ref; dir = def.dir })) item is

      made : OrderItem
      made = record { col = first.0; dir = def.dir }

      second : (u : Unit {0}) × (passed_unless (refused_if (list_any (has_ref first.0) before) again) ≡ Ok u) × SameOk made item
      second = both (passed_unless (refused_if (list_any (has_ref first.0) before) again)) (λ new. Ok made) item first.2

  any_item : (defs : List ItemDef) → AllByRecursion (λ def. Unit {0}) defs
  any_item [] = tt
  any_item (def ∷ defs) = (tt, any_item defs)

  pub items_made : (defs : List ItemDef) (items : List OrderItem) → each_after (item_of tables relations) [] defs ≡ Ok items → AllByRecursion (λ item. IsIn tables relations item.col) items × IsDistinct same_ref (map (λ item. item.col) items)
  items_made defs items is =
      let made = each_keeps (item_of tables relations) (λ def. Unit {0}) AreItems item_kept defs [] items (any_item defs) (record { all = tt; apart = nothing_distinct same_ref }) is in
      (made.all, made.apart)

-- ---- LIMIT and PAGINATE

no_size : Refusal
no_size = refusal.Count count_word.STOP

sized : (z : ℤ) (k : ℕ) → limit_size z ≡ Some k → (1 ≤ k) × (k ≤ 1000)
sized (pos n) k is =
    elim (nat_le 1 n && nat_le n 1000) as (λ b. (nat_le 1 n && nat_le n 1000) ≡ b → (if b then Some n else None) ≡ Some k → (1 ≤ k) × (k ≤ 1000)) [
      | true ↦ λ within is. let parts = and_parts (nat_le 1 n) (nat_le n 1000) within in subst (λ k. (1 ≤ k) × (k ≤ 1000)) (same_Some n k is) (leb-true 1 n parts.0, leb-true n 1000 parts.1)
      | false ↦ λ _ is. absurd (none-some k is)
    ] refl is
sized (negsuc n) k is = absurd (none-some k is)

pub stop_sized : (def : StopDef) (s : Stop) → stop_of def ≡ Ok s → IfSome (size_of s) (λ k. (1 ≤ k) × (k ≤ 1000))
unfolding no_size
stop_sized stop_def.All s is = subst (λ s. IfSome (size_of s) (λ k. (1 ≤ k) × (k ≤ 1000))) (same_answer stop.All s is) tt
stop_sized (stop_def.Limit z) s is =
    let parts = both (or_refused no_size (limit_size z)) (λ k. Ok (stop.Limit k)) s is in
    subst (λ s. IfSome (size_of s) (λ k. (1 ≤ k) × (k ≤ 1000))) (same_answer (stop.Limit parts.0) s parts.2) (sized z parts.0 (there no_size (limit_size z) parts.0 parts.1))
stop_sized (stop_def.Paginate z) s is =
    let parts = both (or_refused no_size (limit_size z)) (λ k. Ok (stop.Paginate k)) s is in
    subst (λ s. IfSome (size_of s) (λ k. (1 ≤ k) × (k ≤ 1000))) (same_answer (stop.Paginate parts.0) s parts.2) (sized z parts.0 (there no_size (limit_size z) parts.0 parts.1))
