-- A write that the row that is there doesn't refuse, by a condition or a sum.
use Rattle.std.proofs.Common.{◌≡◌, List, Option, Some, None, refl, sym, subst}
use Rattle.std.specs.Prelude.{IfSome}
use Rattle.pq_base.specs.declared.refusal.Refusal.{Refusal}
use Rattle.pq_base.specs.declared.value.Value.{Value}
use Rattle.pq_schema.specs.declared.table.Table.{Table}
use Rattle.pq_index_keep.specs.declared.write.Write.{Write}
use Rattle.pq_index_keep.specs.Effects.{sum_refusal, condition_refusal}
use Rattle.pq_index_keep.proofs.Inserting.{or_none}
use Rattle.pq_clients.specs.Flights.{Flight, table_of, sets_of, conds_of, row_refusal, old_row, IsGranted}
use Rattle.pq_clients.specs.Steps.{Then, or_refused, refused}

-- what holds of each refusal, and of what comes where there is none
pub refused_or : (P : Then → Type 0) (o : Option Refusal) (t : Then) → ((why : Refusal) → o ≡ Some why → P (refused why)) → (o ≡ None → P t) → P (or_refused o t)
refused_or P None t wrong right = right refl
refused_or P (Some why) t wrong right = wrong why refl

module _ (tables : List Table) where
  pub granted_row : (f : Flight) (row : List Value) → old_row tables f ≡ Some row → row_refusal tables f.write row ≡ None → IsGranted tables f
  granted_row f row is none = subst (λ (o : Option (List Value)). IfSome o (λ row. row_refusal tables f.write row ≡ None)) (sym is) none

  pub granted_none : (f : Flight) → old_row tables f ≡ None → IsGranted tables f
  granted_none f is = subst (λ (o : Option (List Value)). IfSome o (λ row. row_refusal tables f.write row ≡ None)) (sym is) tt

  -- each of its sums is there
  pub granted_sums : (w : Write) (row : List Value) → row_refusal tables w row ≡ None → sum_refusal (table_of tables w) (sets_of w) row ≡ None
  granted_sums w row none = (or_none (condition_refusal (table_of tables w) (conds_of w) row) (sum_refusal (table_of tables w) (sets_of w) row) none).1
