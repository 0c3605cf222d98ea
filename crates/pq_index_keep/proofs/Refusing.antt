-- The refusals that a write can have.
use Rattle.std.proofs.Common.{◌≡◌, ℕ, true, false, cond, not, Option, Some, None, List, [], ◌∷◌, inl, inr, refl, sym, ◌∙◌, subst}
use Rattle.std.specs.Prelude.{IfSome, find, is_none, option_map}
use Rattle.std.specs.List.{position}
use Rattle.std.proofs.lemmas.Option.{none-some, same_Some}
use Rattle.pq_base.specs.declared.refusal.Refusal.{Refusal}
use Rattle.pq_base.specs.declared.value.Value.{Value}
use Rattle.pq_schema.specs.Tables.{table_at}
use Rattle.pq_schema.specs.declared.table.Table.{Table}
use Rattle.pq_base.specs.Answers.{or_else}
use Rattle.pq_index_keep.specs.Effects.{condition_refusal, held_refusal, no_sum, sum_refusal, unmet}
use Rattle.pq_index_keep.specs.Refusals.{CanRefuse, IsDeleteRefusal, IsInsertRefusal, IsNoSum, IsTestRefusal, IsUnmet, IsUpdateRefusal, RefusesAs}
use Rattle.pq_index_keep.specs.Tested.{holds_of, set_value}
use Rattle.pq_index_keep.specs.declared.plan.Planned.TheVariants.{Refused}
use Rattle.pq_index_keep.specs.declared.write.Cond.{Cond}
use Rattle.pq_index_keep.specs.declared.write.SetCol.{SetCol}
use Rattle.pq_index_keep.specs.declared.write.Write.{Write}
use Rattle.pq_index_keep.specs.declared.write.Write.TheVariants.{Delete, Update}
use Rattle.pq_index_keep.proofs.Inserting.{position_inside}

pub tests_insert : (table : Table) (found : Option Refusal) → IfSome found (IsTestRefusal table) → IfSome found (IsInsertRefusal table)
tests_insert table None is = tt
tests_insert table (Some why) is = inr is

-- a refusal that was found is one that the write can have
pub found_can : (tables : List Table) (write : Write) (found : Option Refusal) (why : Refusal) → found ≡ Some why → IfSome found (CanRefuse tables write) → RefusesAs tables write (Refused why)
found_can tables write found why is can = subst (λ (o : Option Refusal). IfSome o (CanRefuse tables write)) is can

-- ---- refusals of the row that is there

pub unmet_can : (table : Table) (conds : List Cond) (row : List Value) (why : Refusal) → condition_refusal table conds row ≡ Some why → IsUnmet table conds why
unmet_can table conds row why h = by (position (λ (cond : Cond). not (holds_of row cond)) conds) refl h
  where
    by : (o : Option ℕ) → position (λ (cond : Cond). not (holds_of row cond)) conds ≡ o → option_map (unmet table) o ≡ Some why → IsUnmet table conds why
    by None is none = absurd (none-some why none)
    by (Some place) is some = (place, position_inside (λ (cond : Cond). not (holds_of row cond)) conds place is, sym (same_Some (unmet table place) why some))

no_sum_can : (table : Table) (sets : List SetCol) (row : List Value) (why : Refusal) → sum_refusal table sets row ≡ Some why → IsNoSum table sets why
no_sum_can table [] row why h = absurd (none-some why h)
no_sum_can table (set ∷ sets) row why h =
    elim (is_none (set_value row set)) as (λ b. option_map (no_sum table) (cond b (Some set) (find (λ (s : SetCol). is_none (set_value row s)) sets)) ≡ Some why → IsNoSum table (set ∷ sets) why) [
      | true ↦ λ here. (set, inl refl, sym (same_Some (no_sum table set) why here))
      | false ↦ λ later. more (no_sum_can table sets row why later)
    ] h
  where
    more : IsNoSum table sets why → IsNoSum table (set ∷ sets) why
    more (one, among, told) = (one, inr among, told)

pub held_can : (tables : List Table) (t : ℕ) (key : List Value) (sets : List SetCol) (conds : List Cond) (old : List Value) (why : Refusal) → held_refusal (table_at tables t) sets conds old ≡ Some why → CanRefuse tables (Update t key sets conds) why
held_can tables t key sets conds old why h = by (condition_refusal (table_at tables t) conds old) refl h
  where
    by : (o : Option Refusal) → condition_refusal (table_at tables t) conds old ≡ o → or_else o (sum_refusal (table_at tables t) sets old) ≡ Some why → CanRefuse tables (Update t key sets conds) why
    by (Some first) is told = inr (inl (unmet_can (table_at tables t) conds old why (is ∙ told)))
    by None is told = inr (inr (inl (no_sum_can (table_at tables t) sets old why told)))

-- ---- refusals of the update or the removal of a row that is there

pub updates_can : (tables : List Table) (t : ℕ) (key : List Value) (sets : List SetCol) (conds : List Cond) (found : Option Refusal) → IfSome found (IsUpdateRefusal (table_at tables t)) → IfSome found (CanRefuse tables (Update t key sets conds))
updates_can tables t key sets conds None is = tt
updates_can tables t key sets conds (Some why) is = inr (inr (inr is))

pub deletes_can : (tables : List Table) (t : ℕ) (key : List Value) (conds : List Cond) (found : Option Refusal) → IfSome found (IsDeleteRefusal tables) → IfSome found (CanRefuse tables (Delete t key conds))
deletes_can tables t key conds None is = tt
deletes_can tables t key conds (Some why) is = inr (inr is)
