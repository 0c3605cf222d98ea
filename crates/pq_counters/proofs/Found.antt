-- The row that is read again.
use Rattle.std.proofs.Common.{◌≡◌, ℕ, cond, ◌∷◌, ◌++◌, List, Option, Some, None, Ok, Err, refl, sym, ap, ◌∙◌}
use Rattle.std.specs.Prelude.{IfSome, is_none}
use Rattle.std.proofs.lemmas.Option.{none-some}
use Rattle.pq_base.specs.Answers.{or_else}
use Rattle.pq_base.specs.declared.refusal.Refusal.{Refusal}
use Rattle.pq_schema.specs.Definitions.{or_ok}
use Rattle.std.specs.FinMap.{get}
use Rattle.pq_base.specs.declared.value.Value.{Value}
use Rattle.pq_key_code.specs.KeyCode.{row_key}
use Rattle.pq_schema.specs.declared.table.Table.{Table}
use Rattle.pq_schema.specs.Schema.{Schema}
use Rattle.pq_schema.specs.Tables.{table_at}
use Rattle.pq_schema.specs.Valid.{IsValid}
use Rattle.pq_content.specs.Pairs.{Pair}
use Rattle.pq_content.specs.Tables.{Rows, AllOfKinds, IsTableNumber, key_types, shape_of, row_at, rows_without}
use Rattle.pq_store.specs.Content.{Content}
use Rattle.pq_calls.specs.Evidence.{IsRead}
use Rattle.pq_index_keep.specs.Effects.{effect, updated_rows, deleted_rows, update_refusal, held_refusal}
use Rattle.pq_index_keep.specs.Tested.{scope_of, with_sets}
use Rattle.pq_counters.specs.Steps.{row_in_place}
use Rattle.pq_index_keep.specs.declared.write.Cond.{Cond}
use Rattle.pq_index_keep.specs.declared.write.SetCol.{SetCol}
use Rattle.pq_index_keep.specs.declared.write.Write.TheVariants as write
use Rattle.pq_index_keep.proofs.Deleting.{told_row}
use Rattle.pq_index_keep.proofs.Narrow.{valid_writable}
use Rattle.pq_tallies.specs.Counters.{counter_pairs, HoldsCounted}
use Rattle.pq_tallies.specs.Defined.{counters_in}
use Rattle.pq_tallies.proofs.Told.{holds_rows}

-- over a content that stands it is the row with this key
pub found_row : (told : Option Content) (schema : Schema) (rows : Rows) (others : List Pair) (t : ℕ) (key : List Value) → IsValid schema → IsTableNumber schema.tables t → AllOfKinds (key_types (table_at schema.tables t)) key → HoldsCounted told schema rows others
    → (found : Option (List Value)) → IfSome told (λ content. IsRead (shape_of (table_at schema.tables t)) (get content (row_key t key)) found) → found ≡ row_at schema.tables rows t key
found_row told schema rows others t key valid number kinds s found read = told_row schema.tables rows (counter_pairs (counters_in schema) rows ++ others) told t key (holds_rows told schema rows others s) (valid_writable valid) number kinds found read

-- a write of a row that isn't there has no effect
pub no_delete : (tables : List Table) (rows made : Rows) (t : ℕ) (key : List Value) (conds : List Cond) → None ≡ row_at tables rows t key → effect tables rows (write.Delete t key conds) ≡ Ok made → ⊥
unfolding effect
no_delete tables rows made t key conds none is = never (ap (deleted_rows tables rows t key conds) none ∙ is)
  where
    never : deleted_rows tables rows t key conds None ≡ Ok made → ⊥
    never h = cc

pub no_update : (tables : List Table) (rows made : Rows) (t : ℕ) (key : List Value) (sets : List SetCol) (conds : List Cond) → None ≡ row_at tables rows t key → effect tables rows (write.Update t key sets conds) ≡ Ok made → ⊥
unfolding effect
no_update tables rows made t key sets conds none is = never (ap (updated_rows tables rows t key sets conds) none ∙ is)
  where
    never : updated_rows tables rows t key sets conds None ≡ Ok made → ⊥
    never h = cc

-- and so has an UPDATE of a row that is refused by it
pub no_held_update : (tables : List Table) (rows made : Rows) (t : ℕ) (key : List Value) (sets : List SetCol) (conds : List Cond) (old : List Value) → Some old ≡ row_at tables rows t key → None ≡ row_in_place (table_at tables t) sets conds old → effect tables rows (write.Update t key sets conds) ≡ Ok made → ⊥
unfolding effect
no_held_update tables rows made t key sets conds old found none is = by (held_refusal (table_at tables t) sets conds old) refl
  where
    by : (o : Option Refusal) → held_refusal (table_at tables t) sets conds old ≡ o → ⊥
    by None held = absurd (none-some (with_sets sets old) (none ∙ ap (λ (o : Option Refusal). cond (is_none o) (Some (with_sets sets old)) None) held))
    by (Some why) held = never (sym (ap (λ (o : Option Refusal). or_ok (or_else o (update_refusal tables rows (scope_of sets) t old (with_sets sets old))) ((t, with_sets sets old) ∷ rows_without tables t key rows)) held) ∙ ap (updated_rows tables rows t key sets conds) found ∙ is)
      where
        never : Err why ≡ Ok made → ⊥
        never h = cc
