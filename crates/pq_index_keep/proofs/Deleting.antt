-- What a DELETE makes of settled pairs, and what its tests need.
use Rattle.std.proofs.Common.{◌≡◌, ℕ, zero, suc, ◌+◌, ◌-◌, ◌<◌, true, false, ◌&&◌, List, [], ◌∷◌, length, map, drop, get_or, Option, Some, None, Result, Ok, refl, sym, ap, subst, ◌∙◌, arith, add-one}
use Rattle.std.specs.Prelude.{All, IfSome, MatchResult, option_map, nat_lt}
use Rattle.std.specs.List.{AllByRecursion, position}
use Rattle.std.specs.FinMap.{get}
use Rattle.std.proofs.lemmas.Bool.{eq-eqb}
use Rattle.pq_base.specs.Answers.{or_else}
use Rattle.pq_base.specs.declared.refusal.Refusal.{Refusal}
use Rattle.pq_base.specs.declared.value.ColType.{ColType}
use Rattle.pq_base.specs.declared.value.Value.{Value}
use Rattle.pq_base.specs.Values.{IsType}
use Rattle.pq_key_code.specs.KeyCode.{row_key}
use Rattle.pq_row_code.specs.declared.changes.Change.{Change as Coded}
use Rattle.pq_row_code.specs.StoredRow.{IsNoRowCode}
use Rattle.pq_row_code.proofs.Stored.{code_as_injective}
use Rattle.pq_schema.proofs.TypeKinds.{kinds_as}
use Rattle.pq_schema.specs.Definitions.{or_ok}
use Rattle.pq_schema.specs.Sound.{AreColumns, IsSized}
use Rattle.pq_schema.specs.Tables.{no_table, table_at}
use Rattle.pq_schema.specs.declared.table.Column.{Column}
use Rattle.pq_schema.specs.declared.table.Foreign.{Foreign}
use Rattle.pq_schema.specs.declared.table.Table.{Table}
use Rattle.pq_content.specs.Pairs.{Pair, Change, entries_from, removals, changed_content, content_pairs}
use Rattle.pq_content.specs.Standing.{change_of}
use Rattle.pq_content.specs.Tables.{Rows, AllOfKinds, IsTableNumber, IsUnreferenced, types_of, shape_of, key_types, row_at, rows_without, group_of, stored_code}
use Rattle.pq_content.proofs.Deletes.{delete_row}
use Rattle.pq_content.proofs.Keeping.{row_found}
use Rattle.pq_content.proofs.KeepingWrites.{keeps_delete}
use Rattle.pq_store.specs.Content.{Content}
use Rattle.pq_store.specs.declared.damage.Damage.{Damage}
use Rattle.std.proofs.lemmas.Option.{same_Some}
use Rattle.pq_index_keep.specs.Effects.{effect, changes_of, condition_refusal, deleted_rows, removal_of, child_refusal, names_key, referenced_refusal, no_row}
use Rattle.pq_calls.specs.Evidence.{IsRead, IsNoRow}
use Rattle.pq_calls.specs.World.{where_told}
use Rattle.pq_index_keep.specs.Promises.{HoldsRows, MakesRows, Plans}
use Rattle.pq_index_keep.specs.Sound.{AreWritable, IsWritable, MayName}
use Rattle.pq_calls.specs.declared.rows.StoredRow.{StoredRow}
use Rattle.pq_index_keep.specs.declared.plan.Planned.TheVariants as planned
use Rattle.pq_index_keep.specs.declared.write.Cond.{Cond}
use Rattle.pq_index_keep.specs.declared.write.Write.TheVariants as write
use Rattle.pq_index_keep.proofs.Changing.{own_removals}
use Rattle.pq_index_keep.proofs.Inserting.{mapped_none, none_passes, each_weaker, each_is, each_by, writable_at}
use Rattle.pq_schema.proofs.TypeKinds.{type_sized}
use Rattle.pq_index_keep.proofs.Tests.{settled_get}

-- ---- the row that is read

is_type : (ty : ColType) → IsSized ty → IsType ty
is_type = type_sized

are_types : (columns : List Column) → AllByRecursion (λ (column : Column). IsSized column.ty) columns → AllByRecursion IsType (map (λ (column : Column). column.ty) columns)
are_types [] h = tt
are_types (c ∷ cs) h = (is_type c.ty h.0, are_types cs h.1)

module _ (tables : List Table) (rows : Rows) (others : List Pair) (told : Option Content) (t : ℕ) (key : List Value) (s : HoldsRows told tables rows others) (sound : AreWritable tables) (number : IsTableNumber tables t) (kinds : AllOfKinds (key_types (table_at tables t)) key) where
  abbrev table : Table
  table = table_at tables t

  types : All IsType (types_of table)
  types = each_is IsType (types_of table) (are_types table.columns (each_by (λ (column : Column). IsSized column.ty) table.columns (writable_at tables t sound number).made.sized))

  read_is : (o : Option (List Value)) → row_at tables rows t key ≡ o → (row : Option (List Value)) → IsRead (shape_of table) (option_map (stored_code table) o) row → row ≡ o
  read_is None is None read = refl
  read_is None is (Some row) read = absurd read
  read_is (Some r) is None read = absurd read
  read_is (Some r) is (Some row) read = ap Some (code_as_injective (shape_of table) row r types read.0 (row_found tables rows t key r s.keeps is).fits read.1)

  pub told_row : (row : Option (List Value)) → IfSome told (λ c. IsRead (shape_of table) (get c (row_key t key)) row) → row ≡ row_at tables rows t key
  told_row row read =
      read_is (row_at tables rows t key) refl row
      (subst (λ (o : Option (List ℕ)). IsRead (shape_of table) o row) (settled_get tables rows others told t key s kinds)
      (subst (λ (o : Option Content). IfSome o (λ c. IsRead (shape_of table) (get c (row_key t key)) row)) s.is read))

-- over settled pairs no row's value is the code of none
module _ (tables : List Table) (rows : Rows) (others : List Pair) (told : Option Content) (s : HoldsRows told tables rows others) where
  unspoiled : (t : ℕ) (key : List Value) (o : Option (List Value)) → row_at tables rows t key ≡ o → (code : List ℕ) → IsNoRowCode (shape_of (table_at tables t)) code → option_map (stored_code (table_at tables t)) o ≡ Some code → ⊥
  unspoiled t key None is code none e = absurd (cc)
  unspoiled t key (Some r) is code none e = none r (row_found tables rows t key r s.keeps is).fits (same_Some _ _ e)

  no_row_shown : (damage : Damage) → IsNoRow tables (content_pairs tables rows others) damage → ⊥
  no_row_shown damage h =
      unspoiled h.table h.key (row_at tables rows h.table h.key) refl h.shown.code h.shown.no_row
      (sym (settled_get tables rows others told h.table h.key s h.kinds) ∙ h.shown.there)

  pub undamaged : (damage : Damage) → where_told (IsNoRow tables) told damage → ⊥
  undamaged damage h = no_row_shown damage (subst (λ (o : Option Content). where_told (IsNoRow tables) o damage) s.is h)

-- where nothing is read, no row is there
pub none_read : (found : Option StoredRow) (row : Option (List Value)) → found ≡ None → option_map (λ stored. stored.row) found ≡ row → None ≡ row
none_read found row none is = ap (option_map (λ (stored : StoredRow). stored.row)) (sym none) ∙ is

-- ---- foreign keys to the row

pub may_name : (tables : List Table) (t : ℕ) (key : List Value) → AreWritable tables → AllOfKinds (key_types (table_at tables t)) key → All (λ (table : Table). All (MayName table t key) table.foreign) tables
may_name tables t key sound kinds k table lt j f less refers =
    let r = (sound k table lt).made.foreign j f less in
    record {
      different = r.different;
      kinds = kinds_as _ _ key r.shape (subst (λ (n : ℕ). AllOfKinds (key_types (table_at tables n)) key) (sym refers) kinds);
    }

pub foreign_columns : (tables : List Table) (table : Table) → IsWritable tables table → All (λ (f : Foreign). AreColumns f.cols) table.foreign
foreign_columns tables table w k f lt j col less =
    let inside = (w.made.foreign k f lt).inside j col less in
    let few = w.made.few_columns in
    omega arith

pub drop_here : (tables : List Table) (i : ℕ) (table : Table) → i < length tables → table ≡ get_or tables i table → drop i tables ≡ table ∷ drop (i + 1) tables
drop_here [] i table less at = absurd (omega arith)
drop_here (x ∷ xs) zero table less at = ap (λ (y : Table). y ∷ xs) (sym at)
drop_here (x ∷ xs) (suc i) table less at = drop_here xs i table (omega arith) at ∙ ap (λ (k : ℕ). table ∷ drop k xs) (add-one i) ∙ ap (λ (k : ℕ). table ∷ drop k (x ∷ xs)) (sym (add-one (suc i)))

module _ (rows : Rows) (t : ℕ) (key : List Value) where
  no_child : (tables : List Table) (u : ℕ) → child_refusal rows t key u tables ≡ None → (k : ℕ) → k < length tables → AllByRecursion (λ (f : Foreign). names_key rows t key (u + k) f ≡ false) (get_or tables k no_table).foreign
  no_child [] u none k less = absurd (omega arith)
  no_child (x ∷ xs) u none zero less =
      let number : u ≡ u + 0 = omega arith in
      let here : position (names_key rows t key u) x.foreign ≡ None = mapped_none (referenced_refusal x) _ (or_first _ _ none) in
      subst (λ (n : ℕ). AllByRecursion (λ (f : Foreign). names_key rows t key n f ≡ false) x.foreign) number (none_passes (names_key rows t key u) x.foreign here)
    where
      or_first : (a b : Option Refusal) → or_else a b ≡ None → a ≡ None
      or_first None b h = refl
      or_first (Some r) b h = absurd (cc)
  no_child (x ∷ xs) u none (suc k) less =
      let number : u + 1 + k ≡ u + suc k = omega arith in
      subst (λ (n : ℕ). AllByRecursion (λ (f : Foreign). names_key rows t key n f ≡ false) (get_or xs k no_table).foreign) number (no_child xs (u + 1) (or_second _ _ none) k (omega arith))
    where
      or_second : (a b : Option Refusal) → or_else a b ≡ None → b ≡ None
      or_second None b h = h
      or_second (Some r) b h = absurd (cc)

  empty_group : (f : Foreign) (u : ℕ) → names_key rows t key u f ≡ false → f.table ≡ t → group_of u f.cols key rows ≡ []
  empty_group f u none refers =
      nothing (group_of u f.cols key rows) (sym (ap (λ b. b && nat_lt 0 (length (group_of u f.cols key rows))) (eq-eqb f.table t refers)) ∙ none)
    where
      nothing : (xs : List (List Value)) → (true && nat_lt 0 (length xs)) ≡ false → xs ≡ []
      nothing [] h = refl
      nothing (x ∷ xs) h = absurd (grind (arith, h))

  pub unreferenced : (tables : List Table) → child_refusal rows t key 1 tables ≡ None → IsUnreferenced tables rows t key
  unreferenced tables none u number =
      let place : 1 + (u - 1) ≡ u = omega (arith, number.0) in
      each_weaker (λ (f : Foreign). names_key rows t key u f ≡ false) (λ (f : Foreign). f.table ≡ t → group_of u f.cols key rows ≡ []) (λ f h refers. empty_group f u h refers) (table_at tables u).foreign
      (subst (λ (n : ℕ). AllByRecursion (λ (f : Foreign). names_key rows t key n f ≡ false) (table_at tables u).foreign) place (no_child tables 1 none (u - 1) (omega (arith, number.0, number.1))))

-- ---- the effect

module _ (tables : List Table) (rows : Rows) (others : List Pair) (t : ℕ) (key : List Value) (conds : List Cond) where
  pub delete_absent : None ≡ row_at tables rows t key → Plans tables rows others (write.Delete t key conds) (planned.Refused (no_row tables t))
  unfolding effect
  delete_absent is = ap (deleted_rows tables rows t key conds) (sym is)

  pub delete_unmet : (old : List Value) (refusal : Refusal) → Some old ≡ row_at tables rows t key → Some refusal ≡ condition_refusal (table_at tables t) conds old → Plans tables rows others (write.Delete t key conds) (planned.Refused refusal)
  unfolding effect
  delete_unmet old refusal found is =
      ap (deleted_rows tables rows t key conds) (sym found) ∙ ap (λ (o : Option Refusal). or_ok (or_else o (child_refusal rows t key 1 tables)) (rows_without tables t key rows)) (sym is)

  -- what comes of a row that is as the write says
  met : (old : List Value) (found : Option Refusal) → condition_refusal (table_at tables t) conds old ≡ None → found ≡ child_refusal rows t key 1 tables → found ≡ or_else (condition_refusal (table_at tables t) conds old) (child_refusal rows t key 1 tables)
  met old found holds is = is ∙ sym (ap (λ (o : Option Refusal). or_else o (child_refusal rows t key 1 tables)) holds)

  pub delete_refused : (old : List Value) (refusal : Refusal) → Some old ≡ row_at tables rows t key → condition_refusal (table_at tables t) conds old ≡ None → Some refusal ≡ child_refusal rows t key 1 tables → Plans tables rows others (write.Delete t key conds) (planned.Refused refusal)
  unfolding effect
  delete_refused old refusal found holds is =
      ap (deleted_rows tables rows t key conds) (sym found) ∙ ap (λ (o : Option Refusal). or_ok o (rows_without tables t key rows)) (sym (met old (Some refusal) holds is))

  pub delete_made : (told : Option Content) (old : List Value) (changes : List Coded) → HoldsRows told tables rows others → Some old ≡ row_at tables rows t key → condition_refusal (table_at tables t) conds old ≡ None → None ≡ child_refusal rows t key 1 tables → (at : List ℕ) → at ≡ row_key t key → map change_of changes ≡ (at, None) ∷ removals (entries_from t 1 (table_at tables t) (table_at tables t).indexes old)
      → Plans tables rows others (write.Delete t key conds) (planned.Changes changes)
  unfolding effect changes_of
  delete_made told old changes s found holds none at is own =
      let key_is = (row_found tables rows t key old s.keeps (sym found)).key_is in
      let made = own_removals t (table_at tables t) old at (map change_of changes) (is ∙ ap (row_key t) (sym key_is)) own in
      let makes : MakesRows tables rows others (write.Delete t key conds) changes (rows_without tables t key rows) = record {
        changes_are = made ∙ ap (removal_of (table_at tables t) t) found;
        content = ap (λ (cs : List Change). changed_content cs (content_pairs tables rows others)) made ∙ delete_row tables rows others t key old s.keeps s.beside (sym found);
        keeps = keeps_delete tables rows t key s.keeps (unreferenced rows t key tables (sym none));
      } in
      let effect_is : deleted_rows tables rows t key conds (row_at tables rows t key) ≡ Ok (rows_without tables t key rows) = ap (deleted_rows tables rows t key conds) (sym found) ∙ ap (λ (o : Option Refusal). or_ok o (rows_without tables t key rows)) (sym (met old None holds none)) in
      subst (λ (r : Result Rows Refusal). MatchResult r (MakesRows tables rows others (write.Delete t key conds) changes) (λ (refusal : Refusal). ⊥)) (sym effect_is) makes
