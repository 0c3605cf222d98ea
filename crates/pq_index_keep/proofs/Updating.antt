-- What an UPDATE makes of settled pairs, and what its tests need.
use Rattle.std.proofs.Common.{◌≡◌, ℕ, zero, suc, ◌≤◌, ◌<◌, inl, inr, Bool, true, false, cond, not, ◌&&◌, ◌||◌, List, [], ◌∷◌, length, map, Option, Some, None, Result, Ok, refl, sym, ap, subst, ◌∙◌, arith}
use Rattle.std.specs.Prelude.{ℤ, ◌+ℤ◌, All, MatchResult, is_none, slice_set, slice_index_or, unwrap_or, nat_lt, ◌==◌}
use Rattle.std.specs.List.{AllByRecursion, list_any}
use Rattle.std.proofs.lemmas.Bool.{false≢true, eq-eqb, ltb-false}
use Rattle.std.proofs.lemmas.List.{get_or-set_other, length-map}
use Rattle.pq_base.specs.Answers.{or_else}
use Rattle.pq_base.specs.Columns.{has_col, set_of}
use Rattle.pq_base.specs.declared.refusal.Refusal.{Refusal}
use Rattle.pq_base.specs.declared.refusal.Refusal.TheVariants.{RowLong}
use Rattle.pq_base.specs.declared.value.ColType.{ColType}
use Rattle.pq_base.specs.declared.value.ColType.TheVariants as type
use Rattle.pq_base.specs.declared.value.Value.{Value}
use Rattle.pq_base.specs.declared.value.Value.TheVariants as value
use Rattle.pq_base.specs.Cells.{no_value}
use Rattle.pq_base.specs.Sums.{has_64_bits, sum_of}
use Rattle.pq_base.specs.Values.{AllFit, FitsType, IsOfDataKind, has_null, kind_of_type}
use Rattle.pq_base.specs.declared.value.DataKind.{DataKind}
use Rattle.pq_base.specs.declared.value.DataKind.TheVariants as kind
use Rattle.pq_base.proofs.Sums.{bits_fit}
use Rattle.pq_def_read.specs.declared.write.Setting.{Setting}
use Rattle.pq_def_read.specs.declared.write.Setting.TheVariants as setting
use Rattle.pq_key_code.specs.KeyCode.{row_key}
use Rattle.pq_row_code.specs.declared.changes.Change.{Change as Coded}
use Rattle.pq_schema.specs.Definitions.{refused_if, or_ok}
use Rattle.pq_schema.specs.Sequences.{columns_of, index_sequence}
use Rattle.pq_schema.specs.declared.table.Column.{Column}
use Rattle.pq_schema.specs.declared.table.Index.{Index}
use Rattle.pq_schema.specs.Tables.{table_at}
use Rattle.pq_schema.specs.declared.table.Foreign.{Foreign}
use Rattle.pq_schema.specs.declared.table.Limit.{Limit}
use Rattle.pq_schema.specs.declared.table.Table.{Table}
use Rattle.pq_content.specs.Pairs.{Pair, Change, entry_changes, changed_content, content_pairs}
use Rattle.pq_content.specs.Standing.{change_of}
use Rattle.pq_content.specs.Tables.{Rows, Keeps, MayChangeRow, MayRefer, types_of, value_of, cells, values_of, key_of, row_at, rows_without, same_values, stored_code}
use Rattle.pq_content.proofs.Keeping.{row_found}
use Rattle.pq_content.proofs.KeepingWrites.{keeps_update}
use Rattle.pq_base.specs.Members.{In}
use Rattle.pq_content.proofs.Updates.{update_row}
use Rattle.pq_content.proofs.Values.{same_from_test, values_of-columns_of}
use Rattle.pq_store.specs.Content.{Content}
use Rattle.pq_index_keep.specs.Effects.{effect, changes_of, updated_rows, update_of, update_refusal, parent_refusal, room_refusal, lacks_parent, lacks_room, no_parent, no_room, no_row, no_sum, is_missing, is_full, condition_refusal, sum_refusal, held_refusal}
use Rattle.pq_index_keep.specs.Promises.{HoldsRows, MakesRows, Plans}
use Rattle.pq_index_keep.specs.Sound.{FitsSetting, IsSet}
use Rattle.pq_index_keep.specs.Tested.{touches, touches_index, set_columns, scope_of, setting_value, set_value, set_from, with_sets}
use Rattle.pq_index_keep.specs.declared.plan.Planned.TheVariants as planned
use Rattle.pq_index_keep.specs.declared.write.Scope.{Scope}
use Rattle.pq_index_keep.specs.declared.write.Cond.{Cond}
use Rattle.pq_index_keep.specs.declared.write.SetCol.{SetCol}
use Rattle.pq_index_keep.specs.declared.write.Write.TheVariants as write
use Rattle.pq_index_keep.proofs.Changing.{own_updates}
use Rattle.pq_base.proofs.TypeFits.{length_from_fits}
use Rattle.pq_index_keep.proofs.Inserting.{each_is, first_none, or_none, mapped_none, not_refused, none_passes, each_weaker, there_is, has_room, unless_null}
use Rattle.pq_base.proofs.Sets.{members_set}

-- ---- the row that an UPDATE makes

fit_set : (types : List ColType) (row : List Value) (col : ℕ) (x : Value) → AllFit types row → FitsType (slice_index_or types col type.Bool) x → AllFit types (slice_set row col x)
fit_set [] [] col x fits fit = fits
fit_set [] (y ∷ ys) col x fits fit = absurd fits
fit_set (t ∷ ts) [] col x fits fit = absurd fits
fit_set (t ∷ ts) (y ∷ ys) zero x fits fit = (fit, fits.1)
fit_set (t ∷ ts) (y ∷ ys) (suc col) x fits fit = (fits.0, fit_set ts ys col x fits.1 fit)

sum_fits : (ty : ColType) (held : Value) (number : ℤ) → kind_of_type ty ≡ kind.Int → is_none (sum_of held number) ≡ false → FitsType ty (unwrap_or (sum_of held number) no_value)
sum_fits ty value.Null number int some = absurd (cc)
sum_fits ty (value.Bool b) number int some = absurd (cc)
sum_fits ty (value.Text t) number int some = absurd (cc)
sum_fits ty (value.Int m) number int some =
    let sum = m +ℤ number in
    elim (has_64_bits sum) as (λ b. has_64_bits sum ≡ b → is_none (cond b (Some (value.Int sum)) None) ≡ false → FitsType ty (unwrap_or (cond b (Some (value.Int sum)) None) no_value)) [
      | true ↦ λ is there. (subst (λ (k : DataKind). IsOfDataKind k (value.Int sum)) (sym int) (bits_fit sum is), tt)
      | false ↦ λ is there. absurd (cc)
    ] refl some

setting_fits : (ty : ColType) (to : Setting) (held : Value) → FitsSetting ty to → is_none (setting_value to held) ≡ false → FitsType ty (unwrap_or (setting_value to held) no_value)
setting_fits ty (setting.Is x) held fits some = fits
setting_fits ty (setting.Add number) held fits some = sum_fits ty held number fits.0 some

fit_from : (table : Table) (old : List Value) (sets : List SetCol) (row : List Value) → AllByRecursion (IsSet table) sets → sum_refusal table sets old ≡ None → AllFit (types_of table) row → AllFit (types_of table) (set_from old sets row)
fit_from table old [] row each sums fits = fits
fit_from table old (set ∷ sets) row each sums fits =
    let rest = first_none (λ (s : SetCol). is_none (set_value old s)) (no_sum table) set sets sums in
    let x = unwrap_or (set_value old set) no_value in
    fit_from table old sets (slice_set row set.col x) each.1 rest.1 (fit_set (types_of table) row set.col x fits (setting_fits (slice_index_or (types_of table) set.col type.Bool) set.to (slice_index_or old set.col no_value) each.0.fits rest.0))

pub fit_sets : (table : Table) (sets : List SetCol) (row : List Value) → AllByRecursion (IsSet table) sets → sum_refusal table sets row ≡ None → AllFit (types_of table) row → AllFit (types_of table) (with_sets sets row)
fit_sets table sets row each sums fits = fit_from table row sets row each sums fits

untouched : (old : List Value) (sets : List SetCol) (row : List Value) (col : ℕ) → (In col (set_columns sets) → ⊥) → value_of (set_from old sets row) col ≡ value_of row col
untouched old [] row col none = refl
untouched old (set ∷ sets) row col none =
    let x = unwrap_or (set_value old set) no_value in
    untouched old sets (slice_set row set.col x) col (λ i. none (inr i))
    ∙ get_or-set_other row set.col col x (value.Bool false) (λ same. none (inl (sym same)))

all_untouched : (old : List Value) (sets : List SetCol) (row : List Value) (cols : List ℕ) → ((c : ℕ) → In c cols → In c (set_columns sets) → ⊥) → cells cols (set_from old sets row) ≡ cells cols row
all_untouched old sets row [] none = refl
all_untouched old sets row (c ∷ cols) none =
    ap (λ (x : Value). x ∷ cells cols (set_from old sets row)) (untouched old sets row c (none c (inl refl)))
    ∙ ap (λ (xs : List Value). value_of row c ∷ xs) (all_untouched old sets row cols (λ d i. none d (inr i)))

any_member : (p : ℕ → Bool) (cols : List ℕ) (c : ℕ) → In c cols → p c ≡ true → list_any p cols ≡ true
any_member p [] c i h = absurd i
any_member p (d ∷ cols) c (inl same) h = ap (λ b. b || list_any p cols) (ap p same ∙ h)
any_member p (d ∷ cols) c (inr i) h = or_true (p d) (list_any p cols) (any_member p cols c i h)
  where
    or_true : (a b : Bool) → b ≡ true → (a || b) ≡ true
    or_true true b h = refl
    or_true false b h = h

-- columns of which none is set keep their values
pub kept_values : (sets : List SetCol) (row : List Value) (cols : List ℕ) → touches (scope_of sets) cols ≡ false → cells cols (with_sets sets row) ≡ cells cols row
kept_values sets row cols none =
    all_untouched row sets row cols (λ c i j. false≢true (sym none ∙ any_member (has_col (set_of (set_columns sets))) cols c i (members_set (set_columns sets) c j)))

other_than_key : (table : Table) (sets : List SetCol) (c : ℕ) → AllByRecursion (IsSet table) sets → In c table.key → In c (set_columns sets) → ⊥
other_than_key table [] c each i j = j
other_than_key table (set ∷ sets) c each i (inl same) = false≢true (sym each.0.other ∙ any_member (λ other. other == set.col) table.key c i (eq-eqb c set.col (sym same)))
other_than_key table (set ∷ sets) c each i (inr j) = other_than_key table sets c each.1 i j

pub kept_key : (table : Table) (sets : List SetCol) (row : List Value) → AllByRecursion (IsSet table) sets → key_of table (with_sets sets row) ≡ key_of table row
kept_key table sets row each = all_untouched row sets row table.key (λ c i j. other_than_key table sets c each i j)

-- ---- the tests

may_change : (rows : Rows) (t : ℕ) (sets : List SetCol) (old : List Value) (limit : Limit) → lacks_room rows (scope_of sets) (Some old) t (with_sets sets old) limit ≡ false → MayChangeRow t rows old (with_sets sets old) limit
may_change rows t sets old limit h = by (touches (scope_of sets) limit.cols) refl (same_values (cells limit.cols old) (cells limit.cols (with_sets sets old))) refl (not (has_null (cells limit.cols (with_sets sets old))) && is_full rows t (with_sets sets old) limit) refl h
  where
    by : (a : Bool) → touches (scope_of sets) limit.cols ≡ a → (b : Bool) → same_values (cells limit.cols old) (cells limit.cols (with_sets sets old)) ≡ b → (c : Bool) → (not (has_null (cells limit.cols (with_sets sets old))) && is_full rows t (with_sets sets old) limit) ≡ c
        → (a && not b && c) ≡ false → MayChangeRow t rows old (with_sets sets old) limit
    by false untouched b same c full h = inl (sym (kept_values sets old limit.cols untouched))
    by true touched true same c full h = inl (same_from_test (cells limit.cols old) (cells limit.cols (with_sets sets old)) same)
    by true touched false same false full h = inr (has_room rows t (with_sets sets old) limit full)
    by true touched false same true full h = absurd (cc)

may_refer : (tables : List Table) (rows : Rows) (sets : List SetCol) (old : List Value) (foreign : Foreign) → lacks_parent tables rows (scope_of sets) (with_sets sets old) foreign ≡ false → MayRefer tables rows old (with_sets sets old) foreign
may_refer tables rows sets old foreign h = by (touches (scope_of sets) foreign.cols) refl (not (has_null (cells foreign.cols (with_sets sets old))) && is_missing tables rows (with_sets sets old) foreign) refl h
  where
    by : (a : Bool) → touches (scope_of sets) foreign.cols ≡ a → (b : Bool) → (not (has_null (cells foreign.cols (with_sets sets old))) && is_missing tables rows (with_sets sets old) foreign) ≡ b → (a && b) ≡ false → MayRefer tables rows old (with_sets sets old) foreign
    by false untouched b missing h = inl (sym (kept_values sets old foreign.cols untouched))
    by true touched false missing h = inr (λ plain. there_is (row_at tables rows foreign.table (cells foreign.cols (with_sets sets old))) (unless_null (has_null (cells foreign.cols (with_sets sets old))) (is_missing tables rows (with_sets sets old) foreign) missing plain))
    by true touched true missing h = absurd (cc)

-- a row that is as the write says
pub none_held : (table : Table) (sets : List SetCol) (conds : List Cond) (old : List Value) → condition_refusal table conds old ≡ None → sum_refusal table sets old ≡ None → held_refusal table sets conds old ≡ None
none_held table sets conds old holds sums = ap (λ (o : Option Refusal). or_else o (sum_refusal table sets old)) holds ∙ sums

-- ---- the effect

module _ (tables : List Table) (rows : Rows) (others : List Pair) (t : ℕ) (key : List Value) (sets : List SetCol) (conds : List Cond) where
  pub update_absent : None ≡ row_at tables rows t key → Plans tables rows others (write.Update t key sets conds) (planned.Refused (no_row tables t))
  unfolding effect
  update_absent is = ap (updated_rows tables rows t key sets conds) (sym is)

  pub update_unmet : (old : List Value) (refusal : Refusal) → Some old ≡ row_at tables rows t key → Some refusal ≡ held_refusal (table_at tables t) sets conds old → Plans tables rows others (write.Update t key sets conds) (planned.Refused refusal)
  unfolding effect
  update_unmet old refusal found is =
      ap (updated_rows tables rows t key sets conds) (sym found)
      ∙ ap (λ (o : Option Refusal). or_ok (or_else o (update_refusal tables rows (scope_of sets) t old (with_sets sets old))) ((t, with_sets sets old) ∷ rows_without tables t key rows)) (sym is)

  -- what comes of a row that is as the write says
  met : (old : List Value) (found : Option Refusal) → condition_refusal (table_at tables t) conds old ≡ None → sum_refusal (table_at tables t) sets old ≡ None → found ≡ update_refusal tables rows (scope_of sets) t old (with_sets sets old)
      → found ≡ or_else (held_refusal (table_at tables t) sets conds old) (update_refusal tables rows (scope_of sets) t old (with_sets sets old))
  met old found holds sums is = is ∙ sym (ap (λ (o : Option Refusal). or_else o (update_refusal tables rows (scope_of sets) t old (with_sets sets old))) (none_held (table_at tables t) sets conds old holds sums))

  pub update_refused : (old : List Value) (refusal : Refusal) → Some old ≡ row_at tables rows t key → condition_refusal (table_at tables t) conds old ≡ None → sum_refusal (table_at tables t) sets old ≡ None
      → Some refusal ≡ update_refusal tables rows (scope_of sets) t old (with_sets sets old) → Plans tables rows others (write.Update t key sets conds) (planned.Refused refusal)
  unfolding effect
  update_refused old refusal found holds sums is =
      ap (updated_rows tables rows t key sets conds) (sym found) ∙ ap (λ (o : Option Refusal). or_ok o ((t, with_sets sets old) ∷ rows_without tables t key rows)) (sym (met old (Some refusal) holds sums is))

  pub update_made : (told : Option Content) (old : List Value) (changes : List Coded) → HoldsRows told tables rows others → AllByRecursion (IsSet (table_at tables t)) sets → Some old ≡ row_at tables rows t key → condition_refusal (table_at tables t) conds old ≡ None → sum_refusal (table_at tables t) sets old ≡ None → None ≡ update_refusal tables rows (scope_of sets) t old (with_sets sets old)
      → (at : List ℕ) → at ≡ row_key t key → map change_of changes ≡ (at, Some (stored_code (table_at tables t) (with_sets sets old))) ∷ entry_changes t 1 (table_at tables t) (table_at tables t).indexes old (with_sets sets old) → Plans tables rows others (write.Update t key sets conds) (planned.Changes changes)
  unfolding effect changes_of
  update_made told old changes s each found holds sums none here is moved =
      let table = table_at tables t in
      let new = with_sets sets old in
      let of_old = row_found tables rows t key old s.keeps (sym found) in
      let own : key_of table old ≡ key = of_old.key_is in
      let at : row_at tables rows t (key_of table old) ≡ Some old = ap (row_at tables rows t) own ∙ sym found in
      let same : key_of table old ≡ key_of table new = sym (kept_key table sets old each) in
      let made = own_updates t table old new here (map change_of changes) (is ∙ ap (row_key t) (sym own ∙ same)) moved in
      let parts = or_none _ _ (sym none) in
      let tests = or_none _ _ parts.1 in
      let short : length (stored_code (table_at tables t) new) ≤ 4096 = ltb-false 4096 (length (stored_code (table_at tables t) new)) (not_refused _ _ parts.0) in
      let names : AllByRecursion (MayRefer tables rows old new) table.foreign =
      each_weaker (λ (f : Foreign). lacks_parent tables rows (scope_of sets) new f ≡ false) (MayRefer tables rows old new) (λ f h. may_refer tables rows sets old f h) table.foreign
      (none_passes (lacks_parent tables rows (scope_of sets) new) table.foreign (mapped_none (no_parent table) _ tests.0)) in
      let changes_may : AllByRecursion (MayChangeRow t rows old new) table.limits =
      each_weaker (λ (l : Limit). lacks_room rows (scope_of sets) (Some old) t new l ≡ false) (MayChangeRow t rows old new) (λ l h. may_change rows t sets old l h) table.limits
      (none_passes (lacks_room rows (scope_of sets) (Some old) t new) table.limits (mapped_none (no_room table) _ tests.1)) in
      let gone : List Value → Rows = λ (k : List Value). (t, new) ∷ rows_without tables t k rows in
      let makes : MakesRows tables rows others (write.Update t key sets conds) changes ((t, new) ∷ rows_without tables t key rows) = record {
        changes_are = made ∙ ap (update_of table t sets) found;
        content = ap (λ (cs : List Change). changed_content cs (content_pairs tables rows others)) made ∙ update_row tables rows others t old new s.keeps s.beside at same ∙ ap (λ (k : List Value). content_pairs tables (gone k) others) own;
        keeps = subst (λ (k : List Value). Keeps tables ((t, new) ∷ rows_without tables t k rows)) own (keeps_update tables rows t old new s.keeps at same (fit_sets table sets old each sums of_old.fits) short changes_may names);
      } in
      let effect_is : updated_rows tables rows t key sets conds (row_at tables rows t key) ≡ Ok ((t, new) ∷ rows_without tables t key rows) = ap (updated_rows tables rows t key sets conds) (sym found) ∙ ap (λ (o : Option Refusal). or_ok o ((t, new) ∷ rows_without tables t key rows)) (sym (met old None holds sums none)) in
      subst (λ (r : Result Rows Refusal). MatchResult r (MakesRows tables rows others (write.Update t key sets conds) changes) (λ (refusal : Refusal). ⊥)) (sym effect_is) makes

-- ---- what the code hands on

pub sets_inside : (table : Table) (sets : List SetCol) (row : List Value) → AllByRecursion (IsSet table) sets → AllFit (types_of table) row → All (λ (set : SetCol). set.col < length row) sets
sets_inside table sets row each fits =
    let long : length row ≡ length table.columns = length_from_fits (types_of table) row fits ∙ length-map table.columns (λ (column : Column). column.ty) in
    each_is (λ (set : SetCol). set.col < length row) sets (each_weaker (IsSet table) (λ (set : SetCol). set.col < length row) (λ set is. inside set is.inside long) sets each)
  where
    inside : (set : SetCol) → set.col < length table.columns → length row ≡ length table.columns → set.col < length row
    inside set less long = omega arith

pub sets_of_table : (table : Table) (sets : List SetCol) → AllByRecursion (IsSet table) sets → All (λ (set : SetCol). set.col < length table.columns) sets
sets_of_table table sets each = each_is (λ (set : SetCol). set.col < length table.columns) sets (each_weaker (IsSet table) (λ (set : SetCol). set.col < length table.columns) (λ set is. is.inside) sets each)

pub sets_small : (table : Table) (sets : List SetCol) → length table.columns ≤ 32 → AllByRecursion (IsSet table) sets → All (λ (set : SetCol). set.col < 32) sets
sets_small table sets few each = each_is (λ (set : SetCol). set.col < 32) sets (each_weaker (IsSet table) (λ (set : SetCol). set.col < 32) (λ set is. small set is.inside) sets each)
  where
    small : (set : SetCol) → set.col < length table.columns → set.col < 32
    small set less = omega arith

abbrev by_parts : List Table → Rows → ℕ → Scope → Option (List Value) → Table → List Value → Option Refusal
by_parts tables rows t of before table new =
    or_else (refused_if (nat_lt 4096 (length (stored_code table new))) (RowLong table.name (length (stored_code table new))))
    (or_else (parent_refusal tables rows of table new) (room_refusal rows of before t table new))

pub as_update : (tables : List Table) (rows : Rows) (t : ℕ) (sets : List SetCol) (old : List Value) (of : Scope) (before : Option (List Value)) (table : Table) (new : List Value) (got : Option Refusal)
    → table ≡ table_at tables t → new ≡ with_sets sets old → of ≡ scope_of sets → before ≡ Some old → got ≡ by_parts tables rows t of before table new → got ≡ update_refusal tables rows (scope_of sets) t old (with_sets sets old)
as_update tables rows t sets old of before table new got is made scope was h =
    h
    ∙ ap (λ (o : Scope). by_parts tables rows t o before table new) scope
    ∙ ap (λ (b : Option (List Value)). by_parts tables rows t (scope_of sets) b table new) was
    ∙ ap (λ (tb : Table). by_parts tables rows t (scope_of sets) (Some old) tb new) is
    ∙ ap (by_parts tables rows t (scope_of sets) (Some old) (table_at tables t)) made

pub kept_sequence : (table : Table) (sets : List SetCol) (old : List Value) (index : Index) → touches_index (scope_of sets) table index ≡ false → values_of (index_sequence table index) old ≡ values_of (index_sequence table index) (with_sets sets old)
kept_sequence table sets old index none =
    let parts = index_sequence table index in
    values_of-columns_of parts old ∙ sym (kept_values sets old (columns_of parts) none) ∙ sym (values_of-columns_of parts (with_sets sets old))
