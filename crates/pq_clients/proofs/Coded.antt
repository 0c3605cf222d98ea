-- A write at hand by the codes of its rows.
use Rattle.std.proofs.Common.{◌≡◌, ℕ, zero, suc, ◌+◌, ◌≤◌, ◌<◌, ◌==◌, nat_lt, Bool, true, false, cond, not, ◌&&◌, ◌⊎◌, inl, inr, List, [], ◌∷◌, length, Option, Some, None, refl, sym, ap, ◌∙◌, subst, arith}
use Rattle.std.specs.Prelude.{option_map, option_and_then, slice_index_or, IfSome}
use Rattle.std.proofs.lemmas.Bool.{false≢true, eqb-true, eq-eqb}
use Rattle.std.proofs.lemmas.Bool.Decides.{nat_tests}
use Rattle.pq_base.specs.declared.value.Value.{Value}
use Rattle.pq_base.specs.Values.{AllFit, has_null}
use Rattle.pq_key_code.specs.KeyCode.{row_key}
use Rattle.pq_schema.specs.declared.table.Limit.{Limit}
use Rattle.pq_schema.specs.declared.table.Table.{Table}
use Rattle.pq_schema.specs.Candidates.{no_limit}
use Rattle.pq_schema.specs.Tables.{table_at}
use Rattle.pq_content.specs.Pairs.{is_in_space}
use Rattle.pq_content.specs.Tables.{IsTableNumber, types_of, cells, key_of, same_values, stored_code}
use Rattle.pq_content.proofs.Values.{same_from_test}
use Rattle.pq_index_keep.specs.declared.write.Write.{Write}
use Rattle.pq_index_keep.specs.declared.write.Write.TheVariants as write
use Rattle.pq_index_keep.specs.Effects.{stays, limit_at}
use Rattle.pq_index_keep.specs.Sound.{AreWritable, IsWrite}
use Rattle.pq_index_keep.specs.Tested.{touches, scope_of, with_sets}
use Rattle.pq_index_keep.proofs.Updating.{fit_sets, kept_values, kept_key}
use Rattle.pq_clients.specs.Held.{decoded_row}
use Rattle.pq_clients.specs.Flights.{Flight, table_number, table_of, pair_key, row_made, flight_table, flight_key, old_row, new_row, new_code, entry_keys, keys_of_row, old_entries, new_entries, has_entry, fresh_entries, stale_entries, gives, is_tested, limit_tests, tests_of, flight_tests, group_front, front_of, tested_front, tested_limit, IsGranted, row_refusal}
use Rattle.pq_clients.specs.Invariant.{key_table, code_row, has_code_entry, IsRowAt, MayStandAt, Names, Group, is_limit, shares, row_in_group, in_group, group_bound, front_of_group, is_old, is_new, has_place, FlightFits}
use Rattle.pq_clients.proofs.Basics.{or_first, or_second, and_of, shared_of, has-left_out}
use Rattle.pq_clients.proofs.Cells.{row_decodes}
use Rattle.pq_row_keys.specs.Groups.{group_key}
use Rattle.pq_clients.proofs.Granting.{granted_sums}

module _ (tables : List Table) where
  pub key_space : (w : Write) → is_in_space 2 (pair_key tables w) ≡ true
  unfolding pair_key
  key_space w = refl

  pub key_number : (w : Write) → key_table (pair_key tables w) ≡ table_number w
  unfolding pair_key
  key_number w = refl

  pub write_number : (w : Write) → IsWrite tables w → IsTableNumber tables (table_number w)
  write_number (write.Insert t row) h = h.number
  write_number (write.Update t key sets conds) h = h.number
  write_number (write.Delete t key conds) h = h.number

  -- ---- the row of a code at its key

  pub row_of_code : AreWritable tables → (k code : List ℕ) (at : IsRowAt tables k code) → (key_table k ≡ at.table) × (code_row tables k (Some code) ≡ Some at.row)
  unfolding code_row
  row_of_code sound k code at =
      subst (λ (k : List ℕ). (key_table k ≡ at.table) × (code_row tables k (Some code) ≡ Some at.row)) at.key_is
      (refl, subst (λ (code : List ℕ). decoded_row (table_at tables at.table) code ≡ Some at.row) at.code_is (row_decodes tables at.table at.row sound at.number at.fits))

  pub no_entries : (k e : List ℕ) → has_code_entry tables k None e ≡ false
  unfolding has_code_entry code_row
  no_entries k e = elim (is_in_space 2 k) as (λ b. has_entry e (keys_of_row (key_table k) (table_at tables (key_table k)) (cond b None None)) ≡ false) [ true ↦ refl | false ↦ refl ]

  pub entry_of_code : AreWritable tables → (k code e : List ℕ) (at : IsRowAt tables k code) → has_code_entry tables k (Some code) e ≡ has_entry e (entry_keys at.table (table_at tables at.table) at.row)
  unfolding has_code_entry
  entry_of_code sound k code e at =
      let r = row_of_code sound k code at in
      ap (λ (o : Option (List Value)). has_entry e (keys_of_row (key_table k) (table_at tables (key_table k)) o)) r.1
      ∙ ap (λ (t : ℕ). has_entry e (entry_keys t (table_at tables t) at.row)) r.0

  -- an entry of a row's code names the key
  pub names_code : AreWritable tables → (k : List ℕ) (code : Option (List ℕ)) (e : List ℕ) → MayStandAt tables k code → has_code_entry tables k code e ≡ true → Names tables k e
  names_code sound k None e at h = absurd (false≢true (sym (no_entries k e) ∙ h))
  names_code sound k (Some code) e at h = record { table = at.table; row = at.row; number = at.number; fits = at.fits; key_is = at.key_is; among = sym (entry_of_code sound k code e at) ∙ h }

  pub group_of_code : AreWritable tables → (γ : Group) (k code : List ℕ) (at : IsRowAt tables k code) → in_group tables γ k (Some code) ≡ row_in_group tables γ at.table (Some at.row)
  unfolding in_group
  group_of_code sound γ k code at =
      let r = row_of_code sound k code at in
      ap (λ (o : Option (List Value)). row_in_group tables γ (key_table k) o) r.1
      ∙ ap (λ (t : ℕ). row_in_group tables γ t (Some at.row)) r.0

  -- ---- a write at hand

  pub old_is : (f : Flight) → code_row tables (flight_key tables f) f.read ≡ old_row tables f
  unfolding code_row old_row pair_key
  old_is f = refl

  -- the old row is a row of the table with this key
  pub record IsOwnRow (f : Flight) (row : List Value) : Type 0 where
    pub fits : AllFit (types_of (flight_table tables f)) row
    pub key_is : row_key (table_number f.write) (key_of (flight_table tables f) row) ≡ flight_key tables f
    pub short : length (stored_code (flight_table tables f) row) ≤ 4096

  own_row : AreWritable tables → (f : Flight) (code : List ℕ) (at : IsRowAt tables (flight_key tables f) code) → IsOwnRow f at.row
  own_row sound f code at =
      let same : at.table ≡ table_number f.write = sym (row_of_code sound (flight_key tables f) code at).0 ∙ key_number f.write in
      record {
        fits = subst (λ (t : ℕ). AllFit (types_of (table_at tables t)) at.row) same at.fits;
        key_is = subst (λ (t : ℕ). row_key t (key_of (table_at tables t) at.row) ≡ flight_key tables f) same at.key_is;
        short = subst (λ (t : ℕ). length (stored_code (table_at tables t) at.row) ≤ 4096) same at.short;
      }

  old_by_read : AreWritable tables → (f : Flight) (read : Option (List ℕ)) → f.read ≡ read → MayStandAt tables (flight_key tables f) read → (row : List Value) → old_row tables f ≡ Some row → IsOwnRow f row
  unfolding code_row
  old_by_read sound f None is at row h =
      let none : code_row tables (flight_key tables f) None ≡ None = ap (λ b. cond b (option_and_then (decoded_row (table_at tables (key_table (flight_key tables f)))) None) None) (key_space f.write) in
      let wrong : ◌≡◌ {A = Option (List Value)} None (Some row) = sym none ∙ ap (code_row tables (flight_key tables f)) (sym is) ∙ old_is f ∙ h in absurd (cc)
  old_by_read sound f (Some code) is at row h =
      let same : ◌≡◌ {A = Option (List Value)} (Some at.row) (Some row) = sym (row_of_code sound (flight_key tables f) code at).1 ∙ ap (code_row tables (flight_key tables f)) (sym is) ∙ old_is f ∙ h in
      let rows : at.row ≡ row = cc in
      subst (λ (row : List Value). IsOwnRow f row) rows (own_row sound f code at)

  pub old_own : AreWritable tables → (f : Flight) → MayStandAt tables (flight_key tables f) f.read → (row : List Value) → old_row tables f ≡ Some row → IsOwnRow f row
  old_own sound f at row h = old_by_read sound f f.read refl at row h

  -- what the write makes of it fits and has its key
  made_fits : (w : Write) → IsWrite tables w → (old : Option (List Value)) → ((row : List Value) → old ≡ Some row → AllFit (types_of (table_of tables w)) row × (row_key (table_number w) (key_of (table_of tables w) row) ≡ pair_key tables w))
      → IfSome old (λ row. row_refusal tables w row ≡ None)
      → (row : List Value) → row_made w old ≡ Some row → AllFit (types_of (table_of tables w)) row × (row_key (table_number w) (key_of (table_of tables w) row) ≡ pair_key tables w)
  unfolding pair_key
  made_fits (write.Insert t new) h old olds granted row is = let same : new ≡ row = cc in subst (λ (row : List Value). AllFit (types_of (table_at tables t)) row × (row_key t (key_of (table_at tables t) row) ≡ row_key t (key_of (table_at tables t) new))) same (h.fits, refl)
  made_fits (write.Update t key sets conds) h None olds granted row is = absurd (cc)
  made_fits (write.Update t key sets conds) h (Some old) olds granted row is =
      let same : with_sets sets old ≡ row = cc in
      let before = olds old refl in
      subst (λ (row : List Value). AllFit (types_of (table_at tables t)) row × (row_key t (key_of (table_at tables t) row) ≡ row_key t key)) same
      (fit_sets (table_at tables t) sets old h.each (granted_sums tables (write.Update t key sets conds) old granted) before.0, ap (row_key t) (kept_key (table_at tables t) sets old h.each) ∙ before.1)
  made_fits (write.Delete t key conds) h old olds granted row is = absurd (cc)

  pub new_fits : AreWritable tables → (f : Flight) → IsWrite tables f.write → MayStandAt tables (flight_key tables f) f.read → IsGranted tables f → (row : List Value) → new_row tables f ≡ Some row → AllFit (types_of (flight_table tables f)) row × (row_key (table_number f.write) (key_of (flight_table tables f) row) ≡ flight_key tables f)
  unfolding new_row
  new_fits sound f w at granted row is = made_fits f.write w (old_row tables f) (λ old h. let o = old_own sound f at old h in (o.fits, o.key_is)) granted row is

  pub code_again : AreWritable tables → (f : Flight) → IsTableNumber tables (table_number f.write) → (new : Option (List Value)) → ((row : List Value) → new ≡ Some row → AllFit (types_of (flight_table tables f)) row) → code_row tables (flight_key tables f) (option_map (stored_code (flight_table tables f)) new) ≡ new
  unfolding code_row pair_key
  code_again sound f number None fits = refl
  code_again sound f number (Some row) fits = row_decodes tables (table_number f.write) row sound number (fits row refl)

  pub new_is : AreWritable tables → (f : Flight) → FlightFits tables f → code_row tables (flight_key tables f) (new_code tables f) ≡ new_row tables f
  unfolding new_code
  new_is sound f h = code_again sound f (write_number f.write h.write) (new_row tables f) (λ row is. (new_fits sound f h.write h.read h.granted row is).0)

  pub old_has : (f : Flight) (e : List ℕ) → has_entry e (old_entries tables f) ≡ is_old tables f e
  unfolding has_code_entry old_entries
  old_has f e =
      sym (ap (λ (o : Option (List Value)). has_entry e (keys_of_row (key_table (flight_key tables f)) (table_at tables (key_table (flight_key tables f))) o)) (old_is f)
      ∙ ap (λ (t : ℕ). has_entry e (keys_of_row t (table_at tables t) (old_row tables f))) (key_number f.write))

  pub new_has : AreWritable tables → (f : Flight) → FlightFits tables f → (e : List ℕ) → has_entry e (new_entries tables f) ≡ is_new tables f e
  unfolding has_code_entry new_entries
  new_has sound f h e =
      sym (ap (λ (o : Option (List Value)). has_entry e (keys_of_row (key_table (flight_key tables f)) (table_at tables (key_table (flight_key tables f))) o)) (new_is sound f h)
      ∙ ap (λ (t : ℕ). has_entry e (keys_of_row t (table_at tables t) (new_row tables f))) (key_number f.write))

  pub fresh_has : AreWritable tables → (f : Flight) → FlightFits tables f → (e : List ℕ) → has_entry e (fresh_entries tables f) ≡ (is_new tables f e && not (is_old tables f e))
  fresh_has sound f h e = has-left_out e (new_entries tables f) (old_entries tables f) ∙ ap (λ b. b && not (has_entry e (old_entries tables f))) (new_has sound f h e) ∙ ap (λ b. is_new tables f e && not b) (old_has f e)

  pub stale_has : AreWritable tables → (f : Flight) → FlightFits tables f → (e : List ℕ) → has_entry e (stale_entries tables f) ≡ (is_old tables f e && not (is_new tables f e))
  stale_has sound f h e = has-left_out e (old_entries tables f) (new_entries tables f) ∙ ap (λ b. b && not (has_entry e (new_entries tables f))) (old_has f e) ∙ ap (λ b. is_old tables f e && not b) (new_has sound f h e)

  -- ---- limits that are not tested

  abbrev limit_from : List Limit → ℕ → Limit
  limit_from limits n = slice_index_or limits n no_limit

  place_tested : (w : Write) (old : Option (List Value)) (row : List Value) (from n : ℕ) (limits : List Limit) → n < length limits
      → (is_tested w row (limit_from limits n).cols && not (stays old row (limit_from limits n).cols)) ≡ true → has_place (from + n) (limit_tests w old row from limits) ≡ true
  place_tested w old row from n [] less h = absurd (omega arith)
  place_tested w old row from zero (limit ∷ limits) less h =
      let same : from + 0 ≡ from = omega arith in
      subst (λ (l : ℕ). has_place l (cond (is_tested w row limit.cols && not (stays old row limit.cols)) (from ∷ limit_tests w old row (from + 1) limits) (limit_tests w old row (from + 1) limits)) ≡ true) (sym same)
      (ap (λ b. has_place from (cond b (from ∷ limit_tests w old row (from + 1) limits) (limit_tests w old row (from + 1) limits))) h ∙ or_first (from == from) _ (eq-eqb from from refl))
  place_tested w old row from (suc n) (limit ∷ limits) less h =
      let rest = place_tested w old row (from + 1) n limits (omega arith) h in
      let same : from + 1 + n ≡ from + suc n = omega arith in
      let there : has_place (from + suc n) (limit_tests w old row (from + 1) limits) ≡ true = subst (λ (l : ℕ). has_place l (limit_tests w old row (from + 1) limits) ≡ true) same rest in
      elim (is_tested w row limit.cols && not (stays old row limit.cols)) as (λ b. has_place (from + suc n) (cond b (from ∷ limit_tests w old row (from + 1) limits) (limit_tests w old row (from + 1) limits)) ≡ true) [
        | true ↦ or_second ((from + suc n) == from) _ there
        | false ↦ there
      ]

  abbrev group_cols : Group → List ℕ
  group_cols γ = (limit_at (table_at tables γ.table) γ.place).cols

  -- a limit of which the write gives no column, or at whose columns the values stay, has the old row in the group too
  in_old_group : (w : Write) (old : Option (List Value)) (row : List Value) (γ : Group) (t : ℕ) → row_made w old ≡ Some row
      → (gives w (group_cols γ) && not (stays old row (group_cols γ))) ≡ false
      → row_in_group tables γ t (Some row) ≡ true → row_in_group tables γ t old ≡ true
  in_old_group (write.Insert s new) None row γ t is untested h = absurd (false≢true (sym untested))
  in_old_group (write.Insert s new) (Some old) row γ t is untested h = by_stays (same_values (cells (group_cols γ) old) (cells (group_cols γ) row)) refl untested
    where
      by_stays : (b : Bool) → same_values (cells (group_cols γ) old) (cells (group_cols γ) row) ≡ b → not b ≡ false → row_in_group tables γ t (Some old) ≡ true
      by_stays true e u = ap (λ (xs : List Value). (t == γ.table) && (is_limit tables γ && (not (has_null γ.values) && same_values xs γ.values))) (same_from_test (cells (group_cols γ) old) (cells (group_cols γ) row) e) ∙ h
      by_stays false e u = absurd (false≢true (sym u))
  in_old_group (write.Update s key sets conds) None row γ t is untested h = absurd (cc)
  in_old_group (write.Update s key sets conds) (Some old) row γ t is untested h = by_touch (touches (scope_of sets) (group_cols γ)) refl (same_values (cells (group_cols γ) old) (cells (group_cols γ) row)) refl untested
    where
      by_cells : cells (group_cols γ) old ≡ cells (group_cols γ) row → row_in_group tables γ t (Some old) ≡ true
      by_cells e = ap (λ (xs : List Value). (t == γ.table) && (is_limit tables γ && (not (has_null γ.values) && same_values xs γ.values))) e ∙ h

      by_touch : (a : Bool) → touches (scope_of sets) (group_cols γ) ≡ a → (b : Bool) → same_values (cells (group_cols γ) old) (cells (group_cols γ) row) ≡ b → (a && not b) ≡ false → row_in_group tables γ t (Some old) ≡ true
      by_touch false touch b e u = let made : with_sets sets old ≡ row = cc in by_cells (sym (kept_values sets old (group_cols γ) touch) ∙ ap (cells (group_cols γ)) made)
      by_touch true touch true e u = by_cells (same_from_test (cells (group_cols γ) old) (cells (group_cols γ) row) e)
      by_touch true touch false e u = absurd (false≢true (sym u))
  in_old_group (write.Delete s key conds) old row γ t is untested h = absurd (cc)

  -- a row of a group has no NULL in it, so the limit is tested where one of its columns is given a value
  tested_where_given : (w : Write) (row : List Value) (cols : List ℕ) → has_null (cells cols row) ≡ false → is_tested w row cols ≡ gives w cols
  tested_where_given w row cols plain = ap (λ b. gives w cols && not b) plain ∙ and_true (gives w cols)
    where
      and_true : (a : Bool) → (a && true) ≡ a
      and_true true = refl
      and_true false = refl

  tested_by_row : (f : Flight) (new : Option (List Value)) (γ : Group) → new_row tables f ≡ new → row_in_group tables γ (table_number f.write) new ≡ true
      → (row_in_group tables γ (table_number f.write) (old_row tables f) ≡ true) ⊎ (has_place γ.place (tests_of tables f new) ≡ true)
  unfolding new_row
  tested_by_row f None γ is h = absurd (false≢true h)
  tested_by_row f (Some row) γ is h =
      let parts = and_of (table_number f.write == γ.table) (is_limit tables γ && shares (limit_at (table_at tables γ.table) γ.place).cols γ.values row) h in
      let table : table_number f.write ≡ γ.table = eqb-true (table_number f.write) γ.table parts.0 in
      let inner = and_of (is_limit tables γ) (shares (group_cols γ) γ.values row) parts.1 in
      let inside = inner.0 in
      let shared = shared_of (group_cols γ) γ.values row inner.1 in
      let plain : has_null (cells (group_cols γ) row) ≡ false = ap has_null (same_from_test (cells (group_cols γ) row) γ.values shared.1) ∙ shared.0 in
      let cols = λ (t : ℕ). (limit_at (table_at tables t) γ.place).cols in
      elim (is_tested f.write row (cols γ.table) && not (stays (old_row tables f) row (cols γ.table))) as (λ b. (is_tested f.write row (cols γ.table) && not (stays (old_row tables f) row (cols γ.table))) ≡ b → (row_in_group tables γ (table_number f.write) (old_row tables f) ≡ true) ⊎ (has_place γ.place (tests_of tables f (Some row)) ≡ true)) [
        | true ↦ λ tested. inr (from_zero γ.place (limit_tests f.write (old_row tables f) row 0 (flight_table tables f).limits) (place_tested f.write (old_row tables f) row 0 γ.place (flight_table tables f).limits
            (subst (λ (t : ℕ). γ.place < length (table_at tables t).limits) (sym table) (less γ.place (length (table_at tables γ.table).limits) inside))
            (subst (λ (t : ℕ). (is_tested f.write row (cols t) && not (stays (old_row tables f) row (cols t))) ≡ true) (sym table) tested)))
        | false ↦ λ untested. inl (in_old_group f.write (old_row tables f) row γ (table_number f.write) is
            (ap (λ b. b && not (stays (old_row tables f) row (group_cols γ))) (sym (tested_where_given f.write row (group_cols γ) plain)) ∙ untested) h)
      ] refl
    where
      less : (a b : ℕ) → nat_lt a b ≡ true → a < b
      less a b h = grind (arith, nat_tests)

      from_zero : (n : ℕ) (xs : List ℕ) → has_place (0 + n) xs ≡ true → has_place n xs ≡ true
      from_zero n xs h = let e : 0 + n ≡ n = omega arith in subst (λ (n : ℕ). has_place n xs ≡ true) e h

  pub tested_or_old : AreWritable tables → (f : Flight) → FlightFits tables f → (γ : Group) → in_group tables γ (flight_key tables f) (new_code tables f) ≡ true → (in_group tables γ (flight_key tables f) f.read ≡ true) ⊎ (has_place γ.place (flight_tests tables f) ≡ true)
  unfolding in_group flight_tests
  tested_or_old sound f h γ is =
      let number = key_number f.write in
      let new = ap (λ (o : Option (List Value)). row_in_group tables γ (key_table (flight_key tables f)) o) (new_is sound f h) ∙ ap (λ (t : ℕ). row_in_group tables γ t (new_row tables f)) number in
      let old = ap (λ (o : Option (List Value)). row_in_group tables γ (key_table (flight_key tables f)) o) (old_is f) ∙ ap (λ (t : ℕ). row_in_group tables γ t (old_row tables f)) number in
      elim (tested_by_row f (new_row tables f) γ refl (sym new ∙ is)) [
        | inl a ↦ inl (old ∙ a)
        | inr b ↦ inr b
      ]

  -- the group that the new row comes into is counted under the front that is tested
  front_by_row : (t place : ℕ) (new : Option (List Value)) (γ : Group) → γ.place ≡ place → row_in_group tables γ t new ≡ true
      → (front_of_group tables γ ≡ front_of tables t place new) × (group_bound tables γ ≡ (limit_at (table_at tables t) place).n)
  unfolding group_front
  front_by_row t place None γ at h = absurd (false≢true h)
  front_by_row t place (Some row) γ at h =
      let parts = and_of (t == γ.table) (is_limit tables γ && shares (group_cols γ) γ.values row) h in
      let table : t ≡ γ.table = eqb-true t γ.table parts.0 in
      let values : cells (group_cols γ) row ≡ γ.values = same_from_test (cells (group_cols γ) row) γ.values (shared_of (group_cols γ) γ.values row (and_of (is_limit tables γ) (shares (group_cols γ) γ.values row) parts.1).1).1 in
      let cols = λ (t place : ℕ). (limit_at (table_at tables t) place).cols in (
        ap (group_key γ.table (table_at tables γ.table) (group_cols γ)) (sym values)
            ∙ ap (λ (t : ℕ). group_key t (table_at tables t) (cols t γ.place) (cells (cols t γ.place) row)) (sym table)
            ∙ ap (λ (place : ℕ). group_key t (table_at tables t) (cols t place) (cells (cols t place) row)) at,
        ap (λ (t : ℕ). (limit_at (table_at tables t) γ.place).n) (sym table) ∙ ap (λ (place : ℕ). (limit_at (table_at tables t) place).n) at,
      )

  pub tested_group : AreWritable tables → (f : Flight) → FlightFits tables f → (place : ℕ) (γ : Group) → γ.place ≡ place → in_group tables γ (flight_key tables f) (new_code tables f) ≡ true
      → (front_of_group tables γ ≡ tested_front tables f place) × (group_bound tables γ ≡ (tested_limit tables f place).n)
  unfolding in_group tested_front
  tested_group sound f h place γ at is =
      let new = ap (λ (o : Option (List Value)). row_in_group tables γ (key_table (flight_key tables f)) o) (new_is sound f h) ∙ ap (λ (t : ℕ). row_in_group tables γ t (new_row tables f)) (key_number f.write) in
      front_by_row (table_number f.write) place (new_row tables f) γ at (sym new ∙ is)
