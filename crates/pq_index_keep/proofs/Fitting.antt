-- What the checks of a statement say of its write.
use Rattle.std.proofs.Common.{◌≡◌, ℕ, zero, suc, ◌+◌, ◌≤◌, ◌<◌, Bool, true, false, cond, not, ◌||◌, ◌&&◌, List, [], ◌∷◌, length, map, Option, Some, None, Ok, Err, refl, sym, ap, subst, ◌∙◌, arith}
use Rattle.std.specs.Prelude.{All, IfSome, slice_index_or, ◌==◌, is_some, unwrap_or, nat_lt}
use Rattle.std.specs.List.{AllByRecursion, list_all, list_any, range_with_len}
use Rattle.std.proofs.lemmas.Bool.{cond_both, eqb-true, ltb-false, false≢true}
use Rattle.pq_schema.proofs.Counts.{place_within}
use Rattle.pq_base.specs.declared.refusal.Refusal.{Refusal}
use Rattle.pq_base.specs.declared.refusal.Refusal.TheVariants as refusal
use Rattle.pq_base.specs.declared.value.ColType.{ColType}
use Rattle.pq_base.specs.declared.value.ColType.TheVariants as type
use Rattle.pq_base.specs.declared.value.Value.{Value}
use Rattle.pq_base.specs.declared.value.Value.TheVariants as value
use Rattle.pq_base.specs.declared.value.DataKind.{DataKind}
use Rattle.pq_base.specs.declared.value.DataKind.TheVariants as kind
use Rattle.pq_base.specs.declared.op.Op.{Op}
use Rattle.pq_base.specs.Comparing.{is_null_test}
use Rattle.pq_base.specs.Values.{IsValue, FitsType, AllFit, fits_type, is_kind, is_null, kind_of_type}
use Rattle.pq_schema.specs.declared.table.Column.{Column}
use Rattle.pq_schema.specs.declared.table.Table.{Table}
use Rattle.pq_content.specs.Tables.{types_of, type_at, types_at, key_types}
use Rattle.pq_index_keep.specs.Checking.{misfit_refusal, are_among, all_columns, default_at, has_value, inserted_value, insert_row, insert_names, insert_places, insert_names_refusal, insert_values_refusal, insert_checked, delete_checked, is_insert_wrong, assign_name, names_in, values_in, keyed_refusal, set_names, cond_names, named_type, fits_setting, is_set_misfit, set_misfit, is_constant, is_cond_misfit, cond_misfit, set_of_def, cond_of_def, key_given}
use Rattle.pq_index_keep.specs.Sound.{is_among, FitsSetting, IsCond, IsSet}
use Rattle.pq_schema.specs.ColumnNames.{is_unknown, place_of, places_of, no_column, unknown_refusal}
use Rattle.pq_schema.specs.Definitions.{refused_if, or_ok}
use Rattle.pq_schema.specs.Resolved.{IsConstant, param_type}
use Rattle.pq_schema.specs.Rows.{no_value}
use Rattle.pq_schema.specs.Sound.{AreDefaults}
use Rattle.pq_base.specs.Answers.{Answers, Passes, or_else}
use Rattle.pq_index_keep.specs.declared.write.Cond.{Cond}
use Rattle.pq_index_keep.specs.declared.write.Write.{Write}
use Rattle.pq_index_keep.specs.declared.write.Write.TheVariants.{Insert, Delete}
use Rattle.pq_base.specs.declared.refusal.Stopped.{Stopped}
use Rattle.pq_base.specs.declared.refusal.Stopped.TheVariants.{Refused, NoMem}
use Rattle.pq_base.proofs.TypeFits.{fits_exact}
use Rattle.pq_def_read.specs.Known.{IsSetting, AreKnown, AreSettings, AreConditions}
use Rattle.pq_def_read.specs.declared.write.Assign.{Assign}
use Rattle.pq_def_read.specs.declared.write.CondDef.{CondDef}
use Rattle.pq_def_read.specs.declared.write.SetDef.{SetDef}
use Rattle.pq_def_read.specs.declared.write.Setting.{Setting}
use Rattle.pq_def_read.specs.declared.write.Setting.TheVariants as setting
use Rattle.pq_index_keep.proofs.Inserting.{each_by, first_none, mapped_none, none_passes}
use Rattle.pq_schema.specs.Keys.{given_value}
use Rattle.std.proofs.lemmas.List.{length-map}

-- where no value is a misfit, a column among those named is given one that fits
pub given_fits : (table : Table) (names : List (List ℕ)) (cols : List ℕ) (values : List Value) (c : ℕ) → misfit_refusal table names cols values ≡ None → length names ≡ length cols → length values ≡ length cols → AllByRecursion IsValue values → is_among cols c ≡ true → FitsType (type_at table.columns c) (given_value cols values c)
given_fits table names [] values c none named long known among = absurd (false≢true among)
given_fits table [] (d ∷ cols) values c none named long known among = absurd (omega arith)
given_fits table (n ∷ names) (d ∷ cols) [] c none named long known among = absurd (omega arith)
given_fits table (n ∷ names) (d ∷ cols) (x ∷ values) c none named long known among =
    elim (fits_type (type_at table.columns d) x) as (λ b. fits_type (type_at table.columns d) x ≡ b → cond b (misfit_refusal table names cols values) (Some (refusal.ValueKind table.name n)) ≡ None → FitsType (type_at table.columns c) (cond (d == c) x (given_value cols values c))) [
      | true ↦ λ fits rest.
          elim (d == c) as (λ b. (d == c) ≡ b → (b || is_among cols c) ≡ true → FitsType (type_at table.columns c) (cond b x (given_value cols values c))) [
            | true ↦ λ is _. subst (λ (k : ℕ). FitsType (type_at table.columns k) x) (eqb-true d c is) (fits_exact (type_at table.columns d) x known.0 fits)
            | false ↦ λ is there. given_fits table names cols values c rest (omega arith) (omega arith) known.1 there
          ] refl among
      | false ↦ λ fits rest. absurd (cc)
    ] refl none

each_column : (p : ℕ → Bool) (k n : ℕ) → list_all p (range_with_len k n) ≡ true → (c : ℕ) → c < n → p (k + c) ≡ true
each_column p k zero all c less = absurd (omega arith)
each_column p k (suc n) all zero less = subst (λ (j : ℕ). p j ≡ true) (omega arith) (first (p k) (list_all p (range_with_len (k + 1) n)) all)
  where
    first : (a b : Bool) → (a && b) ≡ true → a ≡ true
    first true b h = refl
    first false b h = absurd (false≢true h)
each_column p k (suc n) all (suc c) less = subst (λ (j : ℕ). p j ≡ true) (omega arith) (each_column p (k + 1) n (second (p k) (list_all p (range_with_len (k + 1) n)) all) c (omega arith))
  where
    second : (a b : Bool) → (a && b) ≡ true → b ≡ true
    second true b h = h
    second false b h = absurd (false≢true h)

row_of : (ts : List ColType) (f : ℕ → Value) (k : ℕ) → ((c : ℕ) → c < length ts → FitsType (slice_index_or ts c type.Bool) (f (k + c))) → AllFit ts (map f (range_with_len k (length ts)))
row_of [] f k h = tt
row_of (t ∷ ts) f k h = (
  subst (λ (j : ℕ). FitsType t (f j)) (omega arith) (h zero (omega arith)),
  row_of ts f (k + 1) (λ c less. subst (λ (j : ℕ). FitsType (slice_index_or ts c type.Bool) (f j)) (omega arith) (h (suc c) (omega arith))),
)

-- the default of an added column fits it
default_fits : (columns : List Column) (fillers : List (Option Value)) (c : ℕ) → AreDefaults columns fillers → is_some (slice_index_or fillers c None) ≡ true → FitsType (type_at columns c) (unwrap_or (slice_index_or fillers c None) no_value)
default_fits [] [] c defaults some = absurd (false≢true some)
default_fits [] (f ∷ fillers) c defaults some = absurd defaults
default_fits (column ∷ columns) [] c defaults some = absurd defaults
default_fits (column ∷ columns) (f ∷ fillers) zero defaults some = own f defaults.0 some
  where
    own : (f : Option Value) → IfSome f (FitsType column.ty) → is_some f ≡ true → FitsType column.ty (unwrap_or f no_value)
    own None fits some = absurd (false≢true some)
    own (Some default) fits some = fits
default_fits (column ∷ columns) (f ∷ fillers) (suc c) defaults some = default_fits columns fillers c defaults.1 some

-- a column that has a value gets one that fits it
inserted_fits : (table : Table) (names : List (List ℕ)) (places : List ℕ) (values : List Value) (c : ℕ) → has_value table places c ≡ true → length values ≡ length places → length names ≡ length places → misfit_refusal table names places values ≡ None → AllByRecursion IsValue values → AreDefaults table.columns table.fillers → FitsType (type_at table.columns c) (inserted_value table places values c)
inserted_fits table names places values c has long named none known defaults =
    cond_both (is_among places c) (given_value places values c) (unwrap_or (default_at table c) no_value) (FitsType (type_at table.columns c))
    (λ among. given_fits table names places values c none named long known among)
    (λ left_out. default_fits table.columns table.fillers c defaults (either (is_some (default_at table c)) (is_among places c) left_out has))
  where
    either : (a b : Bool) → b ≡ false → (a || b) ≡ true → a ≡ true
    either true b left_out has = refl
    either false b left_out has = absurd (false≢true (sym left_out ∙ has))

-- the row of an INSERT fits its table
pub insert_fits : (table : Table) (names : List (List ℕ)) (places : List ℕ) (values : List Value) → list_all (has_value table places) (all_columns table) ≡ true → length values ≡ length places → length names ≡ length places → misfit_refusal table names places values ≡ None → AllByRecursion IsValue values → AreDefaults table.columns table.fillers → AllFit (types_of table) (insert_row table places values)
insert_fits table names places values all long named none known defaults =
    let types : length (types_of table) ≡ length table.columns = length-map table.columns (λ (column : Column). column.ty) in
    subst (λ (n : ℕ). AllFit (types_of table) (map (inserted_value table places values) (range_with_len 0 n))) types
    (row_of (types_of table) (inserted_value table places values) 0 (λ c less. subst (λ (j : ℕ). FitsType (type_at table.columns c) (inserted_value table places values j)) (omega arith)
    (inserted_fits table names places values c (subst (λ (j : ℕ). has_value table places j ≡ true) (omega arith) (each_column (has_value table places) 0 (length table.columns) all c (omega arith))) long named none known defaults)))

-- the key of an UPDATE or DELETE fits its columns
pub key_fits : (table : Table) (names : List (List ℕ)) (places : List ℕ) (values : List Value) (key : List ℕ) → are_among key places ≡ true → length values ≡ length places → length names ≡ length places → misfit_refusal table names places values ≡ None → AllByRecursion IsValue values → AllFit (types_at table.columns key) (map (given_value places values) key)
key_fits table names places values [] all long named none known = tt
key_fits table names places values (c ∷ key) all long named none known = (
  given_fits table names places values c none named long known (first (is_among places c) (are_among key places) all),
  key_fits table names places values key (second (is_among places c) (are_among key places) all) long named none known,
)
  where
    first : (a b : Bool) → (a && b) ≡ true → a ≡ true
    first true b h = refl
    first false b h = absurd (false≢true h)

    second : (a b : Bool) → (a && b) ≡ true → b ≡ true
    second true b h = h
    second false b h = absurd (false≢true h)

neither : (a b : Bool) → (not a || not b) ≡ false → (a ≡ true) × (b ≡ true)
neither true true h = (refl, refl)
neither true false h = absurd (cc)
neither false b h = absurd (cc)

passed : (wrong : Bool) (why : Refusal) → refused_if wrong why ≡ None → wrong ≡ false
passed true why h = absurd (cc)
passed false why h = refl

-- the row of an INSERT whose columns and values are not refused
pub insert_ok : (table : Table) (names : List (List ℕ)) (places : List ℕ) (values : List Value) (wrong : Bool) (why : Refusal) → wrong ≡ is_insert_wrong table places values → refused_if wrong why ≡ None → misfit_refusal table names places values ≡ None → length names ≡ length places → All IsValue values → AreDefaults table.columns table.fillers → AllFit (types_of table) (insert_row table places values)
insert_ok table names places values wrong why is right none named known defaults =
    let parts = neither (list_all (has_value table places) (all_columns table)) (length values == length places) (sym is ∙ passed wrong why right) in
    insert_fits table names places values parts.0 (eqb-true (length values) (length places) parts.1) named none (each_by IsValue values known) defaults

-- ---- UPDATE and DELETE

or_none : (a b : Option Refusal) → or_else a b ≡ None → (a ≡ None) × (b ≡ None)
or_none None b h = (refl, h)
or_none (Some r) b h = absurd (cc)

either_none : (a b : Bool) → (a || b) ≡ false → (a ≡ false) × (b ≡ false)
either_none true b h = absurd (cc)
either_none false b h = (refl, h)

yes : (b : Bool) → not b ≡ false → b ≡ true
yes true h = refl
yes false h = absurd (cc)

is_int : (k : DataKind) → is_kind k kind.Int ≡ true → k ≡ kind.Int
is_int kind.Int h = refl
is_int kind.Bool h = absurd (cc)
is_int kind.Text h = absurd (cc)

setting_fits : (ty : ColType) (to : Setting) → IsSetting to → fits_setting ty to ≡ true → FitsSetting ty to
setting_fits ty (setting.Is value) known fits = fits_exact ty value known fits
setting_fits ty (setting.Add number) known fits = (is_int (kind_of_type ty) fits, known)

sets_ok : (table : Table) (sets : List SetDef) → unknown_refusal table.columns (set_names sets) ≡ None → list_any (is_among table.key) (places_of table.columns (set_names sets)) ≡ false → set_misfit table sets ≡ None → AllByRecursion (λ (set : SetDef). IsSetting set.to) sets → AllByRecursion (IsSet table) (map (set_of_def table) sets)
sets_ok table [] known other none values = tt
sets_ok table (set ∷ sets) known other none values =
    let here = first_none (is_unknown table.columns) no_column set.col (set_names sets) known in
    let apart = either_none (is_among table.key (place_of table.columns set.col)) (list_any (is_among table.key) (places_of table.columns (set_names sets))) other in
    let fits = first_none (is_set_misfit table) (λ (s : SetDef). refusal.ValueKind table.name s.col) set sets none in (
      record {
        inside = place_within table.columns set.col here.0;
        fits = setting_fits (named_type table set.col) set.to values.0 (yes (fits_setting (named_type table set.col) set.to) fits.0);
        other = apart.0;
      },
      sets_ok table sets here.1 apart.1 fits.1 values.1,
    )

null_is : (x : Value) → is_null x ≡ true → x ≡ value.Null
null_is value.Null h = refl
null_is (value.Int n) h = absurd (cc)
null_is (value.Bool b) h = absurd (cc)
null_is (value.Text t) h = absurd (cc)

constant_is : (o : Op) (ty : ColType) (x : Value) → IsValue x → is_constant o ty x ≡ true → IsConstant o ty x
constant_is o ty x known h = by (is_null_test o) refl h
  where
    by : (b : Bool) → is_null_test o ≡ b → cond b (is_null x) (fits_type ty x) ≡ true → IsConstant o ty x
    by true is null = (λ test. absurd (false≢true (sym test ∙ is)), λ test. null_is x null)
    by false is fits = (λ test. fits_exact ty x known fits, λ test. absurd (false≢true (sym is ∙ test)))

conds_each : (table : Table) (conds : List CondDef) → unknown_refusal table.columns (cond_names conds) ≡ None → AllByRecursion (λ (cond : CondDef). is_cond_misfit table cond ≡ false) conds → AllByRecursion (λ (cond : CondDef). IsValue cond.value) conds → AllByRecursion (IsCond table) (map (cond_of_def table) conds)
conds_each table [] known fit values = tt
conds_each table (cond ∷ conds) known fit values =
    let here = first_none (is_unknown table.columns) no_column cond.col (cond_names conds) known in
    let ty = param_type (named_type table cond.col) in (
      record {
        inside = place_within table.columns cond.col here.0;
        constant = constant_is cond.op ty cond.value values.0 (yes (is_constant cond.op ty cond.value) fit.0);
      },
      conds_each table conds here.1 fit.1 values.1,
    )

conds_ok : (table : Table) (conds : List CondDef) → unknown_refusal table.columns (cond_names conds) ≡ None → cond_misfit table conds ≡ None → AreConditions conds → AllByRecursion (IsCond table) (map (cond_of_def table) conds)
conds_ok table conds known none values =
    conds_each table conds known (none_passes (is_cond_misfit table) conds (mapped_none (λ (place : ℕ). refusal.OperandKind (place + 1)) _ none)) (each_by (λ (cond : CondDef). IsValue cond.value) conds values)

known_values_in : (assigns : List Assign) → AllByRecursion (λ (a : Assign). IsValue a.value) assigns → AllByRecursion IsValue (values_in assigns)
known_values_in [] h = tt
known_values_in (a ∷ assigns) h = (h.0, known_values_in assigns h.1)

-- what no refusal says of the columns that are set, of the key and of the conditions
pub record IsKeyed (table : Table) (sets : List SetDef) (key : List Assign) (conds : List CondDef) : Type 0 where
  pub each : AllByRecursion (IsSet table) (map (set_of_def table) sets)
  pub fits : AllFit (key_types table) (key_given table key)
  pub tested : AllByRecursion (IsCond table) (map (cond_of_def table) conds)

pub keyed_ok : (table : Table) (sets : List SetDef) (key : List Assign) (conds : List CondDef) → keyed_refusal table sets key conds ≡ None → AreSettings sets → AreKnown key → AreConditions conds
    → IsKeyed table sets key conds
keyed_ok table sets key conds none known_sets known_key known_conds =
    let names = or_none _ _ none in
    let unknown = or_none _ _ names.0 in
    let unknown_key = or_none _ _ unknown.1 in
    let unknown_conds = or_none _ _ unknown_key.1 in
    let values = or_none _ _ names.1 in
    let fits = or_none _ _ values.1 in
    let rest = or_none _ _ fits.1 in
    let wrong = passed _ _ values.0 in
    let first = either_none (list_any (is_among table.key) (places_of table.columns (set_names sets)) || not (are_among table.key (places_of table.columns (names_in key)))) (not (are_among (places_of table.columns (names_in key)) table.key)) wrong in
    let second = either_none (list_any (is_among table.key) (places_of table.columns (set_names sets))) (not (are_among table.key (places_of table.columns (names_in key)))) first.0 in
    let long : length (values_in key) ≡ length (places_of table.columns (names_in key)) = length-map key (λ (a : Assign). a.value) ∙ sym (length-map key assign_name) ∙ sym (length-map (names_in key) (place_of table.columns)) in
    record {
      each = sets_ok table sets unknown.0 second.0 fits.0 (each_by (λ (set : SetDef). IsSetting set.to) sets known_sets);
      fits = key_fits table (names_in key) (places_of table.columns (names_in key)) (values_in key) table.key (yes (are_among table.key (places_of table.columns (names_in key))) second.1) long (sym (length-map (names_in key) (place_of table.columns))) rest.0 (known_values_in key (each_by (λ (a : Assign). IsValue a.value) key known_key));
      tested = conds_ok table conds unknown_conds.0 rest.1 known_conds;
    }

pub few_conds : (table : Table) (conds : List CondDef) → length conds ≤ 16 → length (map (cond_of_def table) conds) ≤ 16
few_conds table conds few = let same = length-map conds (cond_of_def table) in omega (arith, same, few)

pub short_code : (n : ℕ) (why : Refusal) → refused_if (nat_lt 4096 n) why ≡ None → n ≤ 4096
short_code n why h = ltb-false 4096 n (passed (nat_lt 4096 n) why h)

pub as_many_names : (table : Table) (cols : Option (List (List ℕ))) → length (insert_names table cols) ≡ length (insert_places table cols)
as_many_names table None = length-map table.columns (λ (column : Column). column.name) ∙ sym (range_length 0 (length table.columns))
  where
    range_length : (k n : ℕ) → length (range_with_len k n) ≡ n
    range_length k zero = refl
    range_length k (suc n) = ap suc (range_length (k + 1) n)
as_many_names table (Some names) = sym (length-map names (place_of table.columns))

-- a refusal that comes after no refusal
pub refused_after : {X Y : Type 0} (stopped : Stopped) (a b : Option Refusal) (x : X) (y : Y) → a ≡ None → Answers (Err stopped) (or_ok b x) → Answers (Err stopped) (or_ok (or_else a b) y)
refused_after NoMem a b x y none h = tt
refused_after (Refused r) (Some q) b x y none h = absurd (cc)
refused_after (Refused r) None None x y none h = absurd (cc)
refused_after (Refused r) None (Some q) x y none h = ap Err (same q r h)
  where
    same : (q r : Refusal) → or_ok (Some q) x ≡ Err r → q ≡ r
    same q r h = cc

pub insert_err : (table other : Table) (t : ℕ) (cols : Option (List (List ℕ))) (values : List Value) (stopped : Stopped) → table ≡ other → insert_names_refusal table cols ≡ None
    → Answers {A = List Value} (Err stopped) (or_ok (insert_values_refusal table (insert_names table cols) (insert_places table cols) values) (insert_row table (insert_places table cols) values)) → Answers {A = Write} (Err stopped) (insert_checked other t cols values)
insert_err table other t cols values stopped is none h =
    subst (λ (tb : Table). Answers {A = Write} (Err stopped) (insert_checked tb t cols values)) is
    (refused_after {X = List Value} {Y = Write} stopped (insert_names_refusal table cols) (insert_values_refusal table (insert_names table cols) (insert_places table cols) values) (insert_row table (insert_places table cols) values) (Insert t (insert_row table (insert_places table cols) values)) none h)

pub delete_err : (table other : Table) (t : ℕ) (key : List Assign) (conds : List CondDef) (stopped : Stopped) → table ≡ other → Passes {A = Unit {0}} (Err stopped) (keyed_refusal table [] key conds) → Answers {A = Write} (Err stopped) (delete_checked other t key conds)
delete_err table other t key conds stopped is h = subst (λ (tb : Table). Answers {A = Write} (Err stopped) (delete_checked tb t key conds)) is (by stopped (keyed_refusal table [] key conds) h)
  where
    by : (stopped : Stopped) (o : Option Refusal) → Passes {A = Unit {0}} (Err stopped) o → Answers {A = Write} (Err stopped) (or_ok o (Delete t (key_given table key) (map (cond_of_def table) conds)))
    by NoMem o h = tt
    by (Refused r) o h = ap (λ (q : Option Refusal). or_ok q (Delete t (key_given table key) (map (cond_of_def table) conds))) h

pub delete_ok : (table other : Table) (t : ℕ) (key : List Assign) (conds : List CondDef) (row : List Value) (made : List Cond) → table ≡ other → keyed_refusal table [] key conds ≡ None → row ≡ key_given table key → made ≡ map (cond_of_def table) conds → delete_checked other t key conds ≡ Ok (Delete t row made)
delete_ok table other t key conds row made is none given made_is =
    subst (λ (tb : Table). delete_checked tb t key conds ≡ Ok (Delete t row made)) is
    (ap (λ (o : Option Refusal). or_ok o (Delete t (key_given table key) (map (cond_of_def table) conds))) none
    ∙ ap (λ (r : List Value). Ok (Delete t r (map (cond_of_def table) conds))) (sym given) ∙ ap (λ (cs : List Cond). Ok (Delete t row cs)) (sym made_is))
