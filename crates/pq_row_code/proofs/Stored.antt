-- A stored row tells the row: what is read has the code that was read, and a code is read again.
use Rattle.std.proofs.Common.{◌≡◌, ℕ, zero, suc, ◌+◌, ◌-◌, ◌≤◌, ◌<◌, Bool, true, false, cond, eqb, ltb, List, [], ◌∷◌, ◌++◌, length, take, drop, Option, Some, None, refl, sym, ap, subst, ◌∙◌, append_assoc, arith, inl, inr}
use Rattle.std.specs.Prelude.{◌||◌, Result, Ok, Err, IfOk, IfSome, IfNone, All}
use Rattle.std.proofs.lemmas.Bool.{false≢true, eqb-true, eq-eqb, ltb-true, ltb-false, lt-ltb, le-ltb}
use Rattle.std.proofs.lemmas.List.{append-nil, length-take-le, length-append, take-append-drop, take_at, take_all, drop_all}
use Rattle.std.proofs.lemmas.List.Elements.{All-head, All-tail, All-take}
use Rattle.std.proofs.lemmas.Option.{same_Some}
use Rattle.pq_base.specs.declared.value.Value.{Value}
use Rattle.pq_base.specs.declared.value.ColType.{ColType}
use Rattle.pq_base.specs.Shapes.{RowShape}
use Rattle.pq_base.specs.Values.{IsType, IsValue, AllFit, fits_type, is_null, has_null}
use Rattle.pq_base.proofs.SameValues.{value_decides}
use Rattle.pq_base.proofs.TypeFits.{length_from_fits, fits_exact, fits_again}
use Rattle.pq_key_code.specs.KeyCode.{IsBytes}
use Rattle.pq_key_code.specs.KeyReading.{◌>>=◌}
use Rattle.pq_key_code.proofs.Reading.{bind_some, chosen, none_some}
use Rattle.pq_row_code.specs.RowCode.{field, fields, null_marks, mark_bytes, row_front, row_code, IsShort}
use Rattle.pq_row_code.specs.RowReading.{row_decoded}
use Rattle.pq_row_code.specs.StoredRow.{is_filler, holds_default, len_below, stored_len, stored_row, code_as, AreFillers, columns_told, with_defaults, of_stored_len, filled, short_decoded, filled_decoded}
use Rattle.pq_row_code.proofs.Fronts.{code_len}
use Rattle.pq_row_code.proofs.Rows.{row_takes, row_again}

-- ---- how many columns are stored

below_inside : (fillers : List (Option Value)) (row : List Value) (n : ℕ) → len_below fillers row n ≤ n
below_inside fillers row zero = omega arith
below_inside fillers row (suc n) = by (holds_default fillers row n) (below_inside fillers row n)
  where
    by : (b : Bool) → len_below fillers row n ≤ n → cond b (len_below fillers row n) (suc n) ≤ suc n
    by true less = omega arith
    by false less = omega arith

-- the columns that are left out hold their defaults
below_hold : (fillers : List (Option Value)) (row : List Value) (n i : ℕ) → len_below fillers row n ≤ i → i < n → holds_default fillers row i ≡ true
below_hold fillers row zero i low lt = absurd (omega arith)
below_hold fillers row (suc n) i low lt = by (holds_default fillers row n) refl (below_hold fillers row n i) low
  where
    here : (b : Bool) → ltb i n ≡ b → (i < n → holds_default fillers row i ≡ true) → holds_default fillers row n ≡ true → holds_default fillers row i ≡ true
    here true is before holds = before (ltb-true i n is)
    here false is before holds = subst (λ (k : ℕ). holds_default fillers row k ≡ true) (let high = ltb-false i n is in omega arith) holds

    by : (b : Bool) → holds_default fillers row n ≡ b → (len_below fillers row n ≤ i → i < n → holds_default fillers row i ≡ true) → cond b (len_below fillers row n) (suc n) ≤ i → holds_default fillers row i ≡ true
    by true holds before low = here (ltb i n) refl (before low) holds
    by false holds before low = absurd (omega (arith, low, lt))

pub stored_inside : (fillers : List (Option Value)) (row : List Value) → stored_len fillers row ≤ length row
stored_inside fillers row = by (ltb 32 (length row))
  where
    by : (b : Bool) → cond b (length row) (len_below fillers row (length row)) ≤ length row
    by true = omega arith
    by false = below_inside fillers row (length row)

pub stored_long : (fillers : List (Option Value)) (row : List Value) → length (stored_row fillers row) ≡ stored_len fillers row
stored_long fillers row = length-take-le (stored_len fillers row) row (stored_inside fillers row)

-- as many as there are, of more than 32
many_stored : (fillers : List (Option Value)) (row : List Value) → 32 < length row → stored_row fillers row ≡ row
many_stored fillers row many = ap (λ b. take (cond b (length row) (len_below fillers row (length row))) row) (lt-ltb 32 (length row) many) ∙ take_all (length row) row (omega arith)

few_stored : (fillers : List (Option Value)) (row : List Value) → length row ≤ 32 → stored_len fillers row ≡ len_below fillers row (length row)
few_stored fillers row few = ap (λ b. cond b (length row) (len_below fillers row (length row))) (le-ltb 32 (length row) few)

pub stored_few : (fillers : List (Option Value)) (row : List Value) → length row ≤ 32 → length (stored_row fillers row) ≤ 32
stored_few fillers row few = let long = stored_long fillers row in let inside = stored_inside fillers row in omega arith

pub stored_short : (fillers : List (Option Value)) (row : List Value) → All IsShort row → All IsShort (stored_row fillers row)
stored_short fillers row short = All-take IsShort (stored_len fillers row) row short

-- ---- columns that all hold their defaults

abbrev AllHold : List (Option Value) → List Value → Type 0
AllHold fillers [] = Unit {0}
AllHold [] (x ∷ xs) = ⊥
AllHold (filler ∷ fillers) (x ∷ xs) = (is_filler filler x ≡ true) × AllHold fillers xs

hold_behind : (n : ℕ) (fillers : List (Option Value)) (row : List Value) → ((i : ℕ) → n ≤ i → i < length row → holds_default fillers row i ≡ true) → AllHold (drop n fillers) (drop n row)
hold_behind zero fillers [] each = tt
hold_behind zero [] (x ∷ xs) each = absurd (false≢true (each 0 (omega arith) (omega arith)))
hold_behind zero (filler ∷ fillers) (x ∷ xs) each = (each 0 (omega arith) (omega arith), hold_behind zero fillers xs (λ i low lt. each (suc i) (omega arith) (omega arith)))
hold_behind (suc n) fillers [] each = tt
hold_behind (suc n) [] (x ∷ xs) each = subst (λ (fillers : List (Option Value)). AllHold fillers (drop n xs)) (drop_all n [] (omega arith)) (hold_behind n [] xs (λ i low lt. each (suc i) (omega arith) (omega arith)))
hold_behind (suc n) (filler ∷ fillers) (x ∷ xs) each = hold_behind n fillers xs (λ i low lt. each (suc i) (omega arith) (omega arith))

-- the columns behind the stored row
left_hold : (fillers : List (Option Value)) (row : List Value) → length row ≤ 32 → AllHold (drop (stored_len fillers row) fillers) (drop (stored_len fillers row) row)
left_hold fillers row few =
    hold_behind (stored_len fillers row) fillers row
    (λ i low lt. below_hold fillers row (length row) i (let same = few_stored fillers row few in omega arith) lt)

-- ---- fitting columns by parts

fits_take : (n : ℕ) (ts : List ColType) (xs : List Value) → AllFit ts xs → AllFit (take n ts) (take n xs)
fits_take zero ts xs fits = tt
fits_take (suc n) [] [] fits = tt
fits_take (suc n) [] (x ∷ xs) fits = absurd fits
fits_take (suc n) (t ∷ ts) [] fits = absurd fits
fits_take (suc n) (t ∷ ts) (x ∷ xs) fits = (fits.0, fits_take n ts xs fits.1)

fits_drop : (n : ℕ) (ts : List ColType) (xs : List Value) → AllFit ts xs → AllFit (drop n ts) (drop n xs)
fits_drop zero ts xs fits = fits
fits_drop (suc n) [] [] fits = tt
fits_drop (suc n) [] (x ∷ xs) fits = absurd fits
fits_drop (suc n) (t ∷ ts) [] fits = absurd fits
fits_drop (suc n) (t ∷ ts) (x ∷ xs) fits = fits_drop n ts xs fits.1

fits_both : (ts us : List ColType) (xs ys : List Value) → AllFit ts xs → AllFit us ys → AllFit (ts ++ us) (xs ++ ys)
fits_both [] us [] ys f g = g
fits_both [] us (x ∷ xs) ys f g = absurd f
fits_both (t ∷ ts) us [] ys f g = absurd f
fits_both (t ∷ ts) us (x ∷ xs) ys f g = (f.0, fits_both ts us xs ys f.1 g)

-- ---- the defaults behind a row

default_is : (filler : Option Value) (x : Value) → is_filler filler x ≡ true → filler ≡ Some x
default_is None x holds = absurd (false≢true holds)
default_is (Some default) x holds = ap Some ((value_decides default x).0 holds)

defaults_again : (ts : List ColType) (fillers : List (Option Value)) (front xs : List Value) → AllFit ts xs → AllHold fillers xs → with_defaults ts fillers front ≡ Some (front ++ xs)
defaults_again [] fillers front [] fits hold = ap Some (sym (append-nil front))
defaults_again [] fillers front (x ∷ xs) fits hold = absurd fits
defaults_again (t ∷ ts) fillers front [] fits hold = absurd fits
defaults_again (t ∷ ts) [] front (x ∷ xs) fits hold = absurd hold
defaults_again (t ∷ ts) (filler ∷ fillers) front (x ∷ xs) fits hold =
    ap (λ (f : Option Value). with_defaults (t ∷ ts) (f ∷ fillers) front) (default_is filler x hold.0)
    ∙ ap (λ b. cond b (with_defaults ts fillers (front ++ x ∷ [])) None) (fits_again t x fits.0)
    ∙ defaults_again ts fillers (front ++ x ∷ []) xs fits.1 hold.1
    ∙ ap Some (append_assoc front (x ∷ []) xs)

-- what stands behind the row
record AreBehind (ts : List ColType) (front xs : List Value) : Type 0 where
  pub rest : List Value
  pub is : xs ≡ front ++ rest
  pub fits : AllFit ts rest

defaults_take : (ts : List ColType) (fillers : List (Option Value)) (front xs : List Value) → AreFillers fillers → with_defaults ts fillers front ≡ Some xs → AreBehind ts front xs
defaults_take [] fillers front xs known e = record { rest = []; is = sym (same_Some _ _ e) ∙ sym (append-nil front); fits = tt }
defaults_take (t ∷ ts) [] front xs known e = none_some _ e
defaults_take (t ∷ ts) (None ∷ fillers) front xs known e = none_some _ e
defaults_take (t ∷ ts) (Some default ∷ fillers) front xs known e =
    elim (chosen (fits_type t default) (with_defaults ts fillers (front ++ default ∷ [])) None (Some xs) e) [
      | inl h ↦
          let behind = defaults_take ts fillers (front ++ default ∷ []) xs (All-tail (λ filler. IfSome filler IsValue) (Some default) fillers known) h.1 in
          record {
            rest = default ∷ behind.rest;
            is = behind.is ∙ append_assoc front (default ∷ []) behind.rest;
            fits = (fits_exact t default (All-head (λ filler. IfSome filler IsValue) (Some default) fillers known) h.0, behind.fits);
          }
      | inr h ↦ none_some _ h.1
    ]

-- ---- the number of columns

told_by : (n marks : ℕ) (rest : List ℕ) → n ≤ 32 → columns_told (row_front n marks ++ rest) ≡ n
told_by n marks rest few = by (eqb marks 0)
  where
    by : (b : Bool) → columns_told (cond b (n ∷ []) ((n + 64) ∷ mark_bytes marks) ++ rest) ≡ n
    by true = ap (λ b. cond b n (n - 64)) (lt-ltb n 64 (omega arith))
    by false = let back : n + 64 - 64 ≡ n = omega arith in ap (λ b. cond b (n + 64) (n + 64 - 64)) (le-ltb (n + 64) 64 (omega arith)) ∙ back

columns_again : (xs : List Value) → length xs ≤ 32 → columns_told (row_code xs) ≡ length xs
columns_again xs few = told_by (length xs) (null_marks xs) (fields xs) few

-- ---- rows

of_len : (fillers : List (Option Value)) (n : ℕ) (row : List Value) → stored_len fillers row ≡ n → of_stored_len fillers n row ≡ Some row
of_len fillers n row is = ap (λ b. cond b (Some row) None) (eq-eqb (stored_len fillers row) n is)

few_again : (shape : RowShape) (xs : List Value) → length xs ≤ 32 → All IsType shape.types → AllFit shape.types xs → short_decoded shape (stored_len shape.fillers xs) (code_as shape xs) ≡ Some xs
unfolding short_decoded filled
few_again shape xs few w fits =
    let n = stored_len shape.fillers xs in
    let long : n ≤ length shape.types = (let inside = stored_inside shape.fillers xs in let same = length_from_fits shape.types xs fits in omega arith) in
    let front : row_decoded (take n shape.types) (row_code (take n xs)) ≡ Some (take n xs) = row_again (take n shape.types) (take n xs) (All-take IsType n shape.types w) (fits_take n shape.types xs fits) in
    let behind : with_defaults (drop n shape.types) (drop n shape.fillers) (take n xs) ≡ Some xs =
    defaults_again (drop n shape.types) (drop n shape.fillers) (take n xs) (drop n xs) (fits_drop n shape.types xs fits) (left_hold shape.fillers xs few)
    ∙ ap Some (take-append-drop n xs) in
    ap (λ b. cond b None (row_decoded (take n shape.types) (row_code (take n xs)) >>= filled shape n)) (le-ltb (length shape.types) n long)
    ∙ ap (λ (o : Option (List Value)). o >>= filled shape n) front
    ∙ ap (λ (o : Option (List Value)). o >>= of_stored_len shape.fillers n) behind
    ∙ of_len shape.fillers n xs refl

-- a row that fits is read again from its code
pub filled_again : (shape : RowShape) (xs : List Value) → All IsType shape.types → AllFit shape.types xs → filled_decoded shape (code_as shape xs) ≡ Some xs
unfolding filled_decoded
filled_again shape xs w fits = by (ltb 32 (length shape.types)) refl
  where
    same : length xs ≡ length shape.types
    same = length_from_fits shape.types xs fits

    by : (b : Bool) → ltb 32 (length shape.types) ≡ b → cond b (row_decoded shape.types (code_as shape xs)) (short_decoded shape (columns_told (code_as shape xs)) (code_as shape xs)) ≡ Some xs
    by true many = ap (λ (row : List Value). row_decoded shape.types (row_code row)) (many_stored shape.fillers xs (let more = ltb-true 32 (length shape.types) many in omega (arith, more, same))) ∙ row_again shape.types xs w fits
    by false is =
        let few : length xs ≤ 32 = (let most = ltb-false 32 (length shape.types) is in omega (arith, most, same)) in
        ap (λ n. short_decoded shape n (code_as shape xs)) (columns_again (stored_row shape.fillers xs) (stored_few shape.fillers xs few) ∙ stored_long shape.fillers xs)
        ∙ few_again shape xs few w fits

few_takes : (shape : RowShape) (n : ℕ) (bs : List ℕ) (xs : List Value) → IsBytes bs → AreFillers shape.fillers → short_decoded shape n bs ≡ Some xs → AllFit shape.types xs × (code_as shape xs ≡ bs)
unfolding short_decoded filled
few_takes shape n bs xs bytes known e =
    elim (chosen (ltb (length shape.types) n) None (row_decoded (take n shape.types) bs >>= filled shape n) (Some xs) e) [
      | inl h ↦ none_some _ h.1
      | inr h ↦
          let few : n ≤ length shape.types = ltb-false (length shape.types) n h.0 in
          let read = bind_some (row_decoded (take n shape.types) bs) (filled shape n) xs h.1 in
          let front = row_takes (take n shape.types) bs read.0 bytes read.1 in
          let made = bind_some (with_defaults (drop n shape.types) (drop n shape.fillers) read.0) (of_stored_len shape.fillers n) xs read.2 in
          elim (chosen (eqb (stored_len shape.fillers made.0) n) (Some made.0) None (Some xs) made.2) [
            | inl k ↦
                let same : made.0 ≡ xs = same_Some _ _ k.1 in
                let behind = defaults_take (drop n shape.types) (drop n shape.fillers) read.0 made.0 (known_drop n shape.fillers known) made.1 in
                let long : length read.0 ≡ n = length_from_fits (take n shape.types) read.0 front.0 ∙ length-take-le n shape.types few in
                let fits : AllFit shape.types made.0 =
                subst (λ (ts : List ColType). AllFit ts made.0) (take-append-drop n shape.types)
                (subst (AllFit (take n shape.types ++ drop n shape.types)) (sym behind.is) (fits_both (take n shape.types) (drop n shape.types) read.0 behind.rest front.0 behind.fits)) in
                let own : stored_row shape.fillers made.0 ≡ read.0 =
                ap (λ (m : ℕ). take m made.0) (eqb-true (stored_len shape.fillers made.0) n k.0)
                ∙ ap (take n) behind.is
                ∙ take_at read.0 behind.rest n long in
                subst (λ (row : List Value). AllFit shape.types row × (code_as shape row ≡ bs)) same (fits, ap row_code own ∙ front.1)
            | inr k ↦ none_some _ k.1
          ]
    ]
  where
    known_drop : (n : ℕ) (fillers : List (Option Value)) → AreFillers fillers → AreFillers (drop n fillers)
    known_drop zero fillers known = known
    known_drop (suc n) [] known = known
    known_drop (suc n) (filler ∷ fillers) known = known_drop n fillers (All-tail (λ filler. IfSome filler IsValue) filler fillers known)

-- what is read fits, and has the code that was read
pub filled_takes : (shape : RowShape) (bs : List ℕ) (xs : List Value) → IsBytes bs → AreFillers shape.fillers → filled_decoded shape bs ≡ Some xs → AllFit shape.types xs × (code_as shape xs ≡ bs)
unfolding filled_decoded
filled_takes shape bs xs bytes known e =
    elim (chosen (ltb 32 (length shape.types)) (row_decoded shape.types bs) (short_decoded shape (columns_told bs) bs) (Some xs) e) [
      | inl h ↦
          let whole = row_takes shape.types bs xs bytes h.1 in
          let more : 32 < length xs = (let many = ltb-true 32 (length shape.types) h.0 in let same = length_from_fits shape.types xs whole.0 in omega arith) in
          (whole.0, ap row_code (many_stored shape.fillers xs more) ∙ whole.1)
      | inr h ↦ few_takes shape (columns_told bs) bs xs bytes known h.1
    ]

-- ---- what callers build on

-- the code tells the row among the rows that fit
pub code_as_injective : (shape : RowShape) (xs ys : List Value) → All IsType shape.types → AllFit shape.types xs → AllFit shape.types ys → code_as shape xs ≡ code_as shape ys → xs ≡ ys
code_as_injective shape xs ys w f g e = same_Some xs ys (sym (filled_again shape xs w f) ∙ ap (filled_decoded shape) e ∙ filled_again shape ys w g)

null_before : (n : ℕ) (row : List Value) → has_null (take n row) ≡ true → has_null row ≡ true
null_before zero row some = absurd (false≢true some)
null_before (suc n) [] some = absurd (false≢true some)
null_before (suc n) (x ∷ row) some = by (is_null x) (null_before n row) some
  where
    by : (b : Bool) → (has_null (take n row) ≡ true → has_null row ≡ true) → (b || has_null (take n row)) ≡ true → (b || has_null row) ≡ true
    by true before some = refl
    by false before some = before some

fewer_fields : (n : ℕ) (row : List Value) → length (fields (take n row)) ≤ length (fields row)
fewer_fields zero row = omega arith
fewer_fields (suc n) [] = omega arith
fewer_fields (suc n) (x ∷ row) =
    let front = length-append (field x) (fields (take n row)) in
    let whole = length-append (field x) (fields row) in
    let rest = fewer_fields n row in
    omega arith

-- a stored row's code isn't longer than that of the whole row
pub shorter_code : (shape : RowShape) (row : List Value) → length (code_as shape row) ≤ length (row_code row)
shorter_code shape row =
    let n = stored_len shape.fillers row in
    let front = code_len (take n row) (cond (has_null (take n row)) 5 1) (length (fields (take n row))) refl refl in
    let whole = code_len row (cond (has_null row) 5 1) (length (fields row)) refl refl in
    let fewer = fewer_fields n row in
    let lower : cond (has_null (take n row)) 5 1 ≤ cond (has_null row) 5 1 = by (has_null (take n row)) refl in
    omega arith
  where
    by : (b : Bool) → has_null (take (stored_len shape.fillers row) row) ≡ b → cond b 5 1 ≤ cond (has_null row) 5 1
    by true some = subst (λ b. 5 ≤ cond b 5 1) (sym (null_before (stored_len shape.fillers row) row some)) (omega arith)
    by false none = least (has_null row)
      where
        least : (b : Bool) → 1 ≤ cond b 5 1
        least true = omega arith
        least false = omega arith

-- ---- as the calls do it

pub is_filled : {E : Type 0} (shape : RowShape) (bs : List ℕ) (r : Result (Option (List Value)) E) → IsBytes bs → AreFillers shape.fillers → IfOk r (λ o. o ≡ filled_decoded shape bs) → IfOk r (λ o. IfSome o (λ row. AllFit shape.types row × (code_as shape row ≡ bs)))
is_filled shape bs (Ok (Some row)) bytes known h = filled_takes shape bs row bytes known (sym h)
is_filled shape bs (Ok None) bytes known h = tt
is_filled shape bs (Err e) bytes known h = tt

pub is_none_filled : {E : Type 0} (shape : RowShape) (bs : List ℕ) (r : Result (Option (List Value)) E) → All IsType shape.types → IfOk r (λ o. o ≡ filled_decoded shape bs) → IfOk r (λ o. IfNone o ((xs : List Value) → AllFit shape.types xs → code_as shape xs ≡ bs → ⊥))
is_none_filled shape bs (Ok (Some row)) w h = tt
is_none_filled shape bs (Ok None) w h = λ xs fits e. none_some xs (h ∙ ap (filled_decoded shape) (sym e) ∙ filled_again shape xs w fits)
is_none_filled shape bs (Err e) w h = tt
