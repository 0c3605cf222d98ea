-- What is read has the code that was read, and a code is read again.
use Rattle.std.proofs.Common.{◌≡◌, ℕ, zero, suc, ◌+◌, ◌*◌, ◌/◌, ◌%◌, ◌^◌, ◌≤◌, ◌<◌, Bool, true, false, cond, eqb, ltb, List, [], ◌∷◌, ◌++◌, length, take, drop, get_or, Option, Some, None, refl, sym, ap, subst, ◌∙◌, append_assoc, arith, inl, inr}
use Rattle.std.specs.Prelude.{T, ℤ, ◌⊎◌, IsUtf8, FitsSigned, Result, Ok, Err, IfOk, IfSome, IfNone}
use Rattle.std.specs.Int.{w16, w64, to_be_bytes, cast_signed, cast_unsigned}
use Rattle.std.proofs.lemmas.Bool.{false≢true, ne_eqb, eq-eqb, eqb-true, eqb-false, ltb-false, le-ltb}
use Rattle.std.proofs.lemmas.Int.{ints, of_z-to_z, to_z-of_z}
use Rattle.std.proofs.lemmas.List.{append-nil, length-take, length-append, take-append-drop, take_at, drop_at, drop_more, drop_all, nil_from_length}
use Rattle.std.proofs.lemmas.List.Elements.{All-head, All-tail}
use Rattle.std.specs.Prelude.{All}
use Rattle.std.proofs.lemmas.Option.{same_Some}
use Rattle.pq_base.specs.declared.value.Value.{Value}
use Rattle.pq_base.specs.declared.value.Value.TheVariants as values
use Rattle.pq_base.specs.declared.value.ColType.{ColType}
use Rattle.pq_base.specs.declared.value.DataKind.{DataKind}
use Rattle.pq_base.specs.declared.value.DataKind.TheVariants as kinds
use Rattle.pq_base.specs.Values.{IsType, FitsType, AllFit, IsOfDataKind, kind_of_type, is_nullable, room_of}
use Rattle.pq_key_code.specs.KeyCode.{IsBytes, truth_byte}
use Rattle.pq_key_code.specs.KeyReading.{◌>>=◌, text_within}
use Rattle.pq_key_code.proofs.Loop.{rows_behind, rows_regroup}
use Rattle.pq_key_code.proofs.Reading.{IsBytes-drop, bind_some, chosen, none_some, guarded, Takes, checked_is, checked_again}
use Rattle.pq_base.proofs.TypeFits.{length_from_fits}
use Rattle.pq_row_code.specs.RowCode.{field, fields, mark_of, null_marks, mark_bytes, row_front, row_code}
use Rattle.pq_row_code.proofs.Widths.{Takes-then, wide16, wide64, bits_takes, bits_again}
use Rattle.pq_row_code.specs.RowReading.{bits_at, flag_at, string_at, field_at, cell_at, fields_at, marks_at, front_at, row_decoded}

signed_fits : (n : ℕ) → n < 2 ^ 64 → FitsSigned w64 (cast_signed w64 n)
signed_fits n lt = omega (arith, ints)

-- ---- truth values

flag_takes : (bs : List ℕ) (b : Bool) (rest : List ℕ) → IsBytes bs → flag_at bs ≡ Some (b, rest) → Takes bs (truth_byte b ∷ []) rest
flag_takes [] b rest f e = none_some _ e
flag_takes (c ∷ bs) b rest f e =
    elim (chosen (eqb c 0) (Some (false, bs)) (cond (eqb c 1) (Some (true, bs)) None) (Some (b, rest)) e) [
      | inl h ↦ subst (λ (x : Bool × List ℕ). Takes (c ∷ bs) (truth_byte x.0 ∷ []) x.1) (same_Some _ _ h.1) (record { parts = ap (λ (k : ℕ). k ∷ bs) (eqb-true _ _ h.0); rest_fits = f.1 })
      | inr h ↦ elim (chosen (eqb c 1) (Some (true, bs)) None (Some (b, rest)) h.1) [
        | inl k ↦ subst (λ (x : Bool × List ℕ). Takes (c ∷ bs) (truth_byte x.0 ∷ []) x.1) (same_Some _ _ k.1) (record { parts = ap (λ (m : ℕ). m ∷ bs) (eqb-true _ _ k.0); rest_fits = f.1 })
        | inr k ↦ none_some _ k.1
      ]
    ]

flag_again : (b : Bool) (rest : List ℕ) → flag_at (truth_byte b ∷ rest) ≡ Some (b, rest)
flag_again false rest = refl
flag_again true rest = refl

-- ---- texts

string_parts : (n : ℕ) (bs : List ℕ) (k : ℕ) (after t rest : List ℕ) → Takes bs (to_be_bytes w16 k) after
    → ((ltb (length after) k ≡ true) × (◌≡◌ {A = Option (List ℕ × List ℕ)} None (Some (t, rest)))) ⊎ ((ltb (length after) k ≡ false) × (◌≡◌ {A = Option (List ℕ × List ℕ)} (text_within n (take k after) >>= λ t. Some (t, drop k after)) (Some (t, rest))))
    → (IsUtf8 t × (length t ≤ n)) × Takes bs (to_be_bytes w16 (length t) ++ t) rest
string_parts n bs k after t rest front (inl h) = none_some _ h.1
string_parts n bs k after t rest front (inr h) =
    let long : k ≤ length after = ltb-false _ _ h.0 in
    let z = bind_some (text_within n (take k after)) (λ t. Some (t, drop k after)) (t, rest) h.1 in
    let c = checked_is n (take k after) z.0 z.1 in
    let len : k ≡ length (take k after) = omega (arith, length-take k after) in
    let second : Takes after (take k after) (drop k after) = record { parts = sym (take-append-drop k after); rest_fits = IsBytes-drop k after front.rest_fits } in
    let both = Takes-then bs (to_be_bytes w16 k) after (take k after) (drop k after) front second in
    let at : (IsUtf8 (take k after) × (length (take k after) ≤ n)) × Takes bs (to_be_bytes w16 (length (take k after)) ++ take k after) (drop k after) =
    (c.0, subst (λ (m : ℕ). Takes bs (to_be_bytes w16 m ++ take k after) (drop k after)) len both) in
    let pair : List ℕ → List ℕ × List ℕ = λ s. (s, drop k after) in
    subst (λ (x : List ℕ × List ℕ). (IsUtf8 x.0 × (length x.0 ≤ n)) × Takes bs (to_be_bytes w16 (length x.0) ++ x.0) x.1) (ap pair c.1 ∙ same_Some _ _ z.2) at

string_takes : (n : ℕ) (bs t rest : List ℕ) → IsBytes bs → string_at n bs ≡ Some (t, rest) → (IsUtf8 t × (length t ≤ n)) × Takes bs (to_be_bytes w16 (length t) ++ t) rest
unfolding string_at
string_takes n bs t rest f e =
    let k = bind_some (bits_at w16 bs) (λ k. cond (ltb (length k.1) k.0) None (text_within n (take k.0 k.1) >>= λ t. Some (t, drop k.0 k.1))) (t, rest) e in
    let b = bits_takes w16 (2 ^ 16) wide16 bs k.0.0 k.0.1 f k.1 in
    string_parts n bs k.0.0 k.0.1 t rest b.0 (chosen (ltb (length k.0.1) k.0.0) None (text_within n (take k.0.0 k.0.1) >>= λ t. Some (t, drop k.0.0 k.0.1)) (Some (t, rest)) k.2)

string_again : (n : ℕ) (t rest : List ℕ) → n < 2 ^ 16 → IsUtf8 t → length t ≤ n → string_at n ((to_be_bytes w16 (length t) ++ t) ++ rest) ≡ Some (t, rest)
unfolding string_at
string_again n t rest lt u le =
    let regrouped : (to_be_bytes w16 (length t) ++ t) ++ rest ≡ to_be_bytes w16 (length t) ++ (t ++ rest) = append_assoc (to_be_bytes w16 (length t)) t rest in
    let long : ltb (length (t ++ rest)) (length t) ≡ false = le-ltb _ _ (omega (arith, length-append t rest)) in
    ap (string_at n) regrouped ∙ rw (bits_again w16 (2 ^ 16) wide16 (length t) (t ++ rest) (omega arith), long, take_at t rest (length t) refl, drop_at t rest (length t) refl, checked_again n t u le) refl

-- ---- fields

-- a text has at most n bytes
abbrev IsWithin : ℕ → Value → Type 0
IsWithin n values.Null = Unit {0}
IsWithin n (values.Int z) = Unit {0}
IsWithin n (values.Bool b) = Unit {0}
IsWithin n (values.Text t) = length t ≤ n

-- a value of a kind that isn't NULL
abbrev IsPlain : DataKind → ℕ → Value → Type 0
IsPlain k n x = (mark_of x ≡ 0) × IsOfDataKind k x × IsWithin n x

field_takes : (k : DataKind) (n : ℕ) (bs : List ℕ) (x : Value) (rest : List ℕ) → IsBytes bs → field_at k n bs ≡ Some (x, rest) → IsPlain k n x × Takes bs (field x) rest
unfolding field_at
field_takes kinds.Int n bs x rest f e =
    let y = bind_some (bits_at w64 bs) (λ x. Some (values.Int (cast_signed w64 x.0), x.1)) (x, rest) e in
    let t = bits_takes w64 (2 ^ 64) wide64 bs y.0.0 y.0.1 f y.1 in
    let at : IsPlain kinds.Int n (values.Int (cast_signed w64 y.0.0)) × Takes bs (field (values.Int (cast_signed w64 y.0.0))) y.0.1 =
    ((refl, signed_fits y.0.0 t.1, tt), subst (λ (k : ℕ). Takes bs (to_be_bytes w64 k) y.0.1) (sym (of_z-to_z w64 y.0.0 t.1)) t.0) in
    subst (λ (x : Value × List ℕ). IsPlain kinds.Int n x.0 × Takes bs (field x.0) x.1) (same_Some _ _ y.2) at
field_takes kinds.Bool n bs x rest f e =
    let y = bind_some (flag_at bs) (λ x. Some (values.Bool x.0, x.1)) (x, rest) e in
    let at : IsPlain kinds.Bool n (values.Bool y.0.0) × Takes bs (field (values.Bool y.0.0)) y.0.1 = ((refl, tt, tt), flag_takes bs y.0.0 y.0.1 f y.1) in
    subst (λ (x : Value × List ℕ). IsPlain kinds.Bool n x.0 × Takes bs (field x.0) x.1) (same_Some _ _ y.2) at
field_takes kinds.Text n bs x rest f e =
    let y = bind_some (string_at n bs) (λ x. Some (values.Text x.0, x.1)) (x, rest) e in
    let t = string_takes n bs y.0.0 y.0.1 f y.1 in
    let at : IsPlain kinds.Text n (values.Text y.0.0) × Takes bs (field (values.Text y.0.0)) y.0.1 = ((refl, t.0.0, t.0.1), t.1) in
    subst (λ (x : Value × List ℕ). IsPlain kinds.Text n x.0 × Takes bs (field x.0) x.1) (same_Some _ _ y.2) at

unsigned_below : (z : ℤ) → FitsSigned w64 z → cast_unsigned w64 z < 2 ^ 64
unsigned_below z f = omega (arith, ints)

field_again : (k : DataKind) (n : ℕ) (x : Value) (rest : List ℕ) → n < 2 ^ 16 → IsPlain k n x → field_at k n (field x ++ rest) ≡ Some (x, rest)
unfolding field_at
field_again k n values.Null rest w p = absurd (omega (arith, p.0))
field_again kinds.Int n (values.Int z) rest w p =
    ap (λ (o : Option (ℕ × List ℕ)). o >>= λ x. Some (values.Int (cast_signed w64 x.0), x.1)) (bits_again w64 (2 ^ 64) wide64 (cast_unsigned w64 z) rest (unsigned_below z p.1))
    ∙ ap (λ (k : ℤ). Some (values.Int k, rest)) (to_z-of_z w64 z p.1)
field_again kinds.Bool n (values.Bool b) rest w p = ap (λ (o : Option (Bool × List ℕ)). o >>= λ x. Some (values.Bool x.0, x.1)) (flag_again b rest)
field_again kinds.Text n (values.Text t) rest w p = ap (λ (o : Option (List ℕ × List ℕ)). o >>= λ x. Some (values.Text x.0, x.1)) (string_again n t rest w p.1 p.2)
field_again _ n _ rest w p = absurd p.1

-- ---- columns with their marks

from_truth : (b : Bool) → T b → b ≡ true
from_truth true t = refl
from_truth false t = absurd t

to_truth : (b : Bool) → b ≡ true → T b
to_truth true e = tt
to_truth false e = absurd (false≢true e)

plain_fits : (ty : ColType) (x : Value) → IsPlain (kind_of_type ty) (room_of ty) x → FitsType ty x
plain_fits ty values.Null p = absurd (omega (arith, p.0))
plain_fits ty (values.Int z) p = (p.1, tt)
plain_fits ty (values.Bool b) p = (p.1, tt)
plain_fits ty (values.Text t) p = (p.1, p.2)

cell_takes : (ty : ColType) (mark : ℕ) (bs : List ℕ) (x : Value) (rest : List ℕ) → mark < 2 → IsBytes bs → cell_at ty mark bs ≡ Some (x, rest) → FitsType ty x × (mark_of x ≡ mark) × Takes bs (field x) rest
unfolding cell_at
cell_takes ty mark bs x rest two f e =
    elim (chosen (eqb mark 1) (cond (is_nullable ty) (Some (values.Null, bs)) None) (field_at (kind_of_type ty) (room_of ty) bs) (Some (x, rest)) e) [
      | inl h ↦ elim (chosen (is_nullable ty) (Some (values.Null, bs)) None (Some (x, rest)) h.1) [
        | inl k ↦
            let at : FitsType ty values.Null × (mark_of values.Null ≡ mark) × Takes bs (field values.Null) bs = ((tt, to_truth (is_nullable ty) k.0), sym (eqb-true _ _ h.0), record { parts = refl; rest_fits = f }) in
            subst (λ (x : Value × List ℕ). FitsType ty x.0 × (mark_of x.0 ≡ mark) × Takes bs (field x.0) x.1) (same_Some _ _ k.1) at
        | inr k ↦ none_some _ k.1
      ]
      | inr h ↦
          let t = field_takes (kind_of_type ty) (room_of ty) bs x rest f h.1 in
          let other : mark ≡ 1 → ⊥ = eqb-false _ _ h.0 in
          (plain_fits ty x t.0, t.0.0 ∙ zero_left mark two other, t.1)
    ]
  where
    zero_left : (m : ℕ) → m < 2 → (m ≡ 1 → ⊥) → 0 ≡ m
    zero_left zero lt other = refl
    zero_left (suc zero) lt other = absurd (other refl)
    zero_left (suc (suc m)) lt other = absurd (omega arith)

cell_again : (ty : ColType) (x : Value) (rest : List ℕ) → IsType ty → FitsType ty x → cell_at ty (mark_of x) (field x ++ rest) ≡ Some (x, rest)
unfolding cell_at
cell_again ty values.Null rest w fits = rw (from_truth (is_nullable ty) fits.1) refl
cell_again ty (values.Int z) rest w fits = field_again (kind_of_type ty) (room_of ty) (values.Int z) rest w (refl, fits.0, tt)
cell_again ty (values.Bool b) rest w fits = field_again (kind_of_type ty) (room_of ty) (values.Bool b) rest w (refl, fits.0, tt)
cell_again ty (values.Text t) rest w fits = field_again (kind_of_type ty) (room_of ty) (values.Text t) rest w (refl, fits.0, fits.1)

mark_low : (x : Value) → mark_of x < 2
mark_low values.Null = omega arith
mark_low (values.Int z) = omega arith
mark_low (values.Bool b) = omega arith
mark_low (values.Text t) = omega arith

low_mark : (m n : ℕ) → m < 2 → (m + 2 * n) % 2 ≡ m
low_mark m n lt = omega arith

high_marks : (m n : ℕ) → m < 2 → (m + 2 * n) / 2 ≡ n
high_marks m n lt = omega arith

both_marks : (n : ℕ) → n % 2 + 2 * (n / 2) ≡ n
both_marks n = omega arith

low_two : (n : ℕ) → n % 2 < 2
low_two n = omega arith

-- ---- rows

fields_take : (ts : List ColType) (marks : ℕ) (bs : List ℕ) (xs : List Value) (rest : List ℕ) → IsBytes bs → fields_at ts marks bs ≡ Some (xs, rest) → AllFit ts xs × (length xs ≡ length ts) × (null_marks xs ≡ marks) × Takes bs (fields xs) rest
unfolding fields_at
fields_take [] marks bs xs rest f e =
    elim (chosen (eqb marks 0) (Some ([], bs)) None (Some (xs, rest)) e) [
      | inl h ↦ subst (λ (x : List Value × List ℕ). AllFit [] x.0 × (length x.0 ≡ 0) × (null_marks x.0 ≡ marks) × Takes bs (fields x.0) x.1) (same_Some _ _ h.1) (tt, refl, sym (eqb-true _ _ h.0), record { parts = refl; rest_fits = f })
      | inr h ↦ none_some _ h.1
    ]
fields_take (t ∷ ts) marks bs xs rest f e =
    let y = bind_some (cell_at t (marks % 2) bs) (λ x. fields_at ts (marks / 2) x.1 >>= λ y. Some (x.0 ∷ y.0, y.1)) (xs, rest) e in
    let z = bind_some (fields_at ts (marks / 2) y.0.1) (λ z. Some (y.0.0 ∷ z.0, z.1)) (xs, rest) y.2 in
    let first = cell_takes t (marks % 2) bs y.0.0 y.0.1 (low_two marks) f y.1 in
    let others = fields_take ts (marks / 2) y.0.1 z.0.0 z.0.1 first.2.rest_fits z.1 in
    let marked : null_marks (y.0.0 ∷ z.0.0) ≡ marks = ap (λ (m : ℕ). m + 2 * null_marks z.0.0) first.1 ∙ ap (λ (m : ℕ). marks % 2 + 2 * m) others.2 ∙ both_marks marks in
    let at : AllFit (t ∷ ts) (y.0.0 ∷ z.0.0) × (length (y.0.0 ∷ z.0.0) ≡ length (t ∷ ts)) × (null_marks (y.0.0 ∷ z.0.0) ≡ marks) × Takes bs (fields (y.0.0 ∷ z.0.0)) z.0.1 =
    ((first.0, others.0), ap suc others.1, marked, Takes-then bs (field y.0.0) y.0.1 (fields z.0.0) z.0.1 first.2 others.3) in
    subst (λ (x : List Value × List ℕ). AllFit (t ∷ ts) x.0 × (length x.0 ≡ length (t ∷ ts)) × (null_marks x.0 ≡ marks) × Takes bs (fields x.0) x.1) (same_Some _ _ z.2) at

fields_again : (ts : List ColType) (xs : List Value) (rest : List ℕ) → All IsType ts → AllFit ts xs → fields_at ts (null_marks xs) (fields xs ++ rest) ≡ Some (xs, rest)
unfolding fields_at
fields_again [] [] rest w fits = refl
fields_again [] (x ∷ xs) rest w fits = absurd fits
fields_again (t ∷ ts) [] rest w fits = absurd fits
fields_again (t ∷ ts) (x ∷ xs) rest w fits =
    ap (fields_at (t ∷ ts) (null_marks (x ∷ xs))) (append_assoc (field x) (fields xs) rest)
    ∙ ap (λ (m : ℕ). cell_at t m (field x ++ (fields xs ++ rest)) >>= λ y. fields_at ts (null_marks (x ∷ xs) / 2) y.1 >>= λ z. Some (y.0 ∷ z.0, z.1)) (low_mark (mark_of x) (null_marks xs) (mark_low x))
    ∙ ap (λ (o : Option (Value × List ℕ)). o >>= λ y. fields_at ts (null_marks (x ∷ xs) / 2) y.1 >>= λ z. Some (y.0 ∷ z.0, z.1)) (cell_again t x (fields xs ++ rest) (All-head IsType t ts w) fits.0)
    ∙ ap (λ (m : ℕ). fields_at ts m (fields xs ++ rest) >>= λ z. Some (x ∷ z.0, z.1)) (high_marks (mark_of x) (null_marks xs) (mark_low x))
    ∙ ap (λ (o : Option (List Value × List ℕ)). o >>= λ z. Some (x ∷ z.0, z.1)) (fields_again ts xs rest (All-tail IsType t ts w) fits.1)

-- ---- the front

four : (a b c d : ℕ) → a < 256 → b < 256 → c < 256 → d < 256 → mark_bytes (a * 16777216 + b * 65536 + c * 256 + d) ≡ a ∷ b ∷ c ∷ d ∷ []
four a b c d la lb lc ld =
    let n = a * 16777216 + b * 65536 + c * 256 + d in
    let top : n / 16777216 ≡ a = omega arith in
    let second : (n / 65536) % 256 ≡ b = omega arith in
    let third : (n / 256) % 256 ≡ c = omega arith in
    let last : n % 256 ≡ d = omega arith in
    rw (top, second, third, last) refl

marks_takes : (bs : List ℕ) (n : ℕ) (rest : List ℕ) → IsBytes bs → marks_at bs ≡ Some (n, rest) → Takes bs (mark_bytes n) rest
marks_takes [] n rest f e = none_some _ e
marks_takes (a ∷ []) n rest f e = none_some _ e
marks_takes (a ∷ b ∷ []) n rest f e = none_some _ e
marks_takes (a ∷ b ∷ c ∷ []) n rest f e = none_some _ e
marks_takes (a ∷ b ∷ c ∷ d ∷ bs) n rest f e =
    subst (λ (x : ℕ × List ℕ). Takes (a ∷ b ∷ c ∷ d ∷ bs) (mark_bytes x.0) x.1) (same_Some _ _ e)
    (record { parts = ap (λ (l : List ℕ). l ++ bs) (sym (four a b c d f.0 f.1.0 f.1.1.0 f.1.1.1.0)); rest_fits = f.1.1.1.1 })

marks_again : (n : ℕ) (rest : List ℕ) → marks_at (mark_bytes n ++ rest) ≡ Some (n, rest)
marks_again n rest = ap (λ (m : ℕ). Some (m, rest)) (omega arith)

front_takes : (columns k : ℕ) (bs : List ℕ) (marks : ℕ) (rest : List ℕ) → IsBytes bs → front_at columns k bs ≡ Some (marks, rest) → (k ∷ bs ≡ row_front columns marks ++ rest) × IsBytes rest
unfolding front_at
front_takes columns k bs marks rest f e =
    elim (chosen (eqb k columns) (Some (0, bs)) (cond (eqb k (columns + 64)) (marks_at bs >>= λ m. cond (eqb m.0 0) None (Some m)) None) (Some (marks, rest)) e) [
      | inl h ↦ subst (λ (x : ℕ × List ℕ). (k ∷ bs ≡ row_front columns x.0 ++ x.1) × IsBytes x.1) (same_Some _ _ h.1) (ap (λ (n : ℕ). n ∷ bs) (eqb-true _ _ h.0), f)
      | inr h ↦ elim (chosen (eqb k (columns + 64)) (marks_at bs >>= λ m. cond (eqb m.0 0) None (Some m)) None (Some (marks, rest)) h.1) [
        | inl g ↦
            let y = bind_some (marks_at bs) (λ m. cond (eqb m.0 0) None (Some m)) (marks, rest) g.1 in
            let t = marks_takes bs y.0.0 y.0.1 f y.1 in
            let some = guarded (eqb y.0.0 0) y.0 (marks, rest) y.2 in
            let own : row_front columns y.0.0 ≡ (columns + 64) ∷ mark_bytes y.0.0 = rw some.0 refl in
            subst (λ (x : ℕ × List ℕ). (k ∷ bs ≡ row_front columns x.0 ++ x.1) × IsBytes x.1) some.1
            (ap (λ (n : ℕ). n ∷ bs) (eqb-true _ _ g.0) ∙ ap (λ (l : List ℕ). (columns + 64) ∷ l) t.parts ∙ ap (λ (l : List ℕ). l ++ y.0.1) (sym own), t.rest_fits)
        | inr g ↦ none_some _ g.1
      ]
    ]

-- the first byte and those behind it
abbrev front_read : ℕ → List ℕ → Option (ℕ × List ℕ)
front_read columns [] = None
front_read columns (k ∷ bs) = front_at columns k bs

abbrev behind : ℕ → List ℕ → List ℕ
behind marks rest = mark_bytes marks ++ rest

abbrev marked : Option (ℕ × List ℕ) → Option (ℕ × List ℕ)
marked o = o >>= λ m. cond (eqb m.0 0) None (Some m)

front_by : (columns marks : ℕ) (rest : List ℕ) (b : Bool) → eqb marks 0 ≡ b → front_read columns (cond b (columns ∷ []) ((columns + 64) ∷ mark_bytes marks) ++ rest) ≡ Some (marks, rest)
unfolding front_at
front_by columns marks rest true e =
    ap (λ b. cond b (Some (0, rest)) (cond (eqb columns (columns + 64)) (marked (marks_at rest)) None)) (eq-eqb columns columns refl)
    ∙ ap (λ (n : ℕ). Some (n, rest)) (sym (eqb-true marks 0 e))
front_by columns marks rest false e =
    ap (λ b. cond b (Some (0, behind marks rest)) (cond (eqb (columns + 64) (columns + 64)) (marked (marks_at (behind marks rest))) None)) (ne_eqb (columns + 64) columns (λ e. absurd (omega arith)))
    ∙ ap (λ b. cond b (marked (marks_at (behind marks rest))) None) (eq-eqb (columns + 64) (columns + 64) refl)
    ∙ ap marked (marks_again marks rest)
    ∙ ap (λ b. cond b None (Some (marks, rest))) e

front_again : (columns marks : ℕ) (rest : List ℕ) → front_read columns (row_front columns marks ++ rest) ≡ Some (marks, rest)
front_again columns marks rest = front_by columns marks rest (eqb marks 0) refl

-- the bytes by their front
abbrev decoded_by : List ColType → Option (ℕ × List ℕ) → Option (List Value)
decoded_by ts o = o >>= λ m. fields_at ts m.0 m.1 >>= λ x. cond (eqb (length x.1) 0) (Some x.0) None

row_by : (ts : List ColType) (bs : List ℕ) → row_decoded ts bs ≡ decoded_by ts (front_read (length ts) bs)
unfolding row_decoded
row_by ts [] = refl
row_by ts (k ∷ bs) = refl

pub row_takes : (ts : List ColType) (bs : List ℕ) (xs : List Value) → IsBytes bs → row_decoded ts bs ≡ Some xs → AllFit ts xs × (row_code xs ≡ bs)
unfolding row_decoded
row_takes ts [] xs f e = none_some _ e
row_takes ts (k ∷ bs) xs f e =
    let m = bind_some (front_at (length ts) k bs) (λ m. fields_at ts m.0 m.1 >>= λ x. cond (eqb (length x.1) 0) (Some x.0) None) xs e in
    let front = front_takes (length ts) k bs m.0.0 m.0.1 f.1 m.1 in
    let y = bind_some (fields_at ts m.0.0 m.0.1) (λ x. cond (eqb (length x.1) 0) (Some x.0) None) xs m.2 in
    let t = fields_take ts m.0.0 m.0.1 y.0.0 y.0.1 front.1 y.1 in
    elim (chosen (eqb (length y.0.1) 0) (Some y.0.0) None (Some xs) y.2) [
      | inl g ↦
          let nothing : y.0.1 ≡ [] = nil_from_length y.0.1 (eqb-true _ _ g.0) in
          let parts : fields y.0.0 ≡ m.0.1 = sym (t.3.parts ∙ ap (λ (r : List ℕ). fields y.0.0 ++ r) nothing ∙ append-nil (fields y.0.0)) in
          let whole : row_code y.0.0 ≡ k ∷ bs = ap (λ (n : ℕ). row_front n (null_marks y.0.0) ++ fields y.0.0) t.1 ∙ ap (λ (n : ℕ). row_front (length ts) n ++ fields y.0.0) t.2 ∙ ap (λ (r : List ℕ). row_front (length ts) m.0.0 ++ r) parts ∙ sym front.0 in
          subst (λ (x : List Value). AllFit ts x × (row_code x ≡ k ∷ bs)) (same_Some _ _ g.1) (t.0, whole)
      | inr g ↦ none_some _ g.1
    ]

pub row_again : (ts : List ColType) (xs : List Value) → All IsType ts → AllFit ts xs → row_decoded ts (row_code xs) ≡ Some xs
row_again ts xs w fits =
    let read : fields_at ts (null_marks xs) (fields xs) ≡ Some (xs, []) = ap (fields_at ts (null_marks xs)) (sym (append-nil (fields xs))) ∙ fields_again ts xs [] w fits in
    row_by ts (row_code xs)
    ∙ ap (λ (n : ℕ). decoded_by ts (front_read (length ts) (row_front n (null_marks xs) ++ fields xs))) (length_from_fits ts xs fits)
    ∙ ap (decoded_by ts) (front_again (length ts) (null_marks xs) (fields xs))
    ∙ rw read refl

-- ---- what callers build on

-- the row code tells the row among the rows that fit
pub row_code_injective : (ts : List ColType) (xs ys : List Value) → All IsType ts → AllFit ts xs → AllFit ts ys → row_code xs ≡ row_code ys → xs ≡ ys
row_code_injective ts xs ys w f g e = same_Some xs ys (sym (row_again ts xs w f) ∙ ap (row_decoded ts) e ∙ row_again ts ys w g)

-- ---- as the loop and the calls do it

-- a column whose mark is 0
pub plain_cell : (ty : ColType) (bs : List ℕ) → cell_at ty 0 bs ≡ field_at (kind_of_type ty) (room_of ty) bs
unfolding cell_at
plain_cell ty bs = refl

pub field_more : (front new : List Value) (ts : List ColType) (i : ℕ) (t : ColType) (left : ℕ) (bs : List ℕ) (x : Value) (after : List ℕ) (total : Option (List Value × List ℕ)) → i < length ts
    → cell_at (get_or ts i t) (left % 2) bs ≡ Some (x, after) → new ≡ front ++ x ∷ []
    → rows_behind front (fields_at (drop i ts) left bs) ≡ total → rows_behind new (fields_at (drop (i + 1) ts) (left / 2) after) ≡ total
unfolding fields_at
field_more front new ts i t left bs x after total lt e put so_far =
    let one : fields_at (drop i ts) left bs ≡ (fields_at (drop (i + 1) ts) (left / 2) after >>= λ y. Some (x ∷ y.0, y.1)) = rw (drop_more ts i t lt, e) refl in
    ap (λ (f : List Value). rows_behind f (fields_at (drop (i + 1) ts) (left / 2) after)) put ∙ sym (rows_regroup front x (fields_at (drop (i + 1) ts) (left / 2) after)) ∙ ap (rows_behind front) (sym one) ∙ so_far

pub field_stop : (front : List Value) (ts : List ColType) (i : ℕ) (t : ColType) (left : ℕ) (bs : List ℕ) (total : Option (List Value × List ℕ)) → i < length ts
    → cell_at (get_or ts i t) (left % 2) bs ≡ None → rows_behind front (fields_at (drop i ts) left bs) ≡ total → None ≡ total
unfolding fields_at
field_stop front ts i t left bs total lt e so_far =
    let one : fields_at (drop i ts) left bs ≡ None = rw (drop_more ts i t lt, e) refl in
    ap (rows_behind front) (sym one) ∙ so_far

pub field_end : (front : List Value) (ts : List ColType) (i left : ℕ) (bs : List ℕ) (total : Option (List Value × List ℕ)) → length ts ≤ i → left ≡ 0
    → rows_behind front (fields_at (drop i ts) left bs) ≡ total → Some (front, bs) ≡ total
unfolding fields_at
field_end front ts i left bs total le none so_far =
    let one : fields_at (drop i ts) left bs ≡ Some ([], bs) = rw (drop_all i ts le, none) refl in
    ap (λ (t : List Value). Some (t, bs)) (sym (append-nil front)) ∙ ap (rows_behind front) (sym one) ∙ so_far

pub field_left : (front : List Value) (ts : List ColType) (i left : ℕ) (bs : List ℕ) (total : Option (List Value × List ℕ)) → length ts ≤ i → (left ≡ 0 → ⊥)
    → rows_behind front (fields_at (drop i ts) left bs) ≡ total → None ≡ total
unfolding fields_at
field_left front ts i left bs total le some so_far =
    let one : fields_at (drop i ts) left bs ≡ None = rw (drop_all i ts le, ne_eqb left 0 some) refl in
    ap (rows_behind front) (sym one) ∙ so_far

pub is_found : {E : Type 0} (ts : List ColType) (bs : List ℕ) (r : Result (Option (List Value)) E) → IsBytes bs → IfOk r (λ o. o ≡ row_decoded ts bs) → IfOk r (λ o. IfSome o (λ v. AllFit ts v × (row_code v ≡ bs)))
is_found ts bs (Ok (Some v)) fits h = row_takes ts bs v fits (sym h)
is_found ts bs (Ok None) fits h = tt
is_found ts bs (Err e) fits h = tt

pub is_none_left : {E : Type 0} (ts : List ColType) (bs : List ℕ) (r : Result (Option (List Value)) E) → All IsType ts → IfOk r (λ o. o ≡ row_decoded ts bs) → IfOk r (λ o. IfNone o ((xs : List Value) → AllFit ts xs → row_code xs ≡ bs → ⊥))
is_none_left ts bs (Ok (Some v)) w h = tt
is_none_left ts bs (Ok None) w h = λ xs fits e. none_some xs (h ∙ ap (row_decoded ts) (sym e) ∙ row_again ts xs w fits)
is_none_left ts bs (Err e) w h = tt
