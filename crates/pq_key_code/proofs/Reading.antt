-- What is read has the code that was read, and a code is read again.
use Rattle.std.proofs.Common.{◌≡◌, ◌≢◌, ℕ, zero, suc, ◌-◌, ◌+◌, ◌^◌, ◌≤◌, ◌<◌, Bool, true, false, cond, eqb, ltb, List, [], ◌∷◌, ◌++◌, length, map, take, drop, get_or, Option, Some, None, refl, sym, ap, subst, ◌∙◌, append_assoc, arith, inl, inr}
use Rattle.std.specs.Prelude.{T, ◌==◌, ◌&&◌, ℤ, pos, negsuc, ◌⊎◌, IsUtf8, FitsSigned, Result, Ok, Err, IfOk, IfSome, IfNone}
use Rattle.std.specs.Str.{is_utf8}
use Rattle.std.specs.List.{list_any}
use Rattle.std.specs.Int.{w64, to_be_bytes, from_be_bytes}
use Rattle.std.proofs.lemmas.Bool.{false≢true, and_parts, ne_eqb, eqb-true, eqb-false, ltb-true, ltb-false, le-ltb, lt-ltb}
use Rattle.std.proofs.lemmas.Int.{ints}
use Rattle.std.proofs.lemmas.List.{append-nil, length-take, length-map, length-append, take-append-drop, take_at, drop_at, nil_from_length}
use Rattle.std.proofs.lemmas.Nat.{be_bytes_8, from_be_bytes-to_be_bytes_8}
use Rattle.std.proofs.lemmas.Str.{IsUtf8-from_is_utf8, is_utf8-from_IsUtf8}
use Rattle.std.proofs.lemmas.Option.{same_Some}
use Rattle.pq_base.specs.declared.value.Dir.{Dir}
use Rattle.pq_base.specs.declared.value.Dir.TheVariants.{Asc, Desc}
use Rattle.pq_base.specs.declared.value.ColType.{ColType}
use Rattle.pq_base.specs.declared.value.DataKind.{DataKind}
use Rattle.pq_base.specs.declared.value.DataKind.TheVariants as kinds
use Rattle.pq_base.specs.declared.value.Value.{Value}
use Rattle.pq_base.specs.declared.value.Value.TheVariants as values
use Rattle.pq_base.specs.Values.{FitsType, AllFit, IsOfDataKind, is_null, kind_of_type, room_of, is_nullable}
use Rattle.pq_key_code.specs.KeyCode.{IsBytes, above_least, escaped_text, payload, turned_byte, null_marker, marker, component, code_of}
use Rattle.pq_key_code.specs.KeyReading.{◌>>=◌, from_least, number_at, truth_at, value_behind, text_value_at, text_within, payload_at, component_at, row_key_at, key_at}
use Rattle.pq_key_code.proofs.Bytes.{IsBytes-to_be}
use Rattle.pq_key_code.proofs.Loop.{two_at}
use Rattle.pq_key_code.proofs.Order.{utf8_bytes, above_least_below}

-- ---- bytes

pub IsBytes_at : (p : List ℕ) → IsBytes p → (i : ℕ) → get_or p i 0 < 256
IsBytes_at [] f i = omega arith
IsBytes_at (b ∷ p) f zero = f.0
IsBytes_at (b ∷ p) f (suc i) = IsBytes_at p f.1 i

pub IsBytes_from : (p : List ℕ) → ((i : ℕ) → get_or p i 0 < 256) → IsBytes p
IsBytes_from [] h = tt
IsBytes_from (b ∷ p) h = (h 0, IsBytes_from p (λ i. h (suc i)))

pub IsBytes-take : (n : ℕ) (p : List ℕ) → IsBytes p → IsBytes (take n p)
IsBytes-take zero p f = tt
IsBytes-take (suc n) [] f = tt
IsBytes-take (suc n) (b ∷ p) f = (f.0, IsBytes-take n p f.1)

pub IsBytes-drop : (n : ℕ) (p : List ℕ) → IsBytes p → IsBytes (drop n p)
IsBytes-drop zero p f = f
IsBytes-drop (suc n) [] f = tt
IsBytes-drop (suc n) (b ∷ p) f = IsBytes-drop n p f.1

turned_below : (d : Dir) (b : ℕ) → b < 256 → turned_byte d b < 256
turned_below Asc b lt = lt
turned_below Desc b lt = omega arith

pub IsBytes-turned : (d : Dir) (p : List ℕ) → IsBytes p → IsBytes (map (turned_byte d) p)
IsBytes-turned d [] f = tt
IsBytes-turned d (b ∷ p) f = (turned_below d b f.0, IsBytes-turned d p f.1)

turned_back : (d : Dir) (b : ℕ) → b < 256 → turned_byte d (turned_byte d b) ≡ b
turned_back Asc b lt = refl
turned_back Desc b lt = omega arith

-- a byte by what it is turned to
pub turned_is : (d : Dir) (b c : ℕ) → b < 256 → turned_byte d b ≡ c → b ≡ turned_byte d c
turned_is d b c lt e = sym (turned_back d b lt) ∙ ap (turned_byte d) e

maps_back : (d : Dir) (p : List ℕ) → IsBytes p → map (turned_byte d) (map (turned_byte d) p) ≡ p
maps_back d [] f = refl
maps_back d (b ∷ p) f = ap (λ (c : ℕ). c ∷ map (turned_byte d) (map (turned_byte d) p)) (turned_back d b f.0) ∙ ap (λ (q : List ℕ). b ∷ q) (maps_back d p f.1)

-- ---- options

pub bind_some : {A B : Type 0} (o : Option A) (f : A → Option B) (y : B) → (o >>= f) ≡ Some y → (x : A) × (o ≡ Some x) × (f x ≡ Some y)
bind_some None f y e = absurd cc
bind_some (Some x) f y e = (x, refl, e)

pub chosen : {A : Type 0} (b : Bool) (x y z : A) → cond b x y ≡ z → ((b ≡ true) × (x ≡ z)) ⊎ ((b ≡ false) × (y ≡ z))
chosen true x y z e = inl (refl, e)
chosen false x y z e = inr (refl, e)

pub none_some : {A : Type 0} {P : Type 0} (y : A) → None ≡ Some y → P
none_some y e = absurd cc

pub guarded : {A : Type 0} (b : Bool) (x y : A) → cond b None (Some x) ≡ Some y → (b ≡ false) × (x ≡ y)
guarded true x y e = absurd cc
guarded false x y e = (refl, same_Some x y e)

-- what a reader took from the front
pub record Takes (bs front rest : List ℕ) : Type 0 where
  pub parts : bs ≡ front ++ rest
  pub rest_fits : IsBytes rest

-- ---- numbers

above_from : (n : ℕ) → n < 2 ^ 64 → above_least (from_least n) ≡ n
above_from n lt = by (ltb n (2 ^ 63)) refl where
  by : (b : Bool) → ltb n (2 ^ 63) ≡ b → above_least (cond b (negsuc (2 ^ 63 - suc n)) (pos (n - 2 ^ 63))) ≡ n
  by true e = let h : n < 2 ^ 63 = ltb-true _ _ e in omega arith
  by false e = let h : 2 ^ 63 ≤ n = ltb-false _ _ e in omega arith

from_above : (z : ℤ) → FitsSigned w64 z → from_least (above_least z) ≡ z
from_above (pos n) f = let h : ltb (2 ^ 63 + n) (2 ^ 63) ≡ false = le-ltb _ _ (omega arith) in rw h (ap pos (omega arith))
from_above (negsuc n) f = let k : n < 2 ^ 63 = f.sfits in let h : ltb (2 ^ 63 - suc n) (2 ^ 63) ≡ true = lt-ltb _ _ (omega arith) in rw h (ap negsuc (omega arith))

from_fits : (n : ℕ) → n < 2 ^ 64 → FitsSigned w64 (from_least n)
from_fits n lt = by (ltb n (2 ^ 63)) refl where
  by : (b : Bool) → ltb n (2 ^ 63) ≡ b → FitsSigned w64 (cond b (negsuc (2 ^ 63 - suc n)) (pos (n - 2 ^ 63)))
  by true e = let h : n < 2 ^ 63 = ltb-true _ _ e in omega (arith, ints)
  by false e = let h : 2 ^ 63 ≤ n = ltb-false _ _ e in omega (arith, ints)

pub be_below : (p : List ℕ) → IsBytes p → from_be_bytes w64 p < 2 ^ 64
be_below p f = omega (arith, IsBytes_at p f 0, IsBytes_at p f 1, IsBytes_at p f 2, IsBytes_at p f 3, IsBytes_at p f 4, IsBytes_at p f 5, IsBytes_at p f 6, IsBytes_at p f 7)

number_parts : (d : Dir) (bs front : List ℕ) → map (turned_byte d) (take 8 bs) ≡ front → 8 ≤ length bs → IsBytes bs → IsBytes front → length front ≡ 8 → (z : ℤ) (rest : List ℕ) → ◌≡◌ {A = ℤ × List ℕ} (from_least (from_be_bytes w64 front), drop 8 bs) (z, rest) → FitsSigned w64 z × Takes bs (map (turned_byte d) (payload (values.Int z))) rest
number_parts d bs front is long f front_fits len z rest e =
    let below : from_be_bytes w64 front < 2 ^ 64 = be_below front front_fits in
    let be : to_be_bytes w64 (from_be_bytes w64 front) ≡ front = be_bytes_8 front (from_be_bytes w64 front) len (IsBytes_at front front_fits) refl in
    let parts : map (turned_byte d) (to_be_bytes w64 (above_least (from_least (from_be_bytes w64 front)))) ++ drop 8 bs ≡ bs =
    ap (λ (k : ℕ). map (turned_byte d) (to_be_bytes w64 k) ++ drop 8 bs) (above_from (from_be_bytes w64 front) below)
    ∙ ap (λ (p : List ℕ). map (turned_byte d) p ++ drop 8 bs) (be ∙ sym is)
    ∙ ap (λ (p : List ℕ). p ++ drop 8 bs) (maps_back d (take 8 bs) (IsBytes-take 8 bs f))
    ∙ take-append-drop 8 bs in
    let at : FitsSigned w64 (from_least (from_be_bytes w64 front)) × Takes bs (map (turned_byte d) (payload (values.Int (from_least (from_be_bytes w64 front))))) (drop 8 bs) =
    (from_fits (from_be_bytes w64 front) below, record { parts = sym parts; rest_fits = IsBytes-drop 8 bs f }) in
    subst (λ (x : ℤ × List ℕ). FitsSigned w64 x.0 × Takes bs (map (turned_byte d) (payload (values.Int x.0))) x.1) e at

number_takes : (d : Dir) (bs : List ℕ) (z : ℤ) (rest : List ℕ) → IsBytes bs → number_at d bs ≡ Some (z, rest) → FitsSigned w64 z × Takes bs (map (turned_byte d) (payload (values.Int z))) rest
number_takes d bs z rest f e =
    let front_fits : IsBytes (map (turned_byte d) (take 8 bs)) = IsBytes-turned d (take 8 bs) (IsBytes-take 8 bs f) in
    let g = guarded (ltb (length bs) 8) (from_least (from_be_bytes w64 (map (turned_byte d) (take 8 bs))), drop 8 bs) (z, rest) e in
    let long : 8 ≤ length bs = ltb-false _ _ g.0 in
    let len : length (map (turned_byte d) (take 8 bs)) ≡ 8 = omega (arith, length-map (take 8 bs) (turned_byte d), length-take 8 bs) in
    number_parts d bs (map (turned_byte d) (take 8 bs)) refl long f front_fits len z rest g.1

number_again_at : (d : Dir) (q rest : List ℕ) → IsBytes q → length q ≡ 8 → number_at d (map (turned_byte d) q ++ rest) ≡ Some (from_least (from_be_bytes w64 q), rest)
number_again_at d q rest f len =
    let turned_len : length (map (turned_byte d) q) ≡ 8 = length-map q (turned_byte d) ∙ len in
    let long : ltb (length (map (turned_byte d) q ++ rest)) 8 ≡ false = le-ltb _ _ (omega (arith, length-append (map (turned_byte d) q) rest)) in
    rw (long, take_at (map (turned_byte d) q) rest 8 turned_len, drop_at (map (turned_byte d) q) rest 8 turned_len, maps_back d q f) refl

number_again : (d : Dir) (z : ℤ) (rest : List ℕ) → FitsSigned w64 z → number_at d (map (turned_byte d) (payload (values.Int z)) ++ rest) ≡ Some (z, rest)
number_again d z rest f =
    number_again_at d (to_be_bytes w64 (above_least z)) rest (IsBytes-to_be (above_least z)) refl
    ∙ ap (λ (k : ℕ). Some (from_least k, rest)) (from_be_bytes-to_be_bytes_8 (above_least z) (above_least_below z f))
    ∙ ap (λ (x : ℤ). Some (x, rest)) (from_above z f)

-- ---- truth values

truth_takes : (d : Dir) (bs : List ℕ) (b : Bool) (rest : List ℕ) → IsBytes bs → truth_at d bs ≡ Some (b, rest) → Takes bs (map (turned_byte d) (payload (values.Bool b))) rest
truth_takes d [] b rest f e = none_some _ e
truth_takes d (c ∷ bs) b rest f e =
    elim (chosen (eqb (turned_byte d c) 0) (Some (false, bs)) (cond (eqb (turned_byte d c) 1) (Some (true, bs)) None) (Some (b, rest)) e) [
      | inl h ↦ subst (λ (x : Bool × List ℕ). Takes (c ∷ bs) (map (turned_byte d) (payload (values.Bool x.0))) x.1) (same_Some _ _ h.1)
          (record { parts = ap (λ (k : ℕ). k ∷ bs) (turned_is d c 0 f.0 (eqb-true _ _ h.0)); rest_fits = f.1 })
      | inr h ↦ elim (chosen (eqb (turned_byte d c) 1) (Some (true, bs)) None (Some (b, rest)) h.1) [
        | inl k ↦ subst (λ (x : Bool × List ℕ). Takes (c ∷ bs) (map (turned_byte d) (payload (values.Bool x.0))) x.1) (same_Some _ _ k.1)
            (record { parts = ap (λ (m : ℕ). m ∷ bs) (turned_is d c 1 f.0 (eqb-true _ _ k.0)); rest_fits = f.1 })
        | inr k ↦ none_some _ k.1
      ]
    ]

truth_again : (d : Dir) (b : Bool) (rest : List ℕ) → truth_at d (map (turned_byte d) (payload (values.Bool b)) ++ rest) ≡ Some (b, rest)
truth_again Asc false rest = refl
truth_again Asc true rest = refl
truth_again Desc false rest = refl
truth_again Desc true rest = refl

-- ---- texts

escaped_plain : (b : ℕ) (t : List ℕ) → b ≢ 0 → escaped_text (b ∷ t) ≡ b ∷ escaped_text t
escaped_plain zero t ne = absurd (ne refl)
escaped_plain (suc b) t ne = refl

text_takes : (d : Dir) (bs t rest : List ℕ) → IsBytes bs → text_value_at d bs ≡ Some (t, rest) → Takes bs (map (turned_byte d) (payload (values.Text t))) rest
unfolding text_value_at
text_takes d [] t rest f e = none_some _ e
text_takes d (b ∷ []) t rest f e = none_some _ e
text_takes d (b ∷ c ∷ bs) t rest f e =
    elim (chosen (eqb (turned_byte d b) 0) (cond (eqb (turned_byte d c) 1) (Some ([], bs)) (cond (eqb (turned_byte d c) 255) (value_behind 0 (text_value_at d bs)) None)) (value_behind (turned_byte d b) (text_value_at d (c ∷ bs))) (Some (t, rest)) e) [
      | inl h ↦ elim (chosen (eqb (turned_byte d c) 1) (Some ([], bs)) (cond (eqb (turned_byte d c) 255) (value_behind 0 (text_value_at d bs)) None) (Some (t, rest)) h.1) [
        | inl k ↦ subst (λ (x : List ℕ × List ℕ). Takes (b ∷ c ∷ bs) (map (turned_byte d) (payload (values.Text x.0))) x.1) (same_Some _ _ k.1)
            (record { parts = ap (λ (m : ℕ). m ∷ c ∷ bs) (turned_is d b 0 f.0 (eqb-true _ _ h.0)) ∙ ap (λ (m : ℕ). turned_byte d 0 ∷ m ∷ bs) (turned_is d c 1 f.1.0 (eqb-true _ _ k.0)); rest_fits = f.1.1 })
        | inr k ↦ elim (chosen (eqb (turned_byte d c) 255) (value_behind 0 (text_value_at d bs)) None (Some (t, rest)) k.1) [
          | inl l ↦
              let y = bind_some (text_value_at d bs) (λ x. Some (0 ∷ x.0, x.1)) (t, rest) l.1 in
              let more = text_takes d bs y.0.0 y.0.1 f.1.1 y.1 in
              subst (λ (x : List ℕ × List ℕ). Takes (b ∷ c ∷ bs) (map (turned_byte d) (payload (values.Text x.0))) x.1) (same_Some _ _ y.2)
              (record { parts = ap (λ (m : ℕ). m ∷ c ∷ bs) (turned_is d b 0 f.0 (eqb-true _ _ h.0)) ∙ ap (λ (m : ℕ). turned_byte d 0 ∷ m ∷ bs) (turned_is d c 255 f.1.0 (eqb-true _ _ l.0)) ∙ ap (λ (r : List ℕ). turned_byte d 0 ∷ turned_byte d 255 ∷ r) more.parts; rest_fits = more.rest_fits })
          | inr l ↦ none_some _ l.1
        ]
      ]
      | inr h ↦
          let y = bind_some (text_value_at d (c ∷ bs)) (λ x. Some (turned_byte d b ∷ x.0, x.1)) (t, rest) h.1 in
          let more = text_takes d (c ∷ bs) y.0.0 y.0.1 f.1 y.1 in
          subst (λ (x : List ℕ × List ℕ). Takes (b ∷ c ∷ bs) (map (turned_byte d) (payload (values.Text x.0))) x.1) (same_Some _ _ y.2)
          (record { parts = ap (λ (m : ℕ). m ∷ c ∷ bs) (sym (turned_back d b f.0)) ∙ ap (λ (r : List ℕ). turned_byte d (turned_byte d b) ∷ r) more.parts ∙ ap (λ (q : List ℕ). map (turned_byte d) (q ++ 0 ∷ 1 ∷ []) ++ y.0.1) (sym (escaped_plain (turned_byte d b) y.0.0 (eqb-false _ _ h.0))); rest_fits = more.rest_fits })
    ]

text_plain : (d : Dir) (b : ℕ) (bs : List ℕ) → turned_byte d b ≢ 0 → 0 < length bs → text_value_at d (b ∷ bs) ≡ value_behind (turned_byte d b) (text_value_at d bs)
unfolding text_value_at
text_plain d b [] ne lt = absurd (omega arith)
text_plain d b (c ∷ bs) ne lt = rw (ne_eqb (turned_byte d b) 0 ne) refl

text_again : (d : Dir) (t rest : List ℕ) → IsBytes t → text_value_at d (map (turned_byte d) (payload (values.Text t)) ++ rest) ≡ Some (t, rest)
unfolding text_value_at
text_again Asc [] rest f = refl
text_again Desc [] rest f = refl
text_again Asc (zero ∷ t) rest f = ap (value_behind 0) (text_again Asc t rest f.1)
text_again Desc (zero ∷ t) rest f = ap (value_behind 0) (text_again Desc t rest f.1)
text_again d (suc b ∷ t) rest f =
    let back : turned_byte d (turned_byte d (suc b)) ≡ suc b = turned_back d (suc b) f.0 in
    text_plain d (turned_byte d (suc b)) (map (turned_byte d) (payload (values.Text t)) ++ rest) (λ e. absurd (omega (arith, back))) (omega (arith, length-append (map (turned_byte d) (payload (values.Text t))) rest, length-map (payload (values.Text t)) (turned_byte d), length-append (escaped_text t) (0 ∷ 1 ∷ [])))
    ∙ ap (λ (m : ℕ). value_behind m (text_value_at d (map (turned_byte d) (payload (values.Text t)) ++ rest))) back
    ∙ ap (value_behind (suc b)) (text_again d t rest f.1)

-- ---- components

pub checked_is : (n : ℕ) (t s : List ℕ) → text_within n t ≡ Some s → (IsUtf8 t × (length t ≤ n)) × (t ≡ s)
checked_is n t s e =
    elim (chosen (ltb n (length t)) None (cond (is_utf8 t) (Some t) None) (Some s) e) [
      | inl h ↦ none_some _ h.1
      | inr h ↦ elim (chosen (is_utf8 t) (Some t) None (Some s) h.1) [
        | inl k ↦ ((IsUtf8-from_is_utf8 t k.0, ltb-false _ _ h.0), same_Some _ _ k.1)
        | inr k ↦ none_some _ k.1
      ]
    ]

pub checked_again : (n : ℕ) (t : List ℕ) → IsUtf8 t → length t ≤ n → text_within n t ≡ Some t
checked_again n t u le = rw (le-ltb n (length t) le, is_utf8-from_IsUtf8 t u) refl

-- a text has at most n bytes
abbrev IsWithin : ℕ → Value → Type 0
IsWithin n values.Null = Unit {0}
IsWithin n (values.Int z) = Unit {0}
IsWithin n (values.Bool b) = Unit {0}
IsWithin n (values.Text t) = length t ≤ n

-- a value of a kind that isn't NULL
abbrev IsPlain : DataKind → ℕ → Value → Type 0
IsPlain k n x = (is_null x ≡ false) × IsOfDataKind k x × IsWithin n x

payload_takes : (k : DataKind) (n : ℕ) (d : Dir) (bs : List ℕ) (x : Value) (rest : List ℕ) → IsBytes bs → payload_at k n d bs ≡ Some (x, rest) → IsPlain k n x × Takes bs (map (turned_byte d) (payload x)) rest
unfolding payload_at
payload_takes kinds.Int n d bs x rest f e =
    let y = bind_some (number_at d bs) (λ x. Some (values.Int x.0, x.1)) (x, rest) e in
    let t = number_takes d bs y.0.0 y.0.1 f y.1 in
    let at : IsPlain kinds.Int n (values.Int y.0.0) × Takes bs (map (turned_byte d) (payload (values.Int y.0.0))) y.0.1 = ((refl, t.0, tt), t.1) in
    subst (λ (x : Value × List ℕ). IsPlain kinds.Int n x.0 × Takes bs (map (turned_byte d) (payload x.0)) x.1) (same_Some _ _ y.2) at
payload_takes kinds.Bool n d bs x rest f e =
    let y = bind_some (truth_at d bs) (λ x. Some (values.Bool x.0, x.1)) (x, rest) e in
    let t = truth_takes d bs y.0.0 y.0.1 f y.1 in
    let at : IsPlain kinds.Bool n (values.Bool y.0.0) × Takes bs (map (turned_byte d) (payload (values.Bool y.0.0))) y.0.1 = ((refl, tt, tt), t) in
    subst (λ (x : Value × List ℕ). IsPlain kinds.Bool n x.0 × Takes bs (map (turned_byte d) (payload x.0)) x.1) (same_Some _ _ y.2) at
payload_takes kinds.Text n d bs x rest f e =
    let y = bind_some (text_value_at d bs) (λ x. text_within n x.0 >>= λ t. Some (values.Text t, x.1)) (x, rest) e in
    let z = bind_some (text_within n y.0.0) (λ t. Some (values.Text t, y.0.1)) (x, rest) y.2 in
    let t = text_takes d bs y.0.0 y.0.1 f y.1 in
    let c = checked_is n y.0.0 z.0 z.1 in
    let at : IsPlain kinds.Text n (values.Text y.0.0) × Takes bs (map (turned_byte d) (payload (values.Text y.0.0))) y.0.1 = ((refl, c.0.0, c.0.1), t) in
    let pair : List ℕ → Value × List ℕ = λ s. (values.Text s, y.0.1) in
    subst (λ (x : Value × List ℕ). IsPlain kinds.Text n x.0 × Takes bs (map (turned_byte d) (payload x.0)) x.1) (ap pair c.1 ∙ same_Some _ _ z.2) at

payload_again : (k : DataKind) (n : ℕ) (d : Dir) (x : Value) (rest : List ℕ) → IsPlain k n x → payload_at k n d (map (turned_byte d) (payload x) ++ rest) ≡ Some (x, rest)
unfolding payload_at
payload_again k n d values.Null rest p = absurd cc
payload_again kinds.Int n d (values.Int z) rest p = ap (λ (o : Option (ℤ × List ℕ)). o >>= λ x. Some (values.Int x.0, x.1)) (number_again d z rest p.1)
payload_again kinds.Bool n d (values.Bool b) rest p = ap (λ (o : Option (Bool × List ℕ)). o >>= λ x. Some (values.Bool x.0, x.1)) (truth_again d b rest)
payload_again kinds.Text n d (values.Text t) rest p =
    ap (λ (o : Option (List ℕ × List ℕ)). o >>= λ x. text_within n x.0 >>= λ t. Some (values.Text t, x.1)) (text_again d t rest (utf8_bytes t p.1))
    ∙ ap (λ (o : Option (List ℕ)). o >>= λ t. Some (values.Text t, rest)) (checked_again n t p.1 p.2)
payload_again _ n d _ rest p = absurd p.1

-- a plain value of a type's kind and room fits the type
plain_fits : (ty : ColType) (d : Dir) (x : Value) → IsPlain (kind_of_type ty) (room_of ty) x → FitsType ty x × (marker d x ≡ 16)
plain_fits ty d values.Null p = absurd cc
plain_fits ty d (values.Int z) p = ((p.1, tt), refl)
plain_fits ty d (values.Bool b) p = ((p.1, tt), refl)
plain_fits ty d (values.Text t) p = ((p.1, p.2), refl)

from_truth : (b : Bool) → T b → b ≡ true
from_truth true t = refl
from_truth false t = absurd t

to_truth : (b : Bool) → b ≡ true → T b
to_truth true e = tt
to_truth false e = absurd (false≢true e)

component_takes : (ty : ColType) (d : Dir) (bs : List ℕ) (x : Value) (rest : List ℕ) → IsBytes bs → component_at ty d bs ≡ Some (x, rest) → FitsType ty x × Takes bs (component d x) rest
unfolding component_at
component_takes ty d [] x rest f e = none_some _ e
component_takes ty d (m ∷ bs) x rest f e =
    let null = m == null_marker d && is_nullable ty in
    elim (chosen (eqb m 16) (payload_at (kind_of_type ty) (room_of ty) d bs) (cond null (Some (values.Null, bs)) None) (Some (x, rest)) e) [
      | inl h ↦
          let t = payload_takes (kind_of_type ty) (room_of ty) d bs x rest f.1 h.1 in
          let p = plain_fits ty d x t.0 in
          (p.0, record { parts = ap (λ (k : ℕ). k ∷ bs) (eqb-true _ _ h.0 ∙ sym p.1) ∙ ap (λ (r : List ℕ). marker d x ∷ r) t.1.parts; rest_fits = t.1.rest_fits })
      | inr h ↦ elim (chosen null (Some (values.Null, bs)) None (Some (x, rest)) h.1) [
        | inl k ↦
            let both = and_parts (m == null_marker d) (is_nullable ty) k.0 in
            let at : FitsType ty values.Null × Takes (m ∷ bs) (component d values.Null) bs = ((tt, to_truth (is_nullable ty) both.1), record { parts = ap (λ (k : ℕ). k ∷ bs) (eqb-true _ _ both.0); rest_fits = f.1 }) in
            subst (λ (x : Value × List ℕ). FitsType ty x.0 × Takes (m ∷ bs) (component d x.0) x.1) (same_Some _ _ k.1) at
        | inr k ↦ none_some _ k.1
      ]
    ]

component_again : (ty : ColType) (d : Dir) (x : Value) (rest : List ℕ) → FitsType ty x → component_at ty d (component d x ++ rest) ≡ Some (x, rest)
unfolding component_at
component_again ty Asc values.Null rest fits = rw (from_truth (is_nullable ty) fits.1) refl
component_again ty Desc values.Null rest fits = rw (from_truth (is_nullable ty) fits.1) refl
component_again ty d (values.Int z) rest fits = payload_again (kind_of_type ty) (room_of ty) d (values.Int z) rest (refl, fits.0, tt)
component_again ty d (values.Bool b) rest fits = payload_again (kind_of_type ty) (room_of ty) d (values.Bool b) rest (refl, fits.0, tt)
component_again ty d (values.Text t) rest fits = payload_again (kind_of_type ty) (room_of ty) d (values.Text t) rest (refl, fits.0, fits.1)

-- ---- rows

row_takes : (ts : List ColType) (ds : List Dir) (bs : List ℕ) (xs : List Value) (rest : List ℕ) → length ts ≡ length ds → IsBytes bs → row_key_at ts ds bs ≡ Some (xs, rest) → AllFit ts xs × Takes bs (code_of ds xs) rest
unfolding row_key_at
row_takes [] [] bs xs rest len f e = subst (λ (x : List Value × List ℕ). AllFit [] x.0 × Takes bs (code_of [] x.0) x.1) (same_Some _ _ e) (tt, record { parts = refl; rest_fits = f })
row_takes [] (d ∷ ds) bs xs rest len f e = absurd (omega arith)
row_takes (t ∷ ts) [] bs xs rest len f e = absurd (omega arith)
row_takes (t ∷ ts) (d ∷ ds) bs xs rest len f e =
    let y = bind_some (component_at t d bs) (λ x. row_key_at ts ds x.1 >>= λ y. Some (x.0 ∷ y.0, y.1)) (xs, rest) e in
    let z = bind_some (row_key_at ts ds y.0.1) (λ z. Some (y.0.0 ∷ z.0, z.1)) (xs, rest) y.2 in
    let first = component_takes t d bs y.0.0 y.0.1 f y.1 in
    let others = row_takes ts ds y.0.1 z.0.0 z.0.1 (omega arith) first.1.rest_fits z.1 in
    let at : AllFit (t ∷ ts) (y.0.0 ∷ z.0.0) × Takes bs (code_of (d ∷ ds) (y.0.0 ∷ z.0.0)) z.0.1 =
    ((first.0, others.0), record { parts = first.1.parts ∙ ap (λ (r : List ℕ). component d y.0.0 ++ r) others.1.parts ∙ sym (append_assoc (component d y.0.0) (code_of ds z.0.0) z.0.1); rest_fits = others.1.rest_fits }) in
    subst (λ (x : List Value × List ℕ). AllFit (t ∷ ts) x.0 × Takes bs (code_of (d ∷ ds) x.0) x.1) (same_Some _ _ z.2) at

row_again : (ts : List ColType) (ds : List Dir) (xs : List Value) (rest : List ℕ) → length ts ≡ length ds → AllFit ts xs → row_key_at ts ds (code_of ds xs ++ rest) ≡ Some (xs, rest)
unfolding row_key_at
row_again [] [] [] rest len fits = refl
row_again [] ds (x ∷ xs) rest len fits = absurd fits
row_again [] (d ∷ ds) [] rest len fits = absurd (omega arith)
row_again (t ∷ ts) [] xs rest len fits = absurd (omega arith)
row_again (t ∷ ts) (d ∷ ds) [] rest len fits = absurd fits
row_again (t ∷ ts) (d ∷ ds) (x ∷ xs) rest len fits =
    ap (row_key_at (t ∷ ts) (d ∷ ds)) (append_assoc (component d x) (code_of ds xs) rest)
    ∙ ap (λ (o : Option (Value × List ℕ)). o >>= λ x. row_key_at ts ds x.1 >>= λ y. Some (x.0 ∷ y.0, y.1)) (component_again t d x (code_of ds xs ++ rest) fits.0)
    ∙ ap (λ (o : Option (List Value × List ℕ)). o >>= λ y. Some (x ∷ y.0, y.1)) (row_again ts ds xs rest (omega arith) fits.1)

pub key_takes : (ts : List ColType) (ds : List Dir) (bs : List ℕ) (xs : List Value) → length ts ≡ length ds → IsBytes bs → key_at ts ds bs ≡ Some xs → AllFit ts xs × (code_of ds xs ≡ bs)
unfolding key_at
key_takes ts ds bs xs len f e =
    let y = bind_some (row_key_at ts ds bs) (λ x. cond (eqb (length x.1) 0) (Some x.0) None) xs e in
    let t = row_takes ts ds bs y.0.0 y.0.1 len f y.1 in
    elim (chosen (eqb (length y.0.1) 0) (Some y.0.0) None (Some xs) y.2) [
      | inl h ↦
          let nothing : y.0.1 ≡ [] = nil_from_length y.0.1 (eqb-true _ _ h.0) in
          let whole : code_of ds y.0.0 ≡ bs = sym (t.1.parts ∙ ap (λ (r : List ℕ). code_of ds y.0.0 ++ r) nothing ∙ append-nil (code_of ds y.0.0)) in
          subst (λ (x : List Value). AllFit ts x × (code_of ds x ≡ bs)) (same_Some _ _ h.1) (t.0, whole)
      | inr h ↦ none_some _ h.1
    ]

pub key_again : (ts : List ColType) (ds : List Dir) (xs : List Value) → length ts ≡ length ds → AllFit ts xs → key_at ts ds (code_of ds xs) ≡ Some xs
unfolding key_at
key_again ts ds xs len fits =
    ap (λ (c : List ℕ). key_at ts ds c) (sym (append-nil (code_of ds xs)))
    ∙ ap (λ (o : Option (List Value × List ℕ)). o >>= λ x. cond (eqb (length x.1) 0) (Some x.0) None) (row_again ts ds xs [] len fits)

-- ---- what a call that reads has answered

pub is_found : {E : Type 0} (ts : List ColType) (ds : List Dir) (bs : List ℕ) (r : Result (Option (List Value)) E) → length ts ≡ length ds → IsBytes bs → IfOk r (λ o. o ≡ key_at ts ds bs) → IfOk r (λ o. IfSome o (λ v. AllFit ts v × (code_of ds v ≡ bs)))
is_found ts ds bs (Ok (Some v)) len fits h = key_takes ts ds bs v len fits (sym h)
is_found ts ds bs (Ok None) len fits h = tt
is_found ts ds bs (Err e) len fits h = tt

pub is_none_left : {E : Type 0} (ts : List ColType) (ds : List Dir) (bs : List ℕ) (r : Result (Option (List Value)) E) → length ts ≡ length ds → IfOk r (λ o. o ≡ key_at ts ds bs) → IfOk r (λ o. IfNone o ((xs : List Value) → AllFit ts xs → code_of ds xs ≡ bs → ⊥))
is_none_left ts ds bs (Ok (Some v)) len h = tt
is_none_left ts ds bs (Ok None) len h = λ xs fits e. none_some xs (h ∙ ap (key_at ts ds) (sym e) ∙ key_again ts ds xs len fits)
is_none_left ts ds bs (Err e) len h = tt

-- ---- texts that ascend and have no zero

no_zero_bytes : (t rest : List ℕ) → list_any (λ b. b == 0) t ≡ false → text_value_at Asc (t ++ 0 ∷ 1 ∷ rest) ≡ Some (t, rest)
unfolding text_value_at
no_zero_bytes [] rest none = refl
no_zero_bytes (zero ∷ t) rest none = absurd cc
no_zero_bytes (suc b ∷ t) rest none =
    let ne : suc b ≢ 0 = λ e. absurd (omega (arith, e)) in
    text_plain Asc (suc b) (t ++ 0 ∷ 1 ∷ rest) ne (omega (arith, length-append t (0 ∷ 1 ∷ rest)))
    ∙ ap (value_behind (suc b)) (no_zero_bytes t rest (rw (ne_eqb (suc b) 0 ne) at none))

-- what is read of a text that ends at the first zero
pub plain_text : (n : ℕ) (bytes : List ℕ) → n + 1 < length bytes → list_any (λ b. b == 0) (take n bytes) ≡ false → get_or bytes n 0 ≡ 0 → get_or bytes (n + 1) 0 ≡ 1
    → Some (take n bytes, drop (n + 2) bytes) ≡ text_value_at Asc bytes
plain_text n bytes lt none ends behind =
    let both : drop n bytes ≡ 0 ∷ 1 ∷ drop (n + 2) bytes = two_at bytes n lt ∙ ap (λ (b : ℕ). b ∷ get_or bytes (n + 1) 0 ∷ drop (n + 2) bytes) ends ∙ ap (λ (b : ℕ). 0 ∷ b ∷ drop (n + 2) bytes) behind in
    sym (no_zero_bytes (take n bytes) (drop (n + 2) bytes) none)
    ∙ ap (λ (b : List ℕ). text_value_at Asc (take n bytes ++ b)) (sym both) ∙ ap (text_value_at Asc) (take-append-drop n bytes)

-- one byte more that is not zero
pub plain_more : (bytes : List ℕ) (i : ℕ) → i < length bytes → get_or bytes i 0 ≢ 0 → list_any (λ b. b == 0) (take i bytes) ≡ false → list_any (λ b. b == 0) (take (i + 1) bytes) ≡ false
plain_more [] i lt ne none = absurd (omega arith)
plain_more (zero ∷ bytes) zero lt ne none = absurd (ne refl)
plain_more (zero ∷ bytes) (suc i) lt ne none = absurd cc
plain_more (suc b ∷ bytes) zero lt ne none = rw (ne_eqb (suc b) 0 (λ e. absurd (omega (arith, e)))) refl
plain_more (suc b ∷ bytes) (suc i) lt ne none =
    let apart : eqb (suc b) 0 ≡ false = ne_eqb (suc b) 0 (λ e. absurd (omega (arith, e))) in
    ap (λ (n : ℕ). list_any (λ b. b == 0) (take n (suc b ∷ bytes))) more ∙ rw apart (plain_more bytes i (omega arith) ne (rw apart at none)) where
      more : suc i + 1 ≡ suc (i + 1)
      more = omega arith
