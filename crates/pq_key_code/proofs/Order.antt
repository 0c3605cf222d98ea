-- The order of the key code's bytes is the order of the values.
use Rattle.std.specs.Prelude.{◌&&◌, ◌⊎◌}
use Rattle.std.proofs.Common.{◌≡◌, ℕ, zero, suc, ◌^◌, ◌<◌, ◌≤◌, Bool, true, false, cond, ltb, List, [], ◌∷◌, ◌++◌, length, map, take, refl, sym, ap, subst, ◌∙◌, append_assoc, arith, inl, inr}
use Rattle.std.specs.Prelude.{ℤ, pos, negsuc, IsUtf8, FitsSigned}
use Rattle.std.specs.Int.{w64, to_be_bytes}
use Rattle.std.specs.declared.cmp.Ordering.{Ordering}
use Rattle.std.specs.declared.cmp.Ordering.TheVariants.{Less, Equal, Greater}
use Rattle.std.specs.Ordering.{nat_cmp, int_cmp, bool_cmp, ordering_then, ordering_reverse, is_le, is_lt, is_eq}
use Rattle.std.specs.Cmp.{nat_cmp_is}
use Rattle.std.specs.Cmp.Lexicographic.{slice_cmp}
use Rattle.std.proofs.lemmas.Cmp.{int_ranked, nat_list_cmp_total, tied_itself}
use Rattle.std.proofs.lemmas.Bool.{ltb-true}
use Rattle.std.proofs.lemmas.Bool.Decides.{nat_tests}
use Rattle.std.proofs.lemmas.List.{map-id}
use Rattle.std.proofs.lemmas.Map.Lookups.{exact_bytes}
use lib.Utf8.{scalar, scalars, encode, encodes, scalar_cases}
use Rattle.pq_base.specs.declared.value.Dir.{Dir}
use Rattle.pq_base.specs.declared.value.Dir.TheVariants.{Asc, Desc}
use Rattle.pq_base.specs.declared.value.Value.{Value}
use Rattle.pq_base.specs.declared.value.Value.TheVariants as values
use Rattle.pq_base.specs.Values.{IsValue, AreValues, SameKind, SameKinds, is_null}
use Rattle.pq_base.specs.Order.{value_cmp, directed_order, position_cmp}
use Rattle.pq_key_code.specs.KeyOrder.{common_cmp}
use Rattle.pq_key_code.specs.KeyCode.{IsBytes, above_least, truth_byte, escaped_text, payload, turned_byte, null_marker, marker, component, code_of, past_code}
use Rattle.pq_key_code.proofs.Bytes.{Apart, then_assoc, cmp_apart, Apart_from_length, Apart_prefix, complement_apart, complement_reverse, worth, worth_cmp, worth_be, IsBytes-to_be}

-- ---- bytes

pub IsBytes-append : (p q : List ℕ) → IsBytes p → IsBytes q → IsBytes (p ++ q)
IsBytes-append [] q f g = g
IsBytes-append (b ∷ p) q f g = (f.0, IsBytes-append p q f.1 g)

by_test : (b : Bool) (p q : List ℕ) → (b ≡ true → IsBytes p) → (b ≡ false → IsBytes q) → IsBytes (cond b p q)
by_test true p q f g = f refl
by_test false p q f g = g refl

encode_bytes : (c : ℕ) → c < 1114112 → IsBytes (encode c)
unfolding encode
encode_bytes c top =
    by_test (ltb c 128) _ _ (λ e. let lt : c < 128 = ltb-true _ _ e in (omega arith, tt))
    (λ _. by_test (ltb c 2048) _ _ (λ e. let lt : c < 2048 = ltb-true _ _ e in (omega arith, (omega arith, tt)))
    (λ _. by_test (ltb c 65536) _ _ (λ e. let lt : c < 65536 = ltb-true _ _ e in (omega arith, (omega arith, (omega arith, tt))))
    (λ _. (omega arith, (omega arith, (omega arith, (omega arith, tt)))))))

both_true : (a b : Bool) → (a && b) ≡ true → (a ≡ true) × (b ≡ true)
both_true true b e = (refl, e)
both_true false b e = absurd cc

scalar_top : (c : ℕ) → scalar c ≡ true → c < 1114112
scalar_top c e = elim (scalar_cases c e) [ inl h ↦ omega arith | inr h ↦ h.1 ]

encodes_bytes : (cs : List ℕ) → scalars cs ≡ true → IsBytes (encodes cs)
encodes_bytes [] e = tt
encodes_bytes (c ∷ cs) e = let h = both_true (scalar c) (scalars cs) e in IsBytes-append (encode c) (encodes cs) (encode_bytes c (scalar_top c h.0)) (encodes_bytes cs h.1)

pub utf8_bytes : (bs : List ℕ) → IsUtf8 bs → IsBytes bs
utf8_bytes bs u = subst IsBytes u.1.1 (encodes_bytes u.0 u.1.0)

escaped_bytes : (t : List ℕ) → IsBytes t → IsBytes (escaped_text t)
escaped_bytes [] f = tt
escaped_bytes (zero ∷ t) f = (omega arith, (omega arith, escaped_bytes t f.1))
escaped_bytes (suc b ∷ t) f = (f.0, escaped_bytes t f.1)

pub payload_bytes : (x : Value) → IsValue x → IsBytes (payload x)
payload_bytes values.Null v = tt
payload_bytes (values.Int z) v = IsBytes-to_be (above_least z)
payload_bytes (values.Bool false) v = (omega arith, tt)
payload_bytes (values.Bool true) v = (omega arith, tt)
payload_bytes (values.Text t) v = IsBytes-append (escaped_text t) (0 ∷ 1 ∷ []) (escaped_bytes t (utf8_bytes t v)) (omega arith, (omega arith, tt))

-- ---- numbers

pub above_least_below : (z : ℤ) → FitsSigned w64 z → above_least z < 2 ^ 64
above_least_below (pos n) f = let h : n < 2 ^ 63 = f.sfits in omega arith
above_least_below (negsuc n) f = omega arith

above_least_cmp : (a b : ℤ) → FitsSigned w64 a → FitsSigned w64 b → nat_cmp (above_least a) (above_least b) ≡ int_cmp a b
above_least_cmp (pos m) (pos n) f g = grind (arith, nat_tests)
above_least_cmp (pos m) (negsuc n) f g = let h : n < 2 ^ 63 = g.sfits in grind (arith, nat_tests)
above_least_cmp (negsuc m) (pos n) f g = let h : m < 2 ^ 63 = f.sfits in grind (arith, nat_tests)
above_least_cmp (negsuc m) (negsuc n) f g = let h : m < 2 ^ 63 = f.sfits in let k : n < 2 ^ 63 = g.sfits in grind (arith, nat_tests)

number_cmp : (a b : ℤ) → FitsSigned w64 a → FitsSigned w64 b → slice_cmp nat_cmp (to_be_bytes w64 (above_least a)) (to_be_bytes w64 (above_least b)) ≡ int_cmp a b
number_cmp a b f g =
    worth_cmp (to_be_bytes w64 (above_least a)) (to_be_bytes w64 (above_least b)) (IsBytes-to_be (above_least a)) (IsBytes-to_be (above_least b)) refl
    ∙ ap (λ (k : ℕ). nat_cmp k (worth (to_be_bytes w64 (above_least b)))) (worth_be (above_least a) (above_least_below a f))
    ∙ ap (nat_cmp (above_least a)) (worth_be (above_least b) (above_least_below b g))
    ∙ above_least_cmp a b f g

-- ---- texts

zero_suc : (b : ℕ) → nat_cmp 0 (suc b) ≡ Less
zero_suc b = sym (nat_cmp_is 0 (suc b) Less (omega arith))

suc_zero : (b : ℕ) → nat_cmp (suc b) 0 ≡ Greater
suc_zero b = sym (nat_cmp_is (suc b) 0 Greater (omega arith))

abbrev written : List ℕ → List ℕ
written t = escaped_text t ++ 0 ∷ 1 ∷ []

written_apart : (s t : List ℕ) → Apart (written s) (written t)
written_apart [] [] = λ _ _. tt
written_apart [] (zero ∷ t) = λ _ e. absurd (omega arith)
written_apart [] (suc b ∷ t) = λ e. absurd (omega arith)
written_apart (zero ∷ s) [] = λ _ e. absurd (omega arith)
written_apart (zero ∷ s) (zero ∷ t) = λ _ _. written_apart s t
written_apart (zero ∷ s) (suc b ∷ t) = λ e. absurd (omega arith)
written_apart (suc a ∷ s) [] = λ e. absurd (omega arith)
written_apart (suc a ∷ s) (zero ∷ t) = λ e. absurd (omega arith)
written_apart (suc a ∷ s) (suc b ∷ t) = λ _. written_apart s t

written_cmp : (s t : List ℕ) → slice_cmp nat_cmp (written s) (written t) ≡ slice_cmp nat_cmp s t
written_cmp [] [] = refl
written_cmp [] (zero ∷ t) = refl
written_cmp [] (suc b ∷ t) = rw zero_suc
written_cmp (zero ∷ s) [] = refl
written_cmp (zero ∷ s) (zero ∷ t) = written_cmp s t
written_cmp (zero ∷ s) (suc b ∷ t) = rw zero_suc
written_cmp (suc a ∷ s) [] = rw suc_zero
written_cmp (suc a ∷ s) (zero ∷ t) = rw suc_zero
written_cmp (suc a ∷ s) (suc b ∷ t) = ap (ordering_then (nat_cmp (suc a) (suc b))) (written_cmp s t)

-- ---- components

truth_cmp : (a b : Bool) → slice_cmp nat_cmp (truth_byte a ∷ []) (truth_byte b ∷ []) ≡ bool_cmp a b
truth_cmp false false = refl
truth_cmp false true = refl
truth_cmp true false = refl
truth_cmp true true = refl

-- neither is NULL
abbrev IsPlain : Value → Value → Type 0
IsPlain x y = (is_null x ≡ false) × (is_null y ≡ false)

payload_apart : (x y : Value) → IsPlain x y → SameKind x y → Apart (payload x) (payload y)
payload_apart values.Null y p k = absurd cc
payload_apart (values.Int a) values.Null p k = absurd cc
payload_apart (values.Bool a) values.Null p k = absurd cc
payload_apart (values.Text a) values.Null p k = absurd cc
payload_apart (values.Int a) (values.Int b) p k = Apart_from_length (to_be_bytes w64 (above_least a)) (to_be_bytes w64 (above_least b)) refl
payload_apart (values.Bool a) (values.Bool b) p k = λ _. tt
payload_apart (values.Text s) (values.Text t) p k = written_apart s t
payload_apart _ _ p k = absurd k

payload_cmp : (x y : Value) → IsPlain x y → IsValue x → IsValue y → SameKind x y → slice_cmp nat_cmp (payload x) (payload y) ≡ value_cmp x y
payload_cmp values.Null y p f g k = absurd cc
payload_cmp (values.Int a) values.Null p f g k = absurd cc
payload_cmp (values.Bool a) values.Null p f g k = absurd cc
payload_cmp (values.Text a) values.Null p f g k = absurd cc
payload_cmp (values.Int a) (values.Int b) p f g k = number_cmp a b f g
payload_cmp (values.Bool a) (values.Bool b) p f g k = truth_cmp a b
payload_cmp (values.Text s) (values.Text t) p f g k = written_cmp s t
payload_cmp _ _ p f g k = absurd k

turned_apart : (d : Dir) (p q : List ℕ) → IsBytes p → IsBytes q → Apart p q → Apart (map (turned_byte d) p) (map (turned_byte d) q)
turned_apart Asc p q f g a = rw (map-id p, map-id q) a
turned_apart Desc p q f g a = complement_apart p q f g a

turned_cmp : (d : Dir) (p q : List ℕ) → IsBytes p → IsBytes q → Apart p q → slice_cmp nat_cmp (map (turned_byte d) p) (map (turned_byte d) q) ≡ directed_order d (slice_cmp nat_cmp p q)
turned_cmp Asc p q f g a = rw (map-id p, map-id q) refl
turned_cmp Desc p q f g a = complement_reverse p q f g a

-- a value is NULL, or has the marker of all others
marked : (d : Dir) (x : Value) → (x ≡ values.Null) ⊎ ((is_null x ≡ false) × (marker d x ≡ 16))
marked d values.Null = inl refl
marked d (values.Int a) = inr (refl, refl)
marked d (values.Bool a) = inr (refl, refl)
marked d (values.Text a) = inr (refl, refl)

null_apart : (d : Dir) → null_marker d ≡ 16 → ⊥
null_apart Asc e = absurd (omega arith)
null_apart Desc e = absurd (omega arith)

null_below : (d : Dir) (x : Value) → is_null x ≡ false → (nat_cmp (null_marker d) 16 ≡ directed_order d (value_cmp values.Null x)) × (nat_cmp 16 (null_marker d) ≡ directed_order d (value_cmp x values.Null))
null_below d values.Null p = absurd cc
null_below Asc (values.Int a) p = (refl, refl)
null_below Asc (values.Bool a) p = (refl, refl)
null_below Asc (values.Text a) p = (refl, refl)
null_below Desc (values.Int a) p = (refl, refl)
null_below Desc (values.Bool a) p = (refl, refl)
null_below Desc (values.Text a) p = (refl, refl)

-- a component by its marker
abbrev behind : Dir → Value → List ℕ
behind d x = map (turned_byte d) (payload x)

pub component_apart : (d : Dir) (x y : Value) → IsValue x → IsValue y → SameKind x y → Apart (component d x) (component d y)
component_apart d x y f g k = elim (marked d x) [
  | inl n ↦ subst (λ (v : Value). Apart (component d v) (component d y)) (sym n) (from_null y)
  | inr p ↦ elim (marked d y) [
    | inl n ↦ λ e. absurd (null_apart d (ap (marker d) (sym n) ∙ sym e ∙ p.1))
    | inr q ↦ λ _. turned_apart d (payload x) (payload y) (payload_bytes x f) (payload_bytes y g) (payload_apart x y (p.0, q.0) k)
  ]
]
  where
    from_null : (v : Value) → Apart (component d values.Null) (component d v)
    from_null v = elim (marked d v) [
      | inl n ↦ subst (λ (v : Value). Apart (component d values.Null) (component d v)) (sym n) (λ _. tt)
      | inr q ↦ λ e. absurd (null_apart d (e ∙ q.1))
    ]

then_other : (o r : Ordering) → (o ≡ Equal → ⊥) → ordering_then o r ≡ o
then_other Less r n = refl
then_other Equal r n = absurd (n refl)
then_other Greater r n = refl

unequal : (d : Dir) → (nat_cmp (null_marker d) 16 ≡ Equal → ⊥) × (nat_cmp 16 (null_marker d) ≡ Equal → ⊥)
unequal Asc = ((λ e. absurd cc), (λ e. absurd cc))
unequal Desc = ((λ e. absurd cc), (λ e. absurd cc))

null_itself : (d : Dir) → nat_cmp (null_marker d) (null_marker d) ≡ directed_order d Equal
null_itself Asc = refl
null_itself Desc = refl

then_done : (o : Ordering) → ordering_then o Equal ≡ o
then_done Less = refl
then_done Equal = refl
then_done Greater = refl

-- the bytes of two components are ordered as the values
one_cmp : (d : Dir) (x y : Value) → IsValue x → IsValue y → SameKind x y → slice_cmp nat_cmp (component d x) (component d y) ≡ directed_order d (value_cmp x y)
one_cmp d x y f g k = elim (marked d x) [
  | inl n ↦ subst (λ (v : Value). slice_cmp nat_cmp (component d v) (component d y) ≡ directed_order d (value_cmp v y)) (sym n) (from_null y)
  | inr p ↦ elim (marked d y) [
    | inl n ↦ subst (λ (v : Value). slice_cmp nat_cmp (component d x) (component d v) ≡ directed_order d (value_cmp x v)) (sym n) (
        ap (λ (m : ℕ). ordering_then (nat_cmp m (null_marker d)) (slice_cmp nat_cmp (behind d x) [])) p.1
        ∙ then_other (nat_cmp 16 (null_marker d)) (slice_cmp nat_cmp (behind d x) []) (unequal d).1
        ∙ (null_below d x p.0).1)
    | inr q ↦
        ap (λ (m : ℕ). ordering_then (nat_cmp m (marker d y)) (slice_cmp nat_cmp (behind d x) (behind d y))) p.1
        ∙ ap (λ (m : ℕ). ordering_then (nat_cmp 16 m) (slice_cmp nat_cmp (behind d x) (behind d y))) q.1
        ∙ turned_cmp d (payload x) (payload y) (payload_bytes x f) (payload_bytes y g) (payload_apart x y (p.0, q.0) k)
        ∙ ap (directed_order d) (payload_cmp x y (p.0, q.0) f g k)
  ]
]
  where
    from_null : (v : Value) → slice_cmp nat_cmp (component d values.Null) (component d v) ≡ directed_order d (value_cmp values.Null v)
    from_null v = elim (marked d v) [
      | inl n ↦ subst (λ (v : Value). slice_cmp nat_cmp (component d values.Null) (component d v) ≡ directed_order d (value_cmp values.Null v)) (sym n) (then_done (nat_cmp (null_marker d) (null_marker d)) ∙ null_itself d)
      | inr q ↦
          ap (λ (m : ℕ). ordering_then (nat_cmp (null_marker d) m) (slice_cmp nat_cmp [] (behind d v))) q.1
          ∙ then_other (nat_cmp (null_marker d) 16) (slice_cmp nat_cmp [] (behind d v)) (unequal d).0
          ∙ (null_below d v q.0).0
    ]

-- the bytes after two components decide only where the values are equal
pub component_cmp : (d : Dir) (x y : Value) (r s : List ℕ) → IsValue x → IsValue y → SameKind x y → slice_cmp nat_cmp (component d x ++ r) (component d y ++ s) ≡ ordering_then (directed_order d (value_cmp x y)) (slice_cmp nat_cmp r s)
component_cmp d x y r s f g k =
    cmp_apart (component d x) (component d y) r s (component_apart d x y f g k)
    ∙ ap (λ (o : Ordering). ordering_then o (slice_cmp nat_cmp r s)) (one_cmp d x y f g k)

-- 20 is above each marker
past_first : (d : Dir) (x : Value) (r : List ℕ) → slice_cmp nat_cmp (32 ∷ []) (component d x ++ r) ≡ Greater
past_first Asc values.Null r = refl
past_first Desc values.Null r = refl
past_first d (values.Int a) r = refl
past_first d (values.Bool a) r = refl
past_first d (values.Text a) r = refl

-- ---- lists

pub prefix_free_lem : (d : Dir) (x y : Value) (rest : List ℕ) → IsValue x → IsValue y → SameKind x y → component d y ≡ component d x ++ rest → rest ≡ []
prefix_free_lem d x y rest f g k e = Apart_prefix (component d x) rest (subst (Apart (component d x)) e (component_apart d x y f g k))

-- the code of a prefix and 20, against the code of a list
pub past_cmp : (ds : List Dir) (ps xs : List Value) → AreValues ps → AreValues xs → SameKinds ps xs → slice_cmp nat_cmp (past_code (code_of ds ps)) (code_of ds xs) ≡ ordering_then (common_cmp ds ps xs) Greater
past_cmp [] ps xs f g k = refl
past_cmp (d ∷ ds) [] [] f g k = refl
past_cmp (d ∷ ds) [] (x ∷ xs) f g k = past_first d x (code_of ds xs)
past_cmp (d ∷ ds) (p ∷ ps) [] f g k = refl
past_cmp (d ∷ ds) (p ∷ ps) (x ∷ xs) f g k =
    ap (λ (c : List ℕ). slice_cmp nat_cmp c (component d x ++ code_of ds xs)) (append_assoc (component d p) (code_of ds ps) (32 ∷ []))
    ∙ component_cmp d p x (past_code (code_of ds ps)) (code_of ds xs) f.0 g.0 k.0
    ∙ then_assoc (directed_order d (value_cmp p x)) (slice_cmp nat_cmp (past_code (code_of ds ps)) (code_of ds xs)) (common_cmp ds ps xs) Greater (λ _. past_cmp ds ps xs f.1 g.1 k.1)

in_dir_equal : (d : Dir) (o : Ordering) → directed_order d o ≡ Equal → o ≡ Equal
in_dir_equal Asc o e = e
in_dir_equal Desc Less e = absurd cc
in_dir_equal Desc Equal e = refl
in_dir_equal Desc Greater e = absurd cc

bool_equal : (a b : Bool) → bool_cmp a b ≡ Equal → a ≡ b
bool_equal false false e = refl
bool_equal false true e = absurd cc
bool_equal true false e = absurd cc
bool_equal true true e = refl

pub data_equal : (x y : Value) → SameKind x y → value_cmp x y ≡ Equal → x ≡ y
data_equal (values.Int a) (values.Int b) k e = ap values.Int (int_ranked a b Equal (sym e))
data_equal (values.Bool a) (values.Bool b) k e = ap values.Bool (bool_equal a b e)
data_equal (values.Text s) (values.Text t) k e = ap values.Text (exact_bytes s t e)
data_equal values.Null values.Null k e = refl
data_equal values.Null (values.Int b) k e = absurd cc
data_equal values.Null (values.Bool b) k e = absurd cc
data_equal values.Null (values.Text b) k e = absurd cc
data_equal (values.Int a) values.Null k e = absurd cc
data_equal (values.Bool a) values.Null k e = absurd cc
data_equal (values.Text a) values.Null k e = absurd cc
data_equal _ _ k e = absurd k

pub then_equal : (a b : Ordering) → ordering_then a b ≡ Equal → (a ≡ Equal) × (b ≡ Equal)
then_equal Less b e = absurd cc
then_equal Equal b e = (refl, e)
then_equal Greater b e = absurd cc

same_equal : (p q : List ℕ) → p ≡ q → slice_cmp nat_cmp p q ≡ Equal
same_equal p q e = ap (slice_cmp nat_cmp p) (sym e) ∙ tied_itself nat_list_cmp_total p

extends_equal : (ds : List Dir) (ps xs : List Value) (rest : List ℕ) → AreValues ps → AreValues xs → SameKinds ps xs → code_of ds xs ≡ code_of ds ps ++ rest → common_cmp ds ps xs ≡ Equal
extends_equal [] ps xs rest f g k e = refl
extends_equal (d ∷ ds) [] [] rest f g k e = refl
extends_equal (d ∷ ds) [] (x ∷ xs) rest f g k e = refl
extends_equal (d ∷ ds) (p ∷ ps) [] rest f g k e = refl
extends_equal (d ∷ ds) (p ∷ ps) (x ∷ xs) rest f g k e =
    let grouped : component d p ++ (code_of ds ps ++ rest) ≡ component d x ++ code_of ds xs = sym (append_assoc (component d p) (code_of ds ps) rest) ∙ sym e in
    let split = then_equal (directed_order d (value_cmp p x)) (slice_cmp nat_cmp (code_of ds ps ++ rest) (code_of ds xs)) (sym (component_cmp d p x (code_of ds ps ++ rest) (code_of ds xs) f.0 g.0 k.0) ∙ same_equal (component d p ++ (code_of ds ps ++ rest)) (component d x ++ code_of ds xs) grouped) in
    ap (λ (o : Ordering). ordering_then o (common_cmp ds ps xs)) split.0 ∙ extends_equal ds ps xs rest f.1 g.1 k.1 (sym (exact_bytes (code_of ds ps ++ rest) (code_of ds xs) split.1))

pub above_lem : (ds : List Dir) (ps xs : List Value) (rest : List ℕ) → AreValues ps → AreValues xs → SameKinds ps xs → code_of ds xs ≡ code_of ds ps ++ rest → slice_cmp nat_cmp (code_of ds xs) (past_code (code_of ds ps)) ≡ Less
above_lem ds ps xs rest f g k e =
    let greater : slice_cmp nat_cmp (past_code (code_of ds ps)) (code_of ds xs) ≡ Greater = past_cmp ds ps xs f g k ∙ ap (λ (o : Ordering). ordering_then o Greater) (extends_equal ds ps xs rest f g k e) in
    nat_list_cmp_total.antisymm (code_of ds xs) (past_code (code_of ds ps)) ∙ ap ordering_reverse greater

then_less : (o a b : Ordering) → (o ≡ Equal → a ≡ Less → b ≡ Less) → ordering_then o a ≡ Less → ordering_then o b ≡ Less
then_less Less a b h e = refl
then_less Equal a b h e = h refl e
then_less Greater a b h e = absurd cc

below_less : (ds : List Dir) (ps xs : List Value) → AreValues ps → AreValues xs → SameKinds ps xs → ((rest : List ℕ) → code_of ds xs ≡ code_of ds ps ++ rest → ⊥) → slice_cmp nat_cmp (code_of ds ps) (code_of ds xs) ≡ Less → common_cmp ds ps xs ≡ Less
below_less [] ps xs f g k begins less = absurd (begins [] refl)
below_less (d ∷ ds) [] xs f g k begins less = absurd (begins (code_of (d ∷ ds) xs) refl)
below_less (d ∷ ds) (p ∷ ps) [] f g k begins less = absurd cc
below_less (d ∷ ds) (p ∷ ps) (x ∷ xs) f g k begins less =
    then_less (directed_order d (value_cmp p x)) (slice_cmp nat_cmp (code_of ds ps) (code_of ds xs)) (common_cmp ds ps xs)
    (λ same. below_less ds ps xs f.1 g.1 k.1
    (λ rest e. begins rest (
    ap (λ (c : List ℕ). component d x ++ c) e
    ∙ ap (λ (y : Value). component d y ++ (code_of ds ps ++ rest)) (sym (data_equal p x k.0 (in_dir_equal d (value_cmp p x) same)))
    ∙ sym (append_assoc (component d p) (code_of ds ps) rest))))
    (sym (component_cmp d p x (code_of ds ps) (code_of ds xs) f.0 g.0 k.0) ∙ less)

pub below_lem : (ds : List Dir) (ps xs : List Value) → AreValues ps → AreValues xs → SameKinds ps xs → ((rest : List ℕ) → code_of ds xs ≡ code_of ds ps ++ rest → ⊥) → slice_cmp nat_cmp (code_of ds ps) (code_of ds xs) ≡ Less → slice_cmp nat_cmp (past_code (code_of ds ps)) (code_of ds xs) ≡ Less
below_lem ds ps xs f g k begins less = past_cmp ds ps xs f g k ∙ ap (λ (o : Ordering). ordering_then o Greater) (below_less ds ps xs f g k begins less)

pub codes_apart : (ds : List Dir) (xs ys : List Value) (r s : List ℕ) → AreValues xs → AreValues ys → SameKinds xs ys → length xs ≡ length ys → length xs ≤ length ds → code_of ds xs ++ r ≡ code_of ds ys ++ s → (xs ≡ ys) × (r ≡ s)
codes_apart [] [] [] r s f g k len long e = (refl, e)
codes_apart [] [] (y ∷ ys) r s f g k len long e = absurd (omega arith)
codes_apart [] (x ∷ xs) ys r s f g k len long e = absurd (omega arith)
codes_apart (d ∷ ds) [] [] r s f g k len long e = (refl, e)
codes_apart (d ∷ ds) [] (y ∷ ys) r s f g k len long e = absurd (omega arith)
codes_apart (d ∷ ds) (x ∷ xs) [] r s f g k len long e = absurd (omega arith)
codes_apart (d ∷ ds) (x ∷ xs) (y ∷ ys) r s f g k len long e =
    let grouped : component d x ++ (code_of ds xs ++ r) ≡ component d y ++ (code_of ds ys ++ s) = sym (append_assoc (component d x) (code_of ds xs) r) ∙ e ∙ append_assoc (component d y) (code_of ds ys) s in
    let split = then_equal (directed_order d (value_cmp x y)) (slice_cmp nat_cmp (code_of ds xs ++ r) (code_of ds ys ++ s)) (sym (component_cmp d x y (code_of ds xs ++ r) (code_of ds ys ++ s) f.0 g.0 k.0) ∙ same_equal _ _ grouped) in
    let others = codes_apart ds xs ys r s f.1 g.1 k.1 (omega arith) (omega arith) (exact_bytes (code_of ds xs ++ r) (code_of ds ys ++ s) split.1) in
    (ap (λ (z : Value). z ∷ xs) (data_equal x y k.0 (in_dir_equal d (value_cmp x y) split.0)) ∙ ap (λ (zs : List Value). y ∷ zs) others.0, others.1)

-- ---- the codes between a prefix and the prefix and 20

suc_cmp : (m n : ℕ) → nat_cmp (suc m) (suc n) ≡ nat_cmp m n
suc_cmp m n = grind (arith, nat_tests)

pub prefix_cmp : (ds : List Dir) (ps xs : List Value) → AreValues ps → AreValues xs → SameKinds ps xs → length ps ≤ length ds → length xs ≤ length ds → slice_cmp nat_cmp (code_of ds ps) (code_of ds xs) ≡ ordering_then (common_cmp ds ps xs) (nat_cmp (length ps) (length xs))
prefix_cmp [] [] [] f g k le long = refl
prefix_cmp [] ps (x ∷ xs) f g k le long = absurd (omega arith)
prefix_cmp [] (p ∷ ps) [] f g k le long = absurd (omega arith)
prefix_cmp (d ∷ ds) [] [] f g k le long = refl
prefix_cmp (d ∷ ds) [] (x ∷ xs) f g k le long = sym (zero_suc (length xs))
prefix_cmp (d ∷ ds) (p ∷ ps) [] f g k le long = sym (suc_zero (length ps))
prefix_cmp (d ∷ ds) (p ∷ ps) (x ∷ xs) f g k le long =
    component_cmp d p x (code_of ds ps) (code_of ds xs) f.0 g.0 k.0
    ∙ then_assoc (directed_order d (value_cmp p x)) (slice_cmp nat_cmp (code_of ds ps) (code_of ds xs)) (common_cmp ds ps xs) (nat_cmp (length ps) (length xs)) (λ _. prefix_cmp ds ps xs f.1 g.1 k.1 (omega arith) (omega arith))
    ∙ ap (ordering_then (ordering_then (directed_order d (value_cmp p x)) (common_cmp ds ps xs))) (sym (suc_cmp (length ps) (length xs)))

-- the order of rows is the order by the places that both have, and then by the lengths
pub position_cmp-common : (ds : List Dir) (xs ys : List Value) → length xs ≤ length ds → length ys ≤ length ds → position_cmp ds xs ys ≡ ordering_then (common_cmp ds xs ys) (nat_cmp (length xs) (length ys))
position_cmp-common [] [] [] le long = refl
position_cmp-common [] xs (y ∷ ys) le long = absurd (omega arith)
position_cmp-common [] (x ∷ xs) [] le long = absurd (omega arith)
position_cmp-common (d ∷ ds) [] [] le long = refl
position_cmp-common (d ∷ ds) [] (y ∷ ys) le long = sym (zero_suc (length ys))
position_cmp-common (d ∷ ds) (x ∷ xs) [] le long = sym (suc_zero (length xs))
position_cmp-common (d ∷ ds) (x ∷ xs) (y ∷ ys) le long =
    then_assoc (directed_order d (value_cmp x y)) (position_cmp ds xs ys) (common_cmp ds xs ys) (nat_cmp (length xs) (length ys)) (λ _. position_cmp-common ds xs ys (omega arith) (omega arith))
    ∙ ap (ordering_then (ordering_then (directed_order d (value_cmp x y)) (common_cmp ds xs ys))) (sym (suc_cmp (length xs) (length ys)))

-- lists of equal length are ordered by the places that both have
pub position_cmp-same_length : (ds : List Dir) (xs ys : List Value) → length xs ≡ length ys → length xs ≤ length ds → position_cmp ds xs ys ≡ common_cmp ds xs ys
position_cmp-same_length [] [] [] e le = refl
position_cmp-same_length ds [] (y ∷ ys) e le = absurd (omega arith)
position_cmp-same_length ds (x ∷ xs) [] e le = absurd (omega arith)
position_cmp-same_length [] (x ∷ xs) (y ∷ ys) e le = absurd (omega arith)
position_cmp-same_length (d ∷ ds) [] [] e le = refl
position_cmp-same_length (d ∷ ds) (x ∷ xs) (y ∷ ys) e le = ap (ordering_then (directed_order d (value_cmp x y))) (position_cmp-same_length ds xs ys (omega arith) (omega arith))

-- the order of the codes' bytes is the order of the lists
pub codes_cmp : (ds : List Dir) (xs ys : List Value) → AreValues xs → AreValues ys → SameKinds xs ys → length xs ≤ length ds → length ys ≤ length ds → slice_cmp nat_cmp (code_of ds xs) (code_of ds ys) ≡ position_cmp ds xs ys
codes_cmp ds xs ys f g k le long = prefix_cmp ds xs ys f g k le long ∙ sym (position_cmp-common ds xs ys le long)

at_most : (m n : ℕ) → m ≤ n → is_le (nat_cmp m n) ≡ true
at_most m n le = grind (arith, nat_tests)

between_is : (o n : Ordering) → is_le n ≡ true → (is_le (ordering_then o n) && is_lt (ordering_reverse (ordering_then o Greater))) ≡ is_eq o
between_is Less n h = refl
between_is Equal n h = rw h refl
between_is Greater n h = refl

pub range_lem : (ds : List Dir) (ps xs : List Value) → AreValues ps → AreValues xs → SameKinds ps xs → length ps ≤ length xs → length xs ≤ length ds → (is_le (slice_cmp nat_cmp (code_of ds ps) (code_of ds xs)) && is_lt (slice_cmp nat_cmp (code_of ds xs) (past_code (code_of ds ps)))) ≡ is_eq (common_cmp ds ps xs)
range_lem ds ps xs f g k le long =
    ap (λ (o : Ordering). is_le o && is_lt (slice_cmp nat_cmp (code_of ds xs) (past_code (code_of ds ps)))) (prefix_cmp ds ps xs f g k (omega arith) long)
    ∙ ap (λ (o : Ordering). is_le (ordering_then (common_cmp ds ps xs) (nat_cmp (length ps) (length xs))) && is_lt o) (nat_list_cmp_total.antisymm (code_of ds xs) (past_code (code_of ds ps)) ∙ ap ordering_reverse (past_cmp ds ps xs f g k))
    ∙ between_is (common_cmp ds ps xs) (nat_cmp (length ps) (length xs)) (at_most _ _ le)

-- a list that agrees with a prefix begins with it
pub take_from_common_cmp : (ds : List Dir) (ps xs : List Value) → SameKinds ps xs → length ps ≤ length xs → length xs ≤ length ds → common_cmp ds ps xs ≡ Equal → take (length ps) xs ≡ ps
take_from_common_cmp ds [] xs k le long e = refl
take_from_common_cmp ds (p ∷ ps) [] k le long e = absurd (omega arith)
take_from_common_cmp [] (p ∷ ps) (x ∷ xs) k le long e = absurd (omega arith)
take_from_common_cmp (d ∷ ds) (p ∷ ps) (x ∷ xs) k le long e =
    let split = then_equal (directed_order d (value_cmp p x)) (common_cmp ds ps xs) e in
    ap (λ (y : Value). y ∷ take (length ps) xs) (sym (data_equal p x k.0 (in_dir_equal d (value_cmp p x) split.0))) ∙ ap (λ (ys : List Value). p ∷ ys) (take_from_common_cmp ds ps xs k.1 (omega arith) (omega arith) split.1)

pub is_eq_equal : (o : Ordering) → is_eq o ≡ true → o ≡ Equal
is_eq_equal Less e = absurd cc
is_eq_equal Equal e = refl
is_eq_equal Greater e = absurd cc

-- a code in the range begins with the prefix
pub in_range_lem : (ds : List Dir) (ps xs : List Value) → AreValues ps → AreValues xs → SameKinds ps xs → length ps ≤ length xs → length xs ≤ length ds → (is_le (slice_cmp nat_cmp (code_of ds ps) (code_of ds xs)) && is_lt (slice_cmp nat_cmp (code_of ds xs) (past_code (code_of ds ps)))) ≡ true → take (length ps) xs ≡ ps
in_range_lem ds ps xs f g k le long e = take_from_common_cmp ds ps xs k le long (is_eq_equal (common_cmp ds ps xs) (sym (range_lem ds ps xs f g k le long) ∙ e))
