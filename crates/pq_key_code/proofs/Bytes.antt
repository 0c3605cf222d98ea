-- Comparing lists of bytes from the front.
use Rattle.std.proofs.Common.{◌≡◌, ℕ, suc, ◌+◌, ◌*◌, ◌-◌, ◌^◌, ◌<◌, ◌≤◌, List, [], ◌∷◌, ◌++◌, length, map, refl, sym, ap, ◌∙◌, arith}
use Rattle.std.specs.Int.{w64, to_be_bytes}
use Rattle.std.specs.declared.cmp.Ordering.{Ordering}
use Rattle.std.specs.declared.cmp.Ordering.TheVariants.{Less, Equal, Greater}
use Rattle.std.specs.Ordering.{nat_cmp, ordering_then, ordering_reverse}
use Rattle.std.specs.Cmp.Lexicographic.{slice_cmp}
use Rattle.std.proofs.lemmas.Cmp.{ranked}
use Rattle.std.proofs.lemmas.Bool.Decides.{nat_tests}
use Rattle.std.proofs.lemmas.Nat.{from_be_bytes-to_be_bytes_8}
use Rattle.std.proofs.Math.Nat.{mul-le-mul_right, pow-suc, suc-mul}
use Rattle.pq_key_code.specs.KeyCode.{IsBytes}

-- neither is a proper prefix of the other
abbrev pub Apart : List ℕ → List ℕ → Type 0
Apart [] [] = Unit {0}
Apart [] (y ∷ q) = ⊥
Apart (x ∷ p) [] = ⊥
Apart (x ∷ p) (y ∷ q) = x ≡ y → Apart p q

pub nat_cmp_equal : (x y : ℕ) → nat_cmp x y ≡ Equal → x ≡ y
nat_cmp_equal x y e = ranked x y Equal (sym e)

pub then_assoc : (o a b c : Ordering) → (o ≡ Equal → a ≡ ordering_then b c) → ordering_then o a ≡ ordering_then (ordering_then o b) c
then_assoc Less a b c h = refl
then_assoc Equal a b c h = h refl
then_assoc Greater a b c h = refl

then_reverse : (o a b : Ordering) → (o ≡ Equal → a ≡ ordering_reverse b) → ordering_then (ordering_reverse o) a ≡ ordering_reverse (ordering_then o b)
then_reverse Less a b h = refl
then_reverse Equal a b h = h refl
then_reverse Greater a b h = refl

-- what follows two parts that are apart decides only where the parts are equal
pub cmp_apart : (p q r s : List ℕ) → Apart p q → slice_cmp nat_cmp (p ++ r) (q ++ s) ≡ ordering_then (slice_cmp nat_cmp p q) (slice_cmp nat_cmp r s)
cmp_apart [] [] r s a = refl
cmp_apart [] (y ∷ q) r s a = absurd a
cmp_apart (x ∷ p) [] r s a = absurd a
cmp_apart (x ∷ p) (y ∷ q) r s a = then_assoc (nat_cmp x y) (slice_cmp nat_cmp (p ++ r) (q ++ s)) (slice_cmp nat_cmp p q) (slice_cmp nat_cmp r s) (λ e. cmp_apart p q r s (a (nat_cmp_equal x y e)))

pub Apart_from_length : (p q : List ℕ) → length p ≡ length q → Apart p q
Apart_from_length [] [] e = tt
Apart_from_length [] (y ∷ q) e = absurd (omega arith)
Apart_from_length (x ∷ p) [] e = absurd (omega arith)
Apart_from_length (x ∷ p) (y ∷ q) e = λ _. Apart_from_length p q (omega arith)

-- a part and one that it begins
pub Apart_prefix : (p r : List ℕ) → Apart p (p ++ r) → r ≡ []
Apart_prefix [] [] a = refl
Apart_prefix [] (x ∷ r) a = absurd a
Apart_prefix (x ∷ p) r a = Apart_prefix p r (a refl)

complement_cmp : (x y : ℕ) → x < 256 → y < 256 → nat_cmp (255 - x) (255 - y) ≡ ordering_reverse (nat_cmp x y)
complement_cmp x y p q = grind (arith, nat_tests)

pub complement_apart : (p q : List ℕ) → IsBytes p → IsBytes q → Apart p q → Apart (map (λ (b : ℕ). 255 - b) p) (map (λ (b : ℕ). 255 - b) q)
complement_apart [] [] f g a = tt
complement_apart [] (y ∷ q) f g a = absurd a
complement_apart (x ∷ p) [] f g a = absurd a
complement_apart (x ∷ p) (y ∷ q) f g a = λ e. complement_apart p q f.1 g.1 (a (let lx : x < 256 = f.0 in let ly : y < 256 = g.0 in omega arith))

-- complemented bytes have the order turned round
pub complement_reverse : (p q : List ℕ) → IsBytes p → IsBytes q → Apart p q → slice_cmp nat_cmp (map (λ (b : ℕ). 255 - b) p) (map (λ (b : ℕ). 255 - b) q) ≡ ordering_reverse (slice_cmp nat_cmp p q)
complement_reverse [] [] f g a = refl
complement_reverse [] (y ∷ q) f g a = absurd a
complement_reverse (x ∷ p) [] f g a = absurd a
complement_reverse (x ∷ p) (y ∷ q) f g a =
    ap (λ (o : Ordering). ordering_then o (slice_cmp nat_cmp (map (λ (b : ℕ). 255 - b) p) (map (λ (b : ℕ). 255 - b) q))) (complement_cmp x y f.0 g.0)
    ∙ then_reverse (nat_cmp x y) (slice_cmp nat_cmp (map (λ (b : ℕ). 255 - b) p) (map (λ (b : ℕ). 255 - b) q)) (slice_cmp nat_cmp p q) (λ e. complement_reverse p q f.1 g.1 (a (nat_cmp_equal x y e)))

-- ---- numbers

-- what the bytes are worth, the highest first
abbrev pub worth : List ℕ → ℕ
worth [] = 0
worth (b ∷ bs) = b * 256 ^ length bs + worth bs

below_next : (b p r : ℕ) → b < 256 → r < p → b * p + r < p * 256
below_next b p r lt small = let le : b * p ≤ 255 * p = mul-le-mul_right p (omega arith) in omega (arith, le)

pub worth_below : (bs : List ℕ) → IsBytes bs → worth bs < 256 ^ length bs
worth_below [] f = omega arith
worth_below (b ∷ bs) f = rw pow-suc (below_next b (256 ^ length bs) (worth bs) f.0 (worth_below bs f.1))

by_digits : (a b m n p r s : ℕ) → r < p → s < p → (a < b → m + p ≤ n) → (b < a → n + p ≤ m) → (a ≡ b → m ≡ n) → nat_cmp (m + r) (n + s) ≡ ordering_then (nat_cmp a b) (nat_cmp r s)
by_digits a b m n p r s rp sp less more same = grind (arith, nat_tests)

digit_cmp : (a b p r s : ℕ) → r < p → s < p → nat_cmp (a * p + r) (b * p + s) ≡ ordering_then (nat_cmp a b) (nat_cmp r s)
digit_cmp a b p r s rp sp =
    let less : a < b → a * p + p ≤ b * p = λ h. let le : suc a * p ≤ b * p = mul-le-mul_right p (omega arith) in omega (arith, le, suc-mul a p) in
    let more : b < a → b * p + p ≤ a * p = λ h. let le : suc b * p ≤ a * p = mul-le-mul_right p (omega arith) in omega (arith, le, suc-mul b p) in
    let same : a ≡ b → a * p ≡ b * p = λ h. ap (λ (x : ℕ). x * p) h in
    by_digits a b (a * p) (b * p) p r s rp sp less more same

pub worth_cmp : (xs ys : List ℕ) → IsBytes xs → IsBytes ys → length xs ≡ length ys → slice_cmp nat_cmp xs ys ≡ nat_cmp (worth xs) (worth ys)
worth_cmp [] [] f g e = refl
worth_cmp [] (y ∷ ys) f g e = absurd (omega arith)
worth_cmp (x ∷ xs) [] f g e = absurd (omega arith)
worth_cmp (x ∷ xs) (y ∷ ys) f g e =
    let same : length xs ≡ length ys = omega arith in
    let below : worth ys < 256 ^ length xs = rw same (worth_below ys g.1) in
    ap (ordering_then (nat_cmp x y)) (worth_cmp xs ys f.1 g.1 same)
    ∙ sym (digit_cmp x y (256 ^ length xs) (worth xs) (worth ys) (worth_below xs f.1) below)
    ∙ ap (λ (k : ℕ). nat_cmp (x * 256 ^ length xs + worth xs) (y * 256 ^ k + worth ys)) same

pub worth_be : (n : ℕ) → n < 2 ^ 64 → worth (to_be_bytes w64 n) ≡ n
worth_be n lt = omega (arith, from_be_bytes-to_be_bytes_8 n lt)

pub IsBytes-to_be : (n : ℕ) → IsBytes (to_be_bytes w64 n)
IsBytes-to_be n = (omega arith, (omega arith, (omega arith, (omega arith, (omega arith, (omega arith, (omega arith, (omega arith, tt))))))))
