-- Readers that take a token at least, and readers that give none back.
use Rattle.std.proofs.Common.{◌≡◌, ℕ, zero, suc, ◌<◌, ◌≤◌, Bool, true, false, cond, List, [], ◌∷◌, length, Option, Some, None, Result, Ok, Err, refl, ap, arith}
use Rattle.pq_grammar.specs.Reader.{◌>>=◌, Reader, begins, token_at, picked_token, pair_at, skip_at, close_at, map_at, choice_at, option_at, nothing_at, many_within, many_at, separated_at}

abbrev pub Shrinks : {T X : Type 0} → Reader T X → Type 0
Shrinks {T} {X} r = (ts : List T) (x : X) (rest : List T) → r ts ≡ Ok (x, rest) → length rest < length ts

abbrev pub Keeps : {T X : Type 0} → Reader T X → Type 0
Keeps {T} {X} r = (ts : List T) (x : X) (rest : List T) → r ts ≡ Ok (x, rest) → length rest ≤ length ts

abbrev done : {A : Type 0} → A → Result A ℕ
done x = Ok x

ok_is : {A : Type 0} (x y : A) → done x ≡ done y → x ≡ y
ok_is x y e = cc

abbrev read : {T X : Type 0} → X → List T → Result (X × List T) ℕ
read x rest = Ok (x, rest)

rest_is : {T X : Type 0} (x y : X) (ts rest : List T) → read x ts ≡ read y rest → ts ≡ rest
rest_is {T} {X} x y ts rest e = ap (λ (q : X × List T). q.1) (ok_is (x, ts) (y, rest) e)

token_shrinks_at : {T X : Type 0} (o : Option X) (ts rest : List T) (x : X) → picked_token o ts ≡ Ok (x, rest)
    → length rest < suc (length ts)
token_shrinks_at None ts rest x e = absurd cc
token_shrinks_at (Some y) ts rest x e = omega (arith, ap length (rest_is y x ts rest e))

pub token_shrinks : {T X : Type 0} (f : T → Option X) → Shrinks (token_at f)
token_shrinks f [] x rest e = absurd cc
token_shrinks f (t ∷ ts) x rest e = token_shrinks_at (f t) ts rest x e

pub shrinks_keeps : {T X : Type 0} (r : Reader T X) → Shrinks r → Keeps r
shrinks_keeps r h ts x rest e = omega (arith, h ts x rest e)

bound : {A B : Type 0} (r : Result A ℕ) (f : A → Result B ℕ) (y : B) → (r >>= f) ≡ Ok y
    → (x : A) × (r ≡ Ok x) × (f x ≡ Ok y)
bound (Ok x) f y e = (x, refl, e)
bound (Err d) f y e = absurd cc

pub pair_shrinks : {T A B : Type 0} (r : Reader T A) (s : Reader T B) → Shrinks r → Keeps s → Shrinks (pair_at r s)
pair_shrinks r s h k ts x rest e =
    let a = bound (r ts) (λ a. s a.1 >>= λ b. Ok ((a.0, b.0), b.1)) (x, rest) e in
    let b = bound (s a.0.1) (λ b. Ok ((a.0.0, b.0), b.1)) (x, rest) a.2 in
    omega (arith, h ts a.0.0 a.0.1 a.1, k a.0.1 b.0.0 b.0.1 b.1, ap length (rest_is (a.0.0, b.0.0) x b.0.1 rest b.2))

pub pair_keeps : {T A B : Type 0} (r : Reader T A) (s : Reader T B) → Keeps r → Keeps s → Keeps (pair_at r s)
pair_keeps r s h k ts x rest e =
    let a = bound (r ts) (λ a. s a.1 >>= λ b. Ok ((a.0, b.0), b.1)) (x, rest) e in
    let b = bound (s a.0.1) (λ b. Ok ((a.0.0, b.0), b.1)) (x, rest) a.2 in
    omega (arith, h ts a.0.0 a.0.1 a.1, k a.0.1 b.0.0 b.0.1 b.1, ap length (rest_is (a.0.0, b.0.0) x b.0.1 rest b.2))

pub skip_shrinks : {T B : Type 0} (r : Reader T (Unit {0})) (s : Reader T B) → Shrinks r → Keeps s
    → Shrinks (skip_at r s)
skip_shrinks r s h k ts x rest e =
    let a = bound (r ts) (λ a. s a.1) (x, rest) e in
    omega (arith, h ts a.0.0 a.0.1 a.1, k a.0.1 x rest a.2)

pub close_shrinks : {T A : Type 0} (r : Reader T A) (s : Reader T (Unit {0})) → Shrinks r → Keeps s
    → Shrinks (close_at r s)
close_shrinks r s h k ts x rest e =
    let a = bound (r ts) (λ a. s a.1 >>= λ b. Ok (a.0, b.1)) (x, rest) e in
    let b = bound (s a.0.1) (λ b. Ok (a.0.0, b.1)) (x, rest) a.2 in
    omega (arith, h ts a.0.0 a.0.1 a.1, k a.0.1 b.0.0 b.0.1 b.1, ap length (rest_is a.0.0 x b.0.1 rest b.2))

pub map_shrinks : {T A B : Type 0} (f : A → B) (r : Reader T A) → Shrinks r → Shrinks (map_at f r)
map_shrinks f r h ts x rest e =
    let a = bound (r ts) (λ a. Ok (f a.0, a.1)) (x, rest) e in
    omega (arith, h ts a.0.0 a.0.1 a.1, ap length (rest_is (f a.0.0) x a.0.1 rest a.2))

pub map_keeps : {T A B : Type 0} (f : A → B) (r : Reader T A) → Keeps r → Keeps (map_at f r)
map_keeps f r h ts x rest e =
    let a = bound (r ts) (λ a. Ok (f a.0, a.1)) (x, rest) e in
    omega (arith, h ts a.0.0 a.0.1 a.1, ap length (rest_is (f a.0.0) x a.0.1 rest a.2))

option_keeps_by : {T A : Type 0} (b : Bool) (r : Reader T A) → Keeps r → (ts : List T) (x : Option A) (rest : List T)
    → cond b (r ts >>= λ a. read {X = Option A} (Some a.0) a.1) (read None ts) ≡ Ok (x, rest) → length rest ≤ length ts
option_keeps_by {T} {A} true r h ts x rest e =
    let a = bound (r ts) (λ a. read {X = Option A} (Some a.0) a.1) (x, rest) e in
    omega (arith, h ts a.0.0 a.0.1 a.1, ap length (rest_is (Some a.0.0) x a.0.1 rest a.2))
option_keeps_by {T} {A} false r h ts x rest e = omega (arith, ap length (rest_is {X = Option A} None x ts rest e))

pub option_keeps : {T A : Type 0} (p : T → Bool) (r : Reader T A) → Keeps r → Keeps (option_at p r)
option_keeps p r h ts x rest e = option_keeps_by (begins p ts) r h ts x rest e

choice_keeps_by : {T A : Type 0} (b : Bool) (r s : Reader T A) → Keeps r → Keeps s
    → (ts : List T) (x : A) (rest : List T) → cond b (r ts) (s ts) ≡ Ok (x, rest) → length rest ≤ length ts
choice_keeps_by true r s h k ts x rest e = h ts x rest e
choice_keeps_by false r s h k ts x rest e = k ts x rest e

pub nothing_keeps : {T : Type 0} → Keeps (nothing_at {T = T})
nothing_keeps ts x rest e = omega (arith, ap length (rest_is tt x ts rest e))

pub choice_keeps : {T A : Type 0} (p : T → Bool) (r s : Reader T A) → Keeps r → Keeps s → Keeps (choice_at p r s)
choice_keeps p r s h k ts x rest e = choice_keeps_by (begins p ts) r s h k ts x rest e

choice_shrinks_by : {T A : Type 0} (b : Bool) (r s : Reader T A) → Shrinks r → Shrinks s
    → (ts : List T) (x : A) (rest : List T) → cond b (r ts) (s ts) ≡ Ok (x, rest) → length rest < length ts
choice_shrinks_by true r s h k ts x rest e = h ts x rest e
choice_shrinks_by false r s h k ts x rest e = k ts x rest e

pub choice_shrinks : {T A : Type 0} (p : T → Bool) (r s : Reader T A) → Shrinks r → Shrinks s
    → Shrinks (choice_at p r s)
choice_shrinks p r s h k ts x rest e = choice_shrinks_by (begins p ts) r s h k ts x rest e

many_keeps_by : {T A : Type 0} (n : ℕ) (p : T → Bool) (r : Reader T A) → Keeps r → Keeps (many_within n p r)
    → (b : Bool) (ts : List T) (xs : List A) (rest : List T)
    → cond b (r ts >>= λ a. many_within n p r a.1 >>= λ c. read {X = List A} (a.0 ∷ c.0) c.1) (read [] ts)
    ≡ Ok (xs, rest) → length rest ≤ length ts
many_keeps_by {T} {A} n p r h k true ts xs rest e =
    let a = bound (r ts) (λ a. many_within n p r a.1 >>= λ c. read {X = List A} (a.0 ∷ c.0) c.1) (xs, rest) e in
    let b = bound (many_within n p r a.0.1) (λ c. read {X = List A} (a.0.0 ∷ c.0) c.1) (xs, rest) a.2 in
    let made : List A = a.0.0 ∷ b.0.0 in
    omega (arith, h ts a.0.0 a.0.1 a.1, k a.0.1 b.0.0 b.0.1 b.1, ap length (rest_is made xs b.0.1 rest b.2))
many_keeps_by {T} {A} n p r h k false ts xs rest e = let made : List A =
    [] in omega (arith, ap length (rest_is made xs ts rest e))

many_within_keeps : {T A : Type 0} (n : ℕ) (p : T → Bool) (r : Reader T A) → Keeps r → Keeps (many_within n p r)
unfolding many_within
many_within_keeps {T} {A} zero p r h ts xs rest e = let made : List A =
    [] in omega (arith, ap length (rest_is made xs ts rest e))
many_within_keeps (suc n) p r h ts xs rest e =
    many_keeps_by n p r h (many_within_keeps n p r h) (begins p ts) ts xs rest e

pub many_keeps : {T A : Type 0} (p : T → Bool) (r : Reader T A) → Keeps r → Keeps (many_at p r)
many_keeps p r h ts xs rest e = many_within_keeps (length ts) p r h ts xs rest e

-- one or more take a token at least, where the first does
pub separated_shrinks : {T A : Type 0} (p : T → Bool) (s : Reader T (Unit {0})) (r : Reader T A) → Shrinks r
    → Shrinks s → Shrinks (separated_at p s r)
separated_shrinks p s r h k =
    map_shrinks (λ x. x.0 ∷ x.1) (pair_at r (many_at p (skip_at s r)))
    (pair_shrinks r (many_at p (skip_at s r)) h
    (many_keeps p (skip_at s r) (shrinks_keeps (skip_at s r) (skip_shrinks s r k (shrinks_keeps r h)))))
