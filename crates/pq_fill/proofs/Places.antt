-- Which statement stands at a place of the script.
use Rattle.std.proofs.Common.{◌≡◌, ◌∙◌, sym, ap, ℕ, ◌+◌, ◌*◌, ◌/◌, ◌%◌, ◌<◌, ◌≤◌, suc, zero, List, [], ◌∷◌, ◌++◌, length, map, flat_map, Some, None, refl, arith, append_assoc, length-append}
use Rattle.std.proofs.Math.Nat.{div-lt_iff_lt-mul}
use Rattle.std.proofs.lemmas.List.{length-map}
use Rattle.std.proofs.lemmas.List.FromFn.{length-map-range_with_len}
use Rattle.std.proofs.lemmas.Option.{slice_get_past}
use Rattle.std.specs.List.{range_with_len, slice_get}
use Rattle.pq_fill.specs.Script.{below, definitions, users, followed_user, sub, subs, thought, thoughts, runs, items, fill_script, fill_kinds, item_text, item_kind}
use Rattle.pq_fill.specs.declared.item.Item.TheVariants as item

-- ---- a list behind another

at_front : {X : Type 0} (xs ys : List X) (i : ℕ) → i < length xs → slice_get (xs ++ ys) i ≡ slice_get xs i
at_front [] ys i h = absurd (omega arith)
at_front (x ∷ xs) ys zero h = refl
at_front (x ∷ xs) ys (suc i) h = at_front xs ys i (omega arith)

-- i stands so far behind the first list
at_back : {X : Type 0} (xs ys : List X) (i j : ℕ) → i ≡ length xs + j → slice_get (xs ++ ys) i ≡ slice_get ys j
at_back [] ys i j e = ap (slice_get ys) (omega arith)
at_back (x ∷ xs) ys zero j e = absurd (omega arith)
at_back (x ∷ xs) ys (suc i) j e = at_back xs ys i j (omega arith)

-- ---- five lists in a row

in_a_row : {X : Type 0} (a b c d e : List X) → a ++ b ++ c ++ d ++ e ≡ a ++ (b ++ (c ++ (d ++ e)))
in_a_row a b c d e = simp append_assoc

in_1st : {X : Type 0} (a b c d e : List X) (i : ℕ) → i < length a → slice_get (a ++ b ++ c ++ d ++ e) i ≡ slice_get a i
in_1st a b c d e i h = ap (λ xs. slice_get xs i) (in_a_row a b c d e) ∙ at_front a (b ++ (c ++ (d ++ e))) i h

in_2nd : {X : Type 0} (a b c d e : List X) (i p : ℕ) → i ≡ length a + p → p < length b → slice_get (a ++ b ++ c ++ d ++ e) i ≡ slice_get b p
in_2nd a b c d e i p q h = ap (λ xs. slice_get xs i) (in_a_row a b c d e) ∙ at_back a (b ++ (c ++ (d ++ e))) i p q ∙ at_front b (c ++ (d ++ e)) p h

in_3rd : {X : Type 0} (a b c d e : List X) (i p : ℕ) → i ≡ length a + length b + p → p < length c → slice_get (a ++ b ++ c ++ d ++ e) i ≡ slice_get c p
in_3rd a b c d e i p q h =
    ap (λ xs. slice_get xs i) (in_a_row a b c d e)
    ∙ at_back a (b ++ (c ++ (d ++ e))) i (length b + p) (omega (arith, q))
    ∙ at_back b (c ++ (d ++ e)) (length b + p) p refl
    ∙ at_front c (d ++ e) p h

in_4th : {X : Type 0} (a b c d e : List X) (i p : ℕ) → i ≡ length a + length b + length c + p → p < length d → slice_get (a ++ b ++ c ++ d ++ e) i ≡ slice_get d p
in_4th a b c d e i p q h =
    ap (λ xs. slice_get xs i) (in_a_row a b c d e)
    ∙ at_back a (b ++ (c ++ (d ++ e))) i (length b + (length c + p)) (omega (arith, q))
    ∙ at_back b (c ++ (d ++ e)) (length b + (length c + p)) (length c + p) refl
    ∙ at_back c (d ++ e) (length c + p) p refl
    ∙ at_front d e p h

in_5th : {X : Type 0} (a b c d e : List X) (i p : ℕ) → i ≡ length a + length b + length c + length d + p → slice_get (a ++ b ++ c ++ d ++ e) i ≡ slice_get e p
in_5th a b c d e i p q =
    ap (λ xs. slice_get xs i) (in_a_row a b c d e)
    ∙ at_back a (b ++ (c ++ (d ++ e))) i (length b + (length c + (length d + p))) (omega (arith, q))
    ∙ at_back b (c ++ (d ++ e)) (length b + (length c + (length d + p))) (length c + (length d + p)) refl
    ∙ at_back c (d ++ e) (length c + (length d + p)) (length d + p) refl
    ∙ at_back d e (length d + p) p refl

five_long : {X : Type 0} (a b c d e : List X) → length (a ++ b ++ c ++ d ++ e) ≡ length a + length b + length c + length d + length e
five_long a b c d e =
    omega (arith, length-append (a ++ b ++ c ++ d) e, length-append (a ++ b ++ c) d, length-append (a ++ b) c, length-append a b)

-- ---- lists that are made of the numbers from a on

at_each : {X : Type 0} (f : ℕ → X) (a n i : ℕ) → i < n → slice_get (map f (range_with_len a n)) i ≡ Some (f (a + i))
at_each f a zero i h = absurd (omega arith)
at_each f a (suc n) zero h = ap (λ k. Some (f k)) (omega arith)
at_each f a (suc n) (suc i) h = at_each f (a + 1) n i (omega arith) ∙ ap (λ k. Some (f k)) (omega arith)

at_flat : {X : Type 0} (f : ℕ → List X) (k : ℕ) → ((x : ℕ) → length (f x) ≡ k) → (a n q r : ℕ) → q < n → r < k → slice_get (flat_map f (range_with_len a n)) (q * k + r) ≡ slice_get (f (a + q)) r
at_flat f k each a zero q r h g = absurd (omega arith)
at_flat f k each a (suc n) zero r h g =
    let long = each a in
    let here : r < length (f a) = omega arith in
    ap (slice_get (f a ++ flat_map f (range_with_len (a + 1) n))) (omega arith) ∙ at_front (f a) (flat_map f (range_with_len (a + 1) n)) r here ∙ ap (λ x. slice_get (f x) r) (omega arith)
at_flat f k each a (suc n) (suc q) r h g =
    let long = each a in
    at_back (f a) (flat_map f (range_with_len (a + 1) n)) (suc q * k + r) (q * k + r) (omega (arith, long))
    ∙ at_flat f k each (a + 1) n q r (omega arith) g
    ∙ ap (λ x. slice_get (f x) r) (omega arith)

at_flat_place : {X : Type 0} (f : ℕ → List X) (k : ℕ) → ((x : ℕ) → length (f x) ≡ k) → (n p : ℕ) → p < n * k → slice_get (flat_map f (below n)) p ≡ slice_get (f (p / k)) (p % k)
at_flat_place f zero each n p h = absurd (omega arith)
at_flat_place f (suc k) each n p h =
    let some : zero < suc k = omega arith in
    let within : p / suc k < n = (div-lt_iff_lt-mul {k = suc k} {x = p} {y = n} some).1 h in
    let less : p % suc k < suc k = omega arith in
    let whole : p ≡ p / suc k * suc k + p % suc k = omega arith in
    ap (slice_get (flat_map f (below n))) whole
    ∙ at_flat f (suc k) each 0 n (p / suc k) (p % suc k) within less
    ∙ ap (λ x. slice_get (f x) (p % suc k)) (omega arith)

flat_long : {X : Type 0} (f : ℕ → List X) (k : ℕ) → ((x : ℕ) → length (f x) ≡ k) → (a n : ℕ) → length (flat_map f (range_with_len a n)) ≡ n * k
flat_long f k each a zero = omega arith
flat_long f k each a (suc n) =
    let whole = length-append (f a) (flat_map f (range_with_len (a + 1) n)) in
    let first = each a in
    let rest = flat_long f k each (a + 1) n in
    omega (arith, whole, first, rest)

-- ---- the parts of the script

users_long : (n : ℕ) → length (users n) ≡ n
users_long n = length-map-range_with_len (λ i. item.User i) 0 n

subs_of_each : (n i : ℕ) → length (subs n i) ≡ followed_user n
subs_of_each n i = length-map-range_with_len (sub n i) 1 (followed_user n)

subs_long : (n : ℕ) → length (flat_map (subs n) (below n)) ≡ n * followed_user n
subs_long n = flat_long (subs n) (followed_user n) (subs_of_each n) 0 n

thoughts_of_round : (n t : ℕ) → length (thoughts n t) ≡ n
thoughts_of_round n t = length-map-range_with_len (thought n t) 0 n

thoughts_long : (n : ℕ) → length (flat_map (thoughts n) (below 5)) ≡ 5 * n
thoughts_long n = flat_long (thoughts n) n (thoughts_of_round n) 0 5

runs_long : (n : ℕ) → length (runs n) ≡ n
runs_long n = length-map-range_with_len (λ i. item.Run i) 0 n

pub script_long : (n : ℕ) → length (items n) ≡ 4 + n + n * followed_user n + 5 * n + n
unfolding items
script_long n =
    let whole = five_long definitions (users n) (flat_map (subs n) (below n)) (flat_map (thoughts n) (below 5)) (runs n) in
    whole ∙ counted (users_long n) (subs_long n) (thoughts_long n) (runs_long n)
  where
    counted : {a b c d x y : ℕ} → a ≡ n → b ≡ x → c ≡ y → d ≡ n → 4 + a + b + c + d ≡ 4 + n + x + y + n
    counted p q r s = omega (arith, p, q, r, s)

pub statements_long : (n : ℕ) → length (fill_script n) ≡ 4 + n + n * followed_user n + 5 * n + n
statements_long n = length-map (items n) item_text ∙ script_long n

pub kinds_long : (n : ℕ) → length (fill_kinds n) ≡ length (fill_script n)
kinds_long n = length-map (items n) item_kind ∙ sym (length-map (items n) item_text)

-- ---- the places, counted from the first of each part

pub at_definition : (n i : ℕ) → i < 4 → slice_get (items n) i ≡ slice_get definitions i
unfolding items
at_definition n i h = in_1st definitions (users n) (flat_map (subs n) (below n)) (flat_map (thoughts n) (below 5)) (runs n) i h

pub at_user : (n i p : ℕ) → i ≡ 4 + p → p < n → slice_get (items n) i ≡ Some (item.User p)
unfolding items
at_user n i p e h =
    let long = users_long n in
    in_2nd definitions (users n) (flat_map (subs n) (below n)) (flat_map (thoughts n) (below 5)) (runs n) i p e (omega (arith, long))
    ∙ at_each (λ i. item.User i) 0 n p h
    ∙ ap (λ k. Some (item.User k)) (omega arith)

pub at_sub : (n i p : ℕ) → i ≡ 4 + n + p → p < n * followed_user n → slice_get (items n) i ≡ Some (sub n (p / followed_user n) (p % followed_user n + 1))
unfolding items
at_sub n i p e h =
    let first = users_long n in
    let long = subs_long n in
    let less : p % followed_user n < followed_user n = remainder n (followed_user n) p h in
    in_3rd definitions (users n) (flat_map (subs n) (below n)) (flat_map (thoughts n) (below 5)) (runs n) i p (omega (arith, e, first)) (omega (arith, h, long))
    ∙ at_flat_place (subs n) (followed_user n) (subs_of_each n) n p h
    ∙ at_each (sub n (p / followed_user n)) 1 (followed_user n) (p % followed_user n) less
    ∙ ap (λ j. Some (sub n (p / followed_user n) j)) (omega arith)
  where
    remainder : (n k p : ℕ) → p < n * k → p % k < k
    remainder n zero p h = absurd (omega arith)
    remainder n (suc k) p h = omega arith

pub at_thought : (n i p : ℕ) → 1 ≤ n → i ≡ 4 + n + n * followed_user n + p → p < 5 * n → slice_get (items n) i ≡ Some (item.Thought (p % n) p)
unfolding items
at_thought n i p some e h =
    let first = users_long n in
    let second = subs_long n in
    let long = thoughts_long n in
    let less : p % n < n = omega arith in
    let whole : p / n * n + (0 + p % n) ≡ p = omega arith in
    let here : 0 + p % n ≡ p % n = omega arith in
    in_4th definitions (users n) (flat_map (subs n) (below n)) (flat_map (thoughts n) (below 5)) (runs n) i p (omega (arith, e, first, second)) (omega (arith, h, long))
    ∙ at_flat_place (thoughts n) n (thoughts_of_round n) 5 p h
    ∙ at_each (thought n (p / n)) 0 n (p % n) less
    ∙ ap (λ time. Some (item.Thought (0 + p % n) time)) whole
    ∙ ap (λ owner. Some (item.Thought owner p)) here

pub at_run : (n i p : ℕ) → i ≡ 4 + n + n * followed_user n + 5 * n + p → p < n → slice_get (items n) i ≡ Some (item.Run p)
unfolding items
at_run n i p e h =
    let first = users_long n in
    let second = subs_long n in
    let third = thoughts_long n in
    in_5th definitions (users n) (flat_map (subs n) (below n)) (flat_map (thoughts n) (below 5)) (runs n) i p (omega (arith, e, first, second, third))
    ∙ at_each (λ i. item.Run i) 0 n p h
    ∙ ap (λ k. Some (item.Run k)) (omega arith)

pub past_end : (n i : ℕ) → 4 + n + n * followed_user n + 5 * n + n ≤ i → slice_get (items n) i ≡ None
past_end n i h =
    let long = script_long n in
    slice_get_past (items n) i (omega (arith, long))
