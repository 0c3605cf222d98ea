-- The place of the first that passes.
use Rattle.std.proofs.Common.{◌≡◌, ◌<◌, ◌+◌, ◌-◌, ℕ, zero, suc, Bool, true, false, cond, not, List, [], ◌∷◌, ◌++◌, length, take, drop, get_or, filter, position, Option, None, Some, refl, sym, ap, ◌∙◌, arith}
use Rattle.std.specs.Prelude.{option_map, nat_lt, ◌==◌, if◌then◌else◌}
use Rattle.std.specs.List.{AllByRecursion, position_or_len}
use Rattle.std.proofs.lemmas.List.{drop_more, take-append-drop}
use Rattle.pq_pending.specs.Tests.{place_among}

-- the first place, by recursion
abbrev pub place : {X : Type 0} → (X → Bool) → List X → Option ℕ
place p [] = None
place p (x ∷ xs) = cond (p x) (Some 0) (option_map suc (place p xs))

mapped : (n len : ℕ) → cond (nat_lt (1 + n) (suc len)) (Some (1 + n)) None ≡ option_map suc (cond (nat_lt n len) (Some n) None)
mapped n len = grind (arith)

pub place_is : {X : Type 0} (p : X → Bool) (xs : List X) → position p xs ≡ place p xs
place_is p [] = refl
place_is p (x ∷ xs) = by (p x) (place_is p xs)
  where
    by : (b : Bool) → position p xs ≡ place p xs → cond (nat_lt (cond (not b) (1 + position_or_len p xs) 0) (length (x ∷ xs))) (Some (cond (not b) (1 + position_or_len p xs) 0)) None ≡ cond b (Some 0) (option_map suc (place p xs))
    by true rest = grind (arith)
    by false rest = mapped (position_or_len p xs) (length xs) ∙ ap (option_map suc) rest

-- ---- a list behind another

abbrev pub or_behind : ℕ → Option ℕ → Option ℕ → Option ℕ
or_behind n (Some i) later = Some i
or_behind n None later = option_map (λ i. n + i) later

place_append : {X : Type 0} (p : X → Bool) (xs ys : List X) → place p (xs ++ ys) ≡ or_behind (length xs) (place p xs) (place p ys)
place_append p [] ys = same (place p ys)
  where
    same : (o : Option ℕ) → o ≡ option_map (λ i. 0 + i) o
    same None = refl
    same (Some i) = ap Some (omega arith)
place_append p (x ∷ xs) ys = by (p x) (place p xs) (place p ys) (place_append p xs ys)
  where
    next : (r s : Option ℕ) → option_map suc (or_behind (length xs) r s) ≡ or_behind (length (x ∷ xs)) (option_map suc r) s
    next (Some i) s = refl
    next None None = refl
    next None (Some i) = ap Some (omega arith)

    by : (b : Bool) (r s : Option ℕ) → place p (xs ++ ys) ≡ or_behind (length xs) r s → cond b (Some 0) (option_map suc (place p (xs ++ ys))) ≡ or_behind (length (x ∷ xs)) (cond b (Some 0) (option_map suc r)) s
    by true r s rest = refl
    by false r s rest = ap (option_map suc) rest ∙ next r s

pub position_append : {X : Type 0} (p : X → Bool) (xs ys : List X) → position p (xs ++ ys) ≡ or_behind (length xs) (position p xs) (position p ys)
position_append p xs ys =
    place_is p (xs ++ ys)
    ∙ place_append p xs ys
    ∙ ap (λ r. or_behind (length xs) r (place p ys)) (sym (place_is p xs))
    ∙ ap (or_behind (length xs) (position p xs)) (sym (place_is p ys))

-- ---- where none passes

abbrev pub NonePass : {X : Type 0} → (X → Bool) → List X → Type 0
NonePass p xs = AllByRecursion (λ x. p x ≡ false) xs

place_none : {X : Type 0} (p : X → Bool) (xs : List X) → place p xs ≡ None → NonePass p xs
place_none p [] none = tt
place_none p (x ∷ xs) none = by (p x) refl none (place_none p xs)
  where
    inside : (r : Option ℕ) → option_map suc r ≡ None → r ≡ None
    inside None e = refl
    inside (Some i) e = absurd (cc)

    by : (b : Bool) → p x ≡ b → cond b (Some 0) (option_map suc (place p xs)) ≡ None → (place p xs ≡ None → NonePass p xs) → (p x ≡ false) × NonePass p xs
    by true is e rest = absurd (cc)
    by false is e rest = (is, rest (inside (place p xs) e))

pub position_none : {X : Type 0} (p : X → Bool) (xs : List X) → position p xs ≡ None → NonePass p xs
position_none p xs none = place_none p xs (sym (place_is p xs) ∙ none)

-- up to the first that passes none does
place_front : {X : Type 0} (p : X → Bool) (xs : List X) (i : ℕ) → place p xs ≡ Some i → NonePass p (take i xs)
place_front p [] i is = absurd (cc)
place_front p (x ∷ xs) i is = by (p x) refl i is (place_front p xs)
  where
    inside : (r : Option ℕ) (j : ℕ) → option_map suc r ≡ Some (suc j) → r ≡ Some j
    inside None j e = absurd (cc)
    inside (Some k) j e = cc

    by : (b : Bool) → p x ≡ b → (i : ℕ) → cond b (Some 0) (option_map suc (place p xs)) ≡ Some i → ((j : ℕ) → place p xs ≡ Some j → NonePass p (take j xs)) → NonePass p (take i (x ∷ xs))
    by true here zero e rest = tt
    by true here (suc j) e rest = absurd (cc)
    by false here zero e rest = tt
    by false here (suc j) e rest = (here, rest j (inside (place p xs) j e))

pub position_front : {X : Type 0} (p : X → Bool) (xs : List X) (i : ℕ) → position p xs ≡ Some i → NonePass p (take i xs)
position_front p xs i is = place_front p xs i (sym (place_is p xs) ∙ is)

-- ---- a list in three parts

joined : {X : Type 0} (ys : List X) (x : X) (zs : List X) → (ys ++ x ∷ []) ++ zs ≡ ys ++ x ∷ zs
joined [] x zs = refl
joined (y ∷ ys) x zs = ap (λ l. y ∷ l) (joined ys x zs)

pub cut : {X : Type 0} (xs : List X) (i : ℕ) (x : X) → i < length xs → x ≡ get_or xs i x → (take i xs ++ x ∷ []) ++ drop (i + 1) xs ≡ xs
cut xs i x less at = joined (take i xs) x (drop (i + 1) xs) ∙ ap (λ l. take i xs ++ l) (ap (λ y. y ∷ drop (i + 1) xs) at ∙ sym (drop_more xs i x less)) ∙ take-append-drop i xs

-- ---- where only some are asked

abbrev pub IsDecided : {X : Type 0} → (X → Bool) → (X → Bool) → (X → Bool) → X → Type 0
IsDecided p q ask x = (ask x ≡ true → p x ≡ q x) × (ask x ≡ false → p x ≡ false)

place_asked : {X : Type 0} (p q ask : X → Bool) (xs : List X) → AllByRecursion (IsDecided p q ask) xs → place p xs ≡ option_map (place_among ask xs) (place q (filter ask xs))
place_asked p q ask [] each = refl
place_asked p q ask (x ∷ xs) each = by (ask x) refl (place_asked p q ask xs each.1)
  where
    onward : (r : Option ℕ) → option_map suc (option_map (place_among ask xs) r) ≡ option_map (λ n. if n == 0 then 0 else 1 + place_among ask xs (n - 1)) (option_map suc r)
    onward None = refl
    onward (Some k) = ap Some (grind (arith))

    asked : (b : Bool) → place p xs ≡ option_map (place_among ask xs) (place q (filter ask xs)) → cond b (Some 0) (option_map suc (place p xs)) ≡ option_map (λ n. if n == 0 then 0 else 1 + place_among ask xs (n - 1)) (cond b (Some 0) (option_map suc (place q (filter ask xs))))
    asked true rest = refl
    asked false rest = ap (option_map suc) rest ∙ onward (place q (filter ask xs))

    over : (r : Option ℕ) → option_map suc (option_map (place_among ask xs) r) ≡ option_map (λ n. 1 + place_among ask xs n) r
    over None = refl
    over (Some k) = ap Some (omega arith)

    by : (b : Bool) → ask x ≡ b → place p xs ≡ option_map (place_among ask xs) (place q (filter ask xs))
        → place p (x ∷ xs) ≡ option_map (λ n. if b then (if n == 0 then 0 else 1 + place_among ask xs (n - 1)) else 1 + place_among ask xs n) (place q (cond b (x ∷ filter ask xs) (filter ask xs)))
    by true is rest = ap (λ c. cond c (Some 0) (option_map suc (place p xs))) (each.0.0 is) ∙ asked (q x) rest
    by false is rest = ap (λ c. cond c (Some 0) (option_map suc (place p xs))) (each.0.1 is) ∙ ap (option_map suc) rest ∙ over (place q (filter ask xs))

pub position_asked : {X : Type 0} (p q ask : X → Bool) (xs : List X) → AllByRecursion (IsDecided p q ask) xs → position p xs ≡ option_map (place_among ask xs) (position q (filter ask xs))
position_asked p q ask xs each = place_is p xs ∙ place_asked p q ask xs each ∙ ap (option_map (place_among ask xs)) (sym (place_is q (filter ask xs)))

pub among_within : {X : Type 0} (ask : X → Bool) (xs : List X) (n : ℕ) → n < length (filter ask xs) → place_among ask xs n < length xs
among_within ask [] n less = absurd (omega arith)
among_within ask (x ∷ xs) n less = by (ask x) less (among_within ask xs)
  where
    by : (b : Bool) → n < length (cond b (x ∷ filter ask xs) (filter ask xs)) → ((k : ℕ) → k < length (filter ask xs) → place_among ask xs k < length xs)
        → (if b then (if n == 0 then 0 else 1 + place_among ask xs (n - 1)) else 1 + place_among ask xs n) < length (x ∷ xs)
    by true less rest = at_first (n == 0) refl
      where
        at_first : (z : Bool) → (n == 0) ≡ z → cond z 0 (1 + place_among ask xs (n - 1)) < length (x ∷ xs)
        at_first true is = omega arith
        at_first false is =
            let past : 0 < n = grind (arith) in
            let later = rest (n - 1) (omega arith) in
            omega (arith, later)
    by false less rest = let later = rest n less in omega (arith, later)
