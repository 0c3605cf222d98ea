-- Reading from left to right. An error is the number of tokens that are left where reading stopped.
use Rattle.std.specs.Prelude.{ℕ, zero, suc, Bool, false, List, [], ◌∷◌, length, Option, Some, None, Result, Ok, Err, if◌then◌else◌}

infixl 10 ◌>>=◌
abbrev pub ◌>>=◌ : {A B : Type 0} → Result A ℕ → (A → Result B ℕ) → Result B ℕ
(Ok x) >>= f = f x
(Err e) >>= f = Err e

abbrev pub Reader : Type 0 → Type 0 → Type 0
Reader T X = List T → Result (X × List T) ℕ

-- the first token is one of these
abbrev pub begins : {T : Type 0} → (T → Bool) → List T → Bool
begins p [] = false
begins p (t ∷ ts) = p t

abbrev pub picked_token : {T X : Type 0} → Option X → List T → Result (X × List T) ℕ
picked_token None ts = Err (suc (length ts))
picked_token (Some x) ts = Ok (x, ts)

-- one token, of which f says what it stands for
abbrev pub token_at : {T X : Type 0} → (T → Option X) → Reader T X
token_at f [] = Err 0
token_at f (t ∷ ts) = picked_token (f t) ts

-- a token that passes the test
abbrev pub test_of : {T : Type 0} → (T → Bool) → T → Option (Unit {0})
test_of p t = if p t then Some tt else None

abbrev pub test_at : {T : Type 0} → (T → Bool) → Reader T (Unit {0})
test_at p = token_at (test_of p)

-- whatever is left
abbrev pub rest_at : {T : Type 0} → Reader T (Unit {0})
rest_at ts = Ok (tt, [])

-- two parts
abbrev pub pair_at : {T A B : Type 0} → Reader T A → Reader T B → Reader T (A × B)
pair_at r s ts = r ts >>= λ a. s a.1 >>= λ b. Ok ((a.0, b.0), b.1)

-- two parts, of which the first stands for nothing
abbrev pub skip_at : {T B : Type 0} → Reader T (Unit {0}) → Reader T B → Reader T B
skip_at r s ts = r ts >>= λ a. s a.1

-- two parts, of which the second stands for nothing
abbrev pub close_at : {T A : Type 0} → Reader T A → Reader T (Unit {0}) → Reader T A
close_at r s ts = r ts >>= λ a. s a.1 >>= λ b. Ok (a.0, b.1)

abbrev pub map_at : {T A B : Type 0} → (A → B) → Reader T A → Reader T B
map_at f r ts = r ts >>= λ a. Ok (f a.0, a.1)

-- the first where one of its tokens comes, else the second, which give the same kind of value
abbrev pub choice_at : {T A : Type 0} → (T → Bool) → Reader T A → Reader T A → Reader T A
choice_at p r s ts = if begins p ts then r ts else s ts

abbrev pub nothing_at : {T : Type 0} → Reader T (Unit {0})
nothing_at ts = Ok (tt, ts)

abbrev pub option_at : {T A : Type 0} → (T → Bool) → Reader T A → Reader T (Option A)
option_at p r ts = if begins p ts then (r ts >>= λ a. Ok (Some a.0, a.1)) else Ok (None, ts)

-- as many as come, but no more than n
unfoldable pub many_within : {T A : Type 0} → ℕ → (T → Bool) → Reader T A → Reader T (List A)
many_within zero p r ts = Ok ([], ts)
many_within (suc n) p r ts = if begins p ts
    then (r ts >>= λ a. many_within n p r a.1 >>= λ b. Ok (a.0 ∷ b.0, b.1)) else Ok ([], ts)

-- as many as come
abbrev pub many_at : {T A : Type 0} → (T → Bool) → Reader T A → Reader T (List A)
many_at p r ts = many_within (length ts) p r ts

-- one or more, with a part between them that begins with a token of p
abbrev pub separated_at : {T A : Type 0} → (T → Bool) → Reader T (Unit {0}) → Reader T A → Reader T (List A)
separated_at p s r = map_at (λ x. x.0 ∷ x.1) (pair_at r (many_at p (skip_at s r)))

-- one or more, each with a part behind it, as long as one of p comes
abbrev pub ended_at : {T A : Type 0} → (T → Bool) → Reader T (Unit {0}) → Reader T A → Reader T (List A)
ended_at p s r = map_at (λ x. x.0 ∷ x.1) (pair_at (close_at r s) (many_at p (close_at r s)))

abbrev pub option_items : {A : Type 0} → Option (List A) → List A
option_items None = []
option_items (Some xs) = xs

-- none, or one or more that begin with a token of the first test, with a part between them that begins with a
-- token of the second
abbrev pub listed_at : {T A : Type 0} → (T → Bool) → (T → Bool) → Reader T (Unit {0}) → Reader T A → Reader T (List A)
listed_at o p s r = map_at option_items (option_at o (separated_at p s r))

-- what was read, if no token is left
abbrev pub ended_read : {T X : Type 0} → X → List T → Result X ℕ
ended_read x [] = Ok x
ended_read x (t ∷ ts) = Err (suc (length ts))

-- the whole list
abbrev pub all_at : {T X : Type 0} → Reader T X → List T → Result X ℕ
all_at r ts = r ts >>= λ a. ended_read a.0 a.1
