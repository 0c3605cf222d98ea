-- Loops over repeated parts.
use Rattle.std.proofs.Common.{◌≡◌, ℕ, zero, suc, ◌≤◌, Bool, true, false, List, [], ◌∷◌, ◌++◌, length, Result, Ok, Err, refl, sym, ap, ◌∙◌, append_assoc, arith}
use Rattle.std.proofs.lemmas.List.{append-nil}
use Rattle.pq_grammar.specs.Reader.{◌>>=◌, Reader, begins, pair_at, map_at, many_within, many_at}
use Rattle.pq_grammar.specs.Answers.{FailsReading}
use Rattle.pq_grammar.specs.Shrinking.{Shrinks}
use Rattle.pq_grammar.specs.declared.fault.ReadError.{ReadError}
use Rattle.pq_grammar.specs.declared.fault.ReadError.TheVariants as errors
use Rattle.pq_grammar.proofs.Readers.{read}
use Rattle.pq_grammar.proofs.Repeats.{many_goes, many_stops, cons}

-- the items before
abbrev pub with_front : {T A : Type 0} → List A → Result (List A × List T) ℕ → Result (List A × List T) ℕ
with_front front read = read >>= λ x. Ok (front ++ x.0, x.1)

pub front_more : {T X : Type 0} (front : List X) (x : X) (read : Result (List X × List T) ℕ) → with_front front (read >>= cons x) ≡ with_front (front ++ x ∷ []) read
unfolding cons
front_more {T} front x (Ok y) = ap (λ (v : List _). Ok (v, y.1)) (sym (append_assoc front (x ∷ []) y.0))
front_more front x (Err n) = refl

fuel_bind : {T X : Type 0} (p : T → Bool) (r : Reader T X) (k j : ℕ) (ts : List T) (a : Result (X × List T) ℕ) → r ts ≡ a
    → ((x : X) (rest : List T) → r ts ≡ Ok (x, rest) → many_within k p r rest ≡ many_within j p r rest)
    → (a >>= λ b. many_within k p r b.1 >>= cons b.0) ≡ (a >>= λ b. many_within j p r b.1 >>= cons b.0)
fuel_bind p r k j ts (Ok b) e h = rw (h b.0 b.1 e) refl
fuel_bind p r k j ts (Err n) e h = refl

-- any bound of at least as many tokens gives the same
many_fuel : {T X : Type 0} (p : T → Bool) (r : Reader T X) → Shrinks r → (k j : ℕ) (ts : List T) (c : Bool) → begins p ts ≡ c → length ts ≤ k → length ts ≤ j → many_within k p r ts ≡ many_within j p r ts
many_fuel p r h k j ts false is le lf = many_stops p r k ts is ∙ sym (many_stops p r j ts is)
many_fuel p r h k j [] true is le lf = absurd cc
many_fuel p r h zero j (t ∷ ts) true is le lf = absurd (omega arith)
many_fuel p r h (suc k) zero (t ∷ ts) true is le lf = absurd (omega arith)
many_fuel p r h (suc k) (suc j) (t ∷ ts) true is le lf =
    many_goes p r k (t ∷ ts) is
    ∙ fuel_bind p r k j (t ∷ ts) (r (t ∷ ts)) refl (λ x rest e. many_fuel p r h k j rest (begins p rest) refl (omega (arith, h (t ∷ ts) x rest e)) (omega (arith, h (t ∷ ts) x rest e)))
    ∙ sym (many_goes p r j (t ∷ ts) is)

-- one step of a repetition
pub many_steps : {T X : Type 0} (p : T → Bool) (r : Reader T X) → Shrinks r → (ts : List T) (x : X) (rest : List T) → begins p ts ≡ true → r ts ≡ Ok (x, rest) → many_at p r ts ≡ (many_at p r rest >>= cons x)
many_steps p r h [] x rest is e = absurd cc
many_steps p r h (t ∷ ts) x rest is e =
    let short = h (t ∷ ts) x rest e in
    many_goes p r (length ts) (t ∷ ts) is ∙ rw e (rw (many_fuel p r h (length ts) (length rest) rest (begins p rest) refl (omega arith) (omega arith)) refl)

-- a repetition that cannot go on
pub many_fails : {T X : Type 0} (p : T → Bool) (r : Reader T X) (ts : List T) (n : ℕ) → begins p ts ≡ true → r ts ≡ Err n → many_at p r ts ≡ Err n
many_fails p r [] n is e = absurd cc
many_fails p r (t ∷ ts) n is e = many_goes p r (length ts) (t ∷ ts) is ∙ rw e refl

pub loop_goes : {T X : Type 0} (p : T → Bool) (r : Reader T X) → Shrinks r → (front : List X) (ts : List T) (total : Result (List X × List T) ℕ) (x : X) (rest : List T)
    → with_front front (many_at p r ts) ≡ total → begins p ts ≡ true → r ts ≡ Ok (x, rest) → with_front (front ++ x ∷ []) (many_at p r rest) ≡ total
loop_goes p r h front ts total x rest so_far is e = sym (front_more front x (many_at p r rest)) ∙ ap (with_front front) (sym (many_steps p r h ts x rest is e)) ∙ so_far

pub loop_fails : {T X : Type 0} (p : T → Bool) (r : Reader T X) (front : List X) (ts : List T) (total : Result (List X × List T) ℕ) (n : ℕ)
    → with_front front (many_at p r ts) ≡ total → begins p ts ≡ true → r ts ≡ Err n → total ≡ Err n
loop_fails p r front ts total n so_far is e = sym so_far ∙ ap (with_front front) (many_fails p r ts n is e)

pub loop_stops : {T X : Type 0} (p : T → Bool) (r : Reader T X) (front : List X) (ts : List T) (total : Result (List X × List T) ℕ)
    → with_front front (many_at p r ts) ≡ total → begins p ts ≡ false → total ≡ Ok (front, ts)
loop_stops {T} {X} p r front ts total so_far is =
    let ok : List X → Result (List X × List T) ℕ = λ v. Ok (v, ts) in
    sym so_far ∙ ap (with_front front) (many_stops p r (length ts) ts is) ∙ ap ok (append-nil front)

-- the first part of one or more
abbrev pub one_more_at : {T X : Type 0} → (T → Bool) → Reader T X → Reader T X → Reader T (List X)
one_more_at p r s = map_at (λ x. x.0 ∷ x.1) (pair_at r (many_at p s))

one_front : {T X : Type 0} (x : X) (b : Result (List X × List T) ℕ) → with_front (x ∷ []) b ≡ ((b >>= λ b. read {X = X × List X} (x, b.0) b.1) >>= λ c. read (c.0.0 ∷ c.0.1) c.1)
one_front x (Ok y) = refl
one_front x (Err n) = refl

pub loop_starts : {T X : Type 0} (p : T → Bool) (r s : Reader T X) (ts : List T) (x : X) (rest : List T) → r ts ≡ Ok (x, rest) → with_front (x ∷ []) (many_at p s rest) ≡ one_more_at p r s ts
loop_starts p r s ts x rest e = rw e (one_front x (many_at p s rest))

-- at an error of the part
pub loop_ends : {T X : Type 0} (p : T → Bool) (r : Reader T X) (e : ReadError) (front : List X) (ts : List T) (total : Result (List X × List T) ℕ)
    → with_front front (many_at p r ts) ≡ total → begins p ts ≡ true → FailsReading e (r ts) → FailsReading e total
loop_ends p r errors.NoMem front ts total so_far is h = tt
loop_ends p r (errors.Stuck n) front ts total so_far is h = loop_fails p r front ts total n so_far is h
