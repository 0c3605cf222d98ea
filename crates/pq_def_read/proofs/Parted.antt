-- A loop that puts limits and foreign keys apart.
use Rattle.std.proofs.Common.{◌≡◌, ℕ, Bool, true, false, List, [], ◌∷◌, ◌++◌, length, Result, Ok, Err, refl, sym, ap, ◌∙◌, append_assoc}
use Rattle.std.proofs.lemmas.List.{append-nil}
use Rattle.pq_grammar.specs.Answers.{FailsReading}
use Rattle.pq_grammar.specs.Reader.{◌>>=◌, Reader, begins, map_at, many_at}
use Rattle.pq_grammar.specs.Shrinking.{Shrinks}
use Rattle.pq_grammar.specs.declared.fault.ReadError.{ReadError}
use Rattle.pq_grammar.specs.declared.fault.ReadError.TheVariants as errors
use Rattle.pq_grammar.proofs.Loops.{many_steps, many_fails}
use Rattle.pq_grammar.proofs.Repeats.{many_stops, cons}
use Rattle.pq_schema.specs.declared.definition.LimitDef.{LimitDef}
use Rattle.pq_schema.specs.declared.definition.ForeignDef.{ForeignDef}
use Rattle.pq_shape.specs.Shape.{Shape}
use Rattle.pq_def_read.specs.Definitions.{limits_of, foreign_of, parted_constraints, with_constraint}
use Rattle.pq_def_read.specs.declared.definition.Constraint.{Constraint}
use Rattle.pq_def_read.specs.declared.definition.Constraint.TheVariants as constraint
use Rattle.pq_def_read.specs.declared.definition.Constraints.{Constraints}

-- those held before
abbrev pub behind : Constraints → Result (List Constraint × List Shape) ℕ → Result (Constraints × List Shape) ℕ
behind held read = read >>= λ x. Ok (record { limits = held.limits ++ limits_of x.0; foreign = held.foreign ++ foreign_of x.0 }, x.1)

pub behind_more : (held : Constraints) (x : Constraint) (read : Result (List Constraint × List Shape) ℕ) → behind held (read >>= cons x) ≡ behind (with_constraint held x) read
unfolding cons
behind_more held (constraint.Limit l) (Ok y) = let make : List LimitDef → Constraints = λ v. record { limits = v; foreign = held.foreign ++ foreign_of y.0 } in ap (λ (v : List LimitDef). Ok (make v, y.1)) (sym (append_assoc held.limits (l ∷ []) (limits_of y.0)))
behind_more held (constraint.Foreign f) (Ok y) = let make : List ForeignDef → Constraints = λ v. record { limits = held.limits ++ limits_of y.0; foreign = v } in ap (λ (v : List ForeignDef). Ok (make v, y.1)) (sym (append_assoc held.foreign (f ∷ []) (foreign_of y.0)))
behind_more held x (Err n) = refl

pub parted_goes : (p : Shape → Bool) (r : Reader Shape Constraint) → Shrinks r → (held : Constraints) (ts : List Shape) (total : Result (Constraints × List Shape) ℕ) (x : Constraint) (rest : List Shape)
    → behind held (many_at p r ts) ≡ total → begins p ts ≡ true → r ts ≡ Ok (x, rest) → behind (with_constraint held x) (many_at p r rest) ≡ total
parted_goes p r h held ts total x rest so_far is e = sym (behind_more held x (many_at p r rest)) ∙ ap (behind held) (sym (many_steps p r h ts x rest is e)) ∙ so_far

parted_fails : (p : Shape → Bool) (r : Reader Shape Constraint) (held : Constraints) (ts : List Shape) (total : Result (Constraints × List Shape) ℕ) (n : ℕ)
    → behind held (many_at p r ts) ≡ total → begins p ts ≡ true → r ts ≡ Err n → total ≡ Err n
parted_fails p r held ts total n so_far is e = sym so_far ∙ ap (behind held) (many_fails p r ts n is e)

pub parted_ends : (p : Shape → Bool) (r : Reader Shape Constraint) (e : ReadError) (held : Constraints) (ts : List Shape) (total : Result (Constraints × List Shape) ℕ)
    → behind held (many_at p r ts) ≡ total → begins p ts ≡ true → FailsReading e (r ts) → FailsReading e total
parted_ends p r errors.NoMem held ts total so_far is h = tt
parted_ends p r (errors.Stuck n) held ts total so_far is h = parted_fails p r held ts total n so_far is h

pub parted_stops : (p : Shape → Bool) (r : Reader Shape Constraint) (held : Constraints) (ts : List Shape) (total : Result (Constraints × List Shape) ℕ)
    → behind held (many_at p r ts) ≡ total → begins p ts ≡ false → total ≡ Ok (held, ts)
parted_stops p r held ts total so_far is =
    let make : List LimitDef → List ForeignDef → Result (Constraints × List Shape) ℕ = λ v w. Ok (record { limits = v; foreign = w }, ts) in
    sym so_far ∙ ap (behind held) (many_stops p r (length ts) ts is) ∙ ap (λ (v : List LimitDef). make v (held.foreign ++ [])) (append-nil held.limits) ∙ ap (λ (w : List ForeignDef). make held.limits w) (append-nil held.foreign)

by_result : (y : Result (List Constraint × List Shape) ℕ) → behind (record { limits = []; foreign = [] }) y ≡ (y >>= λ x. Ok (parted_constraints x.0, x.1))
by_result (Ok y) = refl
by_result (Err n) = refl

pub parted_starts : (p : Shape → Bool) (r : Reader Shape Constraint) (ts : List Shape) → behind (record { limits = []; foreign = [] }) (many_at p r ts) ≡ map_at parted_constraints (many_at p r) ts
parted_starts p r ts = by_result (many_at p r ts)
