-- What a function that reads answers: what reading gives, unless memory ran out.
use Rattle.std.specs.Prelude.{◌≡◌, ℕ, Result, Ok, Err}
use Rattle.pq_grammar.specs.declared.fault.ReadError.{ReadError}
use Rattle.pq_grammar.specs.declared.fault.ReadError.TheVariants as errors

abbrev pub FailsReading : {Y : Type 0} → ReadError → Result Y ℕ → Type 0
FailsReading errors.NoMem read = Unit {0}
FailsReading (errors.Stuck n) read = read ≡ Err n

-- what was returned, seen by view, is what reading gives
abbrev pub Gives : {X Y : Type 0} → (X → Y) → Result X ReadError → Result Y ℕ → Type 0
Gives view (Ok x) read = read ≡ Ok (view x)
Gives view (Err e) read = FailsReading e read
